-- Laws of entries that are added one after the other.
use Rattle.std.proofs.Common.{◌≡◌, ◌⊎◌, ℕ, ◌+◌, ◌-◌, ◌<◌, ◌≤◌, All, List, [], ◌∷◌, ◌++◌, length, reverse, None, Result, Ok, Err, refl, sym, ap, subst, ◌∙◌, inl, inr, arith, length-append}
use Rattle.std.proofs.lemmas.List.{length-map}
use Rattle.std.proofs.lemmas.List.Elements.{All-append}
use Rattle.std.proofs.lemmas.List.Sums.{sum_by-cons}
use Rattle.disk_model.specs.Disk.{Meaning, DiskRun, image_now}
use Rattle.disk_model.specs.Runs.{at_once, weaker}
use Rattle.gate_log.specs.declared.log_errors.LogErr.{LogErr}
use Rattle.gate_log.specs.declared.log_errors.LogErr.TheVariants as log_err
use Rattle.gate_log.specs.Log.{four}
use Rattle.gate_log.specs.Opening.{IsOpenLog, AppendAnswer, LIMIT, need_of}
use Rattle.gate_log.specs.Reading.{parts_of, OpensTo}
use Rattle.gate_log.specs.Reading.Reading.{Opened}
use Rattle.gate_log.specs.Batches.{BatchState, octets_in}
use Rattle.counter_journal.specs.declared.versions.Version.{Version}
use Rattle.counter_journal.specs.declared.versions.Version.TheVariants.{First, Second}
use Rattle.counter_journal.specs.EntriesAgain.{three_parts, six_parts}
use Rattle.counter_journal.specs.EntryOctets.{five, eight, front_octets, facts_octets, job_octets, name_octets, entry_octets}
use Rattle.counter_journal.specs.EntryRanges.{IsEntry, IsOfLane, IsEntryOf, IsHistory}
use Rattle.counter_journal.specs.Journal.{journal_head}
use Rattle.counter_journal.specs.JournalLaws.{written_more}
use Rattle.counter_journal.specs.JournalReading.{parts_for, AreWritten, Holds, JournalValue, GoesOn, IsReady}
use Rattle.counter_journal.specs.JournalKept.{IsJournalKept}
use Rattle.keyset_book.specs.Book.{StandsFor}
use Rattle.keyset_book.specs.declared.books.Book.{Book}
use Rattle.counter_journal.specs.StandingLaws.{ready_holds}
use Rattle.ota_core.specs.History.{broken_batch}
use Rattle.ota_core.specs.HistoryLaws.{IsLegal-batch}
use Rattle.ota_core.specs.HistoryValue.{HistoryValue}
use Rattle.ota_core.specs.Keyset.{Keyset}
use Rattle.ota_core.specs.declared.entries.Entry.{Entry}
use Rattle.ota_core.specs.declared.entries.Entry.TheVariants.{Open, Reserve, Done, Refused, Close}

-- these entries are left, of those that are added to a history
pub record AreLeft (old all entries rest : List Entry) (len start spare : ℕ) : Type 0 where
  pub spelled : entries ++ rest ≡ old ++ all
  pub legal : broken_batch (reverse entries) rest ≡ None
  pub len_is : len ≡ length rest
  pub room : length rest ≤ spare
  pub kept : start + length rest ≤ spare + length all

-- ---- an addition

-- the entries of a lane, and more of it
pub all_of_lane : (lane lanes : ℕ) (entries more : List Entry) → All (IsEntryOf lane lanes) entries → All IsEntry more → All (IsOfLane lane lanes) more → All (IsEntryOf lane lanes) (entries ++ more)
all_of_lane lane lanes entries more old fit of_lane =
    All-append (IsEntryOf lane lanes) entries more old (λ k d below. record { fits = fit k d below; of_lane = of_lane k d below })

-- a history of a lane with more entries of it, legal one after the other
pub longer_history : (lane lanes : ℕ) (entries more : List Entry) → IsHistory lane lanes entries → All IsEntry more → All (IsOfLane lane lanes) more → broken_batch (reverse entries) more ≡ None
    → IsHistory lane lanes (entries ++ more)
longer_history lane lanes entries more history fit of_lane legal =
    record { legal = IsLegal-batch entries more history.legal legal; of_lane = all_of_lane lane lanes entries more history.of_lane fit of_lane }

front_long : (kind by moment : ℕ) (keyset : Keyset) → length (front_octets Second kind by moment keyset) ≡ 22
unfolding four eight
front_long kind by moment keyset = refl

-- an entry in version 2 has octets enough that its batch needs more than the mark
entry_long : (entry : Entry) → 22 ≤ length (entry_octets Second entry)
entry_long (Open by moment keyset facts) =
    omega (arith, front_long 0x01 by moment keyset, length-append (front_octets Second 0x01 by moment keyset) (facts_octets facts))
entry_long (Reserve by moment keyset counter job tar name body) =
    let front = front_octets Second 0x02 by moment keyset in
    omega (
      arith,
      front_long 0x02 by moment keyset,
      length-append front (five counter ++ (job_octets job ++ (tar ++ (name_octets Second name ++ body)))),
      ap length (six_parts front (five counter) (job_octets job) tar (name_octets Second name) body),
    )
entry_long (Done by moment keyset counter answer) =
    let front = front_octets Second 0x03 by moment keyset in
    omega (arith, front_long 0x03 by moment keyset, length-append front (five counter ++ answer), ap length (three_parts front (five counter) answer))
entry_long (Refused by moment keyset counter status) =
    let front = front_octets Second 0x04 by moment keyset in
    omega (arith, front_long 0x04 by moment keyset, length-append front (five counter ++ status ∷ []), ap length (three_parts front (five counter) (status ∷ [])))
entry_long (Close by moment keyset) = omega (arith, front_long 0x05 by moment keyset)

-- so any addition needs more octets than the mark
pub need_long : (more : List Entry) → 1 ≤ length more → 31 ≤ need_of (parts_for more)
need_long [] some = absurd (omega (arith, some))
need_long (entry ∷ more) some =
    omega (arith, entry_long entry, sum_by-cons (λ (part : List ℕ). 4 + length part) (entry_octets Second entry) (parts_for more))

module _ {D B C : Type 0} (told : Meaning D B C) (old new : D) (journal : JournalValue) (more : List Entry) (parts : List (List ℕ)) (is : parts ≡ parts_for more) where
  -- the history so far, or the longer one
  abbrev pub HoldsEither : List ℕ → Type 0
  HoldsEither image = Holds journal.lane journal.lanes journal.entries image ⊎ Holds journal.lane journal.lanes (journal.entries ++ more) image

  abbrev pub head : List ℕ
  head = journal_head journal.lane journal.lanes

  -- an append to a log of version 2
  second_run : (before : List (List ℕ)) → AreWritten Second journal.entries before → DiskRun told old new (λ image. OpensTo head before image ⊎ OpensTo head (before ++ parts) image) → DiskRun told old new HoldsEither
  second_run before written run = weaker told old new (λ image. OpensTo head before image ⊎ OpensTo head (before ++ parts) image) HoldsEither run either
    where
      either : (image : List ℕ) → OpensTo head before image ⊎ OpensTo head (before ++ parts) image → HoldsEither image
      either image (inl so_far) = inl (record { version = Second; parts = before; written = written; opens = so_far })
      either image (inr longer) = inr (record {
        version = Second;
        parts = before ++ parts;
        written = subst (λ (p : List (List ℕ)). AreWritten Second (journal.entries ++ more) (before ++ p)) (sym is) (written_more journal.entries before more written);
        opens = longer;
      })

  -- no addition has room behind a log of version 1 that had none for the mark
  too_long : 1 ≤ length more → journal.length + need_of parts ≤ LIMIT → LIMIT < journal.length + 11 → ⊥
  too_long some within full = omega (arith, within, full, need_long more some, ap need_of is)

  -- the moments of an addition
  pub added_run : (result : Result (Unit {0}) LogErr) → 1 ≤ length more → (ready : IsReady told old journal) → AppendAnswer journal.length (need_of parts) result
      → ((size need : ℕ) → result ≡ Err (log_err.Full size need) → new ≡ old)
      → DiskRun told old new (λ image. OpensTo head ready.parts image ⊎ OpensTo head (ready.parts ++ parts) image) → DiskRun told old new HoldsEither
  added_run result some ready answer unchanged run = by_version ready.version ready.written ready.goes_on result answer unchanged
    where
      stays : new ≡ old → DiskRun told old new HoldsEither
      stays same = subst (λ (d : D). DiskRun told old d HoldsEither) (sym same) (at_once told old HoldsEither (λ image now. inl (ready_holds told old journal ready image now)))

      by_version : (version : Version) → AreWritten version journal.entries ready.parts → GoesOn version journal.length → (result : Result (Unit {0}) LogErr) → AppendAnswer journal.length (need_of parts) result
          → ((size need : ℕ) → result ≡ Err (log_err.Full size need) → new ≡ old) → DiskRun told old new HoldsEither
      by_version Second written goes_on result answer unchanged = second_run ready.parts written run
      by_version First written goes_on (Ok done) answer unchanged = absurd (too_long some answer goes_on)
      by_version First written goes_on (Err log_err.Memory) answer unchanged = absurd answer
      by_version First written goes_on (Err (log_err.DiskFault fault)) answer unchanged = absurd (too_long some answer goes_on)
      by_version First written goes_on (Err log_err.Unformatted) answer unchanged = absurd answer
      by_version First written goes_on (Err log_err.NotALog) answer unchanged = absurd answer
      by_version First written goes_on (Err (log_err.OtherHead rest)) answer unchanged = absurd answer
      by_version First written goes_on (Err (log_err.Damaged number)) answer unchanged = absurd answer
      by_version First written goes_on (Err (log_err.Full size need)) answer unchanged = stays (unchanged size need refl)

  -- the journal is ready again
  pub ready_again : (now : JournalValue) → 1 ≤ length more → (ready : IsReady told old journal) → journal.length + need_of parts ≤ LIMIT
      → now.lane ≡ journal.lane → now.lanes ≡ journal.lanes → now.entries ≡ journal.entries ++ more → IsOpenLog told new now.length
      → parts_of head (told.seen new) ≡ Opened (ready.parts ++ parts) [] → IsReady told new now
  ready_again now some ready within lane lanes entries settled opened = by_version ready.version ready.written ready.goes_on
    where
      by_version : (version : Version) → AreWritten version journal.entries ready.parts → GoesOn version journal.length → IsReady told new now
      by_version First written goes_on = absurd (too_long some within goes_on)
      by_version Second written goes_on = record {
        open_log = settled;
        version = Second;
        parts = ready.parts ++ parts;
        written =
            subst (λ (e : List Entry). AreWritten Second e (ready.parts ++ parts)) (sym entries)
            (subst (λ (p : List (List ℕ)). AreWritten Second (journal.entries ++ more) (ready.parts ++ p)) (sym is) (written_more journal.entries ready.parts more written));
        opens =
            subst (λ (l : ℕ). parts_of (journal_head l now.lanes) (told.seen new) ≡ Opened (ready.parts ++ parts) []) (sym lane)
            (subst (λ (l : ℕ). parts_of (journal_head journal.lane l) (told.seen new) ≡ Opened (ready.parts ++ parts) []) (sym lanes) opened);
        goes_on = tt;
      }

-- a batch that was emptied
abbrev cleared_of : BatchState → BatchState
cleared_of put = record { parts = []; parts_room = put.parts_room + length put.parts; octets_room = put.octets_room + octets_in put.parts }

-- the journal is kept where entries were put into its batch, added to its history, and taken out of the batch
pub kept_added : (lane lanes : ℕ) (old new : HistoryValue) (book kept_book : Book) (entries : List Entry) (batch put cleared : BatchState) (batch_room room count : ℕ) → IsJournalKept lane lanes old book batch batch_room room
    → StandsFor kept_book (old.entries ++ entries) → new.entries ≡ old.entries ++ entries → old.room ≤ new.room + length entries → All IsEntry entries → All (IsOfLane lane lanes) entries → broken_batch (reverse old.entries) entries ≡ None
    → put.parts ≡ parts_for entries → put.parts_room + length entries ≡ batch.parts_room → put.octets_room + octets_in put.parts ≡ batch.octets_room
    → cleared ≡ cleared_of put → count ≡ length entries → IsJournalKept lane lanes new kept_book cleared batch_room (room - count)
kept_added lane lanes old new book kept_book entries batch put cleared batch_room room count kept stands added room_is fit of_lane legal parts parts_room octets_room cleared_is count_is =
    let long : length put.parts ≡ length entries = ap length parts ∙ length-map entries (entry_octets Second) in
    subst (λ (b : BatchState). IsJournalKept lane lanes new kept_book b batch_room (room - count)) (sym cleared_is)
    (record {
      some_lanes = kept.some_lanes;
      of_lane = subst (IsHistory lane lanes) (sym added) (longer_history lane lanes old.entries entries kept.of_lane fit of_lane legal);
      stands = subst (StandsFor kept_book) (sym added) stands;
      empty = refl;
      parts_room = omega (arith, parts_room, long, kept.parts_room);
      octets_room = omega (arith, octets_room, kept.octets_room);
      fits_history = omega (arith, kept.fits_history, room_is, count_is);
      fits_batch = omega (arith, kept.fits_batch);
    })
