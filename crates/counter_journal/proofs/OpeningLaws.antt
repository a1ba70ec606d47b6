-- Laws of an opening.
use Rattle.std.proofs.Common.{◌≡◌, ◌⊎◌, ℕ, ◌+◌, ◌-◌, ◌<◌, ◌≤◌, true, List, [], ◌∷◌, ◌++◌, length, take, Option, Some, None, Result, Ok, Err, refl, inl, inr, sym, ap, subst, ◌∙◌, arith}
use Rattle.std.specs.Prelude.{IfOk, IfErr, OnErr}
use Rattle.std.proofs.lemmas.List.{length-take}
use Rattle.disk_model.specs.Disk.{Meaning, Tells, DiskRun, Only, image_now}
use Rattle.disk_model.specs.Runs.{joined, weaker, left_now}
use Rattle.gate_log.specs.declared.log_errors.LogErr.{LogErr}
use Rattle.gate_log.specs.declared.log_errors.LogErr.TheVariants as log_err
use Rattle.gate_log.specs.Append.{opened_with}
use Rattle.gate_log.specs.Reading.{Reading, parts_of, OpensTo}
use Rattle.gate_log.specs.Reading.Reading.{Opened, Damaged}
use Rattle.gate_log.specs.Answers.{Refuses, UnlessFault, IsNotDamaged, IsNotFull, IsWantOrFault}
use Rattle.gate_log.specs.Readers.{ReaderState, IsReading, IsOpenedWith, FinishAnswer}
use Rattle.gate_log.specs.Opening.{IsOpened, IsOpenLog, OpensAlike, LIMIT}
use Rattle.ota_core.specs.declared.entries.Entry.{Entry}
use Rattle.counter_journal.specs.declared.versions.Version.{Version}
use Rattle.counter_journal.specs.declared.versions.Version.TheVariants.{First, Second}
use Rattle.counter_journal.specs.declared.histories_read.Past.{Past}
use Rattle.counter_journal.specs.declared.openings.LogRead.{LogRead}
use Rattle.counter_journal.specs.EntryOctets.{MARK}
use Rattle.counter_journal.specs.EntryRanges.{IsHistory}
use Rattle.counter_journal.specs.Journal.{journal_head}
use Rattle.counter_journal.specs.JournalLaws.{written_mark}
use Rattle.counter_journal.specs.JournalOpening.{IsBeforeOrOpened, MARK_BATCH, IsLeft, IsOpenedTo, IsEndCut, IsLeftRefused, IsFault, IsGoingOn}
use Rattle.counter_journal.specs.JournalReading.{AreWritten, Holds, ReadsTo, JournalValue, JournalRefuses, IsOpenedOf, OpeningAnswer, IsReady}
use Rattle.counter_journal.specs.HistoryReading.{IsPast, IsReadSoFar, IsReadThrough, IsReadAs, checked}

parts_opened : (one other : List (List ℕ)) (behind rest : List ℕ) → Opened one behind ≡ Opened other rest → one ≡ other
parts_opened one other behind rest e = cc

not_damaged : (one other : List (List ℕ)) (behind : List ℕ) → Opened one behind ≡ Damaged other → ⊥
not_damaged one other behind e = cc

-- the parts of a log that was opened are those that are read of it
pub opened_parts : (head old new : List ℕ) (len : ℕ) (parts : List (List ℕ)) → IsOpened head old new len → ReadsTo parts (parts_of head new) → (parts_of head new ≡ Opened parts []) × OpensTo head parts old
opened_parts head old new len parts opened (inl read) =
    let same : opened.parts ≡ parts = parts_opened opened.parts parts [] read.0 (sym opened.is ∙ read.1) in
    (opened.is ∙ ap (λ (p : List (List ℕ)). Opened p []) same, (opened.behind, opened.was ∙ ap (λ (p : List (List ℕ)). Opened p opened.behind) same))
opened_parts head old new len parts opened (inr read) = absurd (not_damaged opened.parts parts [] (sym opened.is ∙ read))

-- a run, and then calls that only look
pub then_looks : {D B C : Type 0} (told : Meaning D B C) (old mid new : D) (P : List ℕ → Type 0) → DiskRun told old mid P → DiskRun told mid new (image_now told mid) → DiskRun told old new P
then_looks told old mid new P first second =
    joined told old mid new P first (weaker told mid new (image_now told mid) P second (left_now told old mid P first))

-- a disk that told still does
pub still_tells : {D B C : Type 0} (told : Meaning D B C) (old new : D) → told.tells new ≡ told.tells old → Tells told old → Tells told new
still_tells told old new same tells = same ∙ tells

-- ---- a log that was opened and read

-- a fault is a want or a fault
pub fault_wants : (error : LogErr) → IsFault error → IsWantOrFault error
fault_wants log_err.Memory is = absurd is
fault_wants (log_err.DiskFault fault) is = tt
fault_wants log_err.Unformatted is = absurd is
fault_wants log_err.NotALog is = absurd is
fault_wants (log_err.OtherHead rest) is = absurd is
fault_wants (log_err.Damaged number) is = absurd is
fault_wants (log_err.Full size need) is = absurd is

-- a refusal of the beginning leaves all octets
pub begun_left : (T : Type 0) (head old new : List ℕ) (error : LogErr) → UnlessFault {T = T} (Err error) (new ≡ old) → IsNotDamaged error → IsLeftRefused head old new error
begun_left T head old new log_err.Memory same not_damaged = same
begun_left T head old new (log_err.DiskFault fault) same not_damaged = tt
begun_left T head old new log_err.Unformatted same not_damaged = same
begun_left T head old new log_err.NotALog same not_damaged = same
begun_left T head old new (log_err.OtherHead rest) same not_damaged = same
begun_left T head old new (log_err.Damaged number) same not_damaged = absurd not_damaged
begun_left T head old new (log_err.Full size need) same not_damaged = same

-- and so does want of memory
pub wanting_left : (T : Type 0) (head begun old new : List ℕ) (error : LogErr) → UnlessFault {T = T} (Err error) (new ≡ begun) → begun ≡ old → IsWantOrFault error → IsLeftRefused head old new error
wanting_left T head begun old new log_err.Memory same still want = same ∙ still
wanting_left T head begun old new (log_err.DiskFault fault) same still want = tt
wanting_left T head begun old new log_err.Unformatted same still want = absurd want
wanting_left T head begun old new log_err.NotALog same still want = absurd want
wanting_left T head begun old new (log_err.OtherHead rest) same still want = absurd want
wanting_left T head begun old new (log_err.Damaged number) same still want = absurd want
wanting_left T head begun old new (log_err.Full size need) same still want = absurd want

pub fault_left : (head old new : List ℕ) (error : LogErr) → IsFault error → IsLeftRefused head old new error
fault_left head old new log_err.Memory is = absurd is
fault_left head old new (log_err.DiskFault fault) is = tt
fault_left head old new log_err.Unformatted is = absurd is
fault_left head old new log_err.NotALog is = absurd is
fault_left head old new (log_err.OtherHead rest) is = absurd is
fault_left head old new (log_err.Damaged number) is = absurd is
fault_left head old new (log_err.Full size need) is = absurd is

-- what holds where no fault came
pub unless_wanting : (T U : Type 0) (error : LogErr) (P Q : Type 0) → UnlessFault {T = T} (Err error) P → (P → Q) → UnlessFault {T = U} (Err error) Q
unless_wanting T U log_err.Memory P Q unless then_q = then_q unless
unless_wanting T U (log_err.DiskFault fault) P Q unless then_q = tt
unless_wanting T U log_err.Unformatted P Q unless then_q = then_q unless
unless_wanting T U log_err.NotALog P Q unless then_q = then_q unless
unless_wanting T U (log_err.OtherHead rest) P Q unless then_q = then_q unless
unless_wanting T U (log_err.Damaged number) P Q unless then_q = then_q unless
unless_wanting T U (log_err.Full size need) P Q unless then_q = then_q unless

-- it says nothing of the octets
pub wanting_refuses : (lane lanes : ℕ) (read : Reading) (error : LogErr) → IsWantOrFault error → JournalRefuses lane lanes read error
wanting_refuses lane lanes read log_err.Memory want = tt
wanting_refuses lane lanes read (log_err.DiskFault fault) want = tt
wanting_refuses lane lanes read log_err.Unformatted want = absurd want
wanting_refuses lane lanes read log_err.NotALog want = absurd want
wanting_refuses lane lanes read (log_err.OtherHead rest) want = absurd want
wanting_refuses lane lanes read (log_err.Damaged number) want = absurd want
wanting_refuses lane lanes read (log_err.Full size need) want = absurd want

pub wanting_not_full : (error : LogErr) → IsWantOrFault error → IsNotFull error
wanting_not_full log_err.Memory want = tt
wanting_not_full (log_err.DiskFault fault) want = tt
wanting_not_full log_err.Unformatted want = absurd want
wanting_not_full log_err.NotALog want = absurd want
wanting_not_full (log_err.OtherHead rest) want = absurd want
wanting_not_full (log_err.Damaged number) want = absurd want
wanting_not_full (log_err.Full size need) want = absurd want

module _ {D B C : Type 0} (told : Meaning D B C) where
  -- a log that is looked at stays open
  pub still_open : (mid new : D) (len : ℕ) → DiskRun told mid new (image_now told mid) → told.seen new ≡ told.seen mid → IsOpenLog told mid len → IsOpenLog told new len
  still_open mid new len run same opened = record {
    only = λ image now. opened.only image (left_now told mid new (image_now told mid) run image now) ∙ sym same;
    long = ap length same ∙ opened.long;
    opens = (opened.opens.0, opened.opens.1, ap (parts_of opened.opens.0) same ∙ opened.opens.2);
  }

  -- the moments of a reading and of its end
  pub reading_run : (old mid new : D) (lane lanes : ℕ) (said : List ℕ) → said ≡ journal_head lane lanes → told.seen mid ≡ told.seen old
      → DiskRun told old mid (image_now told old) → DiskRun told mid new (λ image. image_now told mid image ⊎ OpensAlike said (told.seen mid) image)
      → DiskRun told old new (IsBeforeOrOpened told old lane lanes)
  reading_run old mid new lane lanes said is same first second =
      joined told old mid new (IsBeforeOrOpened told old lane lanes) (weaker told old mid (image_now told old) (IsBeforeOrOpened told old lane lanes) first (λ image now. inl now))
      (weaker told mid new (λ image. image_now told mid image ⊎ OpensAlike said (told.seen mid) image) (IsBeforeOrOpened told old lane lanes) second at)
    where
      at : (image : List ℕ) → image_now told mid image ⊎ OpensAlike said (told.seen mid) image → IsBeforeOrOpened told old lane lanes image
      at image (inl now) = inl (left_now told old mid (image_now told old) first image now)
      at image (inr alike) = inr (inl (subst (λ (h : List ℕ). OpensAlike h (told.seen old) image) is (subst (λ (t : List ℕ). OpensAlike said t image) same alike)))

  -- of a reading that is left off
  pub looked_run : (old new : D) (lane lanes : ℕ) → DiskRun told old new (image_now told old) → DiskRun told old new (IsBeforeOrOpened told old lane lanes)
  looked_run old new lane lanes run = weaker told old new (image_now told old) (IsBeforeOrOpened told old lane lanes) run (λ image now. inl now)

  -- What is known once the parts of a log that was opened are read: it is still open, and its parts are a history.
  pub record IsReadLog (old mid : D) (lane lanes : ℕ) (len : ℕ) (past : Past) : Type 0 where
    pub parts : List (List ℕ)
    pub past_is : IsPast lane lanes parts past
    pub was : OpensTo (journal_head lane lanes) parts (told.seen old)
    pub is : parts_of (journal_head lane lanes) (told.seen mid) ≡ Opened parts []
    pub cut : told.seen mid ≡ take len (told.seen old)
    pub settled : IsOpenLog told mid len

  pub read_log : (old mid : D) (lane lanes len : ℕ) (past : Past) → IsReadAs lane lanes (told.seen old) (told.seen mid) len past → IsOpenLog told mid len → IsReadLog old mid lane lanes len past
  read_log old mid lane lanes len past read settled =
      record { parts = read.parts; past_is = read.past_is; was = read.was; is = read.is; cut = read.cut; settled = settled }

  -- a log that was opened leaves just what is seen of it
  pub settled_log : (mid new : D) (head : List ℕ) (parts : List (List ℕ)) (len : ℕ) → IsOpenedWith head (told.seen mid) (told.seen new) parts len → Only (told.seen new) (image_now told new)
      → IsOpenLog told new len
  settled_log mid new head parts len opened only = record {
    only = only;
    long = omega (arith, ap length opened.cut, length-take len (told.seen mid), opened.long);
    opens = (head, parts, opened.is);
  }

  module _ (old mid new : D) (lane lanes len : ℕ) (past : Past) (read : IsReadLog old mid lane lanes len past) where
    -- the moments of the taking over
    pub taken_run : DiskRun told old mid (IsBeforeOrOpened told old lane lanes)
        → DiskRun told mid new (λ image. OpensTo (journal_head lane lanes) read.parts image ⊎ ((past.version ≡ First) × OpensTo (journal_head lane lanes) (read.parts ++ MARK ∷ []) image))
        → DiskRun told old new (IsBeforeOrOpened told old lane lanes)
    taken_run first second =
        joined told old mid new (IsBeforeOrOpened told old lane lanes) first
        (weaker told mid new (λ image. OpensTo (journal_head lane lanes) read.parts image ⊎ ((past.version ≡ First) × OpensTo (journal_head lane lanes) (read.parts ++ MARK ∷ []) image))
        (IsBeforeOrOpened told old lane lanes) second at)
      where
        at : (image : List ℕ) → OpensTo (journal_head lane lanes) read.parts image ⊎ ((past.version ≡ First) × OpensTo (journal_head lane lanes) (read.parts ++ MARK ∷ []) image)
            → IsBeforeOrOpened told old lane lanes image
        at image (inl alike) = inr (inl (read.parts, read.was, alike))
        at image (inr (first_version, marked)) = inr (inr (record {
          entries = past.history.entries;
          parts = read.parts;
          history = read.past_is.history;
          written = subst (λ (v : Version). AreWritten v past.history.entries read.parts) first_version read.past_is.written;
          was = read.was;
          is = marked;
        }))

    module _ (journal : JournalValue) (is : journal ≡ record { lane = lane; lanes = lanes; entries = past.history.entries; length = journal.length; room = 0; book = past.book }) where
      pub opened_of : IsOpenedOf lane lanes (told.seen old) journal
      opened_of = record {
        lane_is = ap (λ (j : JournalValue). j.lane) is;
        lanes_are = ap (λ (j : JournalValue). j.lanes) is;
        history = subst (IsHistory lane lanes) (sym entries_are) read.past_is.history;
        holds = subst (λ (e : List Entry). Holds lane lanes e (told.seen old)) (sym entries_are)
            (record { version = past.version; parts = read.parts; written = read.past_is.written; opens = read.was });
      }
        where
          entries_are : journal.entries ≡ past.history.entries
          entries_are = ap (λ (j : JournalValue). j.entries) is

      module _ (tells : Tells told mid) where
        abbrev made : JournalValue
        made = record { lane = lane; lanes = lanes; entries = past.history.entries; length = journal.length; room = 0; book = past.book }

        ready_of : (version : Version) → AreWritten version past.history.entries read.parts → IsGoingOn told mid new version len journal.length → IsReady told new made
        ready_of First written (inl (full, stays, same)) = record {
          open_log = subst (λ (d : D). IsOpenLog told d journal.length) (sym stays) (subst (IsOpenLog told mid) (sym same) read.settled);
          version = First;
          parts = read.parts;
          written = written;
          opens = subst (λ (d : D). parts_of (journal_head lane lanes) (told.seen d) ≡ Opened read.parts []) (sym stays) read.is;
          goes_on = omega (arith, full, same);
        }
        ready_of First written (inr marked) = record {
          open_log = marked.open_log tells;
          version = Second;
          parts = read.parts ++ MARK ∷ [];
          written = written_mark past.history.entries read.parts written;
          opens = marked.opens tells (journal_head lane lanes) read.parts read.is;
          goes_on = tt;
        }
        ready_of Second written (stays, same) = record {
          open_log = subst (λ (d : D). IsOpenLog told d journal.length) (sym stays) (subst (IsOpenLog told mid) (sym same) read.settled);
          version = Second;
          parts = read.parts;
          written = written;
          opens = subst (λ (d : D). parts_of (journal_head lane lanes) (told.seen d) ≡ Opened read.parts []) (sym stays) read.is;
          goes_on = tt;
        }

        pub opened_ready : IsGoingOn told mid new past.version len journal.length → IsReady told new journal
        opened_ready going = subst (IsReady told new) (sym is) (ready_of past.version read.past_is.written going)

        taken_as : (now : ℕ) → new ≡ mid → now ≡ len → told.seen new ≡ take now (told.seen old)
        taken_as now stays same = ap (λ (d : D). told.seen d) stays ∙ read.cut ∙ ap (λ (n : ℕ). take n (told.seen old)) (sym same)

        left_by : (version : Version) → IsGoingOn told mid new version len journal.length → IsLeft version (told.seen old) (told.seen new) journal.length
        left_by First (inl (full, stays, same)) = inl (omega (arith, full, same), taken_as journal.length stays same)
        left_by First (inr marked) = inr (len, marked.longer, marked.within, marked.content tells ∙ ap (λ (l : List ℕ). opened_with l MARK_BATCH) read.cut)
        left_by Second (stays, same) = taken_as journal.length stays same

        pub opened_to : IsGoingOn told mid new past.version len journal.length → IsOpenedTo (told.seen old) (told.seen new) journal
        opened_to going = subst (IsOpenedTo (told.seen old) (told.seen new)) (sym is) (record {
          version = past.version;
          parts = read.parts;
          written = read.past_is.written;
          opens = read.was;
          left = left_by past.version going;
        })

    -- what the journal of the log is, where there was no want of memory and no fault
    abbrev pub IsMadeOf : JournalValue → Type 0
    IsMadeOf journal = (journal ≡ record { lane = lane; lanes = lanes; entries = past.history.entries; length = journal.length; room = 0; book = past.book }) × IsGoingOn told mid new past.version len journal.length

    pub answered : (result : Result JournalValue LogErr) → IfOk result IsMadeOf → IfErr result IsFault → OpeningAnswer lane lanes (told.seen old) result
    answered (Ok journal) is_made want = opened_of journal is_made.0
    answered (Err error) is_made want = wanting_refuses lane lanes (parts_of (journal_head lane lanes) (told.seen old)) error (fault_wants error want)

    pub readied : (result : Result JournalValue LogErr) → Tells told mid → IfOk result IsMadeOf → IfOk result (IsReady told new)
    readied (Ok journal) tells is_made = opened_ready journal is_made.0 tells is_made.1
    readied (Err error) tells is_made = tt

    -- a stop leaves just what a read gives, unless a fault came
    pub settled_after : (result : Result JournalValue LogErr) → Tells told mid → IfOk result IsMadeOf → IfErr result IsFault → UnlessFault result (Only (told.seen new) (image_now told new))
    settled_after (Ok journal) tells is_made is = (opened_ready journal is_made.0 tells is_made.1).open_log.only
    settled_after (Err log_err.Memory) tells is_made is = absurd is
    settled_after (Err (log_err.DiskFault fault)) tells is_made is = tt
    settled_after (Err log_err.Unformatted) tells is_made is = absurd is
    settled_after (Err log_err.NotALog) tells is_made is = absurd is
    settled_after (Err (log_err.OtherHead rest)) tells is_made is = absurd is
    settled_after (Err (log_err.Damaged number)) tells is_made is = absurd is
    settled_after (Err (log_err.Full size need)) tells is_made is = absurd is

    pub lefted : (result : Result JournalValue LogErr) → Tells told mid → IfOk result IsMadeOf → IfOk result (IsOpenedTo (told.seen old) (told.seen new))
    lefted (Ok journal) tells is_made = opened_to journal is_made.0 tells is_made.1
    lefted (Err error) tells is_made = tt

-- ---- the end of a reading

-- what reads further is refused for no part before it
reads_both : (one other : List (List ℕ)) (read : Reading) → ReadsTo one read → read ≡ Damaged other → one ≡ other
reads_both one other read (inl opened) damaged = absurd (not_damaged one other opened.0 (sym opened.1 ∙ damaged))
reads_both one other read (inr broken) damaged = damaged_same one other (sym broken ∙ damaged)
  where
    damaged_same : (one other : List (List ℕ)) → Damaged one ≡ Damaged other → one ≡ other
    damaged_same one other e = cc

module _ (lane lanes : ℕ) (said old new : List ℕ) (is : said ≡ journal_head lane lanes) (parts : List (List ℕ)) (past : Past) (all : ReadsTo parts (parts_of (journal_head lane lanes) old)) where
  -- the answer of the end of a reading, where no part was bad or one was
  abbrev pub IsEnded : Result ℕ LogErr → Type 0
  IsEnded (Ok len) = IsReadAs lane lanes old new len past
  IsEnded (Err error) = JournalRefuses lane lanes (parts_of (journal_head lane lanes) old) error

  read_as : (len : ℕ) → IsPast lane lanes parts past → IsOpenedWith said old new parts len → IsReadAs lane lanes old new len past
  read_as len past_is opened =
      let at = subst (λ (h : List ℕ). IsOpenedWith h old new parts len) is opened in
      record { parts = parts; past_is = past_is; was = (at.behind, at.was); is = at.is; cut = at.cut; long = at.long }

  pub ended : (finished : Result ℕ LogErr) (wrong : Option ℕ) → FinishAnswer said old new parts finished → IsReadSoFar lane lanes parts past wrong → IsEnded (checked finished wrong)
  ended (Ok len) None finish read = read_as len read finish
  ended (Ok len) (Some number) finish read = inl (parts, all, read)
  ended (Err log_err.Memory) wrong finish read = absurd finish
  ended (Err (log_err.DiskFault fault)) None finish read = tt
  ended (Err (log_err.DiskFault fault)) (Some number) finish read = tt
  ended (Err log_err.Unformatted) wrong finish read = absurd finish
  ended (Err log_err.NotALog) wrong finish read = absurd finish
  ended (Err (log_err.OtherHead rest)) wrong finish read = absurd finish
  ended (Err (log_err.Damaged number)) None finish read =
      inr (record {
        entries = past.history.entries;
        version = past.version;
        parts = parts;
        damaged = subst (λ (h : List ℕ). parts_of h old ≡ Damaged parts) is finish.0;
        written = read.written;
        history = read.history;
        place = finish.1;
      })
  ended (Err (log_err.Damaged number)) (Some first) finish read = inl (parts, all, read)
  ended (Err (log_err.Full size need)) wrong finish read = absurd finish

  cut_as : (len : ℕ) → IsOpenedWith (journal_head lane lanes) old new parts len → IsEndCut (parts_of (journal_head lane lanes) old) old new
  cut_as len at =
      let is : len ≡ length old - length at.behind = omega (arith, at.long) in
      subst (λ (r : Reading). IsEndCut r old new) (sym at.was) (at.cut ∙ ap (λ (n : ℕ). take n old) is)

  damaged_as : parts_of said old ≡ Damaged parts → new ≡ old → IsEndCut (parts_of (journal_head lane lanes) old) old new
  damaged_as damaged same =
      subst (λ (r : Reading). IsEndCut r old new) (sym (subst (λ (h : List ℕ). parts_of h old ≡ Damaged parts) is damaged)) same

  -- what it leaves where it refuses
  pub ended_cut : (finished : Result ℕ LogErr) (wrong : Option ℕ) → FinishAnswer said old new parts finished → OnErr finished (UnlessFault finished (new ≡ old))
      → IfErr (checked finished wrong) (IsLeftRefused (journal_head lane lanes) old new)
  ended_cut (Ok len) None finish same = tt
  ended_cut (Ok len) (Some number) finish same = cut_as len (subst (λ (h : List ℕ). IsOpenedWith h old new parts len) is finish)
  ended_cut (Err log_err.Memory) wrong finish same = absurd finish
  ended_cut (Err (log_err.DiskFault fault)) None finish same = tt
  ended_cut (Err (log_err.DiskFault fault)) (Some number) finish same = tt
  ended_cut (Err log_err.Unformatted) wrong finish same = absurd finish
  ended_cut (Err log_err.NotALog) wrong finish same = absurd finish
  ended_cut (Err (log_err.OtherHead rest)) wrong finish same = absurd finish
  ended_cut (Err (log_err.Damaged number)) None finish same = damaged_as finish.0 same
  ended_cut (Err (log_err.Damaged number)) (Some first) finish same = damaged_as finish.0 same
  ended_cut (Err (log_err.Full size need)) wrong finish same = absurd finish

-- a check of the parts says nothing of the disk
pub checked_unless : (finished : Result ℕ LogErr) (wrong : Option ℕ) (P : Type 0) → UnlessFault finished P → UnlessFault (checked finished wrong) P
checked_unless (Ok len) None P unless = unless
checked_unless (Ok len) (Some number) P unless = unless
checked_unless (Err log_err.Memory) None P unless = unless
checked_unless (Err log_err.Memory) (Some number) P unless = unless
checked_unless (Err (log_err.DiskFault fault)) None P unless = tt
checked_unless (Err (log_err.DiskFault fault)) (Some number) P unless = tt
checked_unless (Err log_err.Unformatted) None P unless = unless
checked_unless (Err log_err.Unformatted) (Some number) P unless = unless
checked_unless (Err log_err.NotALog) None P unless = unless
checked_unless (Err log_err.NotALog) (Some number) P unless = unless
checked_unless (Err (log_err.OtherHead rest)) None P unless = unless
checked_unless (Err (log_err.OtherHead rest)) (Some number) P unless = unless
checked_unless (Err (log_err.Damaged number)) None P unless = unless
checked_unless (Err (log_err.Damaged number)) (Some first) P unless = unless
checked_unless (Err (log_err.Full size need)) None P unless = unless
checked_unless (Err (log_err.Full size need)) (Some number) P unless = unless

-- an end that is Ok was one of the log
pub checked_ok : (finished : Result ℕ LogErr) (wrong : Option ℕ) (len : ℕ) → checked finished wrong ≡ Ok len → finished ≡ Ok len
checked_ok (Ok size) None len e = e
checked_ok (Ok size) (Some number) len e = absurd cc
checked_ok (Err error) None len e = absurd cc
checked_ok (Err error) (Some number) len e = absurd cc

-- ---- the whole reading

-- what is known where all parts were read and the reading was ended
pub record IsFinished (mid old new : List ℕ) (lane lanes : ℕ) (said : List ℕ) (reader : ReaderState) (read : LogRead) (finished : Result ℕ LogErr) : Type 0 where
  pub parts : List (List ℕ)
  pub reading : IsReading said mid parts reader
  pub all : ReadsTo parts (parts_of (journal_head lane lanes) old)
  pub finish : FinishAnswer said old new parts finished
  pub so_far : IsReadSoFar lane lanes parts read.past read.wrong

pub finished_of : {D B C : Type 0} (told : Meaning D B C) (old begun mid new : D) (lane lanes : ℕ) (said : List ℕ) (first reader : ReaderState) (read : LogRead) (finished : Result ℕ LogErr)
    → said ≡ journal_head lane lanes → Tells told begun → Tells told mid → told.seen begun ≡ told.seen old → told.seen mid ≡ told.seen begun → IsReading said (told.seen begun) [] first
    → (Tells told begun → (head : List ℕ) → IsReading head (told.seen begun) [] first → IsReadThrough head (told.seen begun) lane lanes reader read)
    → (Tells told mid → (head : List ℕ) (parts : List (List ℕ)) → IsReading head (told.seen mid) parts reader → FinishAnswer head (told.seen mid) (told.seen new) parts finished)
    → IsFinished (told.seen mid) (told.seen old) (told.seen new) lane lanes said reader read finished
finished_of told old begun mid new lane lanes said first reader read finished is tells tells_mid same still reading reads finishes =
    let through = reads tells said reading in
    let there : IsReading said (told.seen mid) through.parts reader = subst (λ (t : List ℕ). IsReading said t through.parts reader) (sym still) through.reading in
    record {
      parts = through.parts;
      reading = there;
      all = subst (λ (h : List ℕ). ReadsTo through.parts (parts_of h (told.seen old))) is (subst (λ (t : List ℕ). ReadsTo through.parts (parts_of said t)) same through.all);
      finish = subst (λ (t : List ℕ). FinishAnswer said t (told.seen new) through.parts finished) (still ∙ same) (finishes tells_mid said through.parts there);
      so_far = through.so_far;
    }

module _ {D B C : Type 0} (told : Meaning D B C) (mid old new : D) (lane lanes : ℕ) (said : List ℕ) (is : said ≡ journal_head lane lanes) (reader : ReaderState) (read : LogRead)
    (finished : Result ℕ LogErr) (all : IsFinished (told.seen mid) (told.seen old) (told.seen new) lane lanes said reader read finished) where
  pub finished_answer : (result : Result ℕ LogErr) → result ≡ checked finished read.wrong → IsEnded lane lanes said (told.seen old) (told.seen new) is all.parts read.past all.all result
  finished_answer result is_checked =
      subst (IsEnded lane lanes said (told.seen old) (told.seen new) is all.parts read.past all.all) (sym is_checked)
      (ended lane lanes said (told.seen old) (told.seen new) is all.parts read.past all.all finished read.wrong all.finish all.so_far)

  pub finished_cut : (result : Result ℕ LogErr) → result ≡ checked finished read.wrong → OnErr finished (UnlessFault finished (told.seen new ≡ told.seen mid)) → told.seen mid ≡ told.seen old
      → IfErr result (IsLeftRefused (journal_head lane lanes) (told.seen old) (told.seen new))
  finished_cut result is_checked same still =
      subst (λ (r : Result ℕ LogErr). IfErr r (IsLeftRefused (journal_head lane lanes) (told.seen old) (told.seen new))) (sym is_checked)
      (ended_cut lane lanes said (told.seen old) (told.seen new) is all.parts read.past all.all finished read.wrong all.finish
      (subst (λ (t : List ℕ). OnErr finished (UnlessFault finished (told.seen new ≡ t))) still same))

  pub finished_settled : (len : ℕ) → checked finished read.wrong ≡ Ok len → UnlessFault finished (Only (told.seen new) (image_now told new)) → IsOpenLog told new len
  finished_settled len is_ok only =
      let ok : finished ≡ Ok len = checked_ok finished read.wrong len is_ok in
      settled_log told old new said all.parts len (subst (FinishAnswer said (told.seen old) (told.seen new) all.parts) ok all.finish)
      (subst (λ (r : Result ℕ LogErr). UnlessFault r (Only (told.seen new) (image_now told new))) ok only)
