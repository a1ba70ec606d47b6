-- Laws of a log that gets the mark of version 2.
use Rattle.std.proofs.Common.{◌≡◌, ◌⊎◌, ℕ, ◌+◌, ◌-◌, ◌<◌, ◌≤◌, Bool, true, false, List, [], ◌∷◌, ◌++◌, length, Result, Ok, Err, refl, inl, inr, sym, ap, subst, ◌∙◌, arith}
use Rattle.disk_model.specs.Disk.{Meaning, Tells, DiskRun}
use Rattle.disk_model.specs.Runs.{weaker}
use Rattle.gate_log.specs.declared.log_errors.LogErr.{LogErr}
use Rattle.gate_log.specs.declared.log_errors.LogErr.TheVariants as log_err
use Rattle.gate_log.specs.Append.{opened_with}
use Rattle.gate_log.specs.Batches.{BatchState, framed, octets_in}
use Rattle.gate_log.specs.Log.{four}
use Rattle.gate_log.specs.Opening.{AppendAnswer, IsOpenLog, need_of}
use Rattle.gate_log.specs.Reading.{parts_of, OpensTo}
use Rattle.gate_log.specs.Reading.Reading.{Opened}
use Rattle.counter_journal.specs.declared.versions.Version.{Version}
use Rattle.counter_journal.specs.declared.versions.Version.TheVariants.{First, Second}
use Rattle.counter_journal.specs.EntryOctets.{MARK}
use Rattle.counter_journal.specs.JournalOpening.{MARK_BATCH, IsMarkAdded, IsGoingOn, IsFault, is_full}

abbrev pub with_mark : BatchState → BatchState
with_mark batch = record { parts = batch.parts ++ MARK ∷ []; parts_room = batch.parts_room - 1; octets_room = batch.octets_room - length MARK }

abbrev pub cleared : BatchState → BatchState
cleared put = record { parts = []; parts_room = put.parts_room + length put.parts; octets_room = put.octets_room + octets_in put.parts }

-- the mark alone is put
pub mark_put : (batch put : BatchState) → batch.parts ≡ [] → put ≡ with_mark batch → put.parts ≡ MARK ∷ []
mark_put batch put empty is = ap (λ (b : BatchState). b.parts) is ∙ ap (λ (p : List (List ℕ)). p ++ MARK ∷ []) empty

-- and the batch is as it was once it is taken out
pub mark_cleared : (batch put : BatchState) → batch.parts ≡ [] → 1 ≤ batch.parts_room → 2 ≤ batch.octets_room → put ≡ with_mark batch → cleared put ≡ batch
mark_cleared batch put empty some room is =
    let parts = mark_put batch put empty is in
    let first : put.parts_room + length put.parts ≡ batch.parts_room = omega (arith, ap (λ (b : BatchState). b.parts_room) is, ap length parts, some) in
    let second : put.octets_room + octets_in put.parts ≡ batch.octets_room = omega (arith, ap (λ (b : BatchState). b.octets_room) is, ap octets_in parts, room) in
    λ i. record { parts = sym empty i; parts_room = first i; octets_room = second i }

mark_framed : framed (MARK ∷ []) ≡ MARK_BATCH
unfolding four
mark_framed = refl

module _ {D B C : Type 0} (told : Meaning D B C) (old new : D) where
  -- the mark is added
  pub added : (len now : ℕ) (parts : List (List ℕ)) → parts ≡ MARK ∷ [] → now ≡ len + need_of parts → len + need_of parts ≤ 16777216
      → (Tells told old → told.clock new ≡ told.clock old + 4) → (Tells told old → IsOpenLog told new now) → (Tells told old → told.seen new ≡ opened_with (told.seen old) (framed parts))
      → (Tells told old → (head : List ℕ) (before : List (List ℕ)) → parts_of head (told.seen old) ≡ Opened before [] → parts_of head (told.seen new) ≡ Opened (before ++ parts) [])
      → IsGoingOn told old new First len now
  added len now parts is longer within clock settled content appended =
      let need : need_of parts ≡ 11 = ap need_of is in
      inr (record {
        longer = omega (arith, longer, need);
        within = omega (arith, longer, within);
        clock = clock;
        open_log = settled;
        content = λ tells. content tells ∙ ap (λ (p : List (List ℕ)). opened_with (told.seen old) (framed p)) is ∙ ap (opened_with (told.seen old)) mark_framed;
        opens = λ tells head before was. appended tells head before was ∙ ap (λ (p : List (List ℕ)). Opened (before ++ p) []) is;
      })

  -- there is no room for it
  pub no_room : (len : ℕ) (parts : List (List ℕ)) → parts ≡ MARK ∷ [] → 16777216 < len + need_of parts → new ≡ old → IsGoingOn told old new First len len
  no_room len parts is full same =
      let need : need_of parts ≡ 11 = ap need_of is in
      inl (omega (arith, full, need), same, refl)

  -- at each moment the log is as before, or has the mark
  pub marked_run : (head : List ℕ) (before parts : List (List ℕ)) → parts ≡ MARK ∷ [] → DiskRun told old new (λ image. OpensTo head before image ⊎ OpensTo head (before ++ parts) image)
      → DiskRun told old new (λ image. OpensTo head before image ⊎ OpensTo head (before ++ MARK ∷ []) image)
  marked_run head before parts is run = subst (λ (p : List (List ℕ)). DiskRun told old new (λ image. OpensTo head before image ⊎ OpensTo head (before ++ p) image)) is run

-- an append that was refused, though not for want of room, met a fault of the disk
pub fault_alone : (len need : ℕ) (error : LogErr) → AppendAnswer len need (Err error) → is_full error ≡ false → IsFault error
fault_alone len need log_err.Memory answer other = absurd answer
fault_alone len need (log_err.DiskFault fault) answer other = tt
fault_alone len need log_err.Unformatted answer other = absurd answer
fault_alone len need log_err.NotALog answer other = absurd answer
fault_alone len need (log_err.OtherHead rest) answer other = absurd answer
fault_alone len need (log_err.Damaged number) answer other = absurd answer
fault_alone len need (log_err.Full size needed) answer other = absurd cc

-- one that was refused for want of room
pub full_alone : (len need : ℕ) (error : LogErr) → AppendAnswer len need (Err error) → is_full error ≡ true → (16777216 < len + need) × (error ≡ log_err.Full len need)
full_alone len need log_err.Memory answer full = absurd answer
full_alone len need (log_err.DiskFault fault) answer full = absurd cc
full_alone len need log_err.Unformatted answer full = absurd answer
full_alone len need log_err.NotALog answer full = absurd answer
full_alone len need (log_err.OtherHead rest) answer full = absurd answer
full_alone len need (log_err.Damaged number) answer full = absurd answer
full_alone len need (log_err.Full size needed) answer full = (answer.0, ap (λ (n : ℕ). log_err.Full n needed) answer.1 ∙ ap (log_err.Full len) answer.2)

-- the same, where version 1 is what the parts are of
pub first_run : {D B C : Type 0} (told : Meaning D B C) (old new : D) (head : List ℕ) (before : List (List ℕ)) (version : Version) → version ≡ First
    → DiskRun told old new (λ image. OpensTo head before image ⊎ OpensTo head (before ++ MARK ∷ []) image)
    → DiskRun told old new (λ image. OpensTo head before image ⊎ ((version ≡ First) × OpensTo head (before ++ MARK ∷ []) image))
first_run told old new head before version first run =
    weaker told old new (λ image. OpensTo head before image ⊎ OpensTo head (before ++ MARK ∷ []) image)
    (λ image. OpensTo head before image ⊎ ((version ≡ First) × OpensTo head (before ++ MARK ∷ []) image)) run at
  where
    at : (image : List ℕ) → OpensTo head before image ⊎ OpensTo head (before ++ MARK ∷ []) image → OpensTo head before image ⊎ ((version ≡ First) × OpensTo head (before ++ MARK ∷ []) image)
    at image (inl so_far) = inl so_far
    at image (inr marked) = inr (first, marked)
