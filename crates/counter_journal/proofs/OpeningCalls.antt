-- Laws of how many calls of a disk an opening makes.
use Rattle.std.proofs.Common.{◌≡◌, ◌≢◌, ◌==◌, ℕ, ◌+◌, ◌-◌, ◌<◌, ◌≤◌, true, false, List, length, Option, Some, None, Result, Ok, Err, refl, inl, inr, sym, ap, subst, ◌∙◌, arith}
use Rattle.std.specs.Prelude.{min, IfOk, IfErr, if◌then◌else◌}
use Rattle.std.proofs.lemmas.Bool.{ne_eqb}
use Rattle.disk_model.specs.declared.faults.DiskFault.TheVariants as fault
use Rattle.disk_model.specs.Disk.{Meaning, Tells}
use Rattle.gate_log.specs.declared.log_errors.LogErr.{LogErr}
use Rattle.gate_log.specs.declared.log_errors.LogErr.TheVariants as log_err
use Rattle.gate_log.specs.Answers.{Refuses, IsNotDamaged, IsNotFull, IsWantOrFault}
use Rattle.gate_log.specs.Calls.{BeginErrTicks, AreRead, behind_in, calls_of_end, EndTicks, WholeErrTicks}
use Rattle.gate_log.specs.CallLaws.{windows_more, windows_some, windows_by, all_read}
use Rattle.gate_log.specs.Reading.{Reading, parts_of}
use Rattle.gate_log.specs.Reading.Reading.{Unformatted, NotALog, OtherHead, Damaged, Opened}
use Rattle.gate_log.specs.Readers.{ReaderState, has_ended, IsReading, IsReadTo, FinishAnswer}
use Rattle.gate_log.specs.Windows.{windows_in, IsWithin}
use Rattle.counter_journal.specs.declared.versions.Version.{Version}
use Rattle.counter_journal.specs.declared.versions.Version.TheVariants.{First, Second}
use Rattle.counter_journal.specs.HistoryReading.{checked}
use Rattle.counter_journal.specs.JournalCalls.{calls_of_mark, OpeningErrTicks, OpenedTicks, OpeningTicks}
use Rattle.counter_journal.specs.JournalOpening.{IsFault, IsGoingOn}
use Rattle.counter_journal.specs.JournalReading.{JournalValue}

module _ (octets before now : ℕ) (read : Reading) where
  -- nothing lies behind what is no log
  none_behind : (is : Reading) → read ≡ is → behind_in is ≡ 0 → calls_of_end (behind_in read) ≡ 0
  none_behind is same none = ap (λ (r : Reading). calls_of_end (behind_in r)) same ∙ ap calls_of_end none

  at_heading : (is : Reading) → read ≡ is → behind_in is ≡ 0 → (count : ℕ) × AreRead read octets count × (now ≡ before + 2 + count)
      → (count : ℕ) × AreRead read octets count × (now ≡ before + 2 + count + calls_of_end (behind_in read))
  at_heading is same none ticks = (ticks.0, ticks.1, omega (arith, ticks.2, none_behind is same none))

  -- a reading that isn't begun
  pub begun_opening : (error : LogErr) → Refuses read error → IsNotDamaged error → IsNotFull error → WholeErrTicks 2 (calls_of_end (behind_in read)) read octets before now error → OpeningErrTicks read octets before now error
  begun_opening log_err.Memory refuses not_damaged not_full ticks = ticks
  begun_opening (log_err.DiskFault fault.Failed) refuses not_damaged not_full ticks = (ticks.0, omega (arith, ticks.1))
  begun_opening (log_err.DiskFault fault.Memory) refuses not_damaged not_full ticks = (ticks.0, omega (arith, ticks.1))
  begun_opening log_err.Unformatted refuses not_damaged not_full ticks = at_heading Unformatted refuses refl ticks
  begun_opening log_err.NotALog refuses not_damaged not_full ticks = at_heading NotALog refuses refl ticks
  begun_opening (log_err.OtherHead rest) refuses not_damaged not_full ticks = at_heading (OtherHead rest) refuses refl ticks
  begun_opening (log_err.Damaged number) refuses not_damaged not_full ticks = absurd not_damaged
  begun_opening (log_err.Full size need) refuses not_damaged not_full ticks = absurd not_full

  -- one that is left off
  pub left_opening : (error : LogErr) → IsWantOrFault error → WholeErrTicks 2 (calls_of_end (behind_in read)) read octets before now error → OpeningErrTicks read octets before now error
  left_opening log_err.Memory want ticks = ticks
  left_opening (log_err.DiskFault fault.Failed) want ticks = (ticks.0, omega (arith, ticks.1))
  left_opening (log_err.DiskFault fault.Memory) want ticks = (ticks.0, omega (arith, ticks.1))
  left_opening log_err.Unformatted want ticks = absurd want
  left_opening log_err.NotALog want ticks = absurd want
  left_opening (log_err.OtherHead rest) want ticks = absurd want
  left_opening (log_err.Damaged number) want ticks = absurd want
  left_opening (log_err.Full size need) want ticks = absurd want

-- one that is ended, where no part was bad or one was
module _ (said old new : List ℕ) (parts : List (List ℕ)) (before mid now count : ℕ) (are : AreRead (parts_of said old) (length old) count) (few : count ≤ windows_in (length old)) (so_far : mid ≡ before + 2 + count) where
  damaged_ticks : parts_of said old ≡ Damaged parts → now ≡ mid
      → (count : ℕ) × AreRead (parts_of said old) (length old) count × (now ≡ before + 2 + count + calls_of_end (behind_in (parts_of said old)))
  damaged_ticks damaged same = (count, are, omega (arith, so_far, same, none_behind (length old) before now (parts_of said old) (Damaged parts) damaged refl))

  pub ended_opening : (finished : Result ℕ LogErr) (wrong : Option ℕ) → FinishAnswer said old new parts finished → EndTicks (behind_in (parts_of said old)) mid now finished
      → OpenedTicks (parts_of said old) (length old) before now (checked finished wrong)
  ended_opening (Ok len) None finish ticks = (count, are, omega (arith, so_far, ticks))
  ended_opening (Ok len) (Some number) finish ticks = (count, are, omega (arith, so_far, ticks))
  ended_opening (Err log_err.Memory) wrong finish ticks = absurd finish
  ended_opening (Err (log_err.DiskFault fault.Failed)) None finish ticks = (omega (arith, so_far, ticks.0), omega (arith, so_far, ticks.1, few))
  ended_opening (Err (log_err.DiskFault fault.Failed)) (Some number) finish ticks = (omega (arith, so_far, ticks.0), omega (arith, so_far, ticks.1, few))
  ended_opening (Err (log_err.DiskFault fault.Memory)) None finish ticks = (omega (arith, so_far, ticks.0), omega (arith, so_far, ticks.1, few))
  ended_opening (Err (log_err.DiskFault fault.Memory)) (Some number) finish ticks = (omega (arith, so_far, ticks.0), omega (arith, so_far, ticks.1, few))
  ended_opening (Err log_err.Unformatted) wrong finish ticks = absurd finish
  ended_opening (Err log_err.NotALog) wrong finish ticks = absurd finish
  ended_opening (Err (log_err.OtherHead rest)) wrong finish ticks = absurd finish
  ended_opening (Err (log_err.Damaged number)) None finish ticks = damaged_ticks finish.0 ticks
  ended_opening (Err (log_err.Damaged number)) (Some first) finish ticks = damaged_ticks finish.0 ticks
  ended_opening (Err (log_err.Full size need)) wrong finish ticks = absurd finish

-- the whole opening of a log, up to the check of its parts
pub finished_opening : {D B C : Type 0} (told : Meaning D B C) (old begun mid new : D) (said : List ℕ) (parts : List (List ℕ)) (first reader : ReaderState) (finished : Result ℕ LogErr) (wrong : Option ℕ)
    → told.clock begun ≡ told.clock old + 2 + 1 → windows_in first.windows.read ≡ 1 → told.clock begun ≤ told.clock mid
    → told.clock mid + windows_in first.windows.read ≡ told.clock begun + windows_in reader.windows.read → IsWithin reader.windows → has_ended reader ≡ true
    → told.seen mid ≡ told.seen old → IsReading said (told.seen mid) parts reader → IsReadTo parts (parts_of said (told.seen old))
    → FinishAnswer said (told.seen old) (told.seen new) parts finished → EndTicks (behind_in (parts_of said (told.seen mid))) (told.clock mid) (told.clock new) finished
    → OpenedTicks (parts_of said (told.seen old)) (length (told.seen old)) (told.clock old) (told.clock new) (checked finished wrong)
finished_opening told old begun mid new said parts first reader finished wrong is window later ticks within ended same reading all finish ends =
    let text = told.seen old in
    let here = subst (λ (t : List ℕ). IsReading said t parts reader) same reading in
    let by = windows_by 2 (told.clock old) (told.clock begun) (told.clock mid) first.windows.read reader.windows.read is window ticks later in
    ended_opening said text (told.seen new) parts (told.clock old) (told.clock mid) (told.clock new) (windows_in reader.windows.read) (all_read said text parts reader here within ended all by.1)
    (windows_more reader.windows.read (length text) (omega (arith, within.read, here.long))) by.0 finished wrong finish
    (subst (λ (t : List ℕ). EndTicks (behind_in (parts_of said t)) (told.clock mid) (told.clock new) finished) same ends)

-- ---- the mark

few_of : (read : Reading) (octets count : ℕ) → AreRead read octets count → count ≤ windows_in octets
few_of Unformatted octets count are = omega (arith, are, windows_some octets)
few_of NotALog octets count are = omega (arith, are, windows_some octets)
few_of (OtherHead rest) octets count are = omega (arith, are, windows_some octets)
few_of (Damaged parts) octets count are = are.1
few_of (Opened parts behind) octets count are = are.1

none_of_mark : (log journal : ℕ) → journal ≡ log → calls_of_mark log journal ≡ 0
none_of_mark log journal same = ap (λ (n : ℕ). calls_of_mark log n) same ∙ self log
  where
    self : (n : ℕ) → calls_of_mark n n ≡ 0
    self n = grind arith

four_of_mark : (log journal : ℕ) → journal ≡ log + 11 → calls_of_mark log journal ≡ 4
four_of_mark log journal longer =
    let other : journal ≢ log = λ same. absurd (omega (arith, longer, same)) in
    ap (λ b. if b then 0 else 4) (ne_eqb journal log other)

module _ {D B C : Type 0} (told : Meaning D B C) (mid new : D) (read : Reading) (octets before len : ℕ) (opened : (count : ℕ) × AreRead read octets count × (told.clock mid ≡ before + 2 + count + calls_of_end (behind_in read)))
    (len_is : len ≡ octets - behind_in read) (tells : Tells told mid) where
  mark_ticks : (version : Version) (now : ℕ) → IsGoingOn told mid new version len now → told.clock new ≡ told.clock mid + calls_of_mark (octets - behind_in read) now
  mark_ticks First now (inl (full, stays, same)) = omega (arith, ap (λ (d : D). told.clock d) stays, none_of_mark (octets - behind_in read) now (same ∙ len_is))
  mark_ticks First now (inr marked) = omega (arith, marked.clock tells, four_of_mark (octets - behind_in read) now (omega (arith, marked.longer, len_is)))
  mark_ticks Second now (stays, same) = omega (arith, ap (λ (d : D). told.clock d) stays, none_of_mark (octets - behind_in read) now (same ∙ len_is))

  pub opening_ticks : (version : Version) (result : Result JournalValue LogErr) → IfOk result (λ journal. IsGoingOn told mid new version len journal.length) → IfErr result IsFault
      → IfErr result (λ error. (told.clock mid ≤ told.clock new) × (told.clock new ≤ told.clock mid + 4)) → OpeningTicks read octets before (told.clock new) result
  opening_ticks version (Ok journal) going is ticks = (opened.0, opened.1, omega (arith, opened.2, mark_ticks version journal.length going))
  opening_ticks version (Err log_err.Memory) going is ticks = absurd is
  opening_ticks version (Err (log_err.DiskFault fault.Failed)) going is ticks = (omega (arith, opened.2, ticks.0), omega (arith, opened.2, ticks.1, few_of read octets opened.0 opened.1))
  opening_ticks version (Err (log_err.DiskFault fault.Memory)) going is ticks = (omega (arith, opened.2, ticks.0), omega (arith, opened.2, ticks.1, few_of read octets opened.0 opened.1))
  opening_ticks version (Err log_err.Unformatted) going is ticks = absurd is
  opening_ticks version (Err log_err.NotALog) going is ticks = absurd is
  opening_ticks version (Err (log_err.OtherHead rest)) going is ticks = absurd is
  opening_ticks version (Err (log_err.Damaged number)) going is ticks = absurd is
  opening_ticks version (Err (log_err.Full size need)) going is ticks = absurd is
