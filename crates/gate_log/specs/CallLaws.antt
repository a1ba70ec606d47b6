-- Laws of how many calls of a disk the calls of a log make.
use Rattle.std.specs.Prelude.{◌≡◌, ℕ, ◌+◌, ◌-◌, ◌≤◌, true, min, List, length, drop, Result, Ok, Err, IfOk, IfErr, OnOk, refl}
use Rattle.std.proofs.Common.{inl, inr, sym, ◌∙◌, ap, subst, arith, length-append, length-drop}
use Rattle.disk_model.specs.declared.faults.DiskFault.TheVariants as fault
use Rattle.disk_model.specs.Disk.{Meaning}
use Rattle.gate_log.specs.declared.headings.Heading.{Heading}
use Rattle.gate_log.specs.declared.headings.Heading.TheVariants as heading
use Rattle.gate_log.specs.declared.log_errors.LogErr.{LogErr}
use Rattle.gate_log.specs.declared.log_errors.LogErr.TheVariants as log_err
use Rattle.gate_log.specs.Answers.{Refuses, heading_answer, IsNotFull, IsNotDamaged, IsWantOrFault}
use Rattle.gate_log.specs.declared.standings.Standing.{Standing}
use Rattle.gate_log.specs.declared.standings.Standing.TheVariants as standing
use Rattle.gate_log.specs.Reading.{Reading, parts_of}
use Rattle.gate_log.specs.Reading.Reading.{Unformatted, NotALog, OtherHead, Opened}
use Rattle.gate_log.specs.Windows.{rest_of, IsWithin, windows_in}
use Rattle.gate_log.specs.Readers.{ReaderState, ended_at, has_ended, in_front, left_at, IsReading, IsReadTo, ReadOnTicks}
use Rattle.gate_log.specs.Calls.{FirstErrTicks, BeginErrTicks, BeginTicks, calls_of_end, EndTicks, AreRead, WholeErrTicks, WholeTicks}

-- more octets take no fewer windows
pub windows_more : (few many : ℕ) → few ≤ many → windows_in few ≤ windows_in many
windows_more few many le = omega (arith, le)

-- octets take a window, where there are any
pub windows_some : (octets : ℕ) → min 1 octets ≤ windows_in octets
windows_some octets = omega arith

module _ (calls octets before : ℕ) where
  -- want of memory ahead of the first window, or a fault
  pub begin_first : (mid now : ℕ) (error : LogErr) → IsWantOrFault error → mid ≡ before + calls → FirstErrTicks octets mid now error → BeginErrTicks calls octets before now error
  begin_first mid now log_err.Memory want first ticks = omega (arith, first, ticks.1)
  begin_first mid now (log_err.DiskFault fault.Failed) want first ticks = (omega (arith, first, ticks.1), omega (arith, first, ticks.0, ticks.1))
  begin_first mid now (log_err.DiskFault fault.Memory) want first ticks = (omega (arith, first, ticks.1), omega (arith, first, ticks.0, ticks.1))
  begin_first mid now log_err.Unformatted want first ticks = absurd want
  begin_first mid now log_err.NotALog want first ticks = absurd want
  begin_first mid now (log_err.OtherHead rest) want first ticks = absurd want
  begin_first mid now (log_err.Damaged number) want first ticks = absurd want
  begin_first mid now (log_err.Full size need) want first ticks = absurd want

  -- what stands in front of the first gate is refused
  pub begin_heading : (now : ℕ) (found : Heading) (error : LogErr) → Err error ≡ heading_answer found → now ≡ before + calls + min 1 octets → BeginErrTicks calls octets before now error
  begin_heading now heading.Unformatted error e ticks =
      let is : log_err.Unformatted ≡ error = cc in subst (λ (x : LogErr). BeginErrTicks calls octets before now x) is ticks
  begin_heading now heading.NotALog error e ticks =
      let is : log_err.NotALog ≡ error = cc in subst (λ (x : LogErr). BeginErrTicks calls octets before now x) is ticks
  begin_heading now (heading.OtherHead rest) error e ticks =
      let is : log_err.OtherHead rest ≡ error = cc in subst (λ (x : LogErr). BeginErrTicks calls octets before now x) is ticks
  begin_heading now heading.Formatted error e ticks = absurd cc

-- a call more ahead of a beginning
pub begin_behind : {T : Type 0} (octets before mid now : ℕ) (result : Result T LogErr) → mid ≡ before + 1 → BeginTicks 1 octets mid now result → BeginTicks 2 octets before now result
begin_behind octets before mid now (Ok value) first ticks = omega (arith, first, ticks)
begin_behind octets before mid now (Err log_err.Memory) first ticks = omega (arith, first, ticks)
begin_behind octets before mid now (Err (log_err.DiskFault fault.Failed)) first ticks = (omega (arith, first, ticks.0), omega (arith, first, ticks.1))
begin_behind octets before mid now (Err (log_err.DiskFault fault.Memory)) first ticks = (omega (arith, first, ticks.0), omega (arith, first, ticks.1))
begin_behind octets before mid now (Err log_err.Unformatted) first ticks = omega (arith, first, ticks)
begin_behind octets before mid now (Err log_err.NotALog) first ticks = omega (arith, first, ticks)
begin_behind octets before mid now (Err (log_err.OtherHead rest)) first ticks = omega (arith, first, ticks)
begin_behind octets before mid now (Err (log_err.Damaged number)) first ticks = omega (arith, first, ticks)
begin_behind octets before mid now (Err (log_err.Full size need)) first ticks = omega (arith, first, ticks)

-- ---- the reading of a whole log

-- a reading that isn't begun
module _ (calls ends octets before now : ℕ) (read : Reading) where
  heading_whole : (is : Reading) → read ≡ is → AreRead is octets (min 1 octets) → now ≡ before + calls + min 1 octets
      → (count : ℕ) × AreRead read octets count × (now ≡ before + calls + count)
  heading_whole is same are ticks = (min 1 octets, subst (λ (r : Reading). AreRead r octets (min 1 octets)) (sym same) are, ticks)

  pub begun_whole : (error : LogErr) → Refuses read error → IsNotDamaged error → IsNotFull error → BeginErrTicks calls octets before now error → WholeErrTicks calls ends read octets before now error
  begun_whole log_err.Memory refuses not_damaged not_full ticks = (omega (arith, ticks), omega (arith, ticks))
  begun_whole (log_err.DiskFault fault.Failed) refuses not_damaged not_full ticks = (ticks.0, omega (arith, ticks.1, windows_some octets))
  begun_whole (log_err.DiskFault fault.Memory) refuses not_damaged not_full ticks = (ticks.0, omega (arith, ticks.1, windows_some octets))
  begun_whole log_err.Unformatted refuses not_damaged not_full ticks = heading_whole Unformatted refuses refl ticks
  begun_whole log_err.NotALog refuses not_damaged not_full ticks = heading_whole NotALog refuses refl ticks
  begun_whole (log_err.OtherHead rest) refuses not_damaged not_full ticks = heading_whole (OtherHead rest) refuses refl ticks
  begun_whole (log_err.Damaged number) refuses not_damaged not_full ticks = absurd not_damaged
  begun_whole (log_err.Full size need) refuses not_damaged not_full ticks = absurd not_full

-- one that is left off
pub left_whole : (calls ends octets before now : ℕ) (read : Reading) (error : LogErr) → IsWantOrFault error → before + calls + 1 ≤ now → now ≤ before + calls + windows_in octets
    → WholeErrTicks calls ends read octets before now error
left_whole calls ends octets before now read log_err.Memory want low high = (omega (arith, low), high)
left_whole calls ends octets before now read (log_err.DiskFault fault.Failed) want low high = (omega (arith, low), omega (arith, high))
left_whole calls ends octets before now read (log_err.DiskFault fault.Memory) want low high = (omega (arith, low), omega (arith, high))
left_whole calls ends octets before now read log_err.Unformatted want low high = absurd want
left_whole calls ends octets before now read log_err.NotALog want low high = absurd want
left_whole calls ends octets before now read (log_err.OtherHead rest) want low high = absurd want
left_whole calls ends octets before now read (log_err.Damaged number) want low high = absurd want
left_whole calls ends octets before now read (log_err.Full size need) want low high = absurd want

-- where a log ends of which all parts were given
gate_at : (is : Standing) (batch rest : List ℕ) (parts : List (List ℕ)) (behind : List ℕ) → ended_at is ≡ true → in_front parts (left_at is batch rest) ≡ Opened parts behind → behind ≡ rest
gate_at standing.Going batch rest parts behind ended e = absurd cc
gate_at standing.Closed batch rest parts behind ended e = cc
gate_at standing.Damaged batch rest parts behind ended e = absurd cc

module _ (head text : List ℕ) (parts : List (List ℕ)) (reader : ReaderState) (reading : IsReading head text parts reader) (within : IsWithin reader.windows) (ended : has_ended reader ≡ true) where
  gate_read : (behind : List ℕ) → parts_of head text ≡ Opened parts behind → length text - length behind ≤ reader.windows.read
  gate_read behind opened =
      let rest = gate_at reader.standing reader.batch (rest_of text reader.windows) parts behind ended (reading.all ∙ opened) in
      omega (arith, ap length rest, length-append reader.windows.ahead (drop reader.windows.read text), length-drop reader.windows.read text, within.read, reading.long)

  -- the windows that were read up to the end of a log, or up to a damaged batch
  pub all_read : IsReadTo parts (parts_of head text) → 1 ≤ windows_in reader.windows.read → AreRead (parts_of head text) (length text) (windows_in reader.windows.read)
  all_read (inl opened) some =
      subst (λ (r : Reading). AreRead r (length text) (windows_in reader.windows.read)) (sym opened.1)
      (windows_more (length text - length opened.0) reader.windows.read (gate_read opened.0 opened.1), windows_more reader.windows.read (length text) (omega (arith, within.read, reading.long)))
  all_read (inr damaged) some =
      subst (λ (r : Reading). AreRead r (length text) (windows_in reader.windows.read)) (sym damaged)
      (some, windows_more reader.windows.read (length text) (omega (arith, within.read, reading.long)))

-- once all were read, the reading is ended
module _ {T : Type 0} (calls ends octets before mid now : ℕ) (read : Reading) (count : ℕ) (are : AreRead read octets count) (few : count ≤ windows_in octets) (so_far : mid ≡ before + calls + count) where
  pub ended_whole : (result : Result T LogErr) → EndTicks ends mid now result → WholeTicks calls (calls_of_end ends) read octets before now result
  ended_whole (Ok value) ticks = (count, are, omega (arith, so_far, ticks))
  ended_whole (Err log_err.Memory) ticks = (omega (arith, so_far, ticks), omega (arith, so_far, ticks, few))
  ended_whole (Err (log_err.DiskFault fault.Failed)) ticks = (omega (arith, so_far, ticks.0), omega (arith, so_far, ticks.1, few))
  ended_whole (Err (log_err.DiskFault fault.Memory)) ticks = (omega (arith, so_far, ticks.0), omega (arith, so_far, ticks.1, few))
  ended_whole (Err log_err.Unformatted) ticks = (count, are, omega (arith, so_far, ticks))
  ended_whole (Err log_err.NotALog) ticks = (count, are, omega (arith, so_far, ticks))
  ended_whole (Err (log_err.OtherHead rest)) ticks = (count, are, omega (arith, so_far, ticks))
  ended_whole (Err (log_err.Damaged number)) ticks = (count, are, omega (arith, so_far, ticks))
  ended_whole (Err (log_err.Full size need)) ticks = (count, are, omega (arith, so_far, ticks))

-- how many windows were read, by the clock
pub windows_by : (calls before begun mid first last : ℕ) → begun ≡ before + calls + 1 → windows_in first ≡ 1 → mid + windows_in first ≡ begun + windows_in last → begun ≤ mid
    → (mid ≡ before + calls + windows_in last) × (1 ≤ windows_in last)
windows_by calls before begun mid first last is one ticks later = (omega (arith, is, one, ticks), omega (arith, is, one, ticks, later))

-- ---- the calls of a whole reading

pub none_more : (n : ℕ) → n ≡ n + 0
none_more n = omega arith

module _ {D B C : Type 0} (told : Meaning D B C) (old begun mid : D) (head : List ℕ) (calls : ℕ) (first reader : ReaderState) (first_is : told.clock begun ≡ told.clock old + calls + 1) (window : windows_in first.windows.read ≡ 1)
    (later : told.clock begun ≤ told.clock mid) where
  -- one that was left off
  pub whole_left : (ends octets : ℕ) (read : Reading) (error : LogErr) → IsWantOrFault error → first.windows.long ≡ octets
      → told.clock mid + windows_in first.windows.read ≤ told.clock begun + windows_in first.windows.long → WholeErrTicks calls ends read octets (told.clock old) (told.clock mid) error
  whole_left ends octets read error want long ticks =
      left_whole calls ends octets (told.clock old) (told.clock mid) read error want (omega (arith, first_is, later)) (omega (arith, first_is, window, ticks, ap windows_in long))

  module _ (text : List ℕ) (parts : List (List ℕ)) (reading : IsReading head text parts reader) (all : IsReadTo parts (parts_of head text)) (within : IsWithin reader.windows) (ended : has_ended reader ≡ true)
      (ticks : told.clock mid + windows_in first.windows.read ≡ told.clock begun + windows_in reader.windows.read) where
    -- one that was ended
    pub whole_ended : {T : Type 0} (new : D) (ends : ℕ) (result : Result T LogErr) → EndTicks ends (told.clock mid) (told.clock new) result
        → WholeTicks calls (calls_of_end ends) (parts_of head text) (length text) (told.clock old) (told.clock new) result
    whole_ended new ends result end =
        let by = windows_by calls (told.clock old) (told.clock begun) (told.clock mid) first.windows.read reader.windows.read first_is window ticks later in
        ended_whole calls ends (length text) (told.clock old) (told.clock mid) (told.clock new) (parts_of head text) (windows_in reader.windows.read) (all_read head text parts reader reading within ended all by.1)
        (windows_more reader.windows.read (length text) (omega (arith, within.read, reading.long))) by.0 result end

  -- one that ends where its parts were given
  pub whole_looked : {T : Type 0} (text : List ℕ) (parts_in : T → List (List ℕ)) (result : Result T LogErr)
      → IfOk result (λ value. IsReading head text (parts_in value) reader × IsReadTo (parts_in value) (parts_of head text)) → OnOk result (has_ended reader ≡ true) → IfErr result IsWantOrFault → IsWithin reader.windows
      → first.windows.long ≡ length text → ReadOnTicks (told.clock begun) (told.clock mid) first reader result
      → WholeTicks calls 0 (parts_of head text) (length text) (told.clock old) (told.clock mid) result
  whole_looked text parts_in (Ok value) given ended want within long ticks = whole_ended text (parts_in value) given.0 given.1 within ended ticks mid 0 (Ok value) (none_more (told.clock mid))
  whole_looked text parts_in (Err error) given ended want within long ticks = whole_left 0 (length text) (parts_of head text) error want long ticks
