-- The loops that read a log to its end.
use Rattle.std.proofs.Common.{◌≡◌, ℕ, ◌+◌, ◌≤◌, List, Bool, Ok, Err, length, refl, sym, ◌∙◌, ap, subst, arith}
use Rattle.disk_model.specs.Counts.{Counts}
use Rattle.disk_model.specs.Disk.{Meaning, Tells, image_now, DiskRun}
use Rattle.disk_model.specs.Runs.{at_once}
use Rattle.gate_log.specs.ReadingLaws.{look_on, tells_on}
use Rattle.gate_log.specs.declared.log_errors.LogErr.{LogErr}
use Rattle.gate_log.specs.Windows.{windows_in, IsWithin}
use Rattle.gate_log.specs.Readers.{ReaderState, IsReading, IsReadOn, ReadOnTicks}

module _ {D B C : Type 0} (told : Meaning D B C) (counts : D → Counts) where
  -- what looking left of a disk so far
  pub record HasLooked (old now : D) : Type 0 where
    pub tells : told.tells now ≡ told.tells old
    pub counts_are : counts now ≡ counts old
    pub content : Tells told old → told.seen now ≡ told.seen old
    pub moments : Tells told old → DiskRun told old now (image_now told old)

  pub looked_on : (old mid new : D) → HasLooked old mid → told.tells new ≡ told.tells mid → counts new ≡ counts mid → (Tells told mid → told.seen new ≡ told.seen mid)
      → (Tells told mid → DiskRun told mid new (image_now told mid)) → HasLooked old new
  looked_on old mid new looked tells counts_are content moments = record {
    tells = tells ∙ looked.tells;
    counts_are = counts_are ∙ looked.counts_are;
    content = λ is. content (tells_on told old mid looked.tells is) ∙ looked.content is;
    moments = λ is. look_on told old mid new (looked.moments is) (moments (tells_on told old mid looked.tells is));
  }

  -- a turn, seen from the start of the loop
  pub turn_seen : (old mid new : D) → HasLooked old mid → Tells told old → (Tells told mid → told.seen new ≡ told.seen mid) → (before after : ReaderState) (more : Bool)
      → (Tells told mid → (head : List ℕ) (parts : List (List ℕ)) → IsReading head (told.seen mid) parts before → IsReadOn head (told.seen new) parts more after)
      → (head : List ℕ) (parts : List (List ℕ)) → IsReading head (told.seen old) parts before → IsReadOn head (told.seen old) parts more after
  turn_seen old mid new looked tells content before after more turn head parts reading =
      let mid_tells = tells_on told old mid looked.tells tells in
      let same : told.seen mid ≡ told.seen old = looked.content tells in
      let there = subst (λ (t : List ℕ). IsReading head t parts before) (sym same) reading in
      subst (λ (t : List ℕ). IsReadOn head t parts more after) (content mid_tells ∙ same) (turn mid_tells head parts there)

  looked_none : (disk : D) → HasLooked disk disk
  looked_none disk = record { tells = refl; counts_are = refl; content = λ is. refl; moments = λ is. at_once told disk (image_now told disk) (λ image now. now) }

  module _ (old mid new : D) (looked : HasLooked old mid) (tells : Tells told old) (first before after : ReaderState) where
    -- the clock after a turn, seen from the start of the loop
    pub turn_ticks : (more : Bool) → before.windows.long ≡ length (told.seen old) → told.clock mid + windows_in first.windows.read ≡ told.clock old + windows_in before.windows.read
        → (Tells told mid → before.windows.long ≡ length (told.seen mid) → ReadOnTicks {T = Bool} (told.clock mid) (told.clock new) before after (Ok more))
        → told.clock new + windows_in first.windows.read ≡ told.clock old + windows_in after.windows.read
    turn_ticks more long so_far turn =
        let ticks : told.clock new + windows_in before.windows.read ≡ told.clock mid + windows_in after.windows.read =
        turn (tells_on told old mid looked.tells tells) (long ∙ ap length (sym (looked.content tells))) in
        omega (arith, so_far, ticks)

    -- and after one that met a want or a fault
    pub last_ticks : (error : LogErr) → first.windows.long ≡ length (told.seen old) → before.windows.long ≡ length (told.seen old)
        → told.clock mid + windows_in first.windows.read ≡ told.clock old + windows_in before.windows.read
        → (Tells told mid → before.windows.long ≡ length (told.seen mid) → ReadOnTicks {T = Bool} (told.clock mid) (told.clock new) before after (Err error))
        → told.clock new + windows_in first.windows.read ≤ told.clock old + windows_in first.windows.long
    last_ticks error whole long so_far turn =
        let ticks : told.clock new + windows_in before.windows.read ≤ told.clock mid + windows_in before.windows.long =
        turn (tells_on told old mid looked.tells tells) (long ∙ ap length (sym (looked.content tells))) in
        omega (arith, so_far, ticks, ap windows_in (long ∙ sym whole))

-- no more windows were read than there are
pub stop_ticks : (before now octets : ℕ) (first after : ReaderState) → first.windows.long ≡ octets → after.windows.long ≡ octets → IsWithin after.windows
    → now + windows_in first.windows.read ≡ before + windows_in after.windows.read → now + windows_in first.windows.read ≤ before + windows_in first.windows.long
stop_ticks before now octets first after whole long within ticks = omega (arith, whole, long, within.read, ticks)
