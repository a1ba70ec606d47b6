-- What is known behind a write that is synced.
use Rattle.std.proofs.Common.{◌≡◌, ℕ, List, IsTrue, Result, Ok, Err, OnOk, sym, subst}
use Rattle.disk_model.specs.declared.faults.DiskFault.{DiskFault}
use Rattle.disk_model.specs.declared.faults.DiskFault.TheVariants.{Failed, Memory}
use Rattle.disk_model.specs.Disk.{Meaning, Tells, Changes, Only, image_now, DiskRun}
use Rattle.disk_model.specs.Runs.{joined, weaker, left_now}

module _ {D B C : Type 0} (told : Meaning D B C) where
  -- a disk that told still does
  pub still_tells : (old new : D) → told.tells new ≡ told.tells old → Tells told old → Tells told new
  still_tells old new same tells = subst IsTrue (sym same) tells

  -- after a sync at Ok a stop leaves what a read gives
  pub synced : (mid new : D) (result : Result (Unit {0}) DiskFault) → OnOk result (Only (told.seen mid) (image_now told new))
      → Changes (told.seen mid) (told.seen new) result (told.seen mid) → OnOk result (Only (told.seen new) (image_now told new))
  synced mid new (Ok done) only same = subst (λ (octets : List ℕ). Only octets (image_now told new)) (sym same) only
  synced mid new (Err Failed) only same = tt
  synced mid new (Err Memory) only same = tt

-- what follows from two facts at Ok
pub both_ok : {T E : Type 0} {P Q R : Type 0} (result : Result T E) → OnOk result P → OnOk result Q → (P → Q → R) → OnOk result R
both_ok (Ok value) p q then_r = then_r p q
both_ok (Err error) p q then_r = tt

-- what follows from a fact at Ok
pub one_ok : {T E : Type 0} {P R : Type 0} (result : Result T E) → OnOk result P → (P → R) → OnOk result R
one_ok (Ok value) p then_r = then_r p
one_ok (Err error) p then_r = tt

module _ {D B C : Type 0} (told : Meaning D B C) where
  -- calls that only look, one after the other
  pub looks : (old mid new : D) → DiskRun told old mid (image_now told old) → DiskRun told mid new (image_now told mid) → DiskRun told old new (image_now told old)
  looks old mid new first second =
      joined told old mid new (image_now told old) first
      (weaker told mid new (image_now told mid) (image_now told old) second (left_now told old mid (image_now told old) first))

  -- what a stop leaves is left too after calls that only look
  pub still_only : (old new : D) (octets : List ℕ) → Only octets (image_now told old) → DiskRun told old new (image_now told old) → Only octets (image_now told new)
  still_only old new octets only run = λ image now. only image (left_now told old new (image_now told old) run image now)
