-- How calls that only look at a disk go on, one after another.
use Rattle.std.specs.Prelude.{◌≡◌, ℕ, ◌+◌, ◌≤◌, List, length, Result, Ok, Err, OnOk, IsTrue, refl}
use Rattle.std.proofs.Common.{sym, ◌∙◌, ap, subst, arith}
use Rattle.disk_model.specs.Counts.{Counts}
use Rattle.disk_model.specs.Disk.{Meaning, Tells, Only, image_now, DiskRun}
use Rattle.disk_model.specs.Runs.{joined, weaker, left_now, at_once}
use Rattle.gate_log.specs.declared.log_errors.LogErr.{LogErr}
use Rattle.gate_log.specs.declared.log_errors.LogErr.TheVariants as log_err
use Rattle.gate_log.specs.Answers.{LogCause, UnlessFault}
use Rattle.gate_log.specs.Windows.{WindowsState, windows_in, ReadTicks, Looks}

module _ {D B C : Type 0} (told : Meaning D B C) where
  -- one look after another
  pub look_on : (old mid new : D) → DiskRun told old mid (image_now told old) → DiskRun told mid new (image_now told mid) → DiskRun told old new (image_now told old)
  look_on old mid new first second =
      joined told old mid new (image_now told old) first
      (weaker told mid new (image_now told mid) (image_now told old) second (left_now told old mid (image_now told old) first))

  -- what alone a stop leaves it still leaves alone after a look
  pub only_on : (old new : D) (octets : List ℕ) → Only octets (image_now told old) → DiskRun told old new (image_now told old) → Only octets (image_now told new)
  only_on old new octets only run = λ image now. only image (left_now told old new (image_now told old) run image now)

  -- a disk that told still does
  pub tells_on : (old new : D) → told.tells new ≡ told.tells old → Tells told old → Tells told new
  tells_on old new same tells = subst IsTrue (sym same) tells

  module _ (counts : D → Counts) where
    -- nothing was looked at
    pub looks_none : {T : Type 0} (disk : D) (was now : WindowsState) (value : T) → now.read ≡ was.read → now.long ≡ was.long → Looks told counts disk disk was now (Ok value)
    looks_none disk was now value read long = record {
      tells = refl;
      cause = record { faults = omega arith; wants = omega arith; beside = refl; answer = refl };
      err = tt;
      content = λ tells. refl;
      moments = λ tells. at_once told disk (image_now told disk) (λ image is. is);
      long = λ tells is. long;
      clock = λ tells is. ap (λ (n : ℕ). told.clock disk + windows_in n) (sym read);
      shorter = omega (arith, long);
    }

    -- memory was wanting
    pub looks_want : {T : Type 0} (disk : D) (was now : WindowsState) → was.read ≤ was.long → now.long ≤ was.long → Looks told counts {T = T} disk disk was now (Err log_err.Memory)
    looks_want disk was now within shorter = record {
      tells = refl;
      cause = record { faults = omega arith; wants = omega arith; beside = refl; answer = refl };
      err = tt;
      content = λ tells. refl;
      moments = λ tells. at_once told disk (image_now told disk) (λ image is. is);
      long = λ tells is. tt;
      clock = λ tells is. omega (arith, within);
      shorter = shorter;
    }

    joined_cause : {T U : Type 0} (before mid now : Counts) (value : T) (result : Result U LogErr) → LogCause before mid (Ok value) → LogCause mid now result → LogCause before now result
    joined_cause before mid now value result first second = subst (λ (c : Counts). LogCause c now result) first.answer second

    joined_content : {U : Type 0} (result : Result U LogErr) (before mid now : List ℕ) → mid ≡ before → UnlessFault result (now ≡ mid) → UnlessFault result (now ≡ before)
    joined_content result before mid now same content = subst (λ (l : List ℕ). UnlessFault result (now ≡ l)) same content

    joined_long : {U : Type 0} (result : Result U LogErr) (was is now : WindowsState) → is.long ≡ was.long → OnOk result (now.long ≡ is.long) → OnOk result (now.long ≡ was.long)
    joined_long result was is now same long = subst (λ (n : ℕ). OnOk result (now.long ≡ n)) same long

    joined_ticks : {U : Type 0} (result : Result U LogErr) (before mid after : ℕ) (was is now : WindowsState) → is.long ≡ was.long → mid + windows_in was.read ≡ before + windows_in is.read
        → ReadTicks mid after is now result → ReadTicks before after was now result
    joined_ticks (Ok value) before mid after was is now same first second = omega (arith, first, second)
    joined_ticks (Err error) before mid after was is now same first second = omega (arith, first, second, ap windows_in same)

    -- one look after another, of which the first answered Ok
    pub looks_then : {T U : Type 0} (old mid new : D) (was is now : WindowsState) (value : T) (result : Result U LogErr)
        → Looks told counts old mid was is (Ok value) → Looks told counts mid new is now result → Looks told counts old new was now result
    looks_then old mid new was is now value result first second = record {
      tells = second.tells ∙ first.tells;
      cause = joined_cause (counts old) (counts mid) (counts new) value result first.cause second.cause;
      err = second.err;
      content = λ tells. joined_content result (told.seen old) (told.seen mid) (told.seen new) (first.content tells) (second.content (on tells));
      moments = λ tells. look_on old mid new (first.moments tells) (second.moments (on tells));
      long = λ tells is_long. joined_long result was is now (first.long tells is_long) (second.long (on tells) (still tells is_long));
      clock = λ tells is_long. joined_ticks result (told.clock old) (told.clock mid) (told.clock new) was is now (first.long tells is_long) (first.clock tells is_long) (second.clock (on tells) (still tells is_long));
      shorter = omega (arith, first.shorter, second.shorter);
    }
      where
        on : Tells told old → Tells told mid
        on tells = tells_on old mid first.tells tells

        still : Tells told old → was.long ≡ length (told.seen old) → is.long ≡ length (told.seen mid)
        still tells is_long = first.long tells is_long ∙ is_long ∙ ap length (sym (first.content tells))

    -- the value of the answer says nothing of the look
    pub looks_as : {T U : Type 0} (old new : D) (was now : WindowsState) (value : T) (other : U) → Looks told counts old new was now (Ok value) → Looks told counts old new was now (Ok other)
    looks_as old new was now value other looks = record {
      tells = looks.tells;
      cause = record { faults = looks.cause.faults; wants = looks.cause.wants; beside = looks.cause.beside; answer = looks.cause.answer };
      err = tt;
      content = looks.content;
      moments = looks.moments;
      long = looks.long;
      clock = looks.clock;
      shorter = looks.shorter;
    }
