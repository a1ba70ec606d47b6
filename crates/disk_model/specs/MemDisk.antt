-- A disk in memory, which tells all.
use Rattle.std.specs.Prelude.{◌≡◌, ◌+◌, ◌-◌, ◌^◌, ℕ, Bool, true, false, min, List, [], ◌∷◌, ◌++◌, length, take, IsSome, Contains, ◌⊎◌, Result, Ok, Err}
use Rattle.std.specs.Option.{option_map_or}
use Rattle.std.proofs.Common.{sym, subst, arith}
use Rattle.std.proofs.lemmas.List.{take_all}
use Rattle.disk_model.specs.EffectLaws.{are_images}
use Rattle.disk_model.specs.Counts.{Counts}
use Rattle.disk_model.specs.Disk.{Meaning}
use Rattle.disk_model.specs.Contents.{Contents}
use Rattle.disk_model.specs.Effects.{Effect, Nothing, Settles, contents_after, IsImage}
use Rattle.disk_model.specs.declared.faults.DiskFault.{DiskFault}
use Rattle.disk_model.specs.declared.faults.DiskFault.TheVariants.{Failed, Memory}
use Rattle.disk_model.specs.declared.call_kinds.Call.{Call}
use Rattle.disk_model.specs.ArmedCalls.{armed_at}
use Rattle.disk_model.specs.declared.armed_calls.ArmedCall.{ArmedCall}
use Rattle.disk_model.specs.declared.images.Image.{Image}

-- What it held at first, what its calls did since, and which calls fail.
pub record MemState : Type 0 where
  pub first : List ℕ
  pub effects : List Effect
  pub calls : List Call
  -- the numbers of the calls that fail without effect
  pub failing : List ℕ
  pub armed : List ArmedCall
  -- a call could not be armed for want of memory, which the next call answers
  pub starved : Bool
  pub counts : Counts

-- a disk that holds these octets, synced, before its first call
abbrev pub fresh : List ℕ → MemState
fresh octets = record { first = octets; effects = []; calls = []; failing = []; armed = []; starved = false; counts = record { faults = 0; wants = 0; beside = 0 } }

abbrev pub contents : MemState → Contents
contents disk = contents_after disk.first disk.effects

-- the number of the next call, from 1
abbrev pub next_call : MemState → ℕ
next_call disk = length disk.calls + 1

-- what a failing call does
abbrev pub failure_at : List ArmedCall → ℕ → Effect
failure_at armed call = option_map_or Settles (armed_at armed call) Nothing

-- the call with this number is listed or armed
abbrev pub FailsAt : List ℕ → List ArmedCall → ℕ → Type 0
FailsAt failing armed call = Contains failing call ⊎ IsSome (armed_at armed call)

-- the next call is one of those that fail
abbrev pub Fails : MemState → Type 0
Fails disk = FailsAt disk.failing disk.armed (next_call disk)

-- a count of 64 bits one higher, or at its greatest value
abbrev pub next : ℕ → ℕ
next count = min (count + 1) (2 ^ 64 - 1)

-- a call found no memory and did nothing
abbrev pub Wants : MemState → MemState → Type 0
Wants old new = new ≡ record old {
  starved = false;
  counts = record { faults = old.counts.faults; wants = next old.counts.wants; beside = old.counts.beside };
}

-- A call of that kind did this, or failed exactly as it was told to, or found no memory and did nothing.
abbrev pub Steps : {T : Type 0} → MemState → MemState → Result T DiskFault → Call → Effect → Type 0
Steps old new (Ok _) call effect = (old.starved ≡ false) × (¬ Fails old) × (new ≡ record old { calls = old.calls ++ call ∷ []; effects = old.effects ++ effect ∷ [] })
Steps old new (Err Failed) call effect = (old.starved ≡ false) × Fails old × (new ≡ record old {
  calls = old.calls ++ call ∷ [];
  effects = old.effects ++ failure_at old.armed (next_call old) ∷ [];
  counts = record { faults = next old.counts.faults; wants = old.counts.wants; beside = old.counts.beside };
})
Steps old new (Err Memory) call effect = Wants old new

-- The call-th call from now is armed, or the next call is to answer want of memory for it.
abbrev pub Arms : MemState → MemState → ℕ → Image → Type 0
Arms old new call image =
    (new ≡ record old { armed = old.armed ++ (record { call = length old.calls + call; image = image }) ∷ [] })
    ⊎ (new ≡ record old { starved = true })

-- all of it is told, and it has nothing beside it
abbrev pub mem_told : Meaning MemState (Unit {0}) (Unit {0})
mem_told = record {
  tells = λ _. true;
  seen = λ disk. (contents disk).seen;
  clock = λ disk. length disk.effects;
  image_at = λ disk moment. IsImage disk.first (take moment disk.effects);
  beside_at = λ _ _. tt;
  choice_at = λ _ _ _. Unit {0};
}

-- what a read gives is one of the images now
pub seen_is_image : (disk : MemState) → IsImage disk.first (take (length disk.effects) disk.effects) (contents disk).seen
seen_is_image disk = subst (λ es. IsImage disk.first es (contents disk).seen) (sym (take_all (length disk.effects) disk.effects (omega arith))) (are_images disk.first disk.effects).seen
