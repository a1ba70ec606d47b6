-- What stands at the moments of a disk's call, as the lane sees it.
use Rattle.std.proofs.Common.{◌≡◌, ℕ, ◌+◌, ◌≤◌, List, [], ◌∷◌, ◌++◌, length, ◌∙◌, ap, arith, length-append}
use Rattle.disk_model.specs.Disk.{Meaning, DiskRun}
use Rattle.ota_core.specs.declared.entries.Entry.{Entry}
use Rattle.counter_journal.specs.Standing.{StandsFor}
use Rattle.site_model.specs.Port.{PortState}
use Rattle.site_model.specs.Cards.{port_at, port_now}
use Rattle.world_core.specs.declared.lines.Line.{Line}
use Rattle.lane_engine.specs.Sound.{IsSoundState}

-- a state is sound with any image that stands for the same histories
pub state_again : (lane lanes : ℕ) (before image : List ℕ) (port : PortState) (chosen : ℕ → List Line) → IsSoundState lane lanes before port chosen
    → ((entries : List Entry) → StandsFor lane lanes entries before → StandsFor lane lanes entries image) → IsSoundState lane lanes image port chosen
state_again lane lanes before image port chosen sound again = record {
  history = sound.history;
  stands = again sound.history sound.stands;
  sent = sound.sent;
  left = sound.left;
  world = sound.world;
}

-- no list is longer by one than itself
pub not_longer : {X : Type 0} (xs ys : List X) (y : X) → xs ≡ xs ++ (ys ++ y ∷ []) → ⊥
not_longer xs ys y e =
    let counted : length xs ≡ length xs + length (ys ++ y ∷ []) = ap length e ∙ length-append xs (ys ++ y ∷ []) in
    let more : length (ys ++ y ∷ []) ≡ length ys + 1 = length-append ys (y ∷ []) in
    omega (arith, counted, more)

module _ {D B C : Type 0} (told : Meaning D B C) (port : B → PortState) (lines : C → ℕ → List Line) where
  -- in a call of the disk the port stands still
  pub port_still : (old new : D) (P : List ℕ → Type 0) → DiskRun told old new P → (k : ℕ) → told.clock old ≤ k → k ≤ told.clock new
      → port_at told port lines new k ≡ port_now told port lines old
  port_still old new P run k low high = ap port (run.stands k low high)
