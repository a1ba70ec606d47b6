-- When a site is sound for a lane: whatever a stop leaves of the journal and a power cut of each card, they agree with
-- each other and with what was sent and answered.
use Rattle.std.specs.Prelude.{ℕ, ◌≤◌, List, []}
use Rattle.disk_model.specs.Disk.{Meaning}
use Rattle.ota_core.specs.declared.entries.Entry.{Entry}
use Rattle.counter_journal.specs.Standing.{StandsFor}
use Rattle.site_model.specs.Port.{PortState}
use Rattle.site_model.specs.Cards.{port_at}
use Rattle.world_core.specs.Sound.{IsSound}
use Rattle.world_core.specs.declared.lines.Line.{Line}
use Rattle.world_core.specs.declared.segments.Sent.{Sent}
use Rattle.lane_engine.specs.World.{world_of, AreSent}

-- The image stands for a history of the lane; each piece that was sent is one of a reservation in it; and the world of
-- that history, these pieces and these cards is sound: the history is legal; each card's log is one that it can have, and
-- each line is of a reservation, with its reference and body; each settlement has its line; and each answer with status
-- 00, 07 or 09 has its finished line.
pub record IsSoundState (lane lanes : ℕ) (image : List ℕ) (port : PortState) (lines : ℕ → List Line) : Type 0 where
  pub history : List Entry
  pub stands : StandsFor lane lanes history image
  pub sent : List Sent
  pub left : AreSent history port.sent sent
  pub world : IsSound (world_of history port lines sent [])

module _ {D B C : Type 0} (told : Meaning D B C) (port : B → PortState) (lines : C → ℕ → List Line) where
  -- so for each image and for each choice of lines that a stop and power cuts at that moment may leave
  abbrev pub SoundAt : (lane lanes : ℕ) → D → ℕ → Type 0
  SoundAt lane lanes site moment = (image : List ℕ) (choice : C) → told.image_at site moment image → told.choice_at site moment choice
      → IsSoundState lane lanes image (port_at told port lines site moment) (lines choice)

  -- at each moment from one on
  abbrev pub SoundSince : (lane lanes from : ℕ) → D → Type 0
  SoundSince lane lanes from site = (moment : ℕ) → from ≤ moment → moment ≤ told.clock site → SoundAt lane lanes site moment
