-- How a call of the port begins, and what a send leaves.
use Rattle.std.specs.Prelude.{◌≡◌, ℕ, ◌+◌, ◌-◌, ◌^◌, min, Contains, List, [], ◌∷◌, ◌++◌, Result, Ok, Err}
use Rattle.disk_model.specs.Counts.{HasRisen}
use Rattle.ota_core.specs.declared.wants.Memory.{Memory as Want}
use Rattle.site_model.specs.declared.departures.Departure.{Departure}
use Rattle.site_model.specs.declared.site_faults.SiteFault.{SiteFault}
use Rattle.site_model.specs.declared.site_faults.SiteFault.TheVariants.{Failed, Memory}
use Rattle.air_sim.specs.declared.notes.Note.TheVariants.{Quiet}
use Rattle.air_sim.specs.declared.sim_site.SimSite.{SimSite}

-- one more; a count of 64 bits stands still at its end
abbrev pub counted : ℕ → ℕ
counted count = min (count + 1) (2 ^ 64 - 1)

module _ {D B C : Type 0} (old new : SimSite D B C) where
  -- the next call of the port, by its number from 1, is listed to fail
  abbrev pub IsToFail : Type 0
  IsToFail = Contains old.failing.items (counted old.calls)

  -- a call that is listed to fail fails, and does nothing
  abbrev pub BeginsCall : Result (Unit {0}) SiteFault → Type 0
  BeginsCall (Ok done) = (¬ IsToFail) × (new ≡ record old { calls = counted old.calls })
  BeginsCall (Err Failed) = IsToFail × (new ≡ record old { calls = counted old.calls; faults = counted old.faults }) × HasRisen old.faults new.faults
  BeginsCall (Err Memory) = ⊥

  -- a piece joins those that were sent, or memory is wanting
  abbrev pub KeepsPiece : Departure → Result (Unit {0}) Want → Type 0
  KeepsPiece piece (Ok done) = (new ≡ record old { parts = record old.parts { sent = new.parts.sent } }) × (new.parts.sent.items ≡ old.parts.sent.items ++ piece ∷ [])
  KeepsPiece piece (Err want) = (new ≡ record old { parts = record old.parts { sent = new.parts.sent } }) × (new.parts.sent.items ≡ old.parts.sent.items)

  -- a send that is listed to fail does nothing; any other appends the piece, unless memory is wanting
  abbrev pub SendsPiece : Departure → Result (Unit {0}) SiteFault → Type 0
  SendsPiece piece (Ok done) =
      (¬ IsToFail) × (new.parts.sent.items ≡ old.parts.sent.items ++ piece ∷ []) × (new.past.items ≡ old.past.items ++ (old.parts, Quiet) ∷ [])
      × (new ≡ record old { parts = record old.parts { sent = new.parts.sent }; past = new.past; calls = counted old.calls })
  SendsPiece piece (Err Failed) = IsToFail × (new ≡ record old { calls = counted old.calls; faults = counted old.faults })
  SendsPiece piece (Err Memory) =
      (¬ IsToFail) × (new.parts.sent.items ≡ old.parts.sent.items)
      × (new ≡ record old { parts = record old.parts { sent = new.parts.sent }; calls = counted old.calls; wants = counted old.wants })
