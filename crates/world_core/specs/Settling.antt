-- Receipts that reached the gateway, and the entries that settle them.
use Rattle.std.specs.Prelude.{◌≡◌, ℕ, ◌≤◌, Bool, true, false, ◌==◌, ◌||◌, if◌then◌else◌, Option, Some, None, List, [], ◌∷◌, reverse, slice_get}
use Rattle.std.specs.List.{list_any}
use Rattle.ota_core.specs.Entry.{Reservation, is_settlement_of}
use Rattle.ota_core.specs.Questions.{state_of, last_moment}
use Rattle.ota_core.specs.declared.entries.Entry.{Entry}
use Rattle.ota_core.specs.declared.entries.Entry.TheVariants.{Done, Refused}
use Rattle.ota_core.specs.declared.questions.KeysetState.TheVariants as state
use Rattle.world_core.specs.Members.{In}
use Rattle.world_core.specs.WorldState.{WorldState}
use Rattle.world_core.specs.declared.answers.Made.{Made}
use Rattle.world_core.specs.declared.events.Event.{Event}
use Rattle.world_core.specs.declared.events.Event.TheVariants.{Begin}

abbrev pub answered_place : Made → Reservation
answered_place made = record { keyset = made.keyset; counter = made.counter }

-- the entry that settles a receipt: Done with its data for status 00, Refused with its status for 07 and 09
abbrev pub settlement_of : (by moment : ℕ) → Made → Option Entry
settlement_of by moment made =
    if made.status == 0x00 then Some (Done by moment made.keyset made.counter made.answer)
    else (if (made.status == 0x07) || (made.status == 0x09) then Some (Refused by moment made.keyset made.counter made.status) else None)

-- the entry settles a receipt that reached the gateway, whose keyset is open and whose counter isn't settled; and it isn't
-- earlier than the last entry
pub record SettlesReceipt (w : WorldState) (entry : Entry) : Type 0 where
  pub position : ℕ
  pub made : Made
  pub given : In position w.given
  pub there : slice_get w.made position ≡ Some made
  pub by : ℕ
  pub moment : ℕ
  pub settles : settlement_of by moment made ≡ Some entry
  pub in_use : state_of made.keyset (reverse w.history) ≡ state.Open
  pub unsettled : list_any (is_settlement_of (answered_place made)) (reverse w.history) ≡ false
  pub later : last_moment (reverse w.history) ≤ moment

-- the gateway begins to write the settlement, and is up with no batch open
pub record BeginsSettlement (w : WorldState) (event : Event) : Type 0 where
  pub entry : Entry
  pub is : event ≡ Begin (entry ∷ [])
  pub up : w.up ≡ true
  pub none : w.batch ≡ None
  pub settles : SettlesReceipt w entry
