-- What the cards of a site without cards do: nothing.
use Rattle.std.proofs.Common.{ℕ, List, [], ◌∷◌, map, refl, ap}
use Rattle.disk_model.specs.Disk.{Meaning}
use Rattle.site_model.specs.BareTold.{site_told}
use Rattle.site_model.specs.Cards.{port_at}
use Rattle.site_model.specs.declared.bare_site.BareSite.{BareSite}
use Rattle.world_core.specs.declared.events.Event.{Event}
use Rattle.world_core.specs.declared.segments.Sent.{Sent}
use Rattle.lane_engine.specs.Course.{CardsActSince, OnlyLeave}
use Rattle.lane_engine.specs.Departing.{leaving}
use Rattle.lane_engine.proofs.LeavingLemmas.{leaves_run}

-- of pieces that leave none is an event of the cards
only_leave : (pieces : List Sent) → OnlyLeave pieces (map leaving pieces)
only_leave [] = refl
only_leave (piece ∷ pieces) = ap (λ (l : List Event). leaving piece ∷ l) (only_leave pieces)

pub bare_acts : {E B C : Type 0} (told : Meaning E B C) (site : BareSite E) (lane lanes from : ℕ) → CardsActSince (site_told told) (λ port. port) (λ _ _. []) lane lanes from site
bare_acts told site lane lanes from moment low below image history at stands sent more are then reserved after chosen = (
  tt,
  tt,
  record {
    events = map leaving more;
    others = only_leave more;
    runs = λ given. leaves_run history (port_at (site_told told) (λ port. port) (λ _ _. []) site moment) (λ _. []) given sent more reserved;
  },
)
