-- What a new site has, and what is lent of the pieces that were sent.
use Rattle.std.specs.Prelude.{◌≡◌, ℕ, Some, List, [], slice_get}
use Rattle.ota_core.specs.declared.cards.CardId.{CardId}
use Rattle.ota_core.specs.declared.references.Reference.{Reference}
use Rattle.site_model.specs.declared.departures.Departure.{Departure}
use Rattle.air_sim.specs.declared.sim_site.SimSite.{SimSite}

-- nothing was asked of the site yet, and no call is listed to fail
pub record IsFresh {D B C : Type 0} (site : SimSite D B C) : Type 0 where
  pub sent : site.parts.sent.items ≡ []
  pub messages : site.parts.messages.items ≡ []
  pub past : site.past.items ≡ []
  pub next_act : site.next_act ≡ 0
  pub next_piece : site.next_piece ≡ 0
  pub next_message : site.parts.messages.next ≡ 0
  pub failing : site.failing.items ≡ []
  pub calls : site.calls ≡ 0
  pub polls : site.polls ≡ 0
  pub empty_polls : site.empty_polls ≡ 0
  pub faults : site.faults ≡ 0
  pub wants : site.wants ≡ 0

-- the piece at this position of those that were sent
abbrev pub IsPieceAt : List Departure → ℕ → CardId → List ℕ → Reference → ℕ → Type 0
IsPieceAt sent at card packet reference place = slice_get sent at ≡ Some (record { card = card; packet = packet; reference = reference; place = place })
