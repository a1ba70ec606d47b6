-- The sites of lanes over the files of a folder.
use Rattle.std.specs.Prelude.{◌≡◌, ℕ, ◌+◌, ◌%◌, ◌==◌, List, [], ◌∷◌, map, Result, Ok, Err}
use Rattle.std.specs.List.{filter}
use Rattle.card_store.specs.declared.store_errors.StoreErr.{StoreErr}
use Rattle.card_store.specs.declared.store_errors.StoreErr.TheVariants as store_err
use Rattle.disk_model.specs.declared.faults.DiskFault.TheVariants as disk_fault
use Rattle.ota_core.specs.declared.cards.CardFacts.{CardFacts}
use Rattle.site_model.specs.declared.site_faults.SiteFault.{SiteFault}
use Rattle.site_model.specs.declared.site_faults.SiteFault.TheVariants.{Failed, Memory}
use Rattle.world_core.specs.Members.{In}
use Rattle.air_sim.specs.declared.schedules.Schedule.TheVariants.{Orderly}
use Rattle.air_sim.specs.declared.sim_site.SimSite.{SimSite}
use Rattle.air_sim.specs.Cards.{facts_of}
use Rattle.air_sim.specs.Views.{IsFresh}

-- the cards of a lane, in the order of the plan
abbrev pub cards_of : ℕ → ℕ → List CardFacts → List CardFacts
cards_of lanes lane cards = filter (λ card. card.card.0 % lanes == lane) cards

-- nothing was asked of it yet, it polls in order, and has the cards of its lane
pub record IsFileSite {D B C : Type 0} (cards : List CardFacts) (lanes lane : ℕ) (site : SimSite D B C) : Type 0 where
  pub cards_are : map facts_of site.parts.cards.items ≡ cards_of lanes lane cards
  pub schedule : site.schedule ≡ Orderly
  pub fresh : IsFresh site

-- those of the lanes from this one on
abbrev pub AreFileSites : {D B C : Type 0} → List CardFacts → ℕ → ℕ → List (SimSite D B C) → Type 0
AreFileSites cards lanes lane [] = Unit {0}
AreFileSites cards lanes lane (site ∷ sites) = IsFileSite cards lanes lane site × AreFileSites cards lanes (lane + 1) sites

-- the fault that the refusal of a card's store is
abbrev pub fault_by : StoreErr → SiteFault
fault_by store_err.Memory = Memory
fault_by (store_err.DiskFault disk_fault.Memory) = Memory
fault_by other = Failed

-- a failure comes from the store of one of the cards, for another cause than want of memory
abbrev pub RefusedBy : List CardFacts → SiteFault → Type 0
RefusedBy cards Memory = Unit {0}
RefusedBy cards Failed = (card : CardFacts) × In card cards × (error : StoreErr) × (fault_by error ≡ Failed)

abbrev pub HasRefusal : {X : Type 0} → List CardFacts → Result X SiteFault → Type 0
HasRefusal cards (Ok value) = Unit {0}
HasRefusal cards (Err fault) = RefusedBy cards fault
