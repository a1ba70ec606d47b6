-- What a site does while it hands pieces over.
use Rattle.std.specs.Prelude.{◌≡◌, ℕ, ◌+◌, Option, Some, None, List, [], ◌∷◌, ◌++◌, Result, Ok, Err, OnOk}
use Rattle.disk_model.specs.Disk.{Meaning}
use Rattle.site_model.specs.Cards.{Keeps}
use Rattle.site_model.specs.Port.{PortState, IsPolling}
use Rattle.site_model.specs.declared.site_faults.SiteFault.{SiteFault}
use Rattle.site_model.specs.Runs.{PortRun}
use Rattle.air_sim.specs.declared.sim_site.SimSite.{SimSite}
use Rattle.air_sim.specs.Lines.{lines_for}
use Rattle.air_sim.specs.Messages.{Message}
use Rattle.air_sim.specs.Told.{port_of, sim_told}

-- nothing is sent or given, and no poll passes
pub record IsBetween (before now : PortState) : Type 0 where
  pub sent : now.sent ≡ before.sent
  pub given : now.given ≡ before.given
  pub polls : now.polls ≡ before.polls

-- cards may be at work, and keep what the cards of a site keep
pub record Works {D B C : Type 0} (told : Meaning D B C) (old new : SimSite D B C) : Type 0 where
  pub port : PortRun (sim_told told) old new (IsBetween (port_of told old))
  pub keeps : Keeps (sim_told told) (λ (port : PortState). port) lines_for old new
  pub journal : new.parts.journal ≡ old.parts.journal

-- but for the cards, the messages that they made, and what is past, the site is as it was
abbrev pub handed : {D B C : Type 0} → SimSite D B C → SimSite D B C → SimSite D B C
handed old new = record old { parts = record old.parts { cards = new.parts.cards; messages = new.parts.messages }; past = new.past }

-- and but for how far the schedule has come
abbrev pub progressed : {D B C : Type 0} → SimSite D B C → SimSite D B C → SimSite D B C
progressed old new = record (handed old new) { next_act = new.next_act; next_piece = new.next_piece }

-- what a poll gives joins what was given
abbrev pub gives_by : PortState → PortState → Result (Option Message) SiteFault → Type 0
gives_by before now (Ok (Some message)) = now.given ≡ before.given ++ (message.0, message.1.items) ∷ []
gives_by before now (Ok None) = now.given ≡ before.given
gives_by before now (Err fault) = Unit {0}

-- a poll: cards may be at work, and at its end a message is given, or none
pub record PollRuns {D B C : Type 0} (told : Meaning D B C) (old new : SimSite D B C) (result : Result (Option Message) SiteFault) : Type 0 where
  pub port : PortRun (sim_told told) old new (IsPolling (port_of told old))
  pub keeps : Keeps (sim_told told) (λ (port : PortState). port) lines_for old new
  pub journal : new.parts.journal ≡ old.parts.journal
  pub given : gives_by (port_of told old) (port_of told new) result
  pub polls : OnOk result ((port_of told new).polls ≡ (port_of told old).polls + 1)
