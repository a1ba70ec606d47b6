-- What a poll does by its schedule: which pieces it hands over, and what it gives.
use Rattle.std.specs.Prelude.{◌≡◌, ◌⊎◌, ℕ, ◌+◌, ◌<◌, ◌≤◌, Option, Some, None, List, [], ◌∷◌, ◌++◌, length, map, drop, slice_get, Result, Ok, Err}
use Rattle.disk_model.specs.Counts.{Counts}
use Rattle.disk_model.specs.Disk.{Meaning}
use Rattle.ota_core.specs.declared.wants.Memory.{Memory as Want}
use Rattle.site_model.specs.declared.site_faults.SiteFault.{SiteFault}
use Rattle.site_model.specs.declared.site_faults.SiteFault.TheVariants.{Failed, Memory}
use Rattle.air_sim.specs.declared.parts.Parts.{Parts}
use Rattle.air_sim.specs.declared.schedules.Act.{Act}
use Rattle.air_sim.specs.declared.schedules.Act.TheVariants.{Deliver, Give, Pass}
use Rattle.air_sim.specs.declared.schedules.Schedule.{Schedule}
use Rattle.air_sim.specs.declared.schedules.Schedule.TheVariants.{Orderly, Listed}
use Rattle.air_sim.specs.declared.sim_site.SimSite.{SimSite}
use Rattle.air_sim.specs.Handing.{Handing, HandsOverAll}
use Rattle.air_sim.specs.Messages.{Message}
use Rattle.air_sim.specs.PortCalls.{IsToFail, counted}

-- ---- the pieces

-- these positions, one after the other, without power cuts
abbrev pub InOrderFrom : ℕ → List Handing → Type 0
InOrderFrom position [] = Unit {0}
InOrderFrom position (handing ∷ handings) = (handing.position ≡ position) × (handing.cut ≡ None) × InOrderFrom (position + 1) handings

-- none was answered by a message
abbrev pub AreSilent : List Handing → Type 0
AreSilent [] = Unit {0}
AreSilent (handing ∷ handings) = (handing.reply ≡ Some []) × AreSilent handings

-- none but the last was
abbrev pub AreSilentButLast : List Handing → Type 0
AreSilentButLast [] = Unit {0}
AreSilentButLast (handing ∷ []) = Unit {0}
AreSilentButLast (handing ∷ other ∷ handings) = (handing.reply ≡ Some []) × AreSilentButLast (other ∷ handings)

-- memory was wanting for the last
abbrev pub EndsInWant : List Handing → Type 0
EndsInWant [] = ⊥
EndsInWant (handing ∷ []) = handing.reply ≡ None
EndsInWant (handing ∷ other ∷ handings) = EndsInWant (other ∷ handings)

-- memory was wanting for none
abbrev pub HaveReplies : List Handing → Type 0
HaveReplies [] = Unit {0}
HaveReplies (handing ∷ handings) = ((messages : List (List ℕ)) × (handing.reply ≡ Some messages)) × HaveReplies handings

-- ---- how far a schedule has come

pub record Progress (D B C : Type 0) : Type 0 where
  pub parts : Parts D B C
  pub next_act : ℕ
  pub next_piece : ℕ

abbrev pub progress_of : {D B C : Type 0} → SimSite D B C → Progress D B C
progress_of site = record { parts = site.parts; next_act = site.next_act; next_piece = site.next_piece }

-- the parts, before the message that is next was given
abbrev pub with_next : {D B C : Type 0} → ℕ → Parts D B C → Parts D B C
with_next next parts = record parts { messages = record parts.messages { next = next } }

-- the act that hands this piece over
abbrev pub act_of : Handing → Act
act_of handing = Deliver handing.position handing.cut

-- the message that is given is the one at this position, where it is there
abbrev pub IsMadeAt : ℕ → ℕ → Option ℕ → Type 0
IsMadeAt count position (Some given) = (given ≡ position) × (position < count)
IsMadeAt count position None = count ≤ position

module _ {D B C : Type 0} (told : Meaning D B C) (counts : D → Counts) (old new : Progress D B C) where
  abbrev made_before : ℕ
  made_before = length old.parts.messages.items

  abbrev made_now : ℕ
  made_now = length new.parts.messages.items

  -- ---- orderly

  -- The oldest message that wasn't given yet is given. Where there is none and no piece that is left was answered by a message,
  -- none is.
  abbrev pub OrderlyGives : List Handing → Result (Option ℕ) Want → Type 0
  OrderlyGives handings (Ok (Some position)) =
      (position ≡ old.parts.messages.next) × (position < made_now) × HaveReplies handings × (new.parts.messages.next ≡ old.parts.messages.next + 1)
  OrderlyGives handings (Ok None) =
      (made_now ≤ old.parts.messages.next) × AreSilent handings × (length old.parts.sent.items ≤ new.next_piece) × (new.parts.messages.next ≡ old.parts.messages.next)
  OrderlyGives handings (Err want) = EndsInWant handings × (new.parts.messages.next ≡ old.parts.messages.next)

  pub record IsOrderly (next : Result (Option ℕ) Want) : Type 0 where
    pub handings : List Handing
    pub hands : HandsOverAll told counts old.parts handings (with_next old.parts.messages.next new.parts)
    -- the pieces that weren't handed over yet, in the order in which they were sent
    pub in_order : InOrderFrom old.next_piece handings
    pub piece : new.next_piece ≡ old.next_piece + length handings
    -- none while a message waits to be given, and none behind the first that was answered
    pub waits : old.parts.messages.next < made_before → handings ≡ []
    pub silent : AreSilentButLast handings
    pub gives : OrderlyGives handings next

  -- the pieces that are left are handed over until a card answers
  abbrev pub InOrderEnds : List Handing → Result (Unit {0}) Want → Type 0
  InOrderEnds handings (Ok done) = HaveReplies handings × ((made_before < made_now) ⊎ ((made_now ≡ made_before) × AreSilent handings × (length old.parts.sent.items ≤ new.next_piece)))
  InOrderEnds handings (Err want) = EndsInWant handings

  pub record HandsInOrder (result : Result (Unit {0}) Want) : Type 0 where
    pub handings : List Handing
    pub hands : HandsOverAll told counts old.parts handings new.parts
    pub in_order : InOrderFrom old.next_piece handings
    pub piece : new.next_piece ≡ old.next_piece + length handings
    pub silent : AreSilentButLast handings
    pub ends : InOrderEnds handings result

  -- ---- listed

  -- by the acts behind the pieces
  abbrev pub ListedGives : List Handing → List Act → Result (Option ℕ) Want → Type 0
  ListedGives handings (Give made ∷ acts) (Ok next) = HaveReplies handings × IsMadeAt made_now made next × (new.next_act ≡ old.next_act + length handings + 1)
  ListedGives handings (Pass ∷ acts) (Ok None) = HaveReplies handings × (new.next_act ≡ old.next_act + length handings + 1)
  ListedGives handings [] (Ok None) = HaveReplies handings × (new.next_act ≡ old.next_act + length handings)
  ListedGives handings acts (Err want) = EndsInWant handings × (new.next_act ≡ old.next_act + length handings)
  ListedGives handings acts next = ⊥

  pub record IsListed (acts : List Act) (next : Result (Option ℕ) Want) : Type 0 where
    pub handings : List Handing
    pub hands : HandsOverAll told counts old.parts handings new.parts
    -- the acts that are left are the pieces that were handed over, and the rest
    pub rest : List Act
    pub carried_out : drop old.next_act acts ≡ map act_of handings ++ rest
    pub gives : ListedGives handings rest next

  -- by its schedule a poll comes to the position of a message, to none, or to want of memory
  abbrev pub PollsBy : Schedule → Result (Option ℕ) Want → Type 0
  PollsBy Orderly next = IsOrderly next
  PollsBy (Listed acts) next = IsListed acts.items next

module _ {D B C : Type 0} (told : Meaning D B C) (counts : D → Counts) (old new : SimSite D B C) where
  -- ---- the call

  -- it is one that is listed to fail, and does nothing
  pub record IsFailedCall {T : Type 0} (result : Result T SiteFault) : Type 0 where
    pub listed : IsToFail old new
    pub is : result ≡ Err Failed
    pub same : new ≡ record old { calls = counted old.calls; faults = counted old.faults }

  -- the polls that gave none are counted, and no other; and so is each want of memory
  abbrev pub CountsNone : Result (Option Message) SiteFault → Type 0
  CountsNone (Ok None) = new.empty_polls ≡ counted old.empty_polls
  CountsNone result = new.empty_polls ≡ old.empty_polls

  abbrev pub CountsWant : Result (Option Message) SiteFault → Type 0
  CountsWant (Err Memory) = new.wants ≡ counted old.wants
  CountsWant result = new.wants ≡ old.wants

  -- the message at that position is given
  abbrev pub GivesAt : Result (Option ℕ) Want → Result (Option Message) SiteFault → Type 0
  GivesAt (Ok (Some position)) (Ok message) = (slice_get new.parts.messages.items position ≡ message) × (position < length new.parts.messages.items)
  GivesAt (Ok None) (Ok None) = Unit {0}
  GivesAt (Err want) (Err Memory) = Unit {0}
  GivesAt next result = ⊥

  -- each poll that is answered is counted
  abbrev pub CountsPoll : Result (Option Message) SiteFault → Type 0
  CountsPoll (Ok message) = new.polls ≡ counted old.polls
  CountsPoll (Err fault) = new.polls ≡ old.polls

  -- the message to which its schedule comes is given
  pub record AnswersPoll (result : Result (Option Message) SiteFault) : Type 0 where
    pub next : Result (Option ℕ) Want
    pub polls : PollsBy told counts (progress_of old) (progress_of new) old.schedule next
    pub gives : GivesAt next result
    pub counts_poll : CountsPoll result
    pub empty_polls : CountsNone result
    pub wants : CountsWant result
    pub schedule : new.schedule ≡ old.schedule

  -- it isn't, and goes by the schedule
  pub record IsPollBySchedule (result : Result (Option Message) SiteFault) : Type 0 where
    pub not_listed : ¬ IsToFail old new
    pub answers : AnswersPoll result
    pub calls : new.calls ≡ counted old.calls
    pub faults : new.faults ≡ old.faults

  abbrev pub PollsAsScheduled : Result (Option Message) SiteFault → Type 0
  PollsAsScheduled result = IsFailedCall result ⊎ IsPollBySchedule result
