-- What a lane keeps through the addition of a batch.
use Rattle.std.proofs.Common.{◌≡◌, inl, inr, ℕ, false, true, None, List, [], ◌∷◌, ◌++◌, reverse, All, refl, subst}
use Rattle.std.specs.List.{list_any, list_all}
use Rattle.std.proofs.lemmas.List.Elements.{All-append}
use Rattle.ota_core.specs.History.{broken_batch}
use Rattle.ota_core.specs.HistoryLaws.{IsLegal-batch}
use Rattle.ota_core.specs.declared.entries.Entry.{Entry}
use Rattle.ota_core.specs.declared.entries.Entry.TheVariants.{Open, Reserve, Done, Refused, Close}
use Rattle.counter_journal.specs.EntryRanges.{IsEntry, IsEntryOf, IsHistory, IsOfLane}
use Rattle.counter_journal.specs.JournalLaws.{one_history, fit_of}
use Rattle.counter_journal.specs.JournalReading.{Holds}
use Rattle.counter_journal.specs.Standing.{StandsFor}
use Rattle.counter_journal.specs.StandingLaws.{not_unmade}
use Rattle.site_model.specs.Port.{PortState}
use Rattle.site_model.specs.declared.departures.Departure.{Departure}
use Rattle.world_core.specs.Condition.{is_answered, IsAllowed}
use Rattle.world_core.specs.Effect.{world_step}
use Rattle.world_core.specs.Run.{Runs}
use Rattle.world_core.specs.Sound.{IsSound}
use Rattle.world_core.specs.declared.events.Event.TheVariants.{Begin, Seal}
use Rattle.world_core.specs.declared.lines.Line.{Line}
use Rattle.world_core.specs.declared.answers.Made.{Made}
use Rattle.world_core.specs.declared.segments.Sent.{Sent}
use Rattle.world_core.proofs.HistoryFacts.{packet_at-left}
use Rattle.world_core.proofs.SoundLemmas.{IsSound-step}
use Rattle.lane_engine.specs.Adding.{is_settlement}
use Rattle.lane_engine.specs.Sound.{IsSoundState}
use Rattle.lane_engine.specs.World.{world_of, AreSent}

-- pieces of reservations stay such behind a longer history
pub sent_more : (history batch : List Entry) (departures : List Departure) (pieces : List Sent) → AreSent history departures pieces → AreSent (history ++ batch) departures pieces
sent_more history batch [] [] are = tt
sent_more history batch [] (piece ∷ pieces) are = are
sent_more history batch (departure ∷ departures) [] are = are
sent_more history batch (departure ∷ departures) (piece ∷ pieces) are = (
  record {
    packet = are.0.packet;
    reserved = packet_at-left history batch piece.reservation are.0.packet are.0.reserved;
    departs = are.0.departs;
    of_card = are.0.of_card;
    carried = are.0.carried;
  },
  sent_more history batch departures pieces are.1,
)

-- a batch without settlements needs no answer
pub none_settles : (made : List Made) (given : List ℕ) (batch : List Entry) → list_any is_settlement batch ≡ false → list_all (is_answered made given) batch ≡ true
none_settles made given [] none = refl
none_settles made given (Open by moment keyset facts ∷ batch) none = none_settles made given batch none
none_settles made given (Reserve by moment keyset counter job tar name body ∷ batch) none = none_settles made given batch none
none_settles made given (Done by moment keyset counter answer ∷ batch) none = cc
none_settles made given (Refused by moment keyset counter status ∷ batch) none = cc
none_settles made given (Close by moment keyset ∷ batch) none = none_settles made given batch none

-- a batch may begin where it is legal and answered
pub may_begin : (history batch : List Entry) (port : PortState) (chosen : ℕ → List Line) (sent : List Sent) (given : List ℕ) → broken_batch (reverse history) batch ≡ None
    → list_all (is_answered port.made given) batch ≡ true → IsAllowed (world_of history port chosen sent given) (Begin batch)
may_begin history batch port chosen sent given legal answered = rw (legal, answered) refl

-- it begins, and is sealed
pub batch_runs : (history batch : List Entry) (port : PortState) (chosen : ℕ → List Line) (sent : List Sent) (given : List ℕ) → broken_batch (reverse history) batch ≡ None
    → list_all (is_answered port.made given) batch ≡ true
    → Runs (world_of history port chosen sent given) (Begin batch ∷ Seal ∷ []) (world_of (history ++ batch) port chosen sent given)
batch_runs history batch port chosen sent given legal answered = (may_begin history batch port chosen sent given legal answered, (refl, refl))

-- octets that hold a history stand for it alone
pub stands_as : (lane lanes : ℕ) (history entries : List Entry) (octets : List ℕ) → StandsFor lane lanes history octets → IsHistory lane lanes entries → Holds lane lanes entries octets → history ≡ entries
stands_as lane lanes history entries octets (inl (unmade, none)) is holds = absurd (not_unmade lane lanes holds.parts octets holds.opens unmade)
stands_as lane lanes history entries octets (inr (legal, held)) is holds =
    one_history lane lanes history entries octets (fit_of lane lanes history legal.of_lane) (fit_of lane lanes entries is.of_lane) held holds

-- a history and a batch that may follow
pub history_more : (lane lanes : ℕ) (history batch : List Entry) → IsHistory lane lanes history → broken_batch (reverse history) batch ≡ None → All IsEntry batch → All (IsOfLane lane lanes) batch
    → IsHistory lane lanes (history ++ batch)
history_more lane lanes history batch is legal fit of_lane = record {
  legal = IsLegal-batch history batch is.legal legal;
  of_lane = All-append (IsEntryOf lane lanes) history batch is.of_lane (λ k d below. record { fits = fit k d below; of_lane = of_lane k d below });
}

-- a sound state whose image holds the history is sound with each image that holds it
pub state_held : (lane lanes : ℕ) (history : List Entry) (seen image : List ℕ) (port : PortState) (chosen : ℕ → List Line) → IsHistory lane lanes history → Holds lane lanes history seen
    → IsSoundState lane lanes seen port chosen → Holds lane lanes history image → IsSoundState lane lanes image port chosen
state_held lane lanes history seen image port chosen is holds sound held =
    let same : sound.history ≡ history = stands_as lane lanes sound.history history seen sound.stands is holds in
    record {
      history = history;
      stands = inr (is, held);
      sent = sound.sent;
      left = subst (λ (h : List Entry). AreSent h port.sent sound.sent) same sound.left;
      world = subst (λ (h : List Entry). IsSound (world_of h port chosen sound.sent [])) same sound.world;
    }

-- and with each image that holds it and a batch that may follow and settles nothing
pub state_added : (lane lanes : ℕ) (history batch : List Entry) (seen image : List ℕ) (port : PortState) (chosen : ℕ → List Line) → IsHistory lane lanes history → Holds lane lanes history seen
    → broken_batch (reverse history) batch ≡ None → IsHistory lane lanes (history ++ batch) → list_any is_settlement batch ≡ false
    → IsSoundState lane lanes seen port chosen → Holds lane lanes (history ++ batch) image → IsSoundState lane lanes image port chosen
state_added lane lanes history batch seen image port chosen is holds legal more none sound held =
    let same : sound.history ≡ history = stands_as lane lanes sound.history history seen sound.stands is holds in
    let world : IsSound (world_of history port chosen sound.sent []) = subst (λ (h : List Entry). IsSound (world_of h port chosen sound.sent [])) same sound.world in
    let begun = IsSound-step (world_of history port chosen sound.sent []) (Begin batch) world (may_begin history batch port chosen sound.sent [] legal (none_settles port.made [] batch none)) in
    record {
      history = history ++ batch;
      stands = inr (more, held);
      sent = sound.sent;
      left = sent_more history batch port.sent sound.sent (subst (λ (h : List Entry). AreSent h port.sent sound.sent) same sound.left);
      world = IsSound-step (world_step (world_of history port chosen sound.sent []) (Begin batch)) Seal begun refl;
    }
