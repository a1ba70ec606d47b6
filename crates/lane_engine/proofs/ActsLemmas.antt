-- What the cards do from moment to moment, as one list of events.
use Rattle.std.proofs.Common.{◌≡◌, ◌⊎◌, ℕ, ◌+◌, ◌<◌, ◌≤◌, zero, suc, not, List, [], ◌∷◌, ◌++◌, length, map, filter, refl, sym, ◌∙◌, ap, subst, arith, append-nil, append_assoc, length-append, ⊎_elim}
use Rattle.std.proofs.lemmas.Bool.{cases_lt}
use Rattle.std.proofs.lemmas.List.{map-append}
use Rattle.std.proofs.lemmas.List.Elements.{filter-append}
use Rattle.disk_model.specs.Disk.{Meaning, image_now}
use Rattle.ota_core.specs.declared.entries.Entry.{Entry}
use Rattle.counter_journal.specs.Standing.{StandsFor}
use Rattle.site_model.specs.Port.{PortState}
use Rattle.site_model.specs.Cards.{Keeps, port_at, port_now}
use Rattle.site_model.specs.Runs.{PortRun}
use Rattle.site_model.specs.declared.departures.Departure.{Departure}
use Rattle.world_core.specs.MemberLaws.{In-left, In-right}
use Rattle.world_core.specs.Members.{In}
use Rattle.world_core.specs.Run.{Runs}
use Rattle.world_core.specs.WorldLaws.{Runs-append}
use Rattle.world_core.specs.declared.events.Event.{Event}
use Rattle.world_core.specs.declared.lines.Line.{Line}
use Rattle.world_core.specs.declared.segments.Sent.{Sent}
use Rattle.lane_engine.specs.Course.{CardsActSince, OnlyLeave, is_of_cards}
use Rattle.lane_engine.specs.Departing.{AreReserved, leaving}
use Rattle.lane_engine.specs.World.{world_of, AreSent}
use Rattle.lane_engine.proofs.PortLemmas.{sent_append}

-- ---- the first of some pieces

-- of each departure one piece
pub sent_length : (history : List Entry) (departures : List Departure) (pieces : List Sent) → AreSent history departures pieces → length departures ≡ length pieces
sent_length history [] [] are = refl
sent_length history [] (piece ∷ pieces) are = absurd are
sent_length history (departure ∷ departures) [] are = absurd are
sent_length history (departure ∷ departures) (piece ∷ pieces) are = (let rest = sent_length history departures pieces are.1 in omega (arith, rest))

same_head : {X : Type 0} (x y : X) (xs ys : List X) → x ∷ xs ≡ y ∷ ys → x ≡ y
same_head x y xs ys e = cc

same_tail : {X : Type 0} (x y : X) (xs ys : List X) → x ∷ xs ≡ y ∷ ys → xs ≡ ys
same_tail x y xs ys e = cc

-- the shorter of two beginnings of a list begins the other
pub begins_longer : {X : Type 0} (one other rest still : List X) → one ++ rest ≡ other ++ still → length one ≤ length other → (more : List X) × (other ≡ one ++ more)
begins_longer [] other rest still same short = (other, refl)
begins_longer (x ∷ one) [] rest still same short = absurd (omega (arith, short))
begins_longer {X = X} (x ∷ one) (y ∷ other) rest still same short =
    let found = begins_longer one other rest still (same_tail x y (one ++ rest) (other ++ still) same) (omega (arith, short)) in
    (found.0, ap (λ (l : List X). y ∷ l) found.1 ∙ ap (λ (z : X). z ∷ one ++ found.0) (sym (same_head x y (one ++ rest) (other ++ still) same)))

none_left : {X : Type 0} (xs : List X) → length xs ≡ 0 → xs ≡ []
none_left [] is = refl
none_left (x ∷ xs) is = absurd (omega (arith, is))

pub leave_then : (pieces more : List Sent) (first then : List Event) → OnlyLeave pieces first → OnlyLeave more then → OnlyLeave (pieces ++ more) (first ++ then)
leave_then pieces more first then one other =
    filter-append (λ (event : Event). not (is_of_cards event)) first then
    ∙ ap (λ (l : List Event). l ++ filter (λ (event : Event). not (is_of_cards event)) then) one
    ∙ ap (λ (l : List Event). map leaving pieces ++ l) other
    ∙ sym (map-append leaving pieces more)

-- ---- from a moment on

module _ {D B C : Type 0} (told : Meaning D B C) (port : B → PortState) (lines : C → ℕ → List Line) (lane lanes : ℕ) (history : List Entry) (site : D) (from to : ℕ) where
  -- these pieces left by a moment, and what the cards did until then
  pub record LedFrom (sent : List Sent) (k : ℕ) (first : List Sent) (after : C) : Type 0 where
    pub before : C
    pub might : told.choice_at site from before
    pub events : List Event
    pub others : OnlyLeave first events
    pub runs : (given : List ℕ) → Runs (world_of history (port_at told port lines site from) (lines before) sent given) events (world_of history (port_at told port lines site k) (lines after) (sent ++ first) given)

  -- of these pieces the first left by a moment
  pub record HaveLeft (left sent : List Sent) (k : ℕ) : Type 0 where
    pub first : List Sent
    pub rest : List Sent
    pub are : left ≡ first ++ rest
    pub sent_by : AreSent history (port_at told port lines site k).sent (sent ++ first)

  module _ (within : to ≤ told.clock site) (acts : CardsActSince told port lines lane lanes from site)
      (images : (k : ℕ) → from ≤ k → k ≤ to → (image : List ℕ) × told.image_at site k image × StandsFor lane lanes history image)
      (left : List Sent) (reserved : AreReserved history left) (sent : List Sent) (was : AreSent history (port_at told port lines site from).sent sent)
      (gone : (k : ℕ) → from ≤ k → k ≤ to → HaveLeft left sent k)
      (grows : (k : ℕ) → from ≤ k → k < to → length (port_at told port lines site k).sent ≤ length (port_at told port lines site (suc k)).sent) where
    -- at the start
    led_here : (k : ℕ) → k ≡ from → (first : List Sent) → AreSent history (port_at told port lines site k).sent (sent ++ first) → (after : C) → told.choice_at site k after → LedFrom sent k first after
    led_here k is first are after chosen =
        let one = sent_length history (port_at told port lines site k).sent (sent ++ first) are in
        let other = sent_length history (port_at told port lines site from).sent sent was in
        let same : length (port_at told port lines site k).sent ≡ length (port_at told port lines site from).sent = ap (λ (n : ℕ). length (port_at told port lines site n).sent) is in
        let both = length-append sent first in
        let none : first ≡ [] = none_left first (omega (arith, one, other, same, both)) in
        record {
          before = after;
          might = subst (λ (n : ℕ). told.choice_at site n after) is chosen;
          events = [];
          others = ap (map leaving) (sym none);
          runs = λ given.
              ap (λ (n : ℕ). world_of history (port_at told port lines site n) (lines after) (sent ++ first) given) is
              ∙ ap (λ (l : List Sent). world_of history (port_at told port lines site from) (lines after) l given) (ap (λ (l : List Sent). sent ++ l) none ∙ append-nil sent);
        }

    -- one moment more
    led_more : (k : ℕ) → from ≤ suc k → (early : from < suc k) (high : suc k ≤ to) (first rest : List Sent) → left ≡ first ++ rest → AreSent history (port_at told port lines site (suc k)).sent (sent ++ first)
        → (after : C) → told.choice_at site (suc k) after
        → ((choice : C) → told.choice_at site k choice → LedFrom sent k (gone k (omega (arith, early)) (omega (arith, high))).first choice) → LedFrom sent (suc k) first after
    led_more k low early high first rest part are after chosen led =
        let there = gone k (omega (arith, early)) (omega (arith, high)) in
        let one = sent_length history (port_at told port lines site k).sent (sent ++ there.first) there.sent_by in
        let other = sent_length history (port_at told port lines site (suc k)).sent (sent ++ first) are in
        let grown = grows k (omega (arith, early)) (omega (arith, high)) in
        let long_one = length-append sent there.first in
        let long_other = length-append sent first in
        let found = begins_longer there.first first there.rest rest (sym there.are ∙ part) (omega (arith, one, other, grown, long_one, long_other)) in
        let joined : sent ++ first ≡ (sent ++ there.first) ++ found.0 = ap (λ (l : List Sent). sent ++ l) found.1 ∙ sym (append_assoc sent there.first found.0) in
        let image = images (suc k) low high in
        let act = acts k (omega (arith, early)) (omega (arith, high, within)) image.0 history image.1 image.2 (sent ++ there.first) found.0 there.sent_by
        (subst (λ (l : List Sent). AreSent history (port_at told port lines site (suc k)).sent l) joined are)
        (λ piece i. reserved piece (subst (λ (l : List Sent). In piece l) (sym part) (In-left piece first rest (subst (λ (l : List Sent). In piece l) (sym found.1) (In-right piece there.first found.0 i)))))
        after chosen in
        let before = led act.0 act.1 in
        record {
          before = before.before;
          might = before.might;
          events = before.events ++ act.2.events;
          others = subst (λ (l : List Sent). OnlyLeave l (before.events ++ act.2.events)) (sym found.1) (leave_then there.first found.0 before.events act.2.events before.others act.2.others);
          runs = λ given.
              Runs-append (world_of history (port_at told port lines site from) (lines before.before) sent given) (world_of history (port_at told port lines site k) (lines act.0) (sent ++ there.first) given)
              (world_of history (port_at told port lines site (suc k)) (lines after) (sent ++ first) given) before.events act.2.events (before.runs given)
              (subst (λ (l : List Sent). Runs (world_of history (port_at told port lines site k) (lines act.0) (sent ++ there.first) given) act.2.events (world_of history (port_at told port lines site (suc k)) (lines after) l given)) (sym joined) (act.2.runs given));
        }

    -- at each moment
    pub led_from : (k : ℕ) → from ≤ k → k ≤ to → (first rest : List Sent) → left ≡ first ++ rest → AreSent history (port_at told port lines site k).sent (sent ++ first)
        → (after : C) → told.choice_at site k after → LedFrom sent k first after
    led_from zero low high first rest part are after chosen = led_here zero (omega (arith, low)) first are after chosen
    led_from (suc k) low high first rest part are after chosen = ⊎_elim
        (λ early. led_more k low early high first rest part are after chosen
        (let low_k : from ≤ k = omega (arith, early) in let there = gone k low_k (omega (arith, high)) in led_from k low_k (omega (arith, high)) there.first there.rest there.are there.sent_by))
        (λ here. led_here (suc k) (omega (arith, low, here)) first are after chosen)
        (cases_lt from (suc k))

-- ---- in calls of the port

module _ {D B C : Type 0} (told : Meaning D B C) (port : B → PortState) (lines : C → ℕ → List Line) (lane lanes : ℕ) (history : List Entry) (old new : D) (Q : B → Type 0) (run : PortRun told old new Q)
    (keeps : Keeps told port lines old new) (image : List ℕ) (now : image_now told old image) (stands : StandsFor lane lanes history image) (acts : CardsActSince told port lines lane lanes (told.clock old) new)
    (left : List Sent) (reserved : AreReserved history left) where
  -- of the departures of these pieces the first were handed over by a moment
  pub record HandedBy (k : ℕ) : Type 0 where
    pub gone : List Departure
    pub sent : (port_at told port lines new k).sent ≡ (port_now told port lines old).sent ++ gone
    pub first : List Sent
    pub rest : List Sent
    pub are : left ≡ first ++ rest
    pub of_gone : AreSent history gone first

  -- what the cards did, from some lines at the start
  pub record PortLed (sent : List Sent) (first : List Sent) (after : C) : Type 0 where
    pub before : C
    pub might : told.choice_at old (told.clock old) before
    pub events : List Event
    pub others : OnlyLeave first events
    pub runs : (given : List ℕ) → Runs (world_of history (port_now told port lines old) (lines before) sent given) events (world_of history (port_now told port lines new) (lines after) (sent ++ first) given)

  start : port_at told port lines new (told.clock old) ≡ port_now told port lines old
  start = ap port (run.past.beside (told.clock old) (omega arith))

  sent_after : (sent : List Sent) → AreSent history (port_now told port lines old).sent sent → (k : ℕ) (by : HandedBy k) → AreSent history (port_at told port lines new k).sent (sent ++ by.first)
  sent_after sent was k by = subst (λ (l : List Departure). AreSent history l (sent ++ by.first)) (sym by.sent) (sent_append history (port_now told port lines old).sent by.gone sent by.first was by.of_gone)

  longer : (k : ℕ) → told.clock old ≤ k → k < told.clock new → length (port_at told port lines new k).sent ≤ length (port_at told port lines new (suc k)).sent
  longer k low high =
      let more = keeps.sent k (suc k) low (omega arith) (omega (arith, high)) in
      let counted = length-append (port_at told port lines new k).sent more.0 in
      let same : length (port_at told port lines new (suc k)).sent ≡ length ((port_at told port lines new k).sent ++ more.0) = ap length more.1 in
      omega (arith, counted, same)

  pub port_led : ((k : ℕ) → told.clock old ≤ k → k ≤ told.clock new → HandedBy k) → (sent : List Sent) → AreSent history (port_now told port lines old).sent sent
      → (first rest : List Sent) → left ≡ first ++ rest → AreSent history (port_now told port lines new).sent (sent ++ first) → (after : C) → told.choice_at new (told.clock new) after → PortLed sent first after
  port_led handed sent was first rest part are after chosen =
      let led = led_from told port lines lane lanes history new (told.clock old) (told.clock new) (omega arith) acts
      (λ k low high. (image, run.images_stay k image low high now, stands)) left reserved sent (subst (λ (p : PortState). AreSent history p.sent sent) (sym start) was)
      (λ k low high. (let by = handed k low high in record { first = by.first; rest = by.rest; are = by.are; sent_by = sent_after sent was k by })) longer
      (told.clock new) run.past.later (omega arith) first rest part are after chosen in
      record {
        before = led.before;
        might = run.past.no_more_choices (told.clock old) led.before (omega arith) led.might;
        events = led.events;
        others = led.others;
        runs = λ given. subst (λ (p : PortState). Runs (world_of history p (lines led.before) sent given) led.events (world_of history (port_now told port lines new) (lines after) (sent ++ first) given)) start (led.runs given);
      }
