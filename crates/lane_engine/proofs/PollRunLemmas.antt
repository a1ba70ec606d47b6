-- What a poll answers and adds, and the events that it is.
use Rattle.std.proofs.Common.{◌≡◌, inl, inr, ℕ, ◌≤◌, ◌==◌, Bool, false, true, not, if◌then◌else◌, Option, Some, None, List, [], ◌∷◌, ◌++◌, length, map, reverse, refl, sym, ◌∙◌, ap, subst, arith, append-nil}
use Rattle.std.specs.List.{list_any, list_all, range_with_len}
use Rattle.std.proofs.lemmas.Grind.{common_steps}
use Rattle.std.proofs.lemmas.Bool.Decides.{nat_tests}
use Rattle.ota_core.specs.Keyset.{Keyset}
use Rattle.ota_core.specs.Entry.{by_of, is_settlement_of, is_reserve_of}
use Rattle.ota_core.specs.History.{broken_batch}
use Rattle.ota_core.specs.HistoryLaws.{is_same_keyset-refl}
use Rattle.ota_core.specs.Questions.{last_moment, state_of}
use Rattle.ota_core.specs.declared.cards.CardId.{CardId}
use Rattle.ota_core.specs.declared.entries.Entry.{Entry}
use Rattle.ota_core.specs.declared.entries.Entry.TheVariants as entry
use Rattle.response_packet.specs.Opened.{unsecured_in}
use Rattle.site_model.specs.Port.{PortState}
use Rattle.sms_segments.specs.declared.assembling.Push.{Push}
use Rattle.sms_segments.specs.declared.assembling.Push.TheVariants as push
use Rattle.world_core.specs.Condition.{is_answered}
use Rattle.world_core.specs.Members.{In}
use Rattle.world_core.specs.MemberLaws.{In-left}
use Rattle.world_core.specs.Run.{Runs}
use Rattle.world_core.specs.Sound.{IsSound, CardsWentOn}
use Rattle.world_core.specs.Card.{CardState}
use Rattle.world_core.specs.declared.answers.Made.{Made}
use Rattle.world_core.specs.declared.events.Event.TheVariants.{Begin}
use Rattle.world_core.specs.declared.lines.Line.{Line}
use Rattle.world_core.specs.declared.segments.Sent.{Sent}
use Rattle.lane_engine.specs.Adding.{is_settlement}
use Rattle.lane_engine.specs.Polling.{AreGivenBy, GrewBy, LostBy, giving, settlements, settling_events}
use Rattle.lane_engine.specs.Receipts.{Response, place_of, response_at, response_by, response_of, is_receipt, is_closed, answer_to_place, answer_to_receipt, answer_to_response, answer_to_packet, answer_to_push, due_by, settlement_of}
use Rattle.lane_engine.specs.Unforged.{made_as}
use Rattle.lane_engine.specs.World.{world_of}
use Rattle.lane_engine.specs.declared.answers.Poll.{Poll}
use Rattle.lane_engine.specs.declared.answers.Poll.TheVariants as poll
use Rattle.lane_engine.proofs.AddingLemmas.{batch_runs, may_begin}
use Rattle.lane_engine.proofs.DueLemmas.{IsDue, first_try, push_due, settlement_legal}
use Rattle.lane_engine.proofs.SettledLemmas.{answered_by, answered_more, first_made, may_give}

-- ---- by the answer

-- a response that is said makes a packet whole
pub said_by : (entries : List Entry) (card : CardId) (made : Push) (response : Response) → response_by entries card made ≡ Some response
    → (packet : List ℕ) × (made ≡ push.Whole packet) × ((kvn : ℕ) × (response_at entries card packet kvn ≡ Some response))
said_by entries card push.NotOurs response h = cc
said_by entries card push.More response h = cc
said_by entries card (push.Whole packet) response h = (packet, refl, first_try (response_at entries card packet) (range_with_len 1 15) response h)

-- an answer that a counter is settled
module _ (past : List Entry) (keyset : Keyset) (counter : ℕ) where
  settled_place : (given : Response) → answer_to_place past (place_of given) ≡ poll.Settled keyset counter → (given.keyset ≡ keyset) × (given.answer.counter ≡ counter)
  settled_place given h = by_tests (list_any (is_reserve_of (place_of given)) past) (list_any (is_settlement_of (place_of given)) past) h
    where
      by_tests : (a b : Bool) → (if not a then poll.NotOurs else (if b then poll.Late else poll.Settled given.keyset given.answer.counter)) ≡ poll.Settled keyset counter → (given.keyset ≡ keyset) × (given.answer.counter ≡ counter)
      by_tests true true e = cc
      by_tests true false e = (cc, cc)
      by_tests false b e = cc

  settled_receipt : (given : Response) → answer_to_receipt past given ≡ poll.Settled keyset counter → (given.keyset ≡ keyset) × (given.answer.counter ≡ counter)
  settled_receipt given h = by_test (is_closed (state_of given.keyset past)) h
    where
      by_test : (t : Bool) → (if t then poll.Late else answer_to_place past (place_of given)) ≡ poll.Settled keyset counter → (given.keyset ≡ keyset) × (given.answer.counter ≡ counter)
      by_test true e = cc
      by_test false e = settled_place given e

  settled_response : (o : Option Response) → answer_to_response past o ≡ poll.Settled keyset counter → (given : Response) × (o ≡ Some given) × (given.keyset ≡ keyset) × (given.answer.counter ≡ counter)
  settled_response None h = cc
  settled_response (Some given) h = by_test (is_receipt given) h
    where
      by_test : (t : Bool) → (if t then answer_to_receipt past given else poll.Notice given.answer.status) ≡ poll.Settled keyset counter
          → (found : Response) × (Some given ≡ Some found) × (found.keyset ≡ keyset) × (found.answer.counter ≡ counter)
      by_test true e = (let is = settled_receipt given e in (given, refl, is.0, is.1))
      by_test false e = cc

settled_push : (entries : List Entry) (card : CardId) (made : Push) (keyset : Keyset) (counter : ℕ) → answer_to_push entries card made ≡ poll.Settled keyset counter
    → (given : Response) × (response_by entries card made ≡ Some given) × (given.keyset ≡ keyset) × (given.answer.counter ≡ counter)
settled_push entries card push.NotOurs keyset counter h = cc
settled_push entries card push.More keyset counter h = cc
settled_push entries card (push.Whole packet) keyset counter h = by_form (unsecured_in packet) h
  where
    by_form : (o : Option ℕ) → answer_to_packet (reverse entries) (response_of entries card packet) o ≡ poll.Settled keyset counter
        → (given : Response) × (response_of entries card packet ≡ Some given) × (given.keyset ≡ keyset) × (given.answer.counter ≡ counter)
    by_form (Some status) e = cc
    by_form None e = settled_response (reverse entries) keyset counter (response_of entries card packet) e

settles_place : (by moment : ℕ) (response : Response) → is_settlement_of (place_of response) (settlement_of by moment response) ≡ true
settles_place by moment response = by_test (response.answer.status == 0x00)
  where
    by_test : (t : Bool) → is_settlement_of (place_of response) (if t then entry.Done by moment response.keyset response.answer.counter response.answer.octets else entry.Refused by moment response.keyset response.answer.counter response.answer.status) ≡ true
    by_test true = grind (arith, common_steps, nat_tests, is_same_keyset-refl response.keyset)
    by_test false = grind (arith, common_steps, nat_tests, is_same_keyset-refl response.keyset)

settles_under : (by moment : ℕ) (response : Response) → by_of (settlement_of by moment response) ≡ by
settles_under by moment response = by_test (response.answer.status == 0x00)
  where
    by_test : (t : Bool) → by_of (if t then entry.Done by moment response.keyset response.answer.counter response.answer.octets else entry.Refused by moment response.keyset response.answer.counter response.answer.status) ≡ by
    by_test true = refl
    by_test false = refl

settles_one : (by moment : ℕ) (response : Response) → is_settlement (settlement_of by moment response) ≡ true
settles_one by moment response = by_test (response.answer.status == 0x00)
  where
    by_test : (t : Bool) → is_settlement (if t then entry.Done by moment response.keyset response.answer.counter response.answer.octets else entry.Refused by moment response.keyset response.answer.counter response.answer.status) ≡ true
    by_test true = refl
    by_test false = refl

-- what is due is one settlement at most
pub lost_by : (by moment : ℕ) (due : Option Response) (lost : List Entry) → lost ≡ settlements by moment due → LostBy lost by
lost_by by moment None lost is = inl is
lost_by by moment (Some response) lost is = inr (settlement_of by moment response, is, settles_one by moment response, settles_under by moment response)

-- the history grew as the answer says
pub grew_by : (entries : List Entry) (card : CardId) (made : Push) (by moment : ℕ) (answer : Poll) → answer ≡ answer_to_push entries card made
    → GrewBy entries (entries ++ settlements by moment (due_by answer (response_by entries card made))) by answer
grew_by entries card made by moment poll.Nothing is = append-nil entries
grew_by entries card made by moment poll.More is = append-nil entries
grew_by entries card made by moment poll.NotOurs is = append-nil entries
grew_by entries card made by moment (poll.Notice status) is = append-nil entries
grew_by entries card made by moment (poll.Settled keyset counter) is =
    let found = settled_push entries card made keyset counter (sym is) in (
      settlement_of by moment found.0,
      ap (λ (o : Option Response). entries ++ settlements by moment o) found.1,
      subst (λ (k : Keyset). is_settlement_of (record { keyset = k; counter = counter }) (settlement_of by moment found.0) ≡ true) found.2
          (subst (λ (n : ℕ). is_settlement_of (record { keyset = found.0.keyset; counter = n }) (settlement_of by moment found.0) ≡ true) found.3 (settles_place by moment found.0)),
      settles_under by moment found.0,
    )
grew_by entries card made by moment poll.Late is = append-nil entries

-- a message is never answered that there was none
pub never_nothing : (entries : List Entry) (card : CardId) (made : Push) → answer_to_push entries card made ≡ poll.Nothing → ⊥
never_nothing entries card push.NotOurs h = cc
never_nothing entries card push.More h = cc
never_nothing entries card (push.Whole packet) h = by_form (unsecured_in packet) (response_of entries card packet) h
  where
    by_place : (a b : Bool) (given : Response) → (if not a then poll.NotOurs else (if b then poll.Late else poll.Settled given.keyset given.answer.counter)) ≡ poll.Nothing → ⊥
    by_place true true given e = cc
    by_place true false given e = cc
    by_place false b given e = cc

    by_state : (c : Bool) (given : Response) → (if c then poll.Late else answer_to_place (reverse entries) (place_of given)) ≡ poll.Nothing → ⊥
    by_state true given e = cc
    by_state false given e = by_place (list_any (is_reserve_of (place_of given)) (reverse entries)) (list_any (is_settlement_of (place_of given)) (reverse entries)) given e

    by_receipt : (d : Bool) (given : Response) → (if d then answer_to_receipt (reverse entries) given else poll.Notice given.answer.status) ≡ poll.Nothing → ⊥
    by_receipt true given e = by_state (is_closed (state_of given.keyset (reverse entries))) given e
    by_receipt false given e = cc

    by_form : (o : Option ℕ) (found : Option Response) → answer_to_packet (reverse entries) found o ≡ poll.Nothing → ⊥
    by_form (Some status) found e = cc
    by_form None None e = cc
    by_form None (Some given) e = by_receipt (is_receipt given) given e

-- nothing is due where nothing is said
pub none_due : (answer : Poll) → due_by answer None ≡ None
none_due poll.Nothing = refl
none_due poll.More = refl
none_due poll.NotOurs = refl
none_due (poll.Notice status) = refl
none_due (poll.Settled keyset counter) = refl
none_due poll.Late = refl

-- what is due is what is said
due_said : (answer : Poll) (o : Option Response) (response : Response) → due_by answer o ≡ Some response → o ≡ Some response
due_said poll.Nothing o response h = cc
due_said poll.More o response h = cc
due_said poll.NotOurs o response h = cc
due_said (poll.Notice status) o response h = cc
due_said (poll.Settled keyset counter) o response h = h
due_said poll.Late o response h = cc

-- ---- the events

-- which answer is given, and what it settles
pub record GivesAndSettles (entries : List Entry) (port : PortState) (card : CardId) (said due : Option Response) (by moment : ℕ) : Type 0 where
  pub positions : List ℕ
  pub given : AreGivenBy card said port.made positions
  pub runs : (chosen : ℕ → List Line) (sent : List Sent) (before : List ℕ)
      → Runs (world_of entries port chosen sent before) (map giving positions ++ settling_events (settlements by moment due)) (world_of (entries ++ settlements by moment due) port chosen sent (before ++ positions))
  -- where something is due, its batch begins
  pub begins : 1 ≤ length (settlements by moment due) → (chosen : ℕ → List Line) (sent : List Sent) (before : List ℕ)
      → Runs (world_of entries port chosen sent before) (map giving positions ++ Begin (settlements by moment due) ∷ [])
      (record (world_of entries port chosen sent (before ++ positions)) { batch = Some (settlements by moment due) })

module _ (entries : List Entry) (port : PortState) (card : CardId) (made : Push) (by moment : ℕ) (later : last_moment (reverse entries) ≤ moment)
    (was_made : (response : Response) → response_by entries card made ≡ Some response → In (made_as card response) port.made)
    (lines : ℕ → List Line) (left : List Sent) (sound : IsSound (world_of entries port lines left [])) where
  nothing_said : GivesAndSettles entries port card None None by moment
  nothing_said = record {
    positions = [];
    given = refl;
    runs = λ chosen sent before.
        ap (λ (l : List Entry). world_of l port chosen sent (before ++ [])) (append-nil entries) ∙ ap (λ (l : List ℕ). world_of entries port chosen sent l) (append-nil before);
    begins = λ some. absurd (omega (arith, some));
  }

  said_alone : (response : Response) → In (made_as card response) port.made → GivesAndSettles entries port card (Some response) None by moment
  said_alone response i =
      let place = first_made (made_as card response) port.made i in
      record {
        positions = place.0 ∷ [];
        given = (place.0, place.1, refl);
        runs = λ chosen sent before. (may_give entries port chosen sent before place.0 (made_as card response) place.1.0, ap (λ (l : List Entry). world_of l port chosen sent (before ++ place.0 ∷ [])) (append-nil entries));
        begins = λ some. absurd (omega (arith, some));
      }

  said_and_settled : (response : Response) → In (made_as card response) port.made → IsDue entries card made response → GivesAndSettles entries port card (Some response) (Some response) by moment
  said_and_settled response i due =
      let place = first_made (made_as card response) port.made i in
      let legal : broken_batch (reverse entries) (settlement_of by moment response ∷ []) ≡ None = rw (settlement_legal entries card made by moment response due later) refl in
      let answered : list_all (is_answered port.made (place.0 ∷ [])) (settlement_of by moment response ∷ []) ≡ true = answered_by entries port lines left sound card made response due by moment later place.0 place.1.0 in
      record {
        positions = place.0 ∷ [];
        given = (place.0, place.1, refl);
        runs = λ chosen sent before. (
          may_give entries port chosen sent before place.0 (made_as card response) place.1.0,
          batch_runs entries (settlement_of by moment response ∷ []) port chosen sent (before ++ place.0 ∷ []) legal (answered_more port.made before place.0 by moment response answered),
        );
        begins = λ some chosen sent before. (
          may_give entries port chosen sent before place.0 (made_as card response) place.1.0,
          (
            may_begin entries (settlement_of by moment response ∷ []) port chosen sent (before ++ place.0 ∷ []) legal (answered_more port.made before place.0 by moment response answered),
            refl,
          ),
        );
      }

  by_said : (said : Option Response) → response_by entries card made ≡ said → (due : Option Response) → due_by (answer_to_push entries card made) said ≡ due → GivesAndSettles entries port card said due by moment
  by_said None is due due_is = subst (λ (o : Option Response). GivesAndSettles entries port card None o by moment) (sym (none_due (answer_to_push entries card made)) ∙ due_is) nothing_said
  by_said (Some response) is None due_is = said_alone response (was_made response is)
  by_said (Some response) is (Some other) due_is =
      (let same : Some response ≡ Some other = due_said (answer_to_push entries card made) (Some response) other due_is in
      let due : due_by (answer_to_push entries card made) (response_by entries card made) ≡ Some response = ap (λ (o : Option Response). due_by (answer_to_push entries card made) o) is ∙ due_is ∙ sym same in
      subst (λ (o : Option Response). GivesAndSettles entries port card (Some response) o by moment) same
      (said_and_settled response (was_made response is) (push_due entries card made response due)))

  pub gives_and_settles : GivesAndSettles entries port card (response_by entries card made) (due_by (answer_to_push entries card made) (response_by entries card made)) by moment
  gives_and_settles = by_said (response_by entries card made) refl (due_by (answer_to_push entries card made) (response_by entries card made)) refl

-- ---- the cards meanwhile

-- behind a longer history they went on as before it
pub went_on_more : (entries more : List Entry) (port : PortState) (lines : ℕ → List Line) (sent : List Sent) (given : List ℕ) (cards : List CardState) (made : List Made)
    → CardsWentOn (world_of entries port lines sent given) sent cards made → CardsWentOn (world_of (entries ++ more) port lines sent given) sent cards made
went_on_more entries more port lines sent given cards made on = record {
  leaves = λ piece i. inl i;
  facts = on.facts;
  states = on.states;
  kept = on.kept;
  lines = λ line i. elim (on.lines line i) [
    | inl old_one ↦ inl old_one
    | inr found ↦ inr (found.0, found.1, found.2, found.3, In-left (entry.Reserve found.0 found.1 line.keyset line.counter found.2 line.tar found.3 line.body) entries more found.4)
  ];
  answers = on.answers;
  longer = on.longer;
}
