-- The settlement of a receipt: the answer that it is of, and the world behind it.
use Rattle.std.proofs.Common.{◌≡◌, inl, inr, ℕ, zero, suc, ◌≤◌, ◌<◌, ◌==◌, ◌&&◌, ◌||◌, nat_lt, Bool, true, false, if◌then◌else◌, Some, None, List, [], ◌∷◌, ◌++◌, length, reverse, slice_get, refl, ◌∙◌, ap, subst, arith}
use Rattle.std.specs.Option.{option_map}
use Rattle.std.specs.List.{list_all}
use Rattle.std.specs.Str.{bytes_eq}
use Rattle.std.proofs.lemmas.Bool.{and_parts}
use Rattle.std.proofs.lemmas.Bool.Decides.{nat_tests}
use Rattle.std.proofs.lemmas.Grind.{common_steps}
use Rattle.std.proofs.lemmas.Option.{slice_get_within}
use Rattle.std.proofs.lemmas.Slice.Eq.{bytes_eq-Decides}
use Rattle.ota_core.specs.Keyset.{Keyset, is_same_keyset}
use Rattle.ota_core.specs.History.{broken_batch}
use Rattle.ota_core.specs.HistoryLaws.{both_hold, is_same_keyset-true, is_same_keyset-refl}
use Rattle.ota_core.specs.Questions.{last_moment}
use Rattle.ota_core.specs.declared.cards.CardId.{CardId}
use Rattle.ota_core.specs.declared.entries.Entry.{Entry}
use Rattle.ota_core.specs.declared.entries.Entry.TheVariants as entry
use Rattle.counter_journal.specs.EntryRanges.{IsHistory}
use Rattle.counter_journal.specs.JournalReading.{Holds}
use Rattle.response_packet.specs.Response.{settles}
use Rattle.site_model.specs.Port.{PortState}
use Rattle.sms_segments.specs.declared.assembling.Push.{Push}
use Rattle.world_core.specs.Condition.{refused_unless, is_answer_with, passes, is_given, is_answered, begin_refusal, IsAllowed}
use Rattle.world_core.specs.Effect.{world_step}
use Rattle.world_core.specs.MemberLaws.{In-right, holds, list_any-from_In}
use Rattle.world_core.specs.Members.{In}
use Rattle.world_core.specs.Settling.{SettlesReceipt}
use Rattle.world_core.specs.Settling.{settlement_of as settles_made}
use Rattle.world_core.specs.Sound.{IsSound}
use Rattle.world_core.specs.WorldLaws.{receipt_settles}
use Rattle.world_core.specs.declared.answers.Made.{Made}
use Rattle.world_core.specs.declared.events.Event.TheVariants.{Begin, Seal, Give}
use Rattle.world_core.specs.declared.lines.Line.{Line}
use Rattle.world_core.specs.declared.refusals.NotAllowed.TheVariants as refusal
use Rattle.world_core.specs.declared.segments.Sent.{Sent}
use Rattle.world_core.proofs.SoundLemmas.{IsSound-step}
use Rattle.lane_engine.specs.Polling.{FirstMade}
use Rattle.lane_engine.specs.Receipts.{Response, settlement_of}
use Rattle.lane_engine.specs.Sound.{IsSoundState}
use Rattle.lane_engine.specs.Unforged.{made_as}
use Rattle.lane_engine.specs.World.{world_of, AreSent}
use Rattle.lane_engine.proofs.AddingLemmas.{sent_more, stands_as}
use Rattle.lane_engine.proofs.DueLemmas.{IsDue, receipt_status}

-- ---- the first place of an answer

-- the same answer, as a test
abbrev is_made : Made → Made → Bool
is_made made other = (other.card.0 == made.card.0) && is_answer_with made.keyset made.counter made.status made.answer other

is_made-same : (made : Made) → is_made made made ≡ true
is_made-same made =
    let octets : bytes_eq made.answer made.answer ≡ true = (bytes_eq-Decides made.answer made.answer).1 refl in
    rw (is_same_keyset-refl made.keyset, octets) (grind (arith, common_steps, nat_tests))

-- an answer of these
abbrev made_of : ℕ → Keyset → ℕ → ℕ → List ℕ → Made
made_of card keyset counter status answer = record { card = record { 0 = card }; keyset = keyset; counter = counter; status = status; answer = answer }

same_made : (a b : Made) → a.card.0 ≡ b.card.0 → a.keyset ≡ b.keyset → a.counter ≡ b.counter → a.status ≡ b.status → a.answer ≡ b.answer → a ≡ b
same_made a b card keyset counter status answer =
    ap (λ (n : ℕ). made_of n a.keyset a.counter a.status a.answer) card
    ∙ ap (λ (k : Keyset). made_of b.card.0 k a.counter a.status a.answer) keyset
    ∙ ap (λ (n : ℕ). made_of b.card.0 b.keyset n a.status a.answer) counter
    ∙ ap (λ (n : ℕ). made_of b.card.0 b.keyset b.counter n a.answer) status
    ∙ ap (λ (l : List ℕ). made_of b.card.0 b.keyset b.counter b.status l) answer

is_made-true : (made other : Made) → is_made made other ≡ true → other ≡ made
is_made-true made other h =
    let a = and_parts (other.card.0 == made.card.0) (is_answer_with made.keyset made.counter made.status made.answer other) h in
    let b = and_parts (is_same_keyset other.keyset made.keyset && (other.counter == made.counter) && (other.status == made.status)) (bytes_eq other.answer made.answer) a.1 in
    let c = and_parts (is_same_keyset other.keyset made.keyset && (other.counter == made.counter)) (other.status == made.status) b.0 in
    let d = and_parts (is_same_keyset other.keyset made.keyset) (other.counter == made.counter) c.0 in
    let card : other.card.0 ≡ made.card.0 = grind (arith, nat_tests, a.0) in
    let counter : other.counter ≡ made.counter = grind (arith, nat_tests, d.1) in
    let status : other.status ≡ made.status = grind (arith, nat_tests, c.1) in
    same_made other made card (is_same_keyset-true other.keyset made.keyset d.0) counter status ((bytes_eq-Decides other.answer made.answer).0 b.1)

-- the first place of an element that passes a test
pub record FirstAt {X : Type 0} (test : X → Bool) (xs : List X) : Type 0 where
  pub place : ℕ
  pub element : X
  pub there : slice_get xs place ≡ Some element
  pub passes_it : test element ≡ true
  pub first : (other : ℕ) (y : X) → slice_get xs other ≡ Some y → test y ≡ true → place ≤ other

first_at : {X : Type 0} (test : X → Bool) (xs : List X) (x : X) → In x xs → test x ≡ true → FirstAt test xs
first_at {X = X} test [] x i is = absurd i
first_at {X = X} test (y ∷ ys) x i is = by_test (test y) refl (λ later. first_at test ys x later is)
  where
    differ : (b : Bool) → b ≡ true → b ≡ false → ⊥
    differ true is isnt = cc
    differ false is isnt = cc

    behind : FirstAt test ys → test y ≡ false → FirstAt test (y ∷ ys)
    behind found isnt = record {
      place = suc found.place;
      element = found.element;
      there = found.there;
      passes_it = found.passes_it;
      first = no_sooner;
    }
      where
        no_sooner : (other : ℕ) (z : X) → slice_get (y ∷ ys) other ≡ Some z → test z ≡ true → suc found.place ≤ other
        no_sooner zero z at passing = absurd (differ (test y) (let same : y ≡ z = cc in rw same passing) isnt)
        no_sooner (suc other) z at passing = (let later = found.first other z at passing in omega (arith, later))

    by_test : (t : Bool) → test y ≡ t → (In x ys → FirstAt test ys) → FirstAt test (y ∷ ys)
    by_test true passing later = record { place = 0; element = y; there = refl; passes_it = passing; first = λ other z at also. omega arith }
    by_test false isnt later = elim i [
      | inl e ↦ absurd (differ (test y) (rw (← e) is) isnt)
      | inr i ↦ behind (later i) isnt
    ]

-- an answer that was made has a first place
pub first_made : (made : Made) (answers : List Made) → In made answers → (position : ℕ) × FirstMade made answers position
first_made made answers i =
    let found = first_at (is_made made) answers made i (is_made-same made) in (
      found.place,
      (
        found.there ∙ ap (λ (m : Made). Some m) (is_made-true made found.element found.passes_it),
        λ earlier at. found.first earlier made at (is_made-same made),
      ),
    )

-- ---- the entry is that of the answer

settles_as : (by moment : ℕ) (card : CardId) (response : Response) → settles response.answer.status ≡ true
    → settles_made by moment (made_as card response) ≡ Some (settlement_of by moment response)
settles_as by moment card response h = by_test (response.answer.status == 0x00) refl
  where
    other : (response.answer.status == 0x00) ≡ false → ((response.answer.status == 0x07) || (response.answer.status == 0x09)) ≡ true
    other isnt = by_cases (response.answer.status == 0x00) isnt ((response.answer.status == 0x07)) refl (response.answer.status == 0x09) refl
      where
        none : (false || false || false) ≡ true → ⊥
        none e = cc

        by_cases : (a : Bool) → a ≡ false → (b : Bool) → (response.answer.status == 0x07) ≡ b → (c : Bool) → (response.answer.status == 0x09) ≡ c → ((response.answer.status == 0x07) || (response.answer.status == 0x09)) ≡ true
        by_cases a isnt true b c is_c = rw b refl
        by_cases a isnt false b true c = rw (b, c) refl
        by_cases a isnt' false b false c = absurd (none (rw (isnt, b, c) at h))

    by_test : (t : Bool) → (response.answer.status == 0x00) ≡ t
        → (if t then Some (entry.Done by moment response.keyset response.answer.counter response.answer.octets)
        else (if (response.answer.status == 0x07) || (response.answer.status == 0x09) then Some (entry.Refused by moment response.keyset response.answer.counter response.answer.status) else None))
        ≡ Some (if t then entry.Done by moment response.keyset response.answer.counter response.answer.octets else entry.Refused by moment response.keyset response.answer.counter response.answer.status)
    by_test true is = refl
    by_test false is = rw (other is) refl

-- ---- the world

module _ (history : List Entry) (port : PortState) (chosen : ℕ → List Line) (sent : List Sent) where
  -- an answer is given
  pub may_give : (given : List ℕ) (position : ℕ) (made : Made) → slice_get port.made position ≡ Some made → IsAllowed (world_of history port chosen sent given) (Give position)
  may_give given position made there =
      let below : position < length port.made = slice_get_within port.made position made there in
      let test : nat_lt position (length port.made) ≡ true = grind (arith, nat_tests, below) in
      rw test refl

  -- soundness says nothing of what was given that is less
  fewer_given : (given : List ℕ) → IsSound (world_of history port chosen sent given) → IsSound (world_of history port chosen sent [])
  fewer_given given sound = record {
    legal = sound.legal;
    sent = sound.sent;
    differ = sound.differ;
    cards = sound.cards;
    reserved = sound.reserved;
    answers = sound.answers;
    own = sound.own;
    given = λ position i. absurd i;
    reports = sound.reports;
  }

  module _ (sound : IsSound (world_of history port chosen sent [])) (card : CardId) (made : Push) (response : Response) (due : IsDue history card made response) (by moment : ℕ)
      (later : last_moment (reverse history) ≤ moment) (position : ℕ) (there : slice_get port.made position ≡ Some (made_as card response)) where
    given_one : IsSound (world_of history port chosen sent (position ∷ []))
    given_one = IsSound-step (world_of history port chosen sent []) (Give position) sound (may_give [] position (made_as card response) there)

    settles_it : SettlesReceipt (world_of history port chosen sent (position ∷ [])) (settlement_of by moment response)
    settles_it = record {
      position = position;
      made = made_as card response;
      given = inl refl;
      there = there;
      by = by;
      moment = moment;
      settles = settles_as by moment card response (receipt_status response due.receipt).0;
      in_use = due.in_use;
      unsettled = due.unsettled;
      later = later;
    }

    begins : begin_refusal (world_of history port chosen sent (position ∷ [])) (settlement_of by moment response ∷ []) ≡ None
    begins = receipt_settles (world_of history port chosen sent (position ∷ [])) (settlement_of by moment response) given_one refl refl settles_it

    -- the settlement is answered by that answer
    pub answered_by : list_all (is_answered port.made (position ∷ [])) (settlement_of by moment response ∷ []) ≡ true
    answered_by =
        let legal = both_hold (option_map refusal.Broken (broken_batch (reverse history) (settlement_of by moment response ∷ []))) (refused_unless (list_all (is_answered port.made (position ∷ [])) (settlement_of by moment response ∷ [])) refusal.NoAnswer) begins in
        holds (list_all (is_answered port.made (position ∷ [])) (settlement_of by moment response ∷ [])) refusal.NoAnswer legal.1

    -- the world behind it is sound
    pub sound_settled : broken_batch (reverse history) (settlement_of by moment response ∷ []) ≡ None → IsSound (world_of (history ++ settlement_of by moment response ∷ []) port chosen sent [])
    sound_settled legal =
        let begun = IsSound-step (world_of history port chosen sent (position ∷ [])) (Begin (settlement_of by moment response ∷ [])) given_one begins in
        let sealed = IsSound-step (world_step (world_of history port chosen sent (position ∷ [])) (Begin (settlement_of by moment response ∷ []))) Seal begun refl in
        record {
          legal = sealed.legal;
          sent = sealed.sent;
          differ = sealed.differ;
          cards = sealed.cards;
          reserved = sealed.reserved;
          answers = sealed.answers;
          own = sealed.own;
          given = λ position i. absurd i;
          reports = sealed.reports;
        }

-- more that is given answers what fewer answered
given_more : (test : Made → Bool) (made : List Made) (before : List ℕ) (position : ℕ) → is_given test made (position ∷ []) ≡ true → is_given test made (before ++ position ∷ []) ≡ true
given_more test made before position h =
    list_any-from_In (λ (place : ℕ). passes test (slice_get made place)) (before ++ position ∷ []) position (In-right position before (position ∷ []) (inl refl)) (first_of (passes test (slice_get made position)) h)
  where
    first_of : (b : Bool) → (b || false) ≡ true → b ≡ true
    first_of true h = refl
    first_of false h = h

pub answered_more : (made : List Made) (before : List ℕ) (position by moment : ℕ) (response : Response) → list_all (is_answered made (position ∷ [])) (settlement_of by moment response ∷ []) ≡ true
    → list_all (is_answered made (before ++ position ∷ [])) (settlement_of by moment response ∷ []) ≡ true
answered_more made before position by moment response h = by_test (response.answer.status == 0x00) h
  where
    alone : (b : Bool) → (b && true) ≡ true → b ≡ true
    alone true h = refl
    alone false h = h

    both : (b : Bool) → b ≡ true → (b && true) ≡ true
    both true h = refl
    both false h = h

    by_test : (t : Bool)
        → list_all (is_answered made (position ∷ [])) ((if t then entry.Done by moment response.keyset response.answer.counter response.answer.octets else entry.Refused by moment response.keyset response.answer.counter response.answer.status) ∷ []) ≡ true
        → list_all (is_answered made (before ++ position ∷ [])) ((if t then entry.Done by moment response.keyset response.answer.counter response.answer.octets else entry.Refused by moment response.keyset response.answer.counter response.answer.status) ∷ []) ≡ true
    by_test true h = both (is_given (is_answer_with response.keyset response.answer.counter 0x00 response.answer.octets) made (before ++ position ∷ []))
        (given_more (is_answer_with response.keyset response.answer.counter 0x00 response.answer.octets) made before position
        (alone (is_given (is_answer_with response.keyset response.answer.counter 0x00 response.answer.octets) made (position ∷ [])) h))
    by_test false h = both (is_given (is_answer_with response.keyset response.answer.counter response.answer.status []) made (before ++ position ∷ []))
        (given_more (is_answer_with response.keyset response.answer.counter response.answer.status []) made before position
        (alone (is_given (is_answer_with response.keyset response.answer.counter response.answer.status []) made (position ∷ [])) h))

-- a sound state whose image holds the history is sound with each image that holds it and the settlement of a receipt that was made
pub state_settled : (lane lanes : ℕ) (history : List Entry) (seen image : List ℕ) (port : PortState) (chosen : ℕ → List Line) → IsHistory lane lanes history → Holds lane lanes history seen
    → (card : CardId) (made : Push) (response : Response) → IsDue history card made response → (by moment : ℕ) → last_moment (reverse history) ≤ moment
    → In (made_as card response) port.made → broken_batch (reverse history) (settlement_of by moment response ∷ []) ≡ None → IsHistory lane lanes (history ++ settlement_of by moment response ∷ [])
    → IsSoundState lane lanes seen port chosen → Holds lane lanes (history ++ settlement_of by moment response ∷ []) image → IsSoundState lane lanes image port chosen
state_settled lane lanes history seen image port chosen is holds_it card made response due by moment later was_made legal more sound held =
    let same : sound.history ≡ history = stands_as lane lanes sound.history history seen sound.stands is holds_it in
    let world : IsSound (world_of history port chosen sound.sent []) = subst (λ (h : List Entry). IsSound (world_of h port chosen sound.sent [])) same sound.world in
    let place = first_made (made_as card response) port.made was_made in
    record {
      history = history ++ settlement_of by moment response ∷ [];
      stands = inr (more, held);
      sent = sound.sent;
      left = sent_more history (settlement_of by moment response ∷ []) port.sent sound.sent (subst (λ (h : List Entry). AreSent h port.sent sound.sent) same sound.left);
      world = sound_settled history port chosen sound.sent world card made response due by moment later place.0 place.1.0 legal;
    }
