-- The logs of cards, as the octets of their disks say them.
use Rattle.std.specs.Prelude.{◌≡◌, ◌⊎◌, ℕ, zero, suc, ◌+◌, ◌<◌, ◌≤◌, true, false, cond, is_none, unwrap_or, Option, Some, None, List, [], ◌∷◌, ◌++◌, length, reverse, slice_get, refl}
use Rattle.std.specs.Option.{option_or, option_map_or}
use Rattle.std.proofs.Common.{inl, inr, ⊎_elim, sym, ◌∙◌, ap, subst, arith, append_assoc}
use Rattle.std.proofs.lemmas.List.{reverse-append, append-nil}
use Rattle.gate_log.specs.Making.{IsNew}
use Rattle.gate_log.specs.Opening.{OpensAlike}
use Rattle.gate_log.specs.Reading.{Reading, OpensTo, parts_of}
use Rattle.gate_log.specs.Reading.Reading.{Unformatted, NotALog, OtherHead, Damaged, Opened}
use Rattle.ota_core.specs.History.{first_some}
use Rattle.ota_core.specs.HistoryLaws.{is_same_keyset-true}
use Rattle.ota_core.specs.Keyset.{Keyset, is_same_keyset}
use Rattle.ota_core.specs.declared.cards.CardFacts.{CardFacts}
use Rattle.site_model.specs.Cards.{GoesOn, Grows, IsFurther, MayFollow, MayFollowAll}
use Rattle.world_core.specs.Card.{IsCardState, IsLine, IsRisingPast, base_of, counter_of, stored_counter}
use Rattle.world_core.specs.MemberLaws.{In-push}
use Rattle.world_core.specs.Members.{In}
use Rattle.world_core.specs.declared.lines.Line.{Line}
use Rattle.card_store.specs.CardLaws.{cards_are_sound}
use Rattle.card_store.specs.Content.{Content, issued}
use Rattle.card_store.specs.Parts.{store_head}
use Rattle.card_store.specs.Replay.{Holds, replayed}
use Rattle.air_sim.specs.Logged.{content_by, content_in, logged}

abbrev log_of : Option Content → List Line
log_of content = option_map_or (λ c. c.log) content []

-- octets that hold a card have its log
pub holds_logged : (facts : CardFacts) (content : Content) (octets : List ℕ) → Holds facts content octets → logged facts octets ≡ content.log
holds_logged facts content octets holds =
    ap (λ (r : Reading). log_of (content_by facts r)) holds.opens.1 ∙ ap log_of holds.replays

-- a store without parts has no lines, made or not
pub new_logged : (facts : CardFacts) (octets : List ℕ) → IsNew store_head octets → logged facts octets ≡ []
new_logged facts octets (inl unformatted) = ap (λ (r : Reading). log_of (content_by facts r)) unformatted
new_logged facts octets (inr opens) = ap (λ (r : Reading). log_of (content_by facts r)) opens.1

pub unformatted_logged : (facts : CardFacts) (octets : List ℕ) → parts_of store_head octets ≡ Unformatted → logged facts octets ≡ []
unformatted_logged facts octets unformatted = ap (λ (r : Reading). log_of (content_by facts r)) unformatted

-- octets that open alike have the same lines
pub alike_logged : (facts : CardFacts) (octets image : List ℕ) → OpensAlike store_head octets image → logged facts image ≡ logged facts octets
alike_logged facts octets image (parts, here, there) =
    ap (λ (r : Reading). log_of (content_by facts r)) there.1 ∙ sym (ap (λ (r : Reading). log_of (content_by facts r)) here.1)

-- whatever octets hold is a card of the pure machine
pub logged_is_card : (facts : CardFacts) (octets : List ℕ) → IsCardState (record { facts = facts; log = logged facts octets })
logged_is_card facts octets = by_reading (parts_of store_head octets)
  where
    none : IsCardState (record { facts = facts; log = [] })
    none = record { lines = λ line there. absurd there; rising = tt }

    by_content : (parts : List (List ℕ)) (content : Option Content) → replayed facts parts ≡ content → IsCardState (record { facts = facts; log = log_of content })
    by_content parts None is = none
    by_content parts (Some content) is = cards_are_sound facts parts content is

    by_reading : (reading : Reading) → IsCardState (record { facts = facts; log = log_of (content_by facts reading) })
    by_reading Unformatted = none
    by_reading NotALog = none
    by_reading (OtherHead rest) = none
    by_reading (Damaged parts) = none
    by_reading (Opened parts behind) = by_content parts (replayed facts parts) refl

-- ---- growth

follow_all : (facts : CardFacts) (before one other : List Line) → MayFollowAll facts before one → MayFollowAll facts (before ++ one) other → MayFollowAll facts before (one ++ other)
follow_all facts before [] other first second = subst (λ (l : List Line). MayFollowAll facts l other) (append-nil before) second
follow_all facts before (line ∷ one) other first second =
    (first.0, follow_all facts (before ++ line ∷ []) one other first.1 (subst (λ (l : List Line). MayFollowAll facts l other) (sym (append_assoc before (line ∷ []) one)) second))

pub grows_on : (facts : CardFacts) (a b c : List Line) → Grows facts a b → Grows facts b c → Grows facts a c
grows_on facts a b c (more, is, follow) (further, goes, follows) =
    (more ++ further, goes ∙ ap (λ (l : List Line). l ++ further) is ∙ append_assoc a more further, follow_all facts a more further follow (subst (λ (l : List Line). MayFollowAll facts l further) is follows))

same_line : (line : Line) → IsFurther line line
same_line line = record { keyset = refl; counter = refl; tar = refl; body = refl; status = refl; executed = omega arith; finished = λ ended. refl }

goes_into : (lines more : List Line) → GoesOn lines (lines ++ more)
goes_into [] more = tt
goes_into (line ∷ lines) more = (same_line line, goes_into lines more)

-- lines that grew are there still
pub grown_goes : (facts : CardFacts) (a b : List Line) → Grows facts a b → GoesOn a b
grown_goes facts a b (more, is, follow) = subst (GoesOn a) (sym is) (goes_into a more)

further_on : (a b c : Line) → IsFurther a b → IsFurther b c → IsFurther a c
further_on a b c first second = record {
  keyset = second.keyset ∙ first.keyset;
  counter = second.counter ∙ first.counter;
  tar = second.tar ∙ first.tar;
  body = second.body ∙ first.body;
  status = second.status ∙ first.status;
  executed = omega (arith, first.executed, second.executed);
  finished = λ ended. second.finished (ap (λ (l : Line). l.finished) (first.finished ended) ∙ ended) ∙ first.finished ended;
}

pub goes_further : (a b c : List Line) → GoesOn a b → GoesOn b c → GoesOn a c
goes_further [] b c first second = tt
goes_further (x ∷ a) [] c first second = absurd first
goes_further (x ∷ a) (y ∷ b) [] first second = absurd second
goes_further (x ∷ a) (y ∷ b) (z ∷ c) first second = (further_on x y z first.0 second.0, goes_further a b c first.1 second.1)

-- a finished line stays
pub stays_finished : (a b : List Line) (line : Line) → GoesOn a b → In line a → line.finished ≡ true → In line b
stays_finished [] b line goes there ended = absurd there
stays_finished (x ∷ a) [] line goes there ended = absurd goes
stays_finished (x ∷ a) (y ∷ b) line goes (inl is) ended = inl (is ∙ sym (goes.0.finished (ap (λ (l : Line). l.finished) (sym is) ∙ ended)))
stays_finished (x ∷ a) (y ∷ b) line goes (inr there) ended = inr (stays_finished a b line goes.1 there ended)

-- the counter of the keyset that these lines, newest first, leave is below that of a line that rises above them
below : (base counter : ℕ) (keyset : Keyset) (past : List Line) → base < counter → ((other : Line) → In other past → other.keyset ≡ keyset → other.counter < counter)
    → unwrap_or (first_some (counter_of keyset) past) base < counter
below base counter keyset [] above rises = above
below base counter keyset (line ∷ past) above rises =
    elim (is_same_keyset line.keyset keyset) as (λ b. is_same_keyset line.keyset keyset ≡ b → unwrap_or (option_or (cond b (Some line.counter) None) (first_some (counter_of keyset) past)) base < counter) [
      | true ↦ λ is. rises line (inl refl) (is_same_keyset-true line.keyset keyset is)
      | false ↦ λ is. below base counter keyset past above (λ other there same. rises other (inr there) same)
    ] refl

-- the last line of a card may follow those before it
pub last_follows : (facts : CardFacts) (log : List Line) (line : Line) → IsCardState (record { facts = facts; log = log ++ line ∷ [] }) → Grows facts log (log ++ line ∷ [])
last_follows facts log line card =
    let is_line = card.lines line (In-push log line) in
    let rising : IsRisingPast (line ∷ reverse log) = subst IsRisingPast (reverse-append log (line ∷ [])) card.rising in
    (line ∷ [], refl, (record { is_line = is_line; above = below (base_of facts line.keyset) line.counter line.keyset (reverse log) is_line.above rising.0 }, tt))
