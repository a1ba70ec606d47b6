-- Laws of worlds, which other crates cite.
use Rattle.std.proofs.Common.{◌≡◌, ◌≢◌, ℕ, ◌≤◌, ◌<◌, zero, suc, nat_le, Bool, true, false, ◌==◌, ◌&&◌, ◌||◌, not, if◌then◌else◌, ◌⊎◌, inl, inr, Option, Some, None, Result, Ok, Err, unwrap_or, List, [], ◌∷◌, ◌++◌, map, length, reverse, slice_get, take, refl, sym, ◌∙◌, ap, subst, arith, append-nil, append_assoc}
use Rattle.std.specs.Option.{option_or, option_map, option_to_list}
use Rattle.std.specs.List.{list_any, list_all}
use Rattle.std.specs.Str.{bytes_eq}
use Rattle.std.proofs.lemmas.Grind.{common_steps}
use Rattle.std.proofs.lemmas.Bool.Decides.{nat_tests}
use Rattle.std.proofs.lemmas.Slice.Eq.{bytes_eq-Decides}
use Rattle.ota_core.specs.Keyset.{Keyset, is_same_keyset}
use Rattle.ota_core.specs.Entry.{Reservation, moment_of, reserved_by, is_open_of, is_close_of, is_reserve_of, is_settlement_of}
use Rattle.ota_core.specs.History.{unless, broken, broken_in_order, broken_in_use, broken_settlement, broken_status, broken_moment, broken_batch}
use Rattle.ota_core.specs.HistoryLaws.{is_same_keyset-refl, broken-none}
use Rattle.ota_core.specs.Questions.{state_of, last_moment}
use Rattle.ota_core.specs.declared.cards.CardId.{CardId}
use Rattle.ota_core.specs.declared.cards.CardFacts.{CardFacts}
use Rattle.ota_core.specs.declared.jobs.JobId.{JobId}
use Rattle.ota_core.specs.declared.entries.Entry.{Entry}
use Rattle.ota_core.specs.declared.entries.Entry.TheVariants.{Open, Reserve, Done, Refused, Close}
use Rattle.ota_core.specs.declared.entries.Illegal.{Illegal}
use Rattle.ota_core.specs.declared.questions.KeysetState.{KeysetState}
use Rattle.ota_core.specs.declared.questions.KeysetState.TheVariants as state
use Rattle.world_core.specs.Members.{In, Begins}
use Rattle.world_core.specs.Packet.{Packet, packet_at}
use Rattle.world_core.specs.Card.{CardState, is_card, find_card, log_of, logged}
use Rattle.world_core.specs.WorldState.{WorldState, written}
use Rattle.world_core.specs.Condition.{IsAllowed, refusal_of, may_want_memory, passes, is_answer_with, is_answered, begin_refusal}
use Rattle.world_core.specs.Effect.{piece_of, stepped, world_step}
use Rattle.world_core.specs.Run.{Answers, IsRefusalOf, Runs, StopsAt, IsLater, Continues}
use Rattle.world_core.specs.Headline.{all_lines, IsReserved, HasLine, IsFinished, IsTrueReport, IsTrueAnswer}
use Rattle.world_core.specs.Settling.{answered_place, settlement_of, SettlesReceipt, BeginsSettlement}
use Rattle.world_core.specs.Sound.{IsSound, CardsWentOn, gone_on}
use Rattle.world_core.specs.declared.segments.Sent.{Sent}
use Rattle.world_core.specs.declared.lines.Line.{Line}
use Rattle.world_core.specs.declared.answers.Made.{Made}
use Rattle.world_core.specs.declared.events.Event.{Event}
use Rattle.world_core.specs.declared.events.Event.TheVariants as event
use Rattle.world_core.specs.declared.refusals.NotAllowed.{NotAllowed}
use Rattle.world_core.specs.declared.refusals.NotAllowed.TheVariants as refusal
use Rattle.world_core.specs.MemberLaws.{In-reverse, In-flat_map, list_any-from_In, slice_get-In}

-- ---- cards and entries

abbrev pub number_of : CardState → CardId
number_of state = state.facts.card

-- a card that passes the test has the number
pub is_card-true : (card : CardId) (state : CardState) → is_card card state ≡ true → state.facts.card ≡ card
is_card-true card state h = grind (arith, common_steps, nat_tests, h)

-- a line of a card's log is a line of that card
abbrev pub StandsIn : List CardState → CardId → Line → Type 0
StandsIn cards card line = (state : CardState) × In state cards × (state.facts.card ≡ card) × In line state.log

stands_first : (first : CardState) (cards : List CardState) (card : CardId) (line : Line) (t : Bool) → is_card card first ≡ t
    → (In line (log_of cards card) → StandsIn cards card line) → In line (log_of (first ∷ cards) card) → StandsIn (first ∷ cards) card line
stands_first first cards card line true is later h = (first, inl refl, is_card-true card first is, rw is at h)
stands_first first cards card line false is later h = (let found = later (rw is at h) in (found.0, inr found.1, found.2, found.3))

pub log_of-In : (cards : List CardState) (card : CardId) (line : Line) → In line (log_of cards card) → StandsIn cards card line
log_of-In [] card line h = absurd h
log_of-In (first ∷ cards) card line h = stands_first first cards card line (is_card card first) refl (log_of-In cards card line) h

-- an entry that reserves a counter passes the test of that counter
pub reserves : (place : Reservation) (entry : Entry) → reserved_by entry ≡ Some place → is_reserve_of place entry ≡ true
reserves place (Open by moment keyset facts) h = cc
reserves place (Reserve by moment keyset counter job tar name body) h =
    let e : (let p : Reservation = record { keyset = keyset; counter = counter } in p) ≡ place = cc in
    rw (← e) (grind (arith, common_steps, nat_tests, is_same_keyset-refl keyset))
reserves place (Done by moment keyset counter answer) h = cc
reserves place (Refused by moment keyset counter status) h = cc
reserves place (Close by moment keyset) h = cc

-- ---- runs of events

-- a run of some events, and behind it one of others, is a run of both
pub Runs-append : (w u v : WorldState) (events more : List Event) → Runs w events u → Runs u more v → Runs w (events ++ more) v
Runs-append w u v [] more run rest = subst (λ (x : WorldState). Runs x more v) run rest
Runs-append w u v (happening ∷ events) more run rest = (run.0, Runs-append (world_step w happening) u v events more run.1 rest)

-- and the other way round
pub Runs-split : (w v : WorldState) (events more : List Event) → Runs w (events ++ more) v → (u : WorldState) × Runs w events u × Runs u more v
Runs-split w v [] more run = (w, refl, run)
Runs-split w v (happening ∷ events) more run = (let rest = Runs-split (world_step w happening) v events more run.1 in (rest.0, (run.0, rest.1), rest.2))

-- ---- worlds only grow

begins_same : {X : Type 0} (xs : List X) → Begins xs xs
begins_same xs = ([], sym (append-nil xs))

begins_more : {X : Type 0} (xs more : List X) → Begins xs (xs ++ more)
begins_more xs more = (more, refl)

begins_then : {X : Type 0} (xs ys zs : List X) → Begins xs ys → Begins ys zs → Begins xs zs
begins_then xs ys zs first second = (first.0 ++ second.0, rw second.1 (rw first.1 (append_assoc xs first.0 second.0)))

pub IsLater-same : (w : WorldState) → IsLater w w
IsLater-same w = record {
  history = begins_same w.history;
  sent = begins_same w.sent;
  made = begins_same w.made;
  given = begins_same w.given;
  facts = refl;
  logs = λ card. begins_same (log_of w.cards card);
}

pub IsLater-then : (w u v : WorldState) → IsLater w u → IsLater u v → IsLater w v
IsLater-then w u v first second = record {
  history = begins_then w.history u.history v.history first.history second.history;
  sent = begins_then w.sent u.sent v.sent first.sent second.sent;
  made = begins_then w.made u.made v.made first.made second.made;
  given = begins_then w.given u.given v.given first.given second.given;
  facts = second.facts ∙ first.facts;
  logs = λ card. begins_then (log_of w.cards card) (log_of u.cards card) (log_of v.cards card) (first.logs card) (second.logs card);
}

-- a line more changes no facts
facts_logged : (cards : List CardState) (card : CardId) (lines : List Line)
    → map (λ (state : CardState). state.facts) (logged cards card lines) ≡ map (λ (state : CardState). state.facts) cards
facts_logged [] card lines = refl
facts_logged (first ∷ cards) card lines = grind (arith, common_steps, facts_logged cards card lines)

log_first : (first : CardState) (cards : List CardState) (card other : CardId) (lines : List Line) (t : Bool) → is_card card first ≡ t
    → (s : Bool) → is_card other first ≡ s → Begins (log_of cards other) (log_of (logged cards card lines) other)
    → Begins (log_of (first ∷ cards) other) (log_of (logged (first ∷ cards) card lines) other)
log_first first cards card other lines true is true has later = rw (is, has) (begins_more first.log lines)
log_first first cards card other lines true is false has later = rw (is, has) (begins_same (log_of cards other))
log_first first cards card other lines false is true has later = rw (is, has) (begins_same first.log)
log_first first cards card other lines false is false has later = rw (is, has) later

log_grows : (cards : List CardState) (card other : CardId) (lines : List Line) → Begins (log_of cards other) (log_of (logged cards card lines) other)
log_grows [] card other lines = begins_same []
log_grows (first ∷ cards) card other lines =
    log_first first cards card other lines (is_card card first) refl (is_card other first) refl (log_grows cards card other lines)

later_stepped : (w : WorldState) (card : CardId) (line : Option Line) (answer : Option Made) → IsLater w (stepped w card line answer)
later_stepped w card line answer = record {
  history = begins_same w.history;
  sent = begins_same w.sent;
  made = begins_more w.made (option_to_list answer);
  given = begins_same w.given;
  facts = facts_logged w.cards card (option_to_list line);
  logs = λ other. log_grows w.cards card other (option_to_list line);
}

later_durable : (w : WorldState) (up : Bool) (more : List Entry) → IsLater w (record w { history = w.history ++ more; batch = None; up = up })
later_durable w up more = record {
  history = begins_more w.history more;
  sent = begins_same w.sent;
  made = begins_same w.made;
  given = begins_same w.given;
  facts = refl;
  logs = λ card. begins_same (log_of w.cards card);
}

later_stopped : (w : WorldState) (kept : Bool) → IsLater w (world_step w (event.Stop kept))
later_stopped w true = later_durable w false (unwrap_or w.batch [])
later_stopped w false = record {
  history = begins_same w.history;
  sent = begins_same w.sent;
  made = begins_same w.made;
  given = begins_same w.given;
  facts = refl;
  logs = λ card. begins_same (log_of w.cards card);
}

pub IsLater-step : (w : WorldState) (happening : Event) → IsLater w (world_step w happening)
IsLater-step w (event.Begin batch) = record {
  history = begins_same w.history;
  sent = begins_same w.sent;
  made = begins_same w.made;
  given = begins_same w.given;
  facts = refl;
  logs = λ card. begins_same (log_of w.cards card);
}
IsLater-step w event.Seal = later_durable w w.up (unwrap_or w.batch [])
IsLater-step w (event.Leave reservation place) = record {
  history = begins_same w.history;
  sent = begins_more w.sent (option_to_list (option_map (piece_of reservation place) (packet_at w.history reservation)));
  made = begins_same w.made;
  given = begins_same w.given;
  facts = refl;
  logs = λ card. begins_same (log_of w.cards card);
}
IsLater-step w (event.Deliver card pieces made) = later_stepped w card _ _
IsLater-step w (event.Give position) = record {
  history = begins_same w.history;
  sent = begins_same w.sent;
  made = begins_same w.made;
  given = begins_more w.given (position ∷ []);
  facts = refl;
  logs = λ card. begins_same (log_of w.cards card);
}
IsLater-step w (event.Stop kept) = later_stopped w kept
IsLater-step w event.Start = record {
  history = begins_same w.history;
  sent = begins_same w.sent;
  made = begins_same w.made;
  given = begins_same w.given;
  facts = refl;
  logs = λ card. begins_same (log_of w.cards card);
}
IsLater-step w (event.PowerCut card) = IsLater-same w

pub IsLater-runs : (w v : WorldState) (events : List Event) → Runs w events v → IsLater w v
IsLater-runs w v [] run = subst (λ (x : WorldState). IsLater w x) (sym run) (IsLater-same w)
IsLater-runs w v (happening ∷ events) run =
    IsLater-then w (world_step w happening) v (IsLater-step w happening) (IsLater-runs (world_step w happening) v events run.1)

-- ---- receipts are settled

-- a keyset that is open is in use
open_in_use : (keyset : Keyset) (past : List Entry) → state_of keyset past ≡ state.Open → broken_in_use keyset past ≡ None
open_in_use keyset past h = by_tests (list_any (is_open_of keyset) past) (list_any (is_close_of keyset) past) h
  where
    by_tests : (opened closed : Bool) → (if opened then (if closed then state.Closed else state.Open) else state.New) ≡ state.Open
        → option_or (unless opened Illegal.NotOpened) (unless (not closed) Illegal.Closed) ≡ None
    by_tests true true h = cc
    by_tests true false h = refl
    by_tests false closed h = cc

not_before : (past : List Entry) (moment : ℕ) → last_moment past ≤ moment → broken_moment past moment ≡ None
not_before [] moment h = refl
not_before (last ∷ past) moment h = (let test : nat_le (moment_of last) moment ≡ true = grind (arith, nat_tests, h) in rw test refl)

-- the line of a receipt
receipt_line : (w : WorldState) (made : Made) → IsSound w → In made w.made → (made.status ≡ 0x00) ⊎ (made.status ≡ 0x07) ⊎ (made.status ≡ 0x09)
    → HasLine w.cards made.keyset made.counter (IsFinished made.status made.answer)
receipt_line w made sound i settling = sound.answers made i settling

-- the counter of a receipt is reserved
receipt_reserved : (w : WorldState) (made : Made) → IsSound w → In made w.made → (made.status ≡ 0x00) ⊎ (made.status ≡ 0x07) ⊎ (made.status ≡ 0x09)
    → list_any (is_reserve_of (answered_place made)) (reverse w.history) ≡ true
receipt_reserved w made sound i settling =
    let has = receipt_line w made sound i settling in
    let stands = log_of-In w.cards made.keyset.card has.0 has.1 in
    let found = sound.reserved has.0 (In-flat_map (λ (card : CardState). card.log) stands.0 has.0 w.cards stands.1 stands.3) in
    let entry : Entry = Reserve found.0 found.1 has.0.keyset has.0.counter found.2 has.0.tar found.3 has.0.body in
    let place : Reservation = record { keyset = has.0.keyset; counter = has.0.counter } in
    let test : is_reserve_of place entry ≡ true = reserves place entry refl in
    let same : is_reserve_of (answered_place made) entry ≡ true =
    subst (λ (n : ℕ). is_reserve_of (record { keyset = made.keyset; counter = n }) entry ≡ true) has.3
    (subst (λ (k : Keyset). is_reserve_of (record { keyset = k; counter = has.0.counter }) entry ≡ true) has.2 test) in
    list_any-from_In (is_reserve_of (answered_place made)) (reverse w.history) entry (In-reverse entry w.history found.4) same

-- a refused receipt has no data
refused_empty : (w : WorldState) (made : Made) → IsSound w → In made w.made → (made.status ≡ 0x07) ⊎ (made.status ≡ 0x09) → made.answer ≡ []
refused_empty w made sound i settling =
    let has = receipt_line w made sound i (inr settling) in
    let stands = log_of-In w.cards made.keyset.card has.0 has.1 in
    let unrun = ((sound.cards stands.0 stands.1).lines has.0 stands.3).unrun (not_zero has.0.status made.status has.4.1 settling) in
    sym has.4.2 ∙ unrun.2
  where
    not_zero : (n status : ℕ) → n ≡ status → (status ≡ 0x07) ⊎ (status ≡ 0x09) → n ≢ 0x00
    not_zero n status is settling = elim settling [ inl e ↦ (λ z. omega arith) | inr e ↦ (λ z. omega arith) ]

-- an answer that was given passes the test of its values
given_passes : (w : WorldState) (made : Made) (position : ℕ) (answer : List ℕ) → In position w.given → slice_get w.made position ≡ Some made → made.answer ≡ answer
    → list_any (λ place. passes (is_answer_with made.keyset made.counter made.status answer) (slice_get w.made place)) w.given ≡ true
given_passes w made position answer given there is =
    list_any-from_In (λ place. passes (is_answer_with made.keyset made.counter made.status answer) (slice_get w.made place)) w.given position given
    (rw there (let octets : bytes_eq made.answer answer ≡ true = (bytes_eq-Decides made.answer answer).1 is in
    rw (is_same_keyset-refl made.keyset, octets) (grind (arith, common_steps, nat_tests))))

-- the entry may be written
may_write : (w : WorldState) (entry : Entry) → w.up ≡ true → w.batch ≡ None → broken (reverse w.history) entry ≡ None → is_answered w.made w.given entry ≡ true
    → begin_refusal w (entry ∷ []) ≡ None
may_write w entry up none legal answered = rw (up, none, legal, answered) refl

-- a receipt that was given, whose keyset is open and whose counter isn't settled, may be settled
pub receipt_settles : (w : WorldState) (entry : Entry) → IsSound w → w.up ≡ true → w.batch ≡ None → SettlesReceipt w entry
    → IsAllowed w (event.Begin (entry ∷ []))
receipt_settles w entry sound up none settles = by_status (settles.made.status == 0x00) refl ((settles.made.status == 0x07) || (settles.made.status == 0x09)) refl settles.settles
  where
    stands : In settles.made w.made
    stands = slice_get-In w.made settles.position settles.made settles.there

    place : Reservation
    place = answered_place settles.made

    awaited : (settles.made.status ≡ 0x00) ⊎ (settles.made.status ≡ 0x07) ⊎ (settles.made.status ≡ 0x09)
        → option_or (broken_in_use settles.made.keyset (reverse w.history)) (broken_settlement (answered_place settles.made) (reverse w.history)) ≡ None
    awaited settling = rw (open_in_use settles.made.keyset (reverse w.history) settles.in_use, receipt_reserved w settles.made sound stands settling, settles.unsettled) refl

    earlier : (n : ℕ) → n ≡ settles.moment → broken_moment (reverse w.history) n ≡ None
    earlier n is = not_before (reverse w.history) n (rw is settles.later)

    done : settles.made.status ≡ 0x00 → begin_refusal w (Done settles.by settles.moment settles.made.keyset settles.made.counter settles.made.answer ∷ []) ≡ None
    done is = may_write w (Done settles.by settles.moment settles.made.keyset settles.made.counter settles.made.answer) up none
        (broken-none (reverse w.history) (Done settles.by settles.moment settles.made.keyset settles.made.counter settles.made.answer) (awaited (inl is)) (earlier settles.moment refl))
        (subst (λ (n : ℕ). list_any (λ position. passes (is_answer_with settles.made.keyset settles.made.counter n settles.made.answer) (slice_get w.made position)) w.given ≡ true) is
        (given_passes w settles.made settles.position settles.made.answer settles.given settles.there refl))

    refused : ((settles.made.status == 0x07) || (settles.made.status == 0x09)) ≡ true → (settles.made.status ≡ 0x07) ⊎ (settles.made.status ≡ 0x09)
        → begin_refusal w (Refused settles.by settles.moment settles.made.keyset settles.made.counter settles.made.status ∷ []) ≡ None
    refused test settling = may_write w (Refused settles.by settles.moment settles.made.keyset settles.made.counter settles.made.status) up none
        (broken-none (reverse w.history) (Refused settles.by settles.moment settles.made.keyset settles.made.counter settles.made.status)
        (with_status (broken_in_use settles.made.keyset (reverse w.history)) (broken_settlement (answered_place settles.made) (reverse w.history)) (broken_status settles.made.status)
        (awaited (inr settling)) (rw test refl)) (earlier settles.moment refl))
        (given_passes w settles.made settles.position [] settles.given settles.there (refused_empty w settles.made sound stands settling))
      where
        with_status : {B : Type 0} (a b c : Option B) → option_or a b ≡ None → c ≡ None → option_or a (option_or b c) ≡ None
        with_status None None c h is = is
        with_status None (Some b) c h is = cc
        with_status (Some a) b c h is = cc

    either : (a b : Bool) → (a || b) ≡ true → (a ≡ true) ⊎ (b ≡ true)
    either true b h = inl refl
    either false b h = inr h

    by_status : (t : Bool) → (settles.made.status == 0x00) ≡ t → (s : Bool) → ((settles.made.status == 0x07) || (settles.made.status == 0x09)) ≡ s
        → (if t then Some (Done settles.by settles.moment settles.made.keyset settles.made.counter settles.made.answer)
        else (if s then Some (Refused settles.by settles.moment settles.made.keyset settles.made.counter settles.made.status) else None)) ≡ Some entry
        → begin_refusal w (entry ∷ []) ≡ None
    by_status true ran s test h =
        (let e : Done settles.by settles.moment settles.made.keyset settles.made.counter settles.made.answer ≡ entry = cc in
        subst (λ (x : Entry). begin_refusal w (x ∷ []) ≡ None) e (done (grind (arith, nat_tests, ran))))
    by_status false other true test h =
        (let e : Refused settles.by settles.moment settles.made.keyset settles.made.counter settles.made.status ≡ entry = cc in
        let one = either (settles.made.status == 0x07) (settles.made.status == 0x09) test in
        subst (λ (x : Entry). begin_refusal w (x ∷ []) ≡ None) e
        (refused test (elim one [ inl a ↦ inl (grind (arith, nat_tests, a)) | inr b ↦ inr (grind (arith, nat_tests, b)) ])))
    by_status false other false test h = cc

-- ---- cards between two acts of the gateway

numbers_of : (cards others : List CardState) → map (λ (card : CardState). card.facts) cards ≡ map (λ (card : CardState). card.facts) others
    → map number_of cards ≡ map number_of others
numbers_of [] [] same = refl
numbers_of [] (other ∷ others) same = cc
numbers_of (card ∷ cards) [] same = cc
numbers_of (card ∷ cards) (other ∷ others) same =
    let head : card.facts ≡ other.facts = cc in
    let rest : map (λ (card : CardState). card.facts) cards ≡ map (λ (card : CardState). card.facts) others = cc in
    rw (numbers_of cards others rest) (ap (λ (facts : CardFacts). facts.card ∷ map number_of others) head)

-- a settlement's line is finished
report_kept_on : (w : WorldState) (sent : List Sent) (cards : List CardState) (made : List Made) (entry : Entry) → IsSound w → CardsWentOn w sent cards made
    → IsTrueReport w.cards entry → IsTrueReport cards entry
report_kept_on w sent cards made (Open by moment keyset facts) sound on h = tt
report_kept_on w sent cards made (Reserve by moment keyset counter job tar name body) sound on h = tt
report_kept_on w sent cards made (Done by moment keyset counter answer) sound on h = (h.0, on.kept keyset.card h.0 h.1 h.4.0, h.2, h.3, h.4)
report_kept_on w sent cards made (Refused by moment keyset counter status) sound on h =
    let stands = log_of-In w.cards keyset.card h.0 h.1 in
    let unrun = ((sound.cards stands.0 stands.1).lines h.0 stands.3).unrun (not_zero h.0.status status h.4.0 h.4.1) in
    (h.0, on.kept keyset.card h.0 h.1 unrun.1, h.2, h.3, h.4)
  where
    not_zero : (n status : ℕ) → n ≡ status → (status ≡ 0x07) ⊎ (status ≡ 0x09) → n ≢ 0x00
    not_zero n status is settling = elim settling [ inl e ↦ (λ z. omega arith) | inr e ↦ (λ z. omega arith) ]
report_kept_on w sent cards made (Close by moment keyset) sound on h = tt

-- a world whose logs and answers grew by lines of its reservations is sound
pub IsSound-cards : (w : WorldState) (sent : List Sent) (cards : List CardState) (made : List Made) → IsSound w → CardsWentOn w sent cards made
    → IsSound (gone_on w sent cards made)
IsSound-cards w sent cards made sound on = record {
  legal = sound.legal;
  sent = λ piece i. elim (on.leaves piece i) [ inl old ↦ sound.sent piece old | inr new ↦ new ];
  differ = rw (numbers_of cards w.cards on.facts) sound.differ;
  cards = on.states;
  reserved = λ line i. elim (on.lines line i) [ inl old ↦ sound.reserved line old | inr new ↦ new ];
  answers = λ answer i. elim (on.answers answer i) [
    | inl old ↦ (λ settling. (let h = sound.answers answer old settling in (h.0, on.kept answer.keyset.card h.0 h.1 h.4.0, h.2, h.3, h.4)))
    | inr new ↦ new.1
  ];
  own = λ answer i. elim (on.answers answer i) [ inl old ↦ sound.own answer old | inr new ↦ new.0 ];
  given = λ position i. (let below : position < length w.made = sound.given position i in let longer = on.longer in omega (arith, below, longer));
  reports = λ entry i. report_kept_on w sent cards made entry sound on (sound.reports entry i);
}
