-- Cards and their logs.
use Rattle.std.proofs.Common.{◌≡◌, ℕ, ◌+◌, ◌≤◌, ◌<◌, Bool, true, false, not, ◌==◌, ◌&&◌, ◌||◌, nat_le, nat_lt, if◌then◌else◌, ◌⊎◌, inl, inr, Option, Some, None, unwrap_or, List, [], ◌∷◌, ◌++◌, map, reverse, refl, sym, ◌∙◌, ap, subst, arith}
use Rattle.std.proofs.lemmas.Grind.{common_steps}
use Rattle.std.proofs.lemmas.Bool.Decides.{nat_tests}
use Rattle.std.proofs.lemmas.List.{reverse-append}
use Rattle.ota_core.specs.Keyset.{Keyset, is_same_keyset}
use Rattle.ota_core.specs.History.{first_some}
use Rattle.ota_core.specs.declared.cards.CardId.{CardId}
use Rattle.ota_core.specs.declared.keysets.KeysetFacts.{KeysetFacts}
use Rattle.ota_core.specs.HistoryLaws.{is_same_keyset-true, is_same_keyset-refl}
use Rattle.world_core.specs.Members.{In}
use Rattle.world_core.specs.Packet.{Packet}
use Rattle.world_core.specs.Card.{CardState, is_card, find_card, log_of, logged, counter_of, stored_counter, facts_under, base_of, line_status, IsRisingPast, IsRising}
use Rattle.world_core.specs.Receiving.{is_next, is_other_key, is_below_level, status_with, is_taken, may_make, put_facts, may_make_with, may_step}
use Rattle.world_core.specs.declared.card_steps.CardStep.{CardStep}
use Rattle.world_core.specs.declared.card_steps.CardStep.TheVariants.{Answered, Took}
use Rattle.world_core.specs.Headline.{all_lines}
use Rattle.world_core.specs.declared.lines.Line.{Line}
use Rattle.world_core.specs.WorldLaws.{number_of, is_card-true}
use Rattle.world_core.specs.MemberLaws.{true_not_false, In-left, In-push_cases, In-push, In-reverse, In-from_reverse, In-flat_map, In-from_flat_map}

abbrev pub with_lines : CardState → List Line → CardState
with_lines state lines = record { facts = state.facts; log = state.log ++ lines }

found_first : (card : CardId) (first : CardState) (cards : List CardState) (state : CardState) (t : Bool) → is_card card first ≡ t
    → (find_card card cards ≡ Some state → In state cards × (is_card card state ≡ true))
    → (if t then Some first else find_card card cards) ≡ Some state → In state (first ∷ cards) × (is_card card state ≡ true)
found_first card first cards state true is later h = (let e : first ≡ state = cc in (inl (sym e), subst (λ (s : CardState). is_card card s ≡ true) e is))
found_first card first cards state false is later h = (let found = later h in (inr found.0, found.1))

pub find_card-In : (card : CardId) (cards : List CardState) (state : CardState) → find_card card cards ≡ Some state
    → In state cards × (is_card card state ≡ true)
find_card-In card [] state h = cc
find_card-In card (first ∷ cards) state h = found_first card first cards state (is_card card first) refl (find_card-In card cards state) h

-- the numbers of the cards stay
pub numbers-logged : (cards : List CardState) (card : CardId) (lines : List Line) → map number_of (logged cards card lines) ≡ map number_of cards
numbers-logged [] card lines = refl
numbers-logged (first ∷ cards) card lines = grind (arith, common_steps, numbers-logged cards card lines)

-- a card that is as before, or the one whose log is longer
abbrev pub IsLogged : List CardState → CardId → List Line → CardState → Type 0
IsLogged cards card lines state = In state cards ⊎ ((before : CardState) × (find_card card cards ≡ Some before) × (state ≡ with_lines before lines))

logged_first : (first : CardState) (cards : List CardState) (card : CardId) (lines : List Line) (state : CardState) (t : Bool) → is_card card first ≡ t
    → (In state (logged cards card lines) → IsLogged cards card lines state)
    → In state (if t then with_lines first lines ∷ cards else (first ∷ logged cards card lines)) → IsLogged (first ∷ cards) card lines state
logged_first first cards card lines state true is later h = elim h [ inl e ↦ inr (first, rw is refl, e) | inr i ↦ inl (inr i) ]
logged_first first cards card lines state false is later h = elim h [
  | inl e ↦ inl (inl e)
  | inr i ↦ elim (later i) [ inl old ↦ inl (inr old) | inr new ↦ inr (new.0, rw is new.1, new.2) ]
]

pub logged-cases : (cards : List CardState) (card : CardId) (lines : List Line) (state : CardState) → In state (logged cards card lines) → IsLogged cards card lines state
logged-cases [] card lines state h = absurd h
logged-cases (first ∷ cards) card lines state h =
    logged_first first cards card lines state (is_card card first) refl (logged-cases cards card lines state) h

-- no log loses a line
kept_first : (first : CardState) (cards : List CardState) (card other : CardId) (lines : List Line) (line : Line) (t : Bool) → is_card card first ≡ t
    → (s : Bool) → is_card other first ≡ s → (In line (log_of cards other) → In line (log_of (logged cards card lines) other))
    → In line (log_of (first ∷ cards) other) → In line (log_of (logged (first ∷ cards) card lines) other)
kept_first first cards card other lines line true is true has later h =
    (let old : In line first.log = rw has at h in rw (is, has) (In-left line first.log lines old))
kept_first first cards card other lines line true is false has later h = rw (is, has) (rw has at h)
kept_first first cards card other lines line false is true has later h = rw (is, has) (rw has at h)
kept_first first cards card other lines line false is false has later h = rw (is, has) (later (rw has at h))

pub log_of-logged : (cards : List CardState) (card other : CardId) (lines : List Line) (line : Line) → In line (log_of cards other)
    → In line (log_of (logged cards card lines) other)
log_of-logged [] card other lines line h = h
log_of-logged (first ∷ cards) card other lines line h =
    kept_first first cards card other lines line (is_card card first) refl (is_card other first) refl (log_of-logged cards card other lines line) h

-- the line that is added stands in the card's log
new_first : (first : CardState) (cards : List CardState) (card : CardId) (line : Line) (state : CardState) (t : Bool) → is_card card first ≡ t
    → (find_card card cards ≡ Some state → In line (log_of (logged cards card (line ∷ [])) card))
    → find_card card (first ∷ cards) ≡ Some state → In line (log_of (logged (first ∷ cards) card (line ∷ [])) card)
new_first first cards card line state true is later h = rw (is, is) (In-push first.log line)
new_first first cards card line state false is later h = rw (is, is) (later (rw is at h))

pub log_of-logged_new : (cards : List CardState) (card : CardId) (line : Line) (state : CardState) → find_card card cards ≡ Some state
    → In line (log_of (logged cards card (line ∷ [])) card)
log_of-logged_new [] card line state h = cc
log_of-logged_new (first ∷ cards) card line state h =
    new_first first cards card line state (is_card card first) refl (log_of-logged_new cards card line state) h

-- the lines of all cards are as before, or the one that is added
pub all_lines-logged : (cards : List CardState) (card : CardId) (line new : Line) → In line (all_lines (logged cards card (new ∷ [])))
    → In line (all_lines cards) ⊎ (line ≡ new)
all_lines-logged cards card line new h =
    let found = In-from_flat_map (λ (state : CardState). state.log) line (logged cards card (new ∷ [])) h in
    elim (logged-cases cards card (new ∷ []) found.0 found.1) [
      | inl old ↦ inl (In-flat_map (λ (state : CardState). state.log) found.0 line cards old found.2)
      | inr longer ↦ (let here : In line (longer.0.log ++ new ∷ []) = rw longer.2 at found.2 in
          elim (In-push_cases line longer.0.log new here) [
            | inl i ↦ inl (In-flat_map (λ (state : CardState). state.log) longer.0 line cards (find_card-In card cards longer.0 longer.1).0 i)
            | inr e ↦ inr e
          ])
    ]

-- no line of the keyset has a counter above the stored one
above_first : (base : ℕ) (newest : Line) (past : List Line) (keyset : Keyset) (line : Line)
    → ((other : Line) → In other past → other.keyset ≡ newest.keyset → other.counter < newest.counter) → line.keyset ≡ keyset
    → (t : Bool) → is_same_keyset newest.keyset keyset ≡ t → (In line past → line.counter ≤ unwrap_or (first_some (counter_of keyset) past) base)
    → In line (newest ∷ past) → line.counter ≤ unwrap_or (first_some (counter_of keyset) (newest ∷ past)) base
above_first base newest past keyset line rising same true is later h = rw is (elim h [
  | inl e ↦ (let c : line.counter ≡ newest.counter = ap (λ (l : Line). l.counter) e in omega arith)
  | inr i ↦ (let below : line.counter < newest.counter = rising line i (same ∙ sym (is_same_keyset-true newest.keyset keyset is)) in omega arith)
])
above_first base newest past keyset line rising same false is later h = rw is (elim h [
  | inl e ↦ (let k : newest.keyset ≡ keyset = ap (λ (l : Line). l.keyset) (sym e) ∙ same in
      let t : is_same_keyset newest.keyset keyset ≡ true = subst (λ (k : Keyset). is_same_keyset k keyset ≡ true) (sym k) (is_same_keyset-refl keyset) in
      absurd (true_not_false (sym t ∙ is)))
  | inr i ↦ later i
])

stored_above : (base : ℕ) (past : List Line) (keyset : Keyset) (line : Line) → IsRisingPast past → In line past → line.keyset ≡ keyset
    → line.counter ≤ unwrap_or (first_some (counter_of keyset) past) base
stored_above base [] keyset line rising h same = absurd h
stored_above base (newest ∷ past) keyset line rising h same =
    above_first base newest past keyset line rising.0 same (is_same_keyset newest.keyset keyset) refl (λ i. stored_above base past keyset line rising.1 i same) h

pub stored_counter-above : (base : ℕ) (log : List Line) (keyset : Keyset) (line : Line) → IsRising log → In line log → line.keyset ≡ keyset
    → line.counter ≤ stored_counter base keyset log
stored_counter-above base log keyset line rising h same = stored_above base (reverse log) keyset line rising (In-reverse line log h) same

-- a log with a line of a higher counter still rises
pub IsRising-push : (log : List Line) (line : Line) → IsRising log
    → ((other : Line) → In other log → other.keyset ≡ line.keyset → other.counter < line.counter) → IsRising (log ++ line ∷ [])
IsRising-push log line rising above =
    rw (reverse-append log (line ∷ [])) ((λ other h same. above other (In-from_reverse other log h) same), rising)

-- two lines of one log with one keyset and counter are one
one_line : (past : List Line) (a b : Line) → IsRisingPast past → In a past → In b past → a.keyset ≡ b.keyset → a.counter ≡ b.counter → a ≡ b
one_line [] a b rising i j same equal = absurd i
one_line (newest ∷ past) a b rising i j same equal = elim i [
  | inl e ↦ elim j [
    | inl f ↦ e ∙ sym f
    | inr k ↦ (let below : b.counter < newest.counter = rising.0 b k (sym same ∙ ap (λ (l : Line). l.keyset) e) in
        let c : a.counter ≡ newest.counter = ap (λ (l : Line). l.counter) e in absurd (omega arith))
  ]
  | inr h ↦ elim j [
    | inl f ↦ (let below : a.counter < newest.counter = rising.0 a h (same ∙ ap (λ (l : Line). l.keyset) f) in
        let c : b.counter ≡ newest.counter = ap (λ (l : Line). l.counter) f in absurd (omega arith))
    | inr k ↦ one_line past a b rising.1 h k same equal
  ]
]

pub IsRising-one_line : (log : List Line) (a b : Line) → IsRising log → In a log → In b log → a.keyset ≡ b.keyset → a.counter ≡ b.counter → a ≡ b
IsRising-one_line log a b rising i j same equal = one_line (reverse log) a b rising (In-reverse a log i) (In-reverse b log j) same equal

-- no stored counter is below the base that the lines of the keyset stand above
stored_from : (base : ℕ) (past : List Line) (keyset : Keyset) → ((line : Line) → In line past → line.keyset ≡ keyset → base < line.counter)
    → base ≤ unwrap_or (first_some (counter_of keyset) past) base
stored_from base [] keyset above = omega arith
stored_from base (newest ∷ past) keyset above = by_keyset (is_same_keyset newest.keyset keyset) refl (stored_from base past keyset (λ line i same. above line (inr i) same))
  where
    by_keyset : (t : Bool) → is_same_keyset newest.keyset keyset ≡ t → base ≤ unwrap_or (first_some (counter_of keyset) past) base
        → base ≤ unwrap_or (first_some (counter_of keyset) (newest ∷ past)) base
    by_keyset true is older = rw is (let higher : base < newest.counter = above newest (inl refl) (is_same_keyset-true newest.keyset keyset is) in omega (arith, higher))
    by_keyset false is older = rw is older

pub stored_counter-from : (base : ℕ) (log : List Line) (keyset : Keyset) → ((line : Line) → In line log → line.keyset ≡ keyset → base < line.counter)
    → base ≤ stored_counter base keyset log
stored_counter-from base log keyset above = stored_from base (reverse log) keyset (λ line i same. above line (In-from_reverse line log i) same)

-- a status with which a card uses the counter up: the counter is above the stored one, and the status is the line's
abbrev pub IsTaking : CardState → Packet → ℕ → Type 0
IsTaking state packet status = (stored_counter (base_of state.facts packet.keyset) packet.keyset state.log < packet.counter)
    × (status ≡ line_status state.facts packet.tar packet.body)

taken_by : (other below spent gap : Bool) (counter stored status : ℕ)
    → is_taken (if other then 0x01 else (if below then 0x0A else (if spent then 0x04 else (if nat_le counter stored then 0x02 else (if gap then 0x03 else status))))) ≡ true
    → (stored < counter)
    × ((if other then 0x01 else (if below then 0x0A else (if spent then 0x04 else (if nat_le counter stored then 0x02 else (if gap then 0x03 else status))))) ≡ status)
taken_by true below spent gap counter stored status h = cc
taken_by false true spent gap counter stored status h = cc
taken_by false false true gap counter stored status h = cc
taken_by false false false gap counter stored status h = by_counter (nat_le counter stored) refl gap h
  where
    by_counter : (t : Bool) → nat_le counter stored ≡ t → (gap : Bool) → is_taken (if t then 0x02 else (if gap then 0x03 else status)) ≡ true
        → (stored < counter) × ((if t then 0x02 else (if gap then 0x03 else status)) ≡ status)
    by_counter true is gap h = cc
    by_counter false is true h = cc
    by_counter false is false h = (grind (arith, nat_tests, is), refl)

taking_with : (state : CardState) (packet : Packet) (own : KeysetFacts) → own.base ≡ base_of state.facts packet.keyset
    → is_taken (status_with state packet own) ≡ true → IsTaking state packet (status_with state packet own)
taking_with state packet own base h =
    let stored = stored_counter own.base packet.keyset state.log in
    let parts = taken_by (is_other_key own packet.opened) (is_below_level own packet.opened) (stored == 0xFF_FFFF_FFFF)
    (is_next packet.opened.mode && nat_lt (stored + 1) packet.counter) packet.counter stored (line_status state.facts packet.tar packet.body) h in
    (subst (λ (n : ℕ). stored_counter n packet.keyset state.log < packet.counter) base parts.0, parts.1)

-- a status with which the card may make a step, and under which it uses the counter up only as it ought to
pub record MaySay (state : CardState) (packet : Packet) (made : CardStep) : Type 0 where
  pub status : ℕ
  pub may : may_make status made ≡ true
  pub taking : is_taken status ≡ true → IsTaking state packet status

-- where the card uses the counter up
pub taking : (state : CardState) (packet : Packet) (executed took : ℕ) (finished : Bool) (answer : List ℕ) (answered : Bool)
    → may_step state packet (Took executed finished took answer answered) ≡ true → MaySay state packet (Took executed finished took answer answered)
taking state packet executed took finished answer answered h = by_keyset (facts_under packet.keyset.kvn state.facts.keysets) refl h
  where
    by_keyset : (o : Option KeysetFacts) → facts_under packet.keyset.kvn state.facts.keysets ≡ o
        → may_make_with state packet (Took executed finished took answer answered) o ≡ true → MaySay state packet (Took executed finished took answer answered)
    by_keyset None is h = record {
      status = status_with state packet (put_facts packet.opened);
      may = h;
      taking = taking_with state packet (put_facts packet.opened) (rw is refl);
    }
    by_keyset (Some own) is h = record { status = status_with state packet own; may = h; taking = taking_with state packet own (rw is refl) }

-- where it answers and uses no counter up
pub answering : (state : CardState) (packet : Packet) (answered : ℕ) → may_step state packet (Answered answered) ≡ true → is_taken answered ≡ false
answering state packet answered h = by_keyset (facts_under packet.keyset.kvn state.facts.keysets) h
  where
    by_status : (status : ℕ) → ((answered == status) && not (is_taken status)) ≡ true → is_taken answered ≡ false
    by_status status may = grind (arith, common_steps, nat_tests, may)

    by_either : (a b : Bool) → (a || b) ≡ true → (a ≡ true → is_taken answered ≡ false) → (b ≡ true → is_taken answered ≡ false) → is_taken answered ≡ false
    by_either true b either left right = left refl
    by_either false b either left right = right either

    by_keyset : (o : Option KeysetFacts) → may_make_with state packet (Answered answered) o ≡ true → is_taken answered ≡ false
    by_keyset None may =
        by_either ((answered == 0x06) || (answered == 0x01) || (answered == 0x0A)) (may_make (status_with state packet (put_facts packet.opened)) (Answered answered)) may
        (λ unissued. grind (arith, common_steps, nat_tests, unissued)) (λ h. by_status (status_with state packet (put_facts packet.opened)) h)
    by_keyset (Some own) may = by_status (status_with state packet own) may
