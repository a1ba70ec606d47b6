-- What holds of each sound world.
use Rattle.std.proofs.Common.{◌≡◌, ℕ, ◌+◌, ◌≤◌, ◌<◌, zero, suc, Bool, true, false, ◌==◌, ◌&&◌, nat_lt, if◌then◌else◌, ◌⊎◌, inl, inr, Option, Some, None, unwrap_or, List, [], ◌∷◌, ◌++◌, map, reverse, slice_get, take, drop, count_by, cond, add_comm, refl, sym, ◌∙◌, ap, subst, arith, append_assoc}
use Rattle.std.specs.List.{list_any}
use Rattle.std.proofs.lemmas.Grind.{common_steps}
use Rattle.std.proofs.lemmas.Bool.{and_parts, or_parts}
use Rattle.std.proofs.lemmas.List.{reverse-append}
use Rattle.std.proofs.lemmas.Bool.Decides.{nat_tests}
use Rattle.std.proofs.lemmas.List.Sums.{sum_by-append, sum_by-cons, sum_by_push}
use Rattle.ota_core.specs.Keyset.{Keyset, is_same_keyset}
use Rattle.ota_core.specs.Job.{is_same_job}
use Rattle.ota_core.specs.Entry.{Reservation, reserved_by, reservation_in, is_reserve_of, is_refusal_of}
use Rattle.ota_core.specs.History.{unless, last_reservation, next_counter, broken, broken_in_use, broken_counter, broken_job, IsLegalPast, IsLegal}
use Rattle.ota_core.specs.declared.cards.CardFacts.{CardFacts}
use Rattle.ota_core.specs.declared.jobs.JobId.{JobId}
use Rattle.ota_core.specs.declared.entries.Illegal.TheVariants.{Exhausted, NotNext, JobTaken}
use Rattle.ota_core.specs.declared.entries.Entry.{Entry}
use Rattle.ota_core.specs.declared.entries.Entry.TheVariants.{Open, Reserve, Done, Refused, Close}
use Rattle.ota_core.specs.HistoryLaws.{both_hold, in_order, is_same_keyset-true, is_same_keyset-refl, is_same_job-true, is_same_place-true, reserves_next, IsLegal-prefix}
use Rattle.ota_core.proofs.RuleLaws.{reserved_below_next}
use Rattle.world_core.specs.Members.{In}
use Rattle.world_core.specs.Packet.{place_at}
use Rattle.world_core.specs.Card.{CardState, IsRisingPast, IsCardState}
use Rattle.world_core.specs.WorldState.{WorldState, issued}
use Rattle.world_core.specs.Headline.{OneCounter, all_lines, place_of, is_reserve_for, is_run_of, AtMostOnce}
use Rattle.world_core.specs.Sound.{Differ, IsSound}
use Rattle.world_core.specs.declared.lines.Line.{Line}
use Rattle.world_core.specs.MemberLaws.{In-left, In-right, In-reverse, In-from_reverse, In-map, In-from_flat_map, list_any-In, list_any-from_In, and_then-some}
use Rattle.world_core.proofs.HistoryFacts.{packet_at-place, reserved_is_next}
use Rattle.world_core.proofs.CardLemmas.{IsRising-one_line}
use Rattle.world_core.specs.WorldLaws.{number_of, log_of-In, reserves}
use Rattle.world_core.proofs.SoundLemmas.{legal_history}
use Rattle.world_core.proofs.Walks.{list_any_reverse}

split_at : {X : Type 0} (xs : List X) (i : ℕ) (x : X) → slice_get xs i ≡ Some x → xs ≡ take i xs ++ x ∷ drop (suc i) xs
split_at [] i x h = cc
split_at (y ∷ xs) zero x h = (let e : y ≡ x = cc in rw e refl)
split_at (y ∷ xs) (suc i) x h = ap (λ zs. y ∷ zs) (split_at xs i x h)

-- an element stands among those before a later place
In-take : {X : Type 0} (xs : List X) (i j : ℕ) (x : X) → slice_get xs i ≡ Some x → i < j → In x (take j xs)
In-take [] i j x h below = cc
In-take (y ∷ xs) zero zero x h below = absurd (omega arith)
In-take (y ∷ xs) zero (suc j) x h below = inl (let e : y ≡ x = cc in sym e)
In-take (y ∷ xs) (suc i) zero x h below = absurd (omega arith)
In-take (y ∷ xs) (suc i) (suc j) x h below = inr (In-take xs i j x h (omega arith))

-- an entry of a legal history is legal behind those before it
legal_at : (history : List Entry) (j : ℕ) (entry : Entry) → IsLegal history → slice_get history j ≡ Some entry
    → IsLegalPast (reverse (take j history)) × (broken (reverse (take j history)) entry ≡ None)
legal_at history j entry legal there =
    let rest = drop (suc j) history in
    let whole : IsLegal ((take j history ++ entry ∷ []) ++ rest) =
    subst (λ (h : List Entry). IsLegal h) (split_at history j entry there ∙ sym (append_assoc (take j history) (entry ∷ []) rest)) legal in
    let front : IsLegal (take j history ++ entry ∷ []) = IsLegal-prefix (take j history ++ entry ∷ []) rest whole in
    let past : IsLegalPast (entry ∷ reverse (take j history)) = subst (λ (h : List Entry). IsLegalPast h) (reverse-append (take j history) (entry ∷ [])) front in
    (past.0, past.1)

-- no counter is reserved twice
no_second : (history : List Entry) (i j : ℕ) (place : Reservation) → IsLegal history
    → place_at history i ≡ Some place → place_at history j ≡ Some place → i < j → ⊥
no_second history i j place legal first second below =
    let a = and_then-some reserved_by (slice_get history i) place first in
    let b = and_then-some reserved_by (slice_get history j) place second in
    let at_j = legal_at history j b.0 legal b.1 in
    let past = reverse (take j history) in
    let stands : In a.0 past = In-reverse a.0 (take j history) (In-take history i j a.0 a.1 below) in
    let reserved : list_any (is_reserve_of place) past ≡ true = list_any-from_In (is_reserve_of place) past a.0 stands (reserves place a.0 a.2) in
    let low : place.counter < next_counter place.keyset past = reserved_below_next past place at_j.0 reserved in
    let equal : place.counter ≡ next_counter place.keyset past = reserved_is_next past b.0 place at_j.1 b.2 in
    omega arith

one_place : (i j : ℕ) → (i < j → ⊥) → (j < i → ⊥) → i ≡ j
one_place i j a b = by_tests (nat_lt i j) refl (nat_lt j i) refl
  where
    by_tests : (s : Bool) → nat_lt i j ≡ s → (t : Bool) → nat_lt j i ≡ t → i ≡ j
    by_tests true is t has = absurd (a (grind (arith, nat_tests, is)))
    by_tests false is true has = absurd (b (grind (arith, nat_tests, has)))
    by_tests false is false has = grind (arith, nat_tests, is, has)

-- pieces with one keyset and counter are of one reservation
pub one_counter : (w : WorldState) → IsSound w → OneCounter w
one_counter w sound a b i j same =
    let p = sound.sent a i in
    let place : Reservation = record { keyset = p.0.keyset; counter = p.0.counter } in
    let first : place_at w.history a.reservation ≡ Some place = packet_at-place w.history a.reservation p.0 p.1 in
    let second : place_at w.history b.reservation ≡ Some place = sym same ∙ first in
    one_place a.reservation b.reservation
    (no_second w.history a.reservation b.reservation place (legal_history w sound) first second)
    (no_second w.history b.reservation a.reservation place (legal_history w sound) second first)

-- cards with one number are one
one_card : (cards : List CardState) (s t : CardState) → Differ (map number_of cards) → In s cards → In t cards → number_of s ≡ number_of t → s ≡ t
one_card [] s t differ i j same = absurd i
one_card (first ∷ cards) s t differ i j same = elim i [
  | inl e ↦ elim j [
    | inl f ↦ e ∙ sym f
    | inr k ↦ absurd (differ.0 (number_of t) (In-map number_of t cards k) (sym same ∙ ap number_of e))
  ]
  | inr h ↦ elim j [
    | inl f ↦ absurd (differ.0 (number_of s) (In-map number_of s cards h) (same ∙ ap number_of f))
    | inr k ↦ one_card cards s t differ.1 h k same
  ]
]

-- the line of a refused reservation
refused_by : (w : WorldState) (line : Line) (entry : Entry) → IsSound w → In line (all_lines w.cards) → In entry w.history
    → is_refusal_of (place_of line) entry ≡ true → ((line.status ≡ 0x07) ⊎ (line.status ≡ 0x09)) × (line.executed ≡ 0)
refused_by w line (Open by moment keyset facts) sound i h is = cc
refused_by w line (Reserve by moment keyset counter job tar name body) sound i h is = cc
refused_by w line (Done by moment keyset counter answer) sound i h is = cc
refused_by w line (Refused by moment keyset counter status) sound i h is =
    let same = is_same_place-true keyset counter (place_of line) is in
    let other = sound.reports (Refused by moment keyset counter status) (In-left (Refused by moment keyset counter status) w.history (unwrap_or w.batch []) h) in
    let found = In-from_flat_map (λ (state : CardState). state.log) line w.cards i in
    let stands = log_of-In w.cards keyset.card other.0 other.1 in
    let number : number_of found.0 ≡ number_of stands.0 =
    sym ((sound.cards found.0 found.1).lines line found.2).card ∙ ap (λ (k : Keyset). k.card) (sym same.0) ∙ sym stands.2 in
    let one : found.0 ≡ stands.0 = one_card w.cards found.0 stands.0 sound.differ found.1 stands.1 number in
    let here : In other.0 found.0.log = subst (λ (s : CardState). In other.0 s.log) (sym one) stands.3 in
    let equal : line ≡ other.0 = IsRising-one_line found.0.log line other.0 (sound.cards found.0 found.1).rising found.2 here
    (sym same.0 ∙ sym other.2) (sym same.1 ∙ sym other.3) in
    let status_is : line.status ≡ status = ap (λ (l : Line). l.status) equal ∙ other.4.0 in
    (subst (λ (n : ℕ). (n ≡ 0x07) ⊎ (n ≡ 0x09)) (sym status_is) other.4.1, ap (λ (l : Line). l.executed) equal ∙ other.4.2)
refused_by w line (Close by moment keyset) sound i h is = cc

pub refused_line : (w : WorldState) (line : Line) → IsSound w → In line (all_lines w.cards) → list_any (is_refusal_of (place_of line)) w.history ≡ true
    → ((line.status ≡ 0x07) ⊎ (line.status ≡ 0x09)) × (line.executed ≡ 0)
refused_line w line sound i h =
    let found = list_any-In (is_refusal_of (place_of line)) w.history h in
    refused_by w line found.0 sound i found.1 found.2

-- an entry that reserves a counter for a job gives it as the job's reservation
reserve_gives : (job : JobId) (place : Reservation) (entry : Entry) → is_reserve_for job place entry ≡ true → reservation_in job entry ≡ Some place
reserve_gives job place (Open by moment keyset facts) h = cc
reserve_gives job place (Reserve by moment keyset counter reserved tar name body) h =
    let a = and_parts (is_same_job reserved job && is_same_keyset keyset place.keyset) (counter == place.counter) h in
    let b = and_parts (is_same_job reserved job) (is_same_keyset keyset place.keyset) a.0 in
    let n : counter ≡ place.counter = grind (arith, nat_tests, a.1) in
    rw (b.0, is_same_keyset-true keyset place.keyset b.1, n) refl
reserve_gives job place (Done by moment keyset counter answer) h = cc
reserve_gives job place (Refused by moment keyset counter status) h = cc
reserve_gives job place (Close by moment keyset) h = cc

-- behind a reservation for the job that isn't refused, no entry reserves for it
again_if : (past : List Entry) (job reserved : JobId) (keyset : Keyset) (counter : ℕ) (place : Reservation) (t : Bool) → is_same_job reserved job ≡ t
    → broken_job past (last_reservation reserved past) ≡ None → last_reservation job past ≡ Some place → list_any (is_refusal_of place) past ≡ false
    → (if t then Some (let p : Reservation = record { keyset = keyset; counter = counter } in p) else None) ≡ None
again_if past job reserved keyset counter place false is free last live = refl
again_if past job reserved keyset counter place true is free last live =
    let same : last_reservation reserved past ≡ Some place = subst (λ (j : JobId). last_reservation j past ≡ Some place) (sym (is_same_job-true reserved job is)) last in
    let taken : unless (list_any (is_refusal_of place) past) (JobTaken place.counter) ≡ None = subst (λ (o : Option Reservation). broken_job past o ≡ None) same free in
    let wrong : Some (JobTaken place.counter) ≡ None = subst (λ (b : Bool). unless b (JobTaken place.counter) ≡ None) live taken in
    cc

no_reserve_again : (past : List Entry) (job : JobId) (entry : Entry) (place : Reservation) → broken past entry ≡ None → last_reservation job past ≡ Some place
    → list_any (is_refusal_of place) past ≡ false → reservation_in job entry ≡ None
no_reserve_again past job (Open by moment keyset facts) place legal last live = refl
no_reserve_again past job (Reserve by moment keyset counter reserved tar name body) place legal last live =
    let next = reserves_next past by moment keyset counter reserved tar name body legal in
    again_if past job reserved keyset counter place (is_same_job reserved job) refl next.2 last live
no_reserve_again past job (Done by moment keyset counter answer) place legal last live = refl
no_reserve_again past job (Refused by moment keyset counter status) place legal last live = refl
no_reserve_again past job (Close by moment keyset) place legal last live = refl

-- a reservation for the job that isn't refused is the job's last
live_is_last : (past : List Entry) (job : JobId) (place : Reservation) (entry : Entry) → IsLegalPast past → In entry past → is_reserve_for job place entry ≡ true
    → list_any (is_refusal_of place) past ≡ false → last_reservation job past ≡ Some place
live_is_last [] job place entry legal i is live = absurd i
live_is_last (newest ∷ past) job place entry legal i is live =
    let parts = or_parts (is_refusal_of place newest) (list_any (is_refusal_of place) past) live in
    elim i [
      | inl e ↦ (let gives : reservation_in job newest ≡ Some place = reserve_gives job place newest (subst (λ (x : Entry). is_reserve_for job place x ≡ true) e is) in
          rw gives refl)
      | inr h ↦ (let last = live_is_last past job place entry legal.0 h is parts.1 in
          rw (no_reserve_again past job newest place legal.1 last parts.1) last)
    ]

-- the line of a job that ran is of the job's last reservation
run_is_last : (w : WorldState) (job : JobId) (line : Line) → IsSound w → In line (all_lines w.cards) → is_run_of w.history job line ≡ true
    → last_reservation job (reverse w.history) ≡ Some (place_of line)
run_is_last w job line sound i run =
    let parts = and_parts (line.status == 0x00) (list_any (is_reserve_for job (place_of line)) w.history) run in
    let zero_status : line.status ≡ 0x00 = grind (arith, nat_tests, parts.0) in
    let found = list_any-In (is_reserve_for job (place_of line)) w.history parts.1 in
    let live : list_any (is_refusal_of (place_of line)) w.history ≡ false = unrefused (list_any (is_refusal_of (place_of line)) w.history) refl zero_status in
    live_is_last (reverse w.history) job (place_of line) found.0 (legal_history w sound) (In-reverse found.0 w.history found.1) found.2
    (list_any_reverse (is_refusal_of (place_of line)) w.history ∙ live)
  where
    unrefused : (t : Bool) → list_any (is_refusal_of (place_of line)) w.history ≡ t → line.status ≡ 0x00 → list_any (is_refusal_of (place_of line)) w.history ≡ false
    unrefused false is z = is
    unrefused true is z = (let refusal = refused_line w line sound i is in elim refusal.0 [ inl e ↦ absurd (omega arith) | inr e ↦ absurd (omega arith) ])

one_run : (w : WorldState) (job : JobId) (a b : Line) → IsSound w → In a (all_lines w.cards) → In b (all_lines w.cards)
    → is_run_of w.history job a ≡ true → is_run_of w.history job b ≡ true → (a.keyset ≡ b.keyset) × (a.counter ≡ b.counter)
one_run w job a b sound i j ran ran' =
    let e : Some (place_of a) ≡ Some (place_of b) = sym (run_is_last w job a sound i ran) ∙ run_is_last w job b sound j ran' in
    let r : place_of a ≡ place_of b = cc in
    (ap (λ (p : Reservation). p.keyset) r, ap (λ (p : Reservation). p.counter) r)

-- either no line passes, or one does
count_none_or : (p : Line → Bool) (xs : List Line) → (count_by p xs ≡ 0) ⊎ ((x : Line) × In x xs × (p x ≡ true))
count_none_or p [] = inl refl
count_none_or p (x ∷ xs) = at_first p x xs (p x) refl (count_none_or p xs)
  where
    at_first : (p : Line → Bool) (x : Line) (xs : List Line) (t : Bool) → p x ≡ t → (count_by p xs ≡ 0) ⊎ ((y : Line) × In y xs × (p y ≡ true))
        → (count_by p (x ∷ xs) ≡ 0) ⊎ ((y : Line) × In y (x ∷ xs) × (p y ≡ true))
    at_first p x xs true is later = inr (x, inl refl, is)
    at_first p x xs false is later = elim later [
      | inl none ↦ inl (rw is (omega (arith, none)))
      | inr some ↦ inr (some.0, inr some.1, some.2)
    ]

counted : (p : Line → Bool) (x : Line) (xs : List Line) → count_by p (x ∷ xs) ≡ cond (p x) 1 0 + count_by p xs
counted p x xs = sum_by-cons (λ (y : Line). cond (p y) 1 0) x xs

count_first : (p : Line → Bool) (x : Line) (xs : List Line) → (p x ≡ true → count_by p xs ≡ 0) → count_by p xs ≤ 1 → count_by p (x ∷ xs) ≤ 1
count_first p x xs alone few = by_test (p x) refl
  where
    by_test : (t : Bool) → p x ≡ t → count_by p (x ∷ xs) ≤ 1
    by_test true is = rw (counted p x xs, is) (let none : count_by p xs ≡ 0 = alone is in omega arith)
    by_test false is = rw (counted p x xs, is) (omega arith)

abbrev pub AreOne : (Line → Bool) → List Line → Type 0
AreOne p xs = (a b : Line) → In a xs → In b xs → p a ≡ true → p b ≡ true → (a.keyset ≡ b.keyset) × (a.counter ≡ b.counter)

count_rising : (p : Line → Bool) (past : List Line) → IsRisingPast past → AreOne p past → count_by p past ≤ 1
count_rising p [] rising one = omega arith
count_rising p (newest ∷ past) rising one =
    count_first p newest past (λ is. none_older is (count_none_or p past))
    (count_rising p past rising.1 (λ a b i j. one a b (inr i) (inr j)))
  where
    none_older : p newest ≡ true → (count_by p past ≡ 0) ⊎ ((x : Line) × In x past × (p x ≡ true)) → count_by p past ≡ 0
    none_older is found = elim found [
      | inl none ↦ none
      | inr some ↦ (let same = one some.0 newest (inr some.1) (inl refl) some.2 is in
          let below : some.0.counter < newest.counter = rising.0 some.0 some.1 same.0 in
          let equal : some.0.counter ≡ newest.counter = same.1 in absurd (omega arith))
    ]

count_reverse : (p : Line → Bool) (xs : List Line) → count_by p (reverse xs) ≡ count_by p xs
count_reverse p [] = refl
count_reverse p (x ∷ xs) =
    rw (reverse-append (x ∷ []) xs, sum_by_push (λ (y : Line). cond (p y) 1 0) (reverse xs) x)
    (let e : count_by p (reverse xs) ≡ count_by p xs = count_reverse p xs in
    let d : count_by p (x ∷ xs) ≡ cond (p x) 1 0 + count_by p xs = counted p x xs in rw (d, e) (add_comm (count_by p xs) (cond (p x) 1 0)))

-- at most one line of all cards passes
count_all : (p : Line → Bool) (cards : List CardState) → Differ (map number_of cards) → ((s : CardState) → In s cards → IsCardState s) → AreOne p (all_lines cards)
    → count_by p (all_lines cards) ≤ 1
count_all p [] differ states one = omega arith
count_all p (first ∷ cards) differ states one =
    let log = count_rising p (reverse first.log) (states first (inl refl)).rising
    (λ a b i j. one a b (In-left a first.log (all_lines cards) (In-from_reverse a first.log i)) (In-left b first.log (all_lines cards) (In-from_reverse b first.log j))) in
    let few : count_by p first.log ≤ 1 = rw (← count_reverse p first.log) log in
    let rest : count_by p (all_lines cards) ≤ 1 = count_all p cards differ.1 (λ s i. states s (inr i))
    (λ a b i j. one a b (In-right a first.log (all_lines cards) i) (In-right b first.log (all_lines cards) j)) in
    let sum : count_by p (first.log ++ all_lines cards) ≡ count_by p first.log + count_by p (all_lines cards) =
    sum_by-append (λ (y : Line). cond (p y) 1 0) first.log (all_lines cards) in
    elim (count_none_or p first.log) [
      | inl none ↦ omega (arith, sum, none, rest)
      | inr here ↦ elim (count_none_or p (all_lines cards)) [
        | inl none ↦ omega (arith, sum, none, few)
        | inr there ↦ (let same = one here.0 there.0 (In-left here.0 first.log (all_lines cards) here.1) (In-right there.0 first.log (all_lines cards) there.1) here.2 there.2 in
            let found = In-from_flat_map (λ (state : CardState). state.log) there.0 cards there.1 in
            let number : number_of found.0 ≡ number_of first =
            sym ((states found.0 (inr found.1)).lines there.0 found.2).card ∙ ap (λ (k : Keyset). k.card) (sym same.0) ∙ ((states first (inl refl)).lines here.0 here.1).card in
            absurd (differ.0 (number_of found.0) (In-map number_of found.0 cards found.1) number))
      ]
    ]

pub at_most_once : (w : WorldState) → IsSound w → AtMostOnce w
at_most_once w sound = record {
  once = λ job. count_all (is_run_of w.history job) w.cards sound.differ sound.cards (λ a b i j ran ran'. one_run w job a b sound i j ran ran');
  refused = λ line i h. refused_line w line sound i h;
}

abbrev pub new_card : CardFacts → CardState
new_card facts = record { facts = facts; log = [] }

numbers_issued : (cards : List CardFacts) → map number_of (map new_card cards) ≡ map (λ (facts : CardFacts). facts.card) cards
numbers_issued [] = refl
numbers_issued (facts ∷ cards) = ap (λ numbers. facts.card ∷ numbers) (numbers_issued cards)

issued_state : (cards : List CardFacts) (state : CardState) → In state (map new_card cards) → (facts : CardFacts) × (state ≡ new_card facts)
issued_state [] state i = absurd i
issued_state (facts ∷ cards) state i = elim i [ inl e ↦ (facts, e) | inr h ↦ issued_state cards state h ]

no_lines : (cards : List CardFacts) (line : Line) → In line (all_lines (map new_card cards)) → ⊥
no_lines [] line i = i
no_lines (facts ∷ cards) line i = no_lines cards line i

new_is_card : (facts : CardFacts) → IsCardState (new_card facts)
new_is_card facts = record { lines = λ line none. absurd none; rising = tt }

-- a new world is sound
pub issued_sound : (cards : List CardFacts) → Differ (map (λ (facts : CardFacts). facts.card) cards) → IsSound (issued cards)
issued_sound cards differ = record {
  legal = tt;
  sent = λ piece i. absurd i;
  differ = rw (numbers_issued cards) differ;
  cards = λ state i. (let found = issued_state cards state i in subst (λ (s : CardState). IsCardState s) (sym found.1) (new_is_card found.0));
  reserved = λ line i. absurd (no_lines cards line i);
  answers = λ made i. absurd i;
  own = λ made i. absurd i;
  given = λ position i. absurd i;
  reports = λ entry i. absurd i;
}
