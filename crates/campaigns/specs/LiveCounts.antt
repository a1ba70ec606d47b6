-- What a legal history says of a job's reservations: none but the last can be live, that is, not refused.
use Rattle.std.specs.Prelude.{◌≡◌, ◌≤◌, Bool, true, false, cond, not, Option, Some, None, option_map, option_to_list, List, [], ◌∷◌, ◌++◌, length, reverse, filter, filter_map, All, refl}
use Rattle.std.specs.Option.{option_or}
use Rattle.std.specs.List.{list_any, cons_option}
use Rattle.std.proofs.Common.{sym, ◌∙◌, ap, subst, arith, length-append}
use Rattle.std.proofs.lemmas.Bool.{or_right}
use Rattle.std.proofs.lemmas.Option.{cond_some}
use Rattle.std.proofs.lemmas.List.{reverse-append}
use Rattle.std.proofs.lemmas.List.Elements.{All-head, All-tail, filter-append, filter_map-append}
use Rattle.std.proofs.lemmas.List.Sorted.{IsPermutation-reverse, list_any-IsPermutation}
use Rattle.ota_core.specs.Job.{is_same_job}
use Rattle.ota_core.specs.Entry.{Reservation, reservation_in, is_refusal_of}
use Rattle.ota_core.specs.HistoryLaws.{is_same_job-true, unless-holds, reserves_next}
use Rattle.ota_core.specs.History.{first_some, last_reservation, broken_job, broken, IsLegalPast, IsLegal, live_reservations}
use Rattle.ota_core.specs.Questions.{Reserved, place_of, reserved_for, last_reserved}
use Rattle.ota_core.specs.declared.jobs.JobId.{JobId}
use Rattle.ota_core.specs.declared.entries.Entry.{Entry}
use Rattle.ota_core.specs.declared.entries.Entry.TheVariants.{Open, Reserve, Done, Refused, Close}

-- ---- the first answer along a list

pub first_some-append : {A B : Type 0} (f : A → Option B) (xs ys : List A) → first_some f (xs ++ ys) ≡ option_or (first_some f xs) (first_some f ys)
first_some-append f [] ys = refl
first_some-append f (x ∷ xs) ys = ap (option_or (f x)) (first_some-append f xs ys) ∙ or_assoc (f x) (first_some f xs) (first_some f ys)
  where
    or_assoc : {B : Type 0} (o p q : Option B) → option_or o (option_or p q) ≡ option_or (option_or o p) q
    or_assoc None p q = refl
    or_assoc (Some x) p q = refl

-- the first answer is that of an element
pub first_some-of : {A B : Type 0} (P : A → Type 0) (f : A → Option B) (xs : List A) (y : B) → All P xs → first_some f xs ≡ Some y
    → (x : A) × P x × (f x ≡ Some y)
first_some-of P f [] y all h = absurd cc
first_some-of {A = A} {B = B} P f (x ∷ xs) y all h = here (f x) refl h (first_some-of P f xs y (All-tail P x xs all))
  where
    here : (o : Option B) → f x ≡ o → option_or o (first_some f xs) ≡ Some y → (first_some f xs ≡ Some y → (z : A) × P z × (f z ≡ Some y))
        → (z : A) × P z × (f z ≡ Some y)
    here None is h later = later h
    here (Some z) is h later = (x, All-head P x xs all, is ∙ h)

-- ---- legal pasts

-- the reservation isn't refused in the history
abbrev pub is_live_in : List Entry → Reservation → Bool
is_live_in history place = not (list_any (is_refusal_of place) history)

-- the last reservation for the job, where it is live
abbrev pub live_last : JobId → List Entry → List Reservation
live_last id past = filter (is_live_in past) (option_to_list (last_reservation id past))

-- before an entry that reserves a counter for the job, its last reservation is refused
free_before : (id : JobId) (past : List Entry) (entry : Entry) (place : Reservation) → broken past entry ≡ None → reservation_in id entry ≡ Some place
    → broken_job past (last_reservation id past) ≡ None
free_before id past (Open by moment keyset facts) place legal is = absurd cc
free_before id past (Reserve by moment keyset counter job tar name body) place legal is =
    let same = cond_some (is_same_job job id) (let p : Reservation = record { keyset = keyset; counter = counter } in p) place is in
    subst (λ (j : JobId). broken_job past (last_reservation j past) ≡ None) (is_same_job-true job id same.0)
    (reserves_next past by moment keyset counter job tar name body legal).2
free_before id past (Done by moment keyset counter answer) place legal is = absurd cc
free_before id past (Refused by moment keyset counter status) place legal is = absurd cc
free_before id past (Close by moment keyset) place legal is = absurd cc

-- what is refused in the past is refused in the history
abbrev Keeps : List Entry → List Entry → Type 0
Keeps past history = (place : Reservation) → list_any (is_refusal_of place) past ≡ true → list_any (is_refusal_of place) history ≡ true

refused_away : (history past : List Entry) (last : Option Reservation) → Keeps past history → broken_job past last ≡ None
    → filter (is_live_in history) (option_to_list last) ≡ []
refused_away history past None keeps free = refl
refused_away history past (Some last) keeps free = rw (keeps last (unless-holds (list_any (is_refusal_of last) past) _ free)) refl

-- one entry more
live_more : (history : List Entry) (o last : Option Reservation) (places : List Reservation)
    → filter (is_live_in history) places ≡ filter (is_live_in history) (option_to_list last)
    → ((place : Reservation) → o ≡ Some place → filter (is_live_in history) (option_to_list last) ≡ [])
    → filter (is_live_in history) (cons_option o places) ≡ filter (is_live_in history) (option_to_list (option_or o last))
live_more history None last places same gone = same
live_more history (Some place) last places same gone =
    ap (λ (l : List Reservation). cond (is_live_in history place) (place ∷ l) l) (same ∙ gone place refl)

live_places : (id : JobId) (past history : List Entry) → IsLegalPast past → Keeps past history
    → filter (is_live_in history) (filter_map (reservation_in id) past) ≡ filter (is_live_in history) (option_to_list (last_reservation id past))
live_places id [] history legal keeps = refl
live_places id (entry ∷ past) history legal keeps =
    let earlier : Keeps past history = (λ place refused. keeps place (or_right (is_refusal_of place entry) (list_any (is_refusal_of place) past) refused)) in
    live_more history (reservation_in id entry) (last_reservation id past) (filter_map (reservation_in id) past)
    (live_places id past history legal.0 earlier)
    (λ place is. refused_away history past (last_reservation id past) earlier (free_before id past entry place legal.1 is))

-- as many pass from either end
length-live_reversed : {A B : Type 0} (test : B → Bool) (f : A → Option B) (xs : List A)
    → length (filter test (filter_map f (reverse xs))) ≡ length (filter test (filter_map f xs))
length-live_reversed test f [] = refl
length-live_reversed {A = A} test f (x ∷ xs) =
    let first = ap (λ (l : List A). length (filter test (filter_map f l))) (reverse-append (x ∷ []) xs) in
    let apart = ap length (ap (filter test) (filter_map-append f (reverse xs) (x ∷ [])) ∙ filter-append test (filter_map f (reverse xs)) (filter_map f (x ∷ []))) in
    let joined = ap length (ap (filter test) (filter_map-append f (x ∷ []) xs) ∙ filter-append test (filter_map f (x ∷ [])) (filter_map f xs)) in
    first ∙ apart ∙ omega (arith, length-live_reversed test f xs, length-append (filter test (filter_map f (reverse xs))) (filter test (filter_map f (x ∷ []))), length-append (filter test (filter_map f (x ∷ []))) (filter test (filter_map f xs)), joined)

refused_reversed : (history : List Entry) (place : Reservation) → list_any (is_refusal_of place) (reverse history) ≡ list_any (is_refusal_of place) history
refused_reversed history place = sym (list_any-IsPermutation (is_refusal_of place) history (reverse history) (IsPermutation-reverse history))

-- a job has as many live reservations in a legal history as its last one, none or one
pub length-live_reservations : (id : JobId) (history : List Entry) → IsLegal history
    → length (live_reservations id history) ≡ length (live_last id (reverse history))
length-live_reservations id history legal =
    sym (length-live_reversed (is_live_in history) (reservation_in id) history)
    ∙ ap length (live_places id (reverse history) history legal (λ place refused. sym (refused_reversed history place) ∙ refused))
    ∙ ap length (either_way (last_reservation id (reverse history)))
  where
    either_way : (o : Option Reservation) → filter (is_live_in history) (option_to_list o) ≡ filter (is_live_in (reverse history)) (option_to_list o)
    either_way None = refl
    either_way (Some place) = ap (λ (refused : Bool). cond (not refused) (place ∷ []) []) (sym (refused_reversed history place))

pub length-live_last : (id : JobId) (past : List Entry) → length (live_last id past) ≤ 1
length-live_last id past = bound (last_reservation id past)
  where
    bound : (o : Option Reservation) → length (filter (is_live_in past) (option_to_list o)) ≤ 1
    bound None = omega arith
    bound (Some place) = counts (list_any (is_refusal_of place) past)
      where
        counts : (refused : Bool) → length (cond (not refused) (place ∷ []) []) ≤ 1
        counts true = omega arith
        counts false = omega arith

-- ---- the last reservation

place_in : (id : JobId) (entry : Entry) → reservation_in id entry ≡ option_map place_of (reserved_for id entry)
place_in id (Open by moment keyset facts) = refl
place_in id (Reserve by moment keyset counter job tar name body) = where_same (is_same_job job id)
  where
    where_same : (test : Bool) → cond test (Some (let p : Reservation = record { keyset = keyset; counter = counter } in p)) None
        ≡ option_map place_of (cond test (Some (let r : Reserved = record { keyset = keyset; counter = counter; job = job; moment = moment; tar = tar; name = name; body = body } in r)) None)
    where_same true = refl
    where_same false = refl
place_in id (Done by moment keyset counter answer) = refl
place_in id (Refused by moment keyset counter status) = refl
place_in id (Close by moment keyset) = refl

-- the last reservation of a job is that of what is reserved for it last
pub place_of-last : (id : JobId) (past : List Entry) → last_reservation id past ≡ option_map place_of (last_reserved id past)
place_of-last id [] = refl
place_of-last id (entry ∷ past) =
    ap (λ (o : Option Reservation). option_or o (last_reservation id past)) (place_in id entry)
    ∙ ap (option_or (option_map place_of (reserved_for id entry))) (place_of-last id past)
    ∙ either (reserved_for id entry) (last_reserved id past)
  where
    either : (o p : Option Reserved) → option_or (option_map place_of o) (option_map place_of p) ≡ option_map place_of (option_or o p)
    either None p = refl
    either (Some reserved) p = refl
