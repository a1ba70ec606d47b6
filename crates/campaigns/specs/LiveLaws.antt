-- Laws that other crates cite: each job is live at most once over all lanes together, also after reservations for rows are
-- added to them.
use Rattle.std.specs.Prelude.{◌≡◌, ℕ, zero, suc, ◌+◌, ◌%◌, ◌<◌, ◌≤◌, ◌≢◌, ◌⊎◌, ◌==◌, ◌&&◌, Bool, true, false, cond, not, IsTrue, Option, Some, None, option_to_list, option_map, List, [], ◌∷◌, ◌++◌, length, get_or, reverse, filter, flat_map, All, refl}
use Rattle.std.specs.Option.{option_or, option_and_then}
use Rattle.std.specs.List.{list_any}
use Rattle.std.specs.Str.{bytes_eq}
use Rattle.std.proofs.Common.{inl, inr, sym, ◌∙◌, ap, subst, arith, eqb-true, length-append}
use Rattle.std.proofs.lemmas.Bool.{and_parts, or_right, eqb-false}
use Rattle.std.proofs.lemmas.Option.{cond_some}
use Rattle.std.proofs.lemmas.List.{reverse-append, take_at, drop_at}
use Rattle.std.proofs.lemmas.List.Elements.{All-head, All-tail, All-contains, All-take, All-drop}
use Rattle.std.proofs.lemmas.List.Folds.{list_any-append, list_any_at, Any-from_list_any}
use Rattle.std.proofs.lemmas.List.Sorted.{IsPermutation-reverse, All-permutation}
use Rattle.ota_core.specs.Keyset.{Keyset, is_same_keyset}
use Rattle.ota_core.specs.HistoryLaws.{is_same_keyset-true, is_same_job-true, is_same_job-refl, IsLegal-prefix}
use Rattle.ota_core.specs.Job.{is_same_job}
use Rattle.ota_core.specs.Entry.{Reservation, keyset_of, reservation_in, is_refusal_of}
use Rattle.ota_core.specs.History.{first_some, last_reservation, IsLegal, live_reservations, EachJobLiveOnce}
use Rattle.ota_core.specs.Questions.{Reserved, place_of, reserved_for, last_reserved}
use Rattle.ota_core.specs.declared.jobs.JobId.{JobId}
use Rattle.ota_core.specs.declared.jobs.Job.{Job}
use Rattle.ota_core.specs.declared.entries.Entry.{Entry}
use Rattle.ota_core.specs.declared.entries.Entry.TheVariants.{Open, Reserve, Done, Refused, Close}
use Rattle.plan_reader.specs.Jobs.{has_job, are_distinct}
use Rattle.counter_journal.specs.EntryRanges.{IsEntryOf}
use Rattle.campaigns.specs.Rows.{Among, is_as_said, counter_unlike, differs_in, NoneDiffers}
use Rattle.campaigns.specs.Growing.{IsOfRow, IsGrown, AreGrown}
use Rattle.campaigns.specs.LiveCounts.{first_some-append, first_some-of, place_of-last, is_live_in, live_last, length-live_reservations, length-live_last}

-- ---- lists

all_left : {X : Type 0} (P : X → Type 0) (xs ys : List X) → All P (xs ++ ys) → All P xs
all_left P xs ys h = subst (All P) (take_at xs ys (length xs) refl) (All-take P (length xs) (xs ++ ys) h)

all_right : {X : Type 0} (P : X → Type 0) (xs ys : List X) → All P (xs ++ ys) → All P ys
all_right P xs ys h = subst (All P) (drop_at xs ys (length xs) refl) (All-drop P (length xs) (xs ++ ys) h)

all_reversed : {X : Type 0} (P : X → Type 0) (xs : List X) → All P xs → All P (reverse xs)
all_reversed P xs h = All-permutation P xs (reverse xs) (IsPermutation-reverse xs) h

-- ---- rows

-- a row's number is in the list
has_row : (jobs : List Job) (row : Job) (id : JobId) → Among row jobs → row.id ≡ id → has_job id jobs ≡ true
has_row jobs row id among named =
    let is : (get_or jobs among.0 row).id ≡ id = ap (λ (job : Job). job.id) among.2 ∙ named in
    list_any_at (λ job. is_same_job job.id id) jobs among.0 row among.1 (subst (λ (other : JobId). is_same_job other id ≡ true) (sym is) (is_same_job-refl id))

-- a number in the list is a row's
row_with : (jobs : List Job) (id : JobId) → has_job id jobs ≡ true → (row : Job) × Among row jobs × (row.id ≡ id)
row_with jobs id h =
    let found = Any-from_list_any (λ job. is_same_job job.id id) jobs h in
    (found.1, (found.0, found.2, found.3), is_same_job-true found.1.id id found.4)

-- rows of one number are one row
pub same_row : (jobs : List Job) (a b : Job) → IsTrue (are_distinct jobs) → Among a jobs → Among b jobs → a.id ≡ b.id → a ≡ b
same_row [] a b distinct (i, within, at) other same = absurd (omega arith)
same_row (job ∷ jobs) a b distinct (zero, within, at) (zero, others, other) same = sym at ∙ other
same_row (job ∷ jobs) a b distinct (zero, within, at) (suc j, others, other) same =
    let parts = and_parts (not (has_job job.id jobs)) (are_distinct jobs) distinct in
    let found = has_row jobs b job.id (j, omega arith, other) (sym same ∙ ap (λ (row : Job). row.id) (sym at)) in
    absurd cc
same_row (job ∷ jobs) a b distinct (suc i, within, at) (zero, others, other) same =
    let parts = and_parts (not (has_job job.id jobs)) (are_distinct jobs) distinct in
    let found = has_row jobs a job.id (i, omega arith, at) (same ∙ ap (λ (row : Job). row.id) (sym other)) in
    absurd cc
same_row (job ∷ jobs) a b distinct (suc i, within, at) (suc j, others, other) same =
    let parts = and_parts (not (has_job job.id jobs)) (are_distinct jobs) distinct in
    same_row jobs a b parts.1 (i, omega arith, at) (j, omega arith, other) same

-- ---- what is added to a lane

-- a place reserved for the job in the lane, for a row
record IsForRow (jobs : List Job) (lane lanes : ℕ) (id : JobId) (place : Reservation) : Type 0 where
  row : Job
  among : Among row jobs
  named : row.id ≡ id
  on : row.keyset ≡ place.keyset
  of_lane : place.keyset.card.0 % lanes ≡ lane

for_row : (jobs : List Job) (lane lanes : ℕ) (id : JobId) (entry : Entry) (place : Reservation)
    → IsOfRow jobs entry → IsEntryOf lane lanes entry → reservation_in id entry ≡ Some place → IsForRow jobs lane lanes id place
for_row jobs lane lanes id (Open by moment keyset facts) place added of_lane is = absurd cc
for_row jobs lane lanes id (Reserve by moment keyset counter job tar name body) place added of_lane is =
    let same = cond_some (is_same_job job id) (let p : Reservation = record { keyset = keyset; counter = counter } in p) place is in
    let on : keyset ≡ place.keyset = ap (λ (p : Reservation). p.keyset) same.1 in
    record {
      row = added.0;
      among = added.1;
      named = added.2 ∙ is_same_job-true job id same.0;
      on = added.3 ∙ on;
      of_lane = subst (λ (k : Keyset). k.card.0 % lanes ≡ lane) on of_lane.of_lane;
    }
for_row jobs lane lanes id (Done by moment keyset counter answer) place added of_lane is = absurd cc
for_row jobs lane lanes id (Refused by moment keyset counter status) place added of_lane is = absurd cc
for_row jobs lane lanes id (Close by moment keyset) place added of_lane is = absurd cc

-- the entries of a lane that has grown are of the lane
entries_of_lane : (jobs : List Job) (lane lanes : ℕ) (before after : List Entry) → (grown : IsGrown jobs lane lanes before after)
    → All (IsEntryOf lane lanes) (before ++ grown.added)
entries_of_lane jobs lane lanes before after grown = subst (All (IsEntryOf lane lanes)) grown.is grown.history.of_lane

-- the last reservation for the job that is added is for a row
last_added : (jobs : List Job) (lane lanes : ℕ) (before after : List Entry) (id : JobId) (place : Reservation)
    → (grown : IsGrown jobs lane lanes before after) → last_reservation id (reverse grown.added) ≡ Some place → IsForRow jobs lane lanes id place
last_added jobs lane lanes before after id place grown is =
    let of_lane = all_right (IsEntryOf lane lanes) before grown.added (entries_of_lane jobs lane lanes before after grown) in
    let both : All (λ entry. IsOfRow jobs entry × IsEntryOf lane lanes entry) grown.added = (λ k d within. (grown.rows k d within, of_lane k d within)) in
    let found = first_some-of (λ entry. IsOfRow jobs entry × IsEntryOf lane lanes entry) (reservation_in id) (reverse grown.added) place
    (all_reversed (λ entry. IsOfRow jobs entry × IsEntryOf lane lanes entry) grown.added both) is in
    for_row jobs lane lanes id found.0 place found.1.0 found.1.1 found.2

-- the last reservation is one that is added, or else the one before
last_after : (jobs : List Job) (lane lanes : ℕ) (before after : List Entry) (id : JobId) → (grown : IsGrown jobs lane lanes before after)
    → last_reservation id (reverse after) ≡ option_or (last_reservation id (reverse grown.added)) (last_reservation id (reverse before))
last_after jobs lane lanes before after id grown =
    ap (λ (l : List Entry). last_reservation id (reverse l)) grown.is
    ∙ ap (first_some (reservation_in id)) (reverse-append before grown.added)
    ∙ first_some-append (reservation_in id) (reverse grown.added) (reverse before)

-- what is refused before is refused after
refused_after : (jobs : List Job) (lane lanes : ℕ) (before after : List Entry) (place : Reservation) → IsGrown jobs lane lanes before after
    → list_any (is_refusal_of place) (reverse before) ≡ true → list_any (is_refusal_of place) (reverse after) ≡ true
refused_after jobs lane lanes before after place grown refused =
    ap (λ (l : List Entry). list_any (is_refusal_of place) l) (ap reverse grown.is ∙ reverse-append before grown.added)
    ∙ list_any-append (is_refusal_of place) (reverse grown.added) (reverse before)
    ∙ or_right (list_any (is_refusal_of place) (reverse grown.added)) (list_any (is_refusal_of place) (reverse before)) refused

legal_before : (jobs : List Job) (lane lanes : ℕ) (before after : List Entry) → IsGrown jobs lane lanes before after → IsLegal before
legal_before jobs lane lanes before after grown = IsLegal-prefix before grown.added (subst IsLegal grown.is grown.history.legal)

-- ---- a job that no row has

-- of the places, none is live after that isn't before
fewer_live : (past now : List Entry) (o : Option Reservation)
    → ((place : Reservation) → list_any (is_refusal_of place) past ≡ true → list_any (is_refusal_of place) now ≡ true)
    → length (filter (is_live_in now) (option_to_list o)) ≤ length (filter (is_live_in past) (option_to_list o))
fewer_live past now None kept = omega arith
fewer_live past now (Some place) kept = counts (list_any (is_refusal_of place) past) (list_any (is_refusal_of place) now) (kept place)
  where
    counts : (a b : Bool) → (a ≡ true → b ≡ true) → length (cond (not b) (place ∷ []) []) ≤ length (cond (not a) (place ∷ []) [])
    counts false false kept = omega arith
    counts false true kept = omega arith
    counts true false kept = absurd (let e = kept refl in cc)
    counts true true kept = omega arith

not_more_live : (jobs : List Job) (lane lanes : ℕ) (before after : List Entry) (id : JobId) → has_job id jobs ≡ false
    → IsGrown jobs lane lanes before after → length (live_reservations id after) ≤ length (live_reservations id before)
not_more_live jobs lane lanes before after id unnamed grown =
    let bound = not_more (last_reservation id (reverse grown.added)) refl in
    omega (arith, bound, length-live_reservations id after grown.history.legal, length-live_reservations id before (legal_before jobs lane lanes before after grown))
  where
    not_more : (o : Option Reservation) → last_reservation id (reverse grown.added) ≡ o
        → length (live_last id (reverse after)) ≤ length (live_last id (reverse before))
    not_more None is =
        let last : last_reservation id (reverse after) ≡ last_reservation id (reverse before) =
        last_after jobs lane lanes before after id grown ∙ ap (λ (o : Option Reservation). option_or o (last_reservation id (reverse before))) is in
        subst (λ (o : Option Reservation). length (filter (is_live_in (reverse after)) (option_to_list o)) ≤ length (live_last id (reverse before))) (sym last)
        (fewer_live (reverse before) (reverse after) (last_reservation id (reverse before)) (λ place. refused_after jobs lane lanes before after place grown))
    not_more (Some place) is =
        let found = last_added jobs lane lanes before after id place grown is in
        let named = has_row jobs found.row id found.among found.named in
        absurd cc

-- ---- a job that a row has

-- a row from which the last reservation doesn't differ: it is refused, or on the row's keyset
unlike_cases : (past : List Entry) (row : Job) (reserved : Reserved) → counter_unlike past row reserved ≡ None
    → (list_any (is_refusal_of (place_of reserved)) past ≡ true) ⊎ (reserved.keyset ≡ row.keyset)
unlike_cases past row reserved h = elim (cases (list_any (is_refusal_of (place_of reserved)) past) (is_as_said row reserved) h) [
  | inl refused ↦ inl refused
  | inr said ↦ inr (
      let outer = and_parts (is_same_keyset reserved.keyset row.keyset && bytes_eq reserved.tar row.tar) (bytes_eq reserved.body row.body) said in
      let inner = and_parts (is_same_keyset reserved.keyset row.keyset) (bytes_eq reserved.tar row.tar) outer.0 in
      is_same_keyset-true reserved.keyset row.keyset inner.0)
]
  where
    cases : (a b : Bool) → cond a None (cond b None (Some reserved.counter)) ≡ None → (a ≡ true) ⊎ (b ≡ true)
    cases true b h = inl refl
    cases false true h = inr refl
    cases false false h = absurd cc

-- what is reserved in an entry is on its keyset
reserved_on : (id : JobId) (entry : Entry) (reserved : Reserved) → reserved_for id entry ≡ Some reserved → keyset_of entry ≡ reserved.keyset
reserved_on id (Open by moment keyset facts) reserved is = absurd cc
reserved_on id (Reserve by moment keyset counter job tar name body) reserved is =
    let same = cond_some (is_same_job job id) (let r : Reserved = record { keyset = keyset; counter = counter; job = job; moment = moment; tar = tar; name = name; body = body } in r) reserved is in
    ap (λ (r : Reserved). r.keyset) same.1
reserved_on id (Done by moment keyset counter answer) reserved is = absurd cc
reserved_on id (Refused by moment keyset counter status) reserved is = absurd cc
reserved_on id (Close by moment keyset) reserved is = absurd cc

-- in a lane of other cards than the row's, no reservation of its job is live
none_elsewhere : (jobs : List Job) (lane lanes : ℕ) (before after : List Entry) (row : Job) → IsTrue (are_distinct jobs) → Among row jobs
    → differs_in before row ≡ None → IsGrown jobs lane lanes before after → row.keyset.card.0 % lanes ≢ lane
    → length (live_reservations row.id after) ≡ 0
none_elsewhere jobs lane lanes before after row distinct among like grown elsewhere =
    length-live_reservations row.id after grown.history.legal ∙ ap length (by_added (last_reservation row.id (reverse grown.added)) refl)
  where
    of_lane : (keyset : Keyset) → keyset ≡ row.keyset → keyset.card.0 % lanes ≡ lane → ⊥
    of_lane keyset same is = elsewhere (subst (λ (k : Keyset). k.card.0 % lanes ≡ lane) same is)

    by_before : (o : Option Reserved) → last_reserved row.id (reverse before) ≡ o
        → filter (is_live_in (reverse after)) (option_to_list (option_map place_of o)) ≡ []
    by_before None is = refl
    by_before (Some reserved) is =
        let unlike : counter_unlike (reverse before) row reserved ≡ None = ap (option_and_then (counter_unlike (reverse before) row)) (sym is) ∙ like in
        elim (unlike_cases (reverse before) row reserved unlike) [
          | inl refused ↦ ap (λ (b : Bool). cond (not b) (place_of reserved ∷ []) []) (refused_after jobs lane lanes before after (place_of reserved) grown refused)
          | inr same ↦ absurd (
              let entries = all_left (IsEntryOf lane lanes) before grown.added (entries_of_lane jobs lane lanes before after grown) in
              let found = first_some-of (IsEntryOf lane lanes) (reserved_for row.id) (reverse before) reserved (all_reversed (IsEntryOf lane lanes) before entries) is in
              of_lane (keyset_of found.0) (reserved_on row.id found.0 reserved found.2 ∙ same) found.1.of_lane)
        ]

    by_added : (o : Option Reservation) → last_reservation row.id (reverse grown.added) ≡ o → live_last row.id (reverse after) ≡ []
    by_added None is =
        let last : last_reservation row.id (reverse after) ≡ option_map place_of (last_reserved row.id (reverse before)) =
        last_after jobs lane lanes before after row.id grown
        ∙ ap (λ (o : Option Reservation). option_or o (last_reservation row.id (reverse before))) is
        ∙ place_of-last row.id (reverse before) in
        ap (λ (o : Option Reservation). filter (is_live_in (reverse after)) (option_to_list o)) last ∙ by_before (last_reserved row.id (reverse before)) refl
    by_added (Some place) is =
        let found = last_added jobs lane lanes before after row.id place grown is in
        let same = same_row jobs found.row row distinct found.among among found.named in
        absurd (of_lane place.keyset (sym found.on ∙ ap (λ (job : Job). job.keyset) same) found.of_lane)

one_in_lane : (id : JobId) (history : List Entry) → IsLegal history → length (live_reservations id history) ≤ 1
one_in_lane id history legal = omega (arith, length-live_reservations id history legal, length-live_last id (reverse history))

-- ---- all lanes

-- how many reservations for the job are live over the lanes together
abbrev live_count : JobId → List (List Entry) → ℕ
live_count id histories = length (flat_map (live_reservations id) histories)

live_count-cons : (id : JobId) (history : List Entry) (histories : List (List Entry))
    → live_count id (history ∷ histories) ≡ length (live_reservations id history) + live_count id histories
live_count-cons id history histories = length-append (live_reservations id history) (flat_map (live_reservations id) histories)

no_row : (jobs : List Job) (lanes lane : ℕ) (befores afters : List (List Entry)) (id : JobId) → has_job id jobs ≡ false
    → AreGrown jobs lanes lane befores afters → live_count id afters ≤ live_count id befores
no_row jobs lanes lane [] [] id unnamed grown = omega arith
no_row jobs lanes lane [] (after ∷ afters) id unnamed grown = absurd grown
no_row jobs lanes lane (before ∷ befores) [] id unnamed grown = absurd grown
no_row jobs lanes lane (before ∷ befores) (after ∷ afters) id unnamed grown =
    omega (arith, not_more_live jobs lane lanes before after id unnamed grown.0, no_row jobs lanes (suc lane) befores afters id unnamed grown.1, live_count-cons id before befores, live_count-cons id after afters)

-- at most one in the lane where alone one may be, and none before it
counted : (place lane here later whole : ℕ) → whole ≡ here + later → here ≤ 1 → (place ≢ lane → here ≡ 0) → later ≤ 1 → (place < suc lane → later ≡ 0)
    → (whole ≤ 1) × (place < lane → whole ≡ 0)
counted place lane here later whole sum one elsewhere others past = by_lane (place == lane) refl
  where
    by_lane : (is : Bool) → (place == lane) ≡ is → (whole ≤ 1) × (place < lane → whole ≡ 0)
    by_lane true is =
        let at = eqb-true place lane is in
        let none = past (omega (arith, at)) in
        (omega (arith, sum, one, none), λ behind. absurd (omega (arith, at, behind)))
    by_lane false is =
        let none = elsewhere (eqb-false place lane is) in
        (omega (arith, sum, none, others), λ behind. (let nor = past (omega (arith, behind)) in omega (arith, sum, none, nor)))

one_row : (jobs : List Job) (lanes lane : ℕ) (befores afters : List (List Entry)) (row : Job) → IsTrue (are_distinct jobs) → Among row jobs
    → All (λ history. differs_in history row ≡ None) befores → AreGrown jobs lanes lane befores afters
    → (live_count row.id afters ≤ 1) × (row.keyset.card.0 % lanes < lane → live_count row.id afters ≡ 0)
one_row jobs lanes lane [] [] row distinct among like grown = (omega arith, λ past. refl)
one_row jobs lanes lane [] (after ∷ afters) row distinct among like grown = absurd grown
one_row jobs lanes lane (before ∷ befores) [] row distinct among like grown = absurd grown
one_row jobs lanes lane (before ∷ befores) (after ∷ afters) row distinct among like grown =
    let whole = live_count-cons row.id after afters in
    let here = one_in_lane row.id after grown.0.history.legal in
    let elsewhere = none_elsewhere jobs lane lanes before after row distinct among (All-head (λ history. differs_in history row ≡ None) before befores like) grown.0 in
    let later = one_row jobs lanes (suc lane) befores afters row distinct among (All-tail (λ history. differs_in history row ≡ None) before befores like) grown.1 in
    counted (row.keyset.card.0 % lanes) lane (length (live_reservations row.id after)) (live_count row.id afters) (live_count row.id (after ∷ afters)) whole here elsewhere later.0 later.1

-- Each job is live at most once over all lanes together: before a session, and so afterwards.
pub one_live : (jobs : List Job) (befores afters : List (List Entry)) → IsTrue (are_distinct jobs)
    → NoneDiffers jobs befores → AreGrown jobs (length befores) 0 befores afters
    → EachJobLiveOnce befores → EachJobLiveOnce afters
one_live jobs befores afters distinct like grown once id = by_row (has_job id jobs) refl
  where
    by_row : (named : Bool) → has_job id jobs ≡ named → live_count id afters ≤ 1
    by_row false unnamed = omega (arith, no_row jobs (length befores) 0 befores afters id unnamed grown, once id)
    by_row true named =
        let found = row_with jobs id named in
        let like_row = All-contains (λ job. All (λ history. differs_in history job ≡ None) befores) jobs found.0 like found.1 in
        subst (λ (other : JobId). live_count other afters ≤ 1) found.2 (one_row jobs (length befores) 0 befores afters found.0 distinct found.1 like_row grown).0

-- ---- lanes by number

grown_from : (jobs : List Job) (lanes lane : ℕ) (befores afters : List (List Entry)) → length afters ≡ length befores
    → ((k : ℕ) → k < length befores → IsGrown jobs (lane + k) lanes (get_or befores k []) (get_or afters k []))
    → AreGrown jobs lanes lane befores afters
grown_from jobs lanes lane [] [] long each = tt
grown_from jobs lanes lane [] (after ∷ afters) long each = absurd (omega arith)
grown_from jobs lanes lane (before ∷ befores) [] long each = absurd (omega arith)
grown_from jobs lanes lane (before ∷ befores) (after ∷ afters) long each = (
  subst (λ (n : ℕ). IsGrown jobs n lanes before after) (omega arith) (each 0 (omega arith)),
  grown_from jobs lanes (suc lane) befores afters (omega arith)
      (λ k within. subst (λ (n : ℕ). IsGrown jobs n lanes (get_or befores k []) (get_or afters k [])) (omega arith) (each (suc k) (omega arith))),
)

-- lanes that have grown, each by its number
pub are_grown : (jobs : List Job) (befores afters : List (List Entry)) → length afters ≡ length befores
    → ((k : ℕ) → k < length befores → IsGrown jobs k (length befores) (get_or befores k []) (get_or afters k []))
    → AreGrown jobs (length befores) 0 befores afters
are_grown jobs befores afters long each =
    grown_from jobs (length befores) 0 befores afters long
    (λ k within. subst (λ (n : ℕ). IsGrown jobs n (length befores) (get_or befores k []) (get_or afters k [])) (omega arith) (each k within))
