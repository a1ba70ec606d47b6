-- What one book says of a difference.
use Rattle.std.proofs.Common.{◌≡◌, ℕ, zero, suc, ◌+◌, ◌<◌, ◌≤◌, ◌==◌, eq-eqb, ◌||◌, ◌&&◌, not, Bool, true, false, All, cond, Option, Some, None, List, [], ◌∷◌, length, map, get_or, drop, reverse, refl, sym, ap, ◌∙◌, subst, arith}
use Rattle.std.specs.Prelude.{option_map, find}
use Rattle.std.specs.Option.{option_or, option_and_then, is_some}
use Rattle.std.specs.List.{list_any, position}
use Rattle.std.proofs.lemmas.Bool.{or_parts}
use Rattle.std.proofs.lemmas.List.{reverse-reverse, at_drop_more, length-map, get_or-map}
use Rattle.std.proofs.lemmas.List.Elements.{All-nil, All-cons}
use Rattle.std.proofs.lemmas.List.Quantifiers.{position-Some}
use Rattle.std.proofs.lemmas.List.Sorted.{IsPermutation-reverse, All-permutation}
use Rattle.std.proofs.lemmas.Option.{cond_some}
use Rattle.ota_core.specs.Job.{is_same_job}
use Rattle.ota_core.specs.Keyset.{Keyset, is_same_keyset}
use Rattle.ota_core.specs.Entry.{Reservation, facts_in, is_open_of, is_reserve_of, is_refusal_of, is_settlement_of}
use Rattle.ota_core.specs.History.{IsLegalPast, IsLegal, first_some, last_reservation, next_counter}
use Rattle.ota_core.specs.HistoryLaws.{both_hold, is_same_keyset-true, is_same_keyset-refl, is_same_place-true, reserves_next}
use Rattle.ota_core.specs.KeysetList.{IsKeysetList}
use Rattle.ota_core.specs.Questions.{Reserved, place_of, reserved_for, reserved_at, last_reserved, reserved_under, opened_facts}
use Rattle.ota_core.specs.declared.jobs.Job.{Job}
use Rattle.ota_core.specs.declared.jobs.JobId.{JobId}
use Rattle.ota_core.specs.declared.keysets.KeysetFacts.{KeysetFacts}
use Rattle.ota_core.specs.declared.entries.Entry.{Entry}
use Rattle.ota_core.specs.declared.entries.Entry.TheVariants.{Open, Reserve, Done, Refused, Close}
use Rattle.keyset_book.specs.Answers.{settled_in}
use Rattle.keyset_book.specs.Book.{StandsFor, standing_of}
use Rattle.keyset_book.specs.Rules.{is_refused}
use Rattle.keyset_book.specs.declared.books.Book.{Book}
use Rattle.ota_core.proofs.RuleLaws.{reserved_below_next}
use Rattle.keyset_book.proofs.PastLemmas.{by_cases, opens_first}
use Rattle.keyset_book.proofs.PositionLemmas.{any-reverse, position-some}
use Rattle.keyset_book.proofs.RuleLemmas.{refused-is}
use Rattle.keyset_book.proofs.AskedLemmas.{facts-reverse}
use Rattle.campaigns.specs.Rows.{is_as_said, counter_unlike, differs_in, NoneDiffers}
use Rattle.campaigns.specs.Differences.{are_same_facts, opens_otherwise, counter_otherwise, job_difference_from}
use Rattle.campaigns.specs.LiveCounts.{place_of-last}
use Rattle.campaigns.specs.DifferenceSteps.{unlike_facts, is_said_by, is_refusal}
use Rattle.campaigns.specs.WorkList.{AreBooksOf}

-- ---- a keyset that is opened otherwise

otherwise_opens : (keyset : Keyset) (facts : KeysetFacts) (entry : Entry) → is_open_of keyset entry ≡ false → opens_otherwise keyset facts entry ≡ false
otherwise_opens keyset facts (Open by moment opened other) none = rw none refl
otherwise_opens keyset facts (Reserve by moment reserved counter job tar name body) none = refl
otherwise_opens keyset facts (Done by moment reserved counter answer) none = refl
otherwise_opens keyset facts (Refused by moment reserved counter status) none = refl
otherwise_opens keyset facts (Close by moment closed) none = refl

none_otherwise : (keyset : Keyset) (facts : KeysetFacts) (past : List Entry) → list_any (is_open_of keyset) past ≡ false → list_any (opens_otherwise keyset facts) past ≡ false
none_otherwise keyset facts [] none = refl
none_otherwise keyset facts (entry ∷ past) none =
    let parts = or_parts (is_open_of keyset entry) (list_any (is_open_of keyset) past) none in
    rw (otherwise_opens keyset facts entry parts.0) (none_otherwise keyset facts past parts.1)

past_otherwise : (keyset : Keyset) (facts : KeysetFacts) (past : List Entry) → IsLegalPast past
    → list_any (opens_otherwise keyset facts) past ≡ unlike_facts facts (first_some (facts_in keyset) past)
past_otherwise keyset facts [] legal = refl
past_otherwise keyset facts (Open by moment opened other ∷ past) legal =
    by_cases (is_same_keyset opened keyset)
    (λ same. (
    let none = none_otherwise keyset facts past
    (subst (λ (k : Keyset). list_any (is_open_of k) past ≡ false) (is_same_keyset-true opened keyset same) (opens_first by moment opened other past legal)) in
    rw (same, none) (no_more (not (are_same_facts other facts)))))
    (λ apart. rw apart (past_otherwise keyset facts past legal.0))
  where
    no_more : (b : Bool) → (b || false) ≡ b
    no_more true = refl
    no_more false = refl
past_otherwise keyset facts (Reserve by moment reserved counter job tar name body ∷ past) legal = past_otherwise keyset facts past legal.0
past_otherwise keyset facts (Done by moment reserved counter answer ∷ past) legal = past_otherwise keyset facts past legal.0
past_otherwise keyset facts (Refused by moment reserved counter status ∷ past) legal = past_otherwise keyset facts past legal.0
past_otherwise keyset facts (Close by moment closed ∷ past) legal = past_otherwise keyset facts past legal.0

-- a keyset is opened once, so its facts tell whether it is opened otherwise
pub opened_otherwise : (keyset : Keyset) (facts : KeysetFacts) (history : List Entry) → IsLegal history
    → unlike_facts facts (opened_facts keyset history) ≡ list_any (opens_otherwise keyset facts) history
opened_otherwise keyset facts history legal =
    ap (unlike_facts facts) (ap (first_some (facts_in keyset)) (sym (reverse-reverse history)) ∙ facts-reverse keyset (reverse history) legal)
    ∙ sym (past_otherwise keyset facts (reverse history) legal)
    ∙ any-reverse (opens_otherwise keyset facts) history

-- each key version number of a card's keysets is 1 to 15
pub kvn_in_range : (keysets : List (ℕ × KeysetFacts)) → IsKeysetList keysets → (i : ℕ) (d : ℕ × KeysetFacts) → i < length keysets → (1 ≤ (get_or keysets i d).0) × ((get_or keysets i d).0 ≤ 15)
kvn_in_range [] is i d below = absurd (omega (arith, below))
kvn_in_range (keyset ∷ keysets) is zero d below = (is.0, is.1)
kvn_in_range (keyset ∷ keysets) is (suc i) d below = kvn_in_range keysets is.3 i d (omega (arith, below))

-- ---- the entry that reserves a counter

-- a counter that is reserved isn't reserved again
never_again : (place : Reservation) (entry : Entry) (past : List Entry) → IsLegalPast (entry ∷ past) → list_any (is_reserve_of place) past ≡ true
    → is_reserve_of place entry ≡ false
never_again place (Open by moment keyset facts) past legal reserved = refl
never_again place (Reserve by moment keyset counter job tar name body) past legal reserved =
    by_cases (is_same_keyset keyset place.keyset && (counter == place.counter))
    (λ is. (
    let same = is_same_place-true keyset counter place is in
    let below : place.counter < next_counter place.keyset past = reserved_below_next past place legal.0 reserved in
    let there : counter ≡ next_counter place.keyset past =
    subst (λ (k : Keyset). counter ≡ next_counter k past) same.0 (reserves_next past by moment keyset counter job tar name body legal.1).0 in
    absurd (omega (arith, below, there, same.1))))
    (λ apart. apart)
never_again place (Done by moment keyset counter answer) past legal reserved = refl
never_again place (Refused by moment keyset counter status) past legal reserved = refl
never_again place (Close by moment keyset) past legal reserved = refl

not_reserved : (place : Reservation) (entry : Entry) → is_reserve_of place entry ≡ false → reserved_at place entry ≡ None
not_reserved place (Open by moment keyset facts) none = refl
not_reserved place (Reserve by moment keyset counter job tar name body) none = rw none refl
not_reserved place (Done by moment keyset counter answer) none = refl
not_reserved place (Refused by moment keyset counter status) none = refl
not_reserved place (Close by moment keyset) none = refl

is_reserved : (place : Reservation) (entry : Entry) (reserved : Reserved) → reserved_at place entry ≡ Some reserved → is_reserve_of place entry ≡ true
is_reserved place entry reserved is =
    by_cases (is_reserve_of place entry) (λ there. there) (λ none. absurd (clash (sym (not_reserved place entry none) ∙ is)))
  where
    clash : ◌≡◌ {A = Option Reserved} None (Some reserved) → ⊥
    clash e = cc

none_under : (place : Reservation) (past : List Entry) → list_any (is_reserve_of place) past ≡ false → reserved_under place past ≡ None
none_under place [] none = refl
none_under place (entry ∷ past) none =
    let parts = or_parts (is_reserve_of place entry) (list_any (is_reserve_of place) past) none in
    rw (not_reserved place entry parts.0) (none_under place past parts.1)

is_under : (place : Reservation) (past : List Entry) (reserved : Reserved) → reserved_under place past ≡ Some reserved → list_any (is_reserve_of place) past ≡ true
is_under place past reserved is =
    by_cases (list_any (is_reserve_of place) past) (λ there. there) (λ none. absurd (clash (sym (none_under place past none) ∙ is)))
  where
    clash : ◌≡◌ {A = Option Reserved} None (Some reserved) → ⊥
    clash e = cc

same_reserved : (a b : Reserved) → ◌≡◌ {A = Option Reserved} (Some a) (Some b) → a ≡ b
same_reserved a b e = cc

-- an entry that reserves for a job reserves under its counter
at_itself : (id : JobId) (entry : Entry) (reserved : Reserved) → reserved_for id entry ≡ Some reserved → reserved_at (place_of reserved) entry ≡ Some reserved
at_itself id (Open by moment keyset facts) reserved is = absurd cc
at_itself id (Reserve by moment keyset counter job tar name body) reserved is =
    let made : Reserved = record { keyset = keyset; counter = counter; job = job; moment = moment; tar = tar; name = name; body = body } in
    let same = cond_some (is_same_job job id) made reserved is in
    subst (λ (r : Reserved). reserved_at (place_of r) (Reserve by moment keyset counter job tar name body) ≡ Some r) same.1
    (ap (λ (b : Bool). cond b (Some made) None) (itself keyset counter))
  where
    itself : (k : Keyset) (n : ℕ) → (is_same_keyset k k && (n == n)) ≡ true
    itself k n = rw (is_same_keyset-refl k, eq-eqb n n refl) refl
at_itself id (Done by moment keyset counter answer) reserved is = absurd cc
at_itself id (Refused by moment keyset counter status) reserved is = absurd cc
at_itself id (Close by moment keyset) reserved is = absurd cc

-- what is reserved for a job last is what is reserved under its counter
pub reserved_there : (id : JobId) (past : List Entry) (reserved : Reserved) → IsLegalPast past → last_reserved id past ≡ Some reserved
    → reserved_under (place_of reserved) past ≡ Some reserved
reserved_there id [] reserved legal is = absurd cc
reserved_there id (entry ∷ past) reserved legal is = by_first (reserved_for id entry) refl is (reserved_there id past reserved legal.0)
  where
    place : Reservation
    place = place_of reserved

    by_first : (o : Option Reserved) → reserved_for id entry ≡ o → option_or o (last_reserved id past) ≡ Some reserved
        → (last_reserved id past ≡ Some reserved → reserved_under (place_of reserved) past ≡ Some reserved)
        → option_or (reserved_at (place_of reserved) entry) (reserved_under (place_of reserved) past) ≡ Some reserved
    by_first None none later behind =
        let there = behind later in
        rw (not_reserved place entry (never_again place entry past legal (is_under place past reserved there))) there
    by_first (Some made) first e behind =
        let at = at_itself id entry reserved (first ∙ e) in
        rw at refl

-- each entry that reserves the counter is that one
each_is : (place : Reservation) (past : List Entry) (reserved : Reserved) → IsLegalPast past → reserved_under place past ≡ Some reserved
    → All (λ entry. is_reserve_of place entry ≡ true → reserved_at place entry ≡ Some reserved) past
each_is place [] reserved legal is = All-nil (λ entry. is_reserve_of place entry ≡ true → reserved_at place entry ≡ Some reserved)
each_is place (entry ∷ past) reserved legal is =
    All-cons (λ e. is_reserve_of place e ≡ true → reserved_at place e ≡ Some reserved) entry past here
    (by_cases (is_reserve_of place entry)
    (λ first. none_other past (unreserved first))
    (λ other. each_is place past reserved legal.0 (subst (λ (o : Option Reserved). option_or o (reserved_under place past) ≡ Some reserved) (not_reserved place entry other) is)))
  where
    contrary : {b : Bool} → b ≡ true → b ≡ false → ⊥
    contrary is not_so = cc

    unreserved : is_reserve_of place entry ≡ true → list_any (is_reserve_of place) past ≡ false
    unreserved first = by_cases (list_any (is_reserve_of place) past) (λ again. absurd (contrary first (never_again place entry past legal again))) (λ none. none)

    only : (o : Option Reserved) → option_or o None ≡ o
    only None = refl
    only (Some x) = refl

    here : is_reserve_of place entry ≡ true → reserved_at place entry ≡ Some reserved
    here first =
        sym (only (reserved_at place entry))
        ∙ subst (λ (o : Option Reserved). option_or (reserved_at place entry) o ≡ Some reserved) (none_under place past (unreserved first)) is

    none_other : (entries : List Entry) → list_any (is_reserve_of place) entries ≡ false
        → All (λ e. is_reserve_of place e ≡ true → reserved_at place e ≡ Some reserved) entries
    none_other [] none = All-nil (λ e. is_reserve_of place e ≡ true → reserved_at place e ≡ Some reserved)
    none_other (e ∷ entries) none =
        let parts = or_parts (is_reserve_of place e) (list_any (is_reserve_of place) entries) none in
        All-cons (λ e'. is_reserve_of place e' ≡ true → reserved_at place e' ≡ Some reserved) e entries (λ is. absurd (contrary is parts.0)) (none_other entries parts.1)

-- what an entry reserves is what the row says
said : (job : Job) (place : Reservation) (entry : Entry) (reserved : Reserved) → reserved_at place entry ≡ Some reserved → is_said_by job entry ≡ is_as_said job reserved
said job place (Open by moment keyset facts) reserved is = absurd cc
said job place (Reserve by moment keyset counter id tar name body) reserved is =
    let made : Reserved = record { keyset = keyset; counter = counter; job = id; moment = moment; tar = tar; name = name; body = body } in
    let same = cond_some (is_same_keyset keyset place.keyset && (counter == place.counter)) made reserved is in
    ap (is_as_said job) same.1
said job place (Done by moment keyset counter answer) reserved is = absurd cc
said job place (Refused by moment keyset counter status) reserved is = absurd cc
said job place (Close by moment keyset) reserved is = absurd cc

-- the entry at the position of the counter says what is reserved for the job last
pub said_at : (job : Job) (history : List Entry) (reserved : Reserved) (place : Reservation) (i : ℕ) (d : Entry) → IsLegal history
    → last_reserved job.id (reverse history) ≡ Some reserved → place_of reserved ≡ place
    → position (is_reserve_of place) history ≡ Some i → is_said_by job (get_or history i d) ≡ is_as_said job reserved
said_at job history reserved place i d legal last same found =
    let there = position-Some (is_reserve_of place) history i d found in
    let under = subst (λ (p : Reservation). reserved_under p (reverse history) ≡ Some reserved) same (reserved_there job.id (reverse history) reserved legal last) in
    let all = each_is place (reverse history) reserved legal under in
    let here = subst (All (λ entry. is_reserve_of place entry ≡ true → reserved_at place entry ≡ Some reserved)) (reverse-reverse history)
    (All-permutation (λ entry. is_reserve_of place entry ≡ true → reserved_at place entry ≡ Some reserved) (reverse history) (reverse (reverse history)) (IsPermutation-reverse (reverse history)) all) in
    said job place (get_or history i d) reserved (here i d there.0 there.1)

-- there is one
pub said_somewhere : (job : Job) (history : List Entry) (reserved : Reserved) (place : Reservation) → IsLegal history
    → last_reserved job.id (reverse history) ≡ Some reserved → place_of reserved ≡ place → position (is_reserve_of place) history ≡ None → ⊥
said_somewhere job history reserved place legal last same none =
    let under = subst (λ (p : Reservation). reserved_under p (reverse history) ≡ Some reserved) same (reserved_there job.id (reverse history) reserved legal last) in
    let there = sym (any-reverse (is_reserve_of place) history) ∙ is_under place (reverse history) reserved under in
    clash (sym (position-some (is_reserve_of place) history there) ∙ none)
  where
    clash : {n : ℕ} → ◌≡◌ {A = Option ℕ} (Some n) None → ⊥
    clash e = cc

-- a counter is refused where its settlement says so
pub refused_by : (place : Reservation) (history : List Entry) → IsLegal history
    → is_refusal (settled_in (find (is_settlement_of place) (reverse history))) ≡ list_any (is_refusal_of place) (reverse history)
refused_by place history legal = by_entry (find (is_settlement_of place) (reverse history)) ∙ refused-is place (reverse history) legal
  where
    by_entry : (o : Option Entry) → is_refusal (settled_in o) ≡ is_refused (Some (standing_of o))
    by_entry None = refl
    by_entry (Some (Open by moment keyset facts)) = refl
    by_entry (Some (Reserve by moment keyset counter job tar name body)) = refl
    by_entry (Some (Done by moment keyset counter answer)) = refl
    by_entry (Some (Refused by moment keyset counter status)) = refl
    by_entry (Some (Close by moment keyset)) = refl

-- ---- the last reservation of a job

-- a job without a reservation doesn't differ
pub none_reserved : (job : Job) (history : List Entry) → last_reservation job.id (reverse history) ≡ None → differs_in history job ≡ None
none_reserved job history none = by_last (last_reserved job.id (reverse history)) (sym (place_of-last job.id (reverse history)) ∙ none)
  where
    by_last : (o : Option Reserved) → option_map place_of o ≡ None → option_and_then (counter_unlike (reverse history) job) o ≡ None
    by_last None e = refl
    by_last (Some reserved) e = absurd cc

-- what is reserved last, by its counter
pub last_is : (job : Job) (history : List Entry) (place : Reservation) → last_reservation job.id (reverse history) ≡ Some place
    → (reserved : Reserved) × (last_reserved job.id (reverse history) ≡ Some reserved) × (place_of reserved ≡ place)
last_is job history place is = by_last (last_reserved job.id (reverse history)) refl (sym (place_of-last job.id (reverse history)) ∙ is)
  where
    inner : (a b : Reservation) → ◌≡◌ {A = Option Reservation} (Some a) (Some b) → a ≡ b
    inner a b e = cc

    by_last : (o : Option Reserved) → last_reserved job.id (reverse history) ≡ o → option_map place_of o ≡ Some place
        → (reserved : Reserved) × (last_reserved job.id (reverse history) ≡ Some reserved) × (place_of reserved ≡ place)
    by_last None last e = absurd cc
    by_last (Some reserved) last e = (reserved, last, inner (place_of reserved) place e)

-- whether a job's last reservation differs
module _ (job : Job) (history : List Entry) (reserved : Reserved) (last : last_reserved job.id (reverse history) ≡ Some reserved) where
  pub unlike_refused : list_any (is_refusal_of (place_of reserved)) (reverse history) ≡ true → differs_in history job ≡ None
  unlike_refused refused = rw (last, refused) refl

  pub unlike_said : is_as_said job reserved ≡ true → differs_in history job ≡ None
  unlike_said is_said = rw (last, is_said) (by_cases (list_any (is_refusal_of (place_of reserved)) (reverse history)) (λ refused. rw refused refl) (λ live. rw live refl))

  pub unlike : list_any (is_refusal_of (place_of reserved)) (reverse history) ≡ false → is_as_said job reserved ≡ false → differs_in history job ≡ Some reserved.counter
  unlike live unsaid = rw (last, live, unsaid) refl

-- ---- lane by lane

module _ {X : Type 0} (f : X → List Entry) where
  -- the book at a place stands for the history there
  pub stands_at : (xs : List X) (books : List Book) → AreBooksOf (map f xs) books → (i : ℕ) (x : X) (book : Book) → i < length xs
      → StandsFor (get_or books i book) (f (get_or xs i x))
  stands_at [] books are i x book within = absurd (omega (arith, within))
  stands_at (y ∷ xs) [] are i x book within = absurd are
  stands_at (y ∷ xs) (first ∷ books) are zero x book within = are.0
  stands_at (y ∷ xs) (first ∷ books) are (suc i) x book within = stands_at xs books are.1 i x book (omega (arith, within))

  -- the first answer, behind a history that gives none, and at one that gives one
  pub past_none : (g : List Entry → Option ℕ) (xs : List X) (i : ℕ) (x : X) → i < length xs → g (f (get_or xs i x)) ≡ None
      → first_some g (drop i (map f xs)) ≡ first_some g (drop (i + 1) (map f xs))
  past_none g xs i x within none =
      at_drop_more (first_some g) (map f xs) i (f x) (subst (λ (n : ℕ). i < n) (sym (length-map xs f)) within)
      ∙ ap (λ (o : Option ℕ). option_or o (first_some g (drop (i + 1) (map f xs)))) (ap g (get_or-map f xs i x (f x) within) ∙ none)

  pub first_there : (g : List Entry → Option ℕ) (xs : List X) (i : ℕ) (x : X) (o : Option ℕ) → i < length xs → is_some o ≡ true → g (f (get_or xs i x)) ≡ o
      → first_some g (drop i (map f xs)) ≡ o
  first_there g xs i x None within there is = absurd cc
  first_there g xs i x (Some n) within there is =
      at_drop_more (first_some g) (map f xs) i (f x) (subst (λ (k : ℕ). i < k) (sym (length-map xs f)) within)
      ∙ ap (λ (o : Option ℕ). option_or o (first_some g (drop (i + 1) (map f xs)))) (ap g (get_or-map f xs i x (f x) within) ∙ is)

pub none_there : {X : Type 0} (o : Option X) → is_some o ≡ false → o ≡ None
none_there None none = refl
none_there (Some x) none = absurd cc

-- ---- no difference

-- where there is no first answer, no element gives one
all_none : {X B : Type 0} (f : X → Option B) (xs : List X) → first_some f xs ≡ None → All (λ x. f x ≡ None) xs
all_none f [] none = λ k d below. absurd (omega (arith, below))
all_none f (x ∷ xs) none =
    let both = both_hold (f x) (first_some f xs) none in
    All-cons (λ y. f y ≡ None) x xs both.0 (all_none f xs both.1)

no_counter : {A B : Type 0} (g : A → B) (a : Option A) → option_map g a ≡ None → a ≡ None
no_counter g None none = refl
no_counter g (Some x) none = absurd cc

-- where no row is found, none differs
pub none_differs : (row : ℕ) (jobs : List Job) (histories : List (List Entry)) → job_difference_from row jobs histories ≡ None → NoneDiffers jobs histories
none_differs row [] histories none = λ k d below. absurd (omega (arith, below))
none_differs row (job ∷ jobs) histories none =
    let both = both_hold (option_map (λ (counter : ℕ). (row, counter)) (counter_otherwise histories job)) (job_difference_from (suc row) jobs histories) none in
    All-cons (λ (j : Job). All (λ history. differs_in history j ≡ None) histories) job jobs
    (all_none (λ history. differs_in history job) histories (no_counter (λ (counter : ℕ). (row, counter)) (counter_otherwise histories job) both.0))
    (none_differs (suc row) jobs histories both.1)
