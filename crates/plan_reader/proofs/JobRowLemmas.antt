-- What is read of the rows of a list of jobs.
use Rattle.std.proofs.Common.{◌≡◌, ◌∙◌, refl, sym, ℕ, ◌+◌, ◌/◌, nat_lt, nat_le, nat_eq, ◌≤◌, ◌<◌, ◌==◌, ◌&&◌, ◌||◌, IsTrue, not, Bool, true, false, List, [], ◌∷◌, ◌++◌, length, map, Option, Some, None, Result, Ok, Err, Vec, Global, IfOk, IfErr, unwrap_or, arith, inl, inr}
use Rattle.std.specs.HashSet.{HashSet, contains}
use Rattle.std.proofs.lemmas.Bool.{cases_Bool, eqb-true, false≢true}
use Rattle.std.proofs.lemmas.Bool.Decides.{nat_tests}
use Rattle.std.proofs.lemmas.List.Folds.{list_any-append}
use Rattle.ota_core.specs.declared.jobs.JobId.{JobId}
use Rattle.ota_core.specs.declared.jobs.Job.{Job}
use Rattle.plan_reader.specs.Check.{first_wrong, is_wrong, says, outcome}
use Rattle.plan_reader.specs.Hexadecimal.{octets_of}
use Rattle.plan_reader.specs.JobRows.{Row, cell, is_header, card_in, is_listed, job_number_of, card_number_of, kvn_in, script_in, longest_script, takes_wide, job_said, has_job_number, row_checks, first_of_rows, jobs_of_records, NamesRow, RefusesJobs, AreListed}
use Rattle.plan_reader.specs.Jobs.{has_job, are_distinct}
use Rattle.plan_reader.specs.PlanPlaces.{HasNumbers}
use Rattle.plan_reader.specs.RowsLeft.{Takes}
use Rattle.plan_reader.specs.declared.columns.Column.{Column}
use Rattle.plan_reader.specs.declared.job_lists.JobsErr.{JobsErr}
use Rattle.plan_reader.specs.declared.job_lists.JobsErr.TheVariants.{Refused, Memory}
use Rattle.plan_reader.specs.declared.plans.Plan.{Plan}
use Rattle.plan_reader.proofs.CheckLemmas.{all-right, right-value}
use Rattle.plan_reader.proofs.HexadecimalLemmas.{octets_of-reads}

-- a script of another length than a card takes is wrong
pub script-length : (row : Row) (wide : Bool) → (nat_lt 0 (length (cell 4 row) / 2) && nat_le (length (cell 4 row) / 2) (longest_script wide)) ≡ false
    → true ≡ is_wrong (λ octets. nat_lt (longest_script wide) (length octets)) (script_in row)
unfolding script_in
script-length row wide refused =
    elim (cases_Bool (nat_lt 0 (length (cell 4 row) / 2))) [
      | inl filled ↦ rw filled (long (octets_of (length (cell 4 row) / 2) (cell 4 row)) refl (rw filled at refused))
      | inr empty ↦ rw empty refl
    ]
  where
    long : (read : Option (List ℕ)) → octets_of (length (cell 4 row) / 2) (cell 4 row) ≡ read → nat_le (length (cell 4 row) / 2) (longest_script wide) ≡ false
        → true ≡ is_wrong (λ octets. nat_lt (longest_script wide) (length octets)) read
    long None is above = refl
    long (Some octets) is above = let (_, len) = octets_of-reads _ octets _ is in rw len (grind (arith, nat_tests, above))

-- a script of a length that a card takes is right
pub script-fits : (row : Row) (wide : Bool) (octets : List ℕ) → (nat_lt 0 (length (cell 4 row) / 2) && nat_le (length (cell 4 row) / 2) (longest_script wide)) ≡ true
    → octets_of (length (cell 4 row) / 2) (cell 4 row) ≡ Some octets → false ≡ is_wrong (λ octets. nat_lt (longest_script wide) (length octets)) (script_in row)
unfolding script_in
script-fits row wide octets fits is =
    let (filled, within) = both-hold (nat_lt 0 (length (cell 4 row) / 2)) (nat_le (length (cell 4 row) / 2) (longest_script wide)) fits in
    let (_, len) = octets_of-reads _ octets _ is in
    rw (filled, is, len) (grind (arith, nat_tests, within))
  where
    both-hold : (first second : Bool) → (first && second) ≡ true → (first ≡ true) × (second ≡ true)
    both-hold true second holds = (refl, holds)
    both-hold false second holds = cc holds

-- the numbers of one job more
pub numbers-more : {S : Type 0} (old new : HashSet ℕ S) (jobs : List Job) (job : Job) (number : ℕ) → HasNumbers old jobs → job.id.job ≡ number
    → ((other : ℕ) → contains nat_eq new other ≡ ((number == other) || contains nat_eq old other)) → HasNumbers new (jobs ++ job ∷ [])
numbers-more old new jobs job number has own added = record {
  found = λ other.
      added other ∙ rw (list_any-append (λ job. job.id.job == other) jobs (job ∷ []), own, has.found other) (or-last (number == other) (has_job_number other jobs));
}
  where
    or-last : (first rest : Bool) → (first || rest) ≡ (rest || (first || false))
    or-last true true = refl
    or-last true false = refl
    or-last false true = refl
    or-last false false = refl

-- a record that is taken is the first one
pub taken-first : (rows : List Row) (found : Bool) (row : Row) (rest : List Row) → found ≡ true → Takes rows found row rest → rows ≡ row ∷ rest
taken-first [] found row rest there takes = absurd (false≢true (sym takes ∙ there))
taken-first (first ∷ rows) found row rest there takes = rw (takes.1, takes.2) refl

pub taken-none : (rows : List Row) (found : Bool) (row : Row) (rest : List Row) → found ≡ false → Takes rows found row rest → rows ≡ []
taken-none [] found row rest missing takes = refl
taken-none (first ∷ rows) found row rest missing takes = absurd (false≢true (sym missing ∙ takes.0))

-- a row in which nothing is wrong
pub rows-right : (plan : Plan) (before : List Job) (row : Row) (rows : List Row) → first_wrong (row_checks plan before row) ≡ None
    → first_of_rows plan before (row ∷ rows) ≡ first_of_rows plan (before ++ job_said plan row ∷ []) rows
rows-right plan before row rows right = rw right refl

-- a row in which something is wrong
pub rows-wrong : (plan : Plan) (before : List Job) (row : Row) (rows : List Row) (column : Column) → first_wrong (row_checks plan before row) ≡ Some column
    → first_of_rows plan before (row ∷ rows) ≡ Some (length before + 1, column)
rows-wrong plan before row rows column wrong = rw wrong refl

-- what a row in which nothing is wrong says
record Right (plan : Plan) (before : List Job) (row : Row) : Type 0 where
  number : ℕ
  number_is : job_number_of row ≡ Some number
  fresh : has_job_number number before ≡ false
  listed : is_listed plan (job_said plan row).keyset ≡ true
  script : List ℕ
  script_is : script_in row ≡ Some script
  short : nat_lt (longest_script (takes_wide plan row)) (length script) ≡ false

says-right : (plan : Plan) (before : List Job) (row : Row) → first_wrong (row_checks plan before row) ≡ None → Right plan before row
says-right plan before row right =
    let all = all-right (row_checks plan before row) right in
    let (number, number_is, fresh) = right-value (λ number. has_job_number number before) (job_number_of row) all.1.1.0 in
    let (kvn, kvn_is, listed) = right-value (λ _. not (is_listed plan (job_said plan row).keyset)) (kvn_in row) all.1.1.1.1.0 in
    let (octets, octets_are, short) = right-value (λ octets. nat_lt (longest_script (takes_wide plan row)) (length octets)) (script_in row) all.1.1.1.1.1.1.0 in
    record {
      number = number;
      number_is = number_is;
      fresh = fresh;
      listed = not-false _ listed;
      script = octets;
      script_is = octets_are;
      short = short;
    }
  where
    not-false : (test : Bool) → not test ≡ false → test ≡ true
    not-false true is = refl
    not-false false is = cc is

-- the first of several rows in which nothing is wrong
right-rows : (plan : Plan) (before : List Job) (row : Row) (rows : List Row) → first_of_rows plan before (row ∷ rows) ≡ None
    → Right plan before row × (first_of_rows plan (before ++ job_said plan row ∷ []) rows ≡ None)
right-rows plan before row rows right = by (first_wrong (row_checks plan before row)) refl
  where
    by : (wrong : Option Column) → first_wrong (row_checks plan before row) ≡ wrong → Right plan before row × (first_of_rows plan (before ++ job_said plan row ∷ []) rows ≡ None)
    by None is = (says-right plan before row is, rw is at right)
    by (Some column) is = let fault = rw is at right in cc fault

-- the number of a job that a row says
said-number : (plan : Plan) (row : Row) (number : ℕ) → job_number_of row ≡ Some number → (job_said plan row).id.job ≡ number
unfolding job_said
said-number plan row number is = rw is refl

-- a number in front stands in no row
not-again : (plan : Plan) (number : ℕ) (before : List Job) (rows : List Row) → first_of_rows plan before rows ≡ None → has_job_number number before ≡ true
    → has_job_number number (map (job_said plan) rows) ≡ false
not-again plan number before [] right there = refl
not-again plan number before (row ∷ rows) right there =
    let (is, more) = right-rows plan before row rows right in
    let other : ((job_said plan row).id.job == number) ≡ false =
    rw (said-number plan row is.number is.number_is)
    (elim (cases_Bool (is.number == number)) [
      | inl same ↦ absurd (false≢true (sym is.fresh ∙ rw (eqb-true is.number number same) there))
      | inr other ↦ other
    ]) in
    rw other (not-again plan number (before ++ job_said plan row ∷ []) rows more (rw (list_any-append (λ job. job.id.job == number) before (job_said plan row ∷ []), there) refl))

-- no job has a number that no job has with a campaign
no-job : (id : JobId) (jobs : List Job) → has_job_number id.job jobs ≡ false → has_job id jobs ≡ false
no-job id [] none = refl
no-job id (job ∷ jobs) none =
    elim (cases_Bool (job.id.job == id.job)) [
      | inl same ↦ let taken = rw same at none in cc taken
      | inr other ↦ rw (other, and-false (job.id.campaign == id.campaign)) (no-job id jobs (rw other at none))
    ]
  where
    and-false : (test : Bool) → (test && false) ≡ false
    and-false true = refl
    and-false false = refl

-- no two jobs of a list have one number
pub jobs-distinct : (plan : Plan) (before : List Job) (rows : List Row) → first_of_rows plan before rows ≡ None → IsTrue (are_distinct (map (job_said plan) rows))
jobs-distinct plan before [] right = refl
jobs-distinct plan before (row ∷ rows) right =
    let (is, more) = right-rows plan before row rows right in
    let job = job_said plan row in
    let here : has_job_number job.id.job (before ++ job ∷ []) ≡ true =
    rw (list_any-append (λ other. other.id.job == job.id.job) before (job ∷ []), same-number job.id.job) (or-true _) in
    rw (no-job job.id (map (job_said plan) rows) (not-again plan job.id.job (before ++ job ∷ []) rows more here)) (jobs-distinct plan (before ++ job ∷ []) rows more)
  where
    same-number : (number : ℕ) → (number == number) ≡ true
    same-number number = grind (arith, nat_tests)

    or-true : (test : Bool) → (test || true) ≡ true
    or-true true = refl
    or-true false = refl

-- a script that is read has an octet at least
script-filled : (row : Row) (script : List ℕ) → script_in row ≡ Some script → 1 ≤ length script
unfolding script_in
script-filled row script is =
    elim (cases_Bool (nat_lt 0 (length (cell 4 row) / 2))) [
      | inl filled ↦ let (_, len) = octets_of-reads _ script _ (rw filled at is) in rw len (grind (arith, nat_tests, filled))
      | inr empty ↦ let none = rw empty at is in cc none
    ]

said-script : (plan : Plan) (row : Row) (script : List ℕ) → script_in row ≡ Some script → (job_said plan row).body ≡ script
unfolding job_said
said-script plan row script is = rw is refl

said-campaign : (plan : Plan) (row : Row) → (job_said plan row).id.campaign ≡ plan.campaign
unfolding job_said
said-campaign plan row = refl

-- a length that isn't above the greatest one
longest : (wide : Bool) (len : ℕ) → nat_lt (longest_script wide) len ≡ false → len ≤ 4096
longest true len short = grind (arith, nat_tests)
longest false len short = grind (arith, nat_tests)

-- a script that is longer than others may be is for a wide card
wide_alone : (wide : Bool) (len : ℕ) → nat_lt (longest_script wide) len ≡ false → 1024 < len → wide ≡ true
wide_alone true len short long = refl
wide_alone false len short long = absurd (let above : len ≤ 1024 = grind (arith, nat_tests, short) in omega (arith, above, long))

-- the card of a row is that of its job
said-wide : (plan : Plan) (row : Row) → takes_wide plan row ≡ true → IsTrue (says (λ card. card.wide) (card_in plan (job_said plan row).keyset.card.0))
unfolding job_said
said-wide plan row wide = by (card_number_of row) refl
  where
    by : (read : Option ℕ) → card_number_of row ≡ read → IsTrue (says (λ card. card.wide) (card_in plan (unwrap_or (card_number_of row) 0)))
    by None is = let none = rw is at wide in cc none
    by (Some number) is = rw is (rw is at wide)

-- each job of a list is one that the plan allows
pub jobs-listed : (plan : Plan) (before : List Job) (rows : List Row) → first_of_rows plan before rows ≡ None → AreListed plan (map (job_said plan) rows)
jobs-listed plan before [] right = tt
jobs-listed plan before (row ∷ rows) right =
    let (is, more) = right-rows plan before row rows right in
    let body = said-script plan row is.script is.script_is in (
      record {
        campaign = said-campaign plan row;
        keyset = is.listed;
        filled = rw body (script-filled row is.script is.script_is);
        short = rw body (longest (takes_wide plan row) (length is.script) is.short);
        wide = λ long. said-wide plan row (wide_alone (takes_wide plan row) (length is.script) is.short (rw body at long));
      },
      jobs-listed plan (before ++ job_said plan row ∷ []) rows more,
    )

-- rows behind a header are read as they are
pub behind-header : (plan : Plan) (row : Row) (rows : List Row) → is_header row ≡ true
    → jobs_of_records plan (row ∷ rows) ≡ outcome (map (job_said plan) rows) (first_of_rows plan [] rows)
behind-header plan row rows header = rw header refl

-- what is refused of the rows is refused of the list
names-refuses : (plan : Plan) (rows : List Row) (err : JobsErr) → NamesRow (first_of_rows plan [] rows) err
    → RefusesJobs (outcome (map (job_said plan) rows) (first_of_rows plan [] rows)) err
names-refuses plan rows (Refused row column) names = rw names refl
names-refuses plan rows Memory names = tt

-- the answer to rows is the answer to the list
pub rows-ok : (plan : Plan) (rows : List Row) (result : Result (Vec Job Global) JobsErr) → IfOk result (λ _. first_of_rows plan [] rows ≡ None)
    → IfOk result (λ jobs. jobs.items ≡ map (job_said plan) rows)
    → IfOk result (λ jobs. outcome (map (job_said plan) rows) (first_of_rows plan [] rows) ≡ Ok jobs.items)
rows-ok plan rows (Ok jobs) right said = rw (right, said) refl
rows-ok plan rows (Err err) right said = tt

pub rows-distinct : (plan : Plan) (rows : List Row) (result : Result (Vec Job Global) JobsErr) → IfOk result (λ _. first_of_rows plan [] rows ≡ None)
    → IfOk result (λ jobs. jobs.items ≡ map (job_said plan) rows) → IfOk result (λ jobs. IsTrue (are_distinct jobs.items))
rows-distinct plan rows (Ok jobs) right said = rw said (jobs-distinct plan [] rows right)
rows-distinct plan rows (Err err) right said = tt

pub rows-listed : (plan : Plan) (rows : List Row) (result : Result (Vec Job Global) JobsErr) → IfOk result (λ _. first_of_rows plan [] rows ≡ None)
    → IfOk result (λ jobs. jobs.items ≡ map (job_said plan) rows) → IfOk result (λ jobs. AreListed plan jobs.items)
rows-listed plan rows (Ok jobs) right said = rw said (jobs-listed plan [] rows right)
rows-listed plan rows (Err err) right said = tt

pub rows-refused : (plan : Plan) (rows : List Row) (result : Result (Vec Job Global) JobsErr) → IfErr result (NamesRow (first_of_rows plan [] rows))
    → IfErr result (RefusesJobs (outcome (map (job_said plan) rows) (first_of_rows plan [] rows)))
rows-refused plan rows (Ok jobs) names = tt
rows-refused plan rows (Err err) names = names-refuses plan rows err names
