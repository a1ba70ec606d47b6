use Rattle.std.proofs.Common.{◌≡◌, ◌==◌, ◌||◌, ℕ, nat_eq, refl, rules}
use Rattle.std.specs.HashSet.{contains}
use Rattle.plan_reader.specs.JobRows.{job_said}
use Rattle.plan_reader.specs.PlanPlaces.{IsListing}
use Rattle.plan_reader.proofs.JobRowLemmas.{numbers-more}
use Rattle.plan_reader.proofs.job_rows.read_row.Goals as goal

pub returns-in_err-keyset-clause-err : goal.returns-in_err-keyset-clause-err
unfolding job_said
returns-in_err-keyset-clause-err c =
    let listing : IsListing c.args.plan.now c.in_ok-card.card c.in_ok-card.listing.now = search rules in
    search (rules, c.listed_keyset.ensures.wrong c.args.plan.now listing)

pub returns-in_err-tar-clause-err : goal.returns-in_err-tar-clause-err
unfolding job_said
returns-in_err-tar-clause-err c =
    let listing : IsListing c.args.plan.now c.in_ok-card.card c.in_ok-card.listing.now = search rules in
    search (rules, c.listed_keyset.ensures.wrong c.args.plan.now listing)

pub returns-in_err-body-clause-err : goal.returns-in_err-body-clause-err
unfolding job_said
returns-in_err-body-clause-err c =
    let listing : IsListing c.args.plan.now c.in_ok-card.card c.in_ok-card.listing.now = search rules in
    search (rules, c.listed_keyset.ensures.wrong c.args.plan.now listing)

pub returns-clause-right : goal.returns-clause-right
unfolding job_said
returns-clause-right c =
    let listing : IsListing c.args.plan.now c.in_ok-card.card c.in_ok-card.listing.now = search rules in
    search (rules, c.listed_keyset.ensures.wrong c.args.plan.now listing)

pub returns-clause-numbers : goal.returns-clause-numbers
returns-clause-numbers c =
    let added : (other : ℕ) → contains nat_eq c.new_number.new.numbers other ≡ ((c.in_ok-job.job == other) || contains nat_eq c.args.numbers.now other) = search rules in
    numbers-more c.args.numbers.now c.new_number.new.numbers c.args.before.now _ c.in_ok-job.job c.requires.numbers refl added
