use Rattle.std.proofs.Common.{ℕ, ◌<◌, sym, subst}
use Rattle.campaigns.specs.WorkList.{remaining_jobs}
use Rattle.campaigns.specs.Workable.{IsWorkable}
use Rattle.campaigns.proofs.RemainingLemmas.{as_many}
use Rattle.campaigns.proofs.WorkableLemmas.{if_ok, workable}
use Rattle.campaigns.proofs.work_lists.work_list.Goals as goal

pub returns-clause-works : goal.returns-clause-works
returns-clause-works c = λ histories are.
    rw (← as_many c.args.books.now histories are, ← c.in_ok-remaining.ensures histories are) (rw c.max.ensures at c.in_pieces.ensures)

pub returns-clause-workable : goal.returns-clause-workable
returns-clause-workable c = λ histories are some distinct scripts.
    if_ok c.in_pieces.result
    (λ works is. subst (IsWorkable c.args.batch histories (remaining_jobs c.args.retry histories c.args.jobs.now)) (sym is)
    (workable c.args.retry c.args.batch histories c.args.jobs.now (subst (λ (n : ℕ). 0 < n) (as_many c.args.books.now histories are) c.requires.some) some distinct scripts))
    (returns-clause-works c histories are)
