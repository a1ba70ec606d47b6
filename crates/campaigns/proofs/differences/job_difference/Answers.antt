use Rattle.std.proofs.Common.{◌+◌, ◌∙◌, sym, Bor, map}
use Rattle.std.proofs.lemmas.List.{at_drop_all, length-map}
use Rattle.ota_core.specs.declared.histories.History.{History}
use Rattle.campaigns.specs.Differences.{job_difference_from}
use Rattle.campaigns.proofs.DifferenceLemmas.{none_differs}
use Rattle.campaigns.proofs.RemainingLemmas.{as_many}
use Rattle.campaigns.proofs.differences.job_difference.Goals as goal

pub returns-clause-none : goal.returns-clause-none
returns-clause-none c =
    let jobs = c.args.jobs.now in
    let histories = map (λ (history : Bor History). history.now.entries) c.args.histories.now in
    λ is. none_differs 1 jobs histories
    (c.loop-place.invariant ∙ at_drop_all (λ rows. job_difference_from (c.loop-place.place + 1) rows histories) jobs c.loop-place.place c.loop-place-test.false)

pub counter_otherwise-requires-clause-many : goal.counter_otherwise-requires-clause-many
counter_otherwise-requires-clause-many c =
    let entries = λ (history : Bor History). history.now.entries in
    sym (as_many c.args.books.now (map entries c.args.histories.now) c.requires.books ∙ length-map c.args.histories.now entries)
