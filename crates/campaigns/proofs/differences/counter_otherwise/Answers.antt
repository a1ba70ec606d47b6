use Rattle.std.proofs.Common.{◌≡◌, Bor, List, get_or, ◌∙◌, sym, ap}
use Rattle.ota_core.specs.declared.histories.History.{History}
use Rattle.ota_core.specs.declared.entries.Entry.{Entry}
use Rattle.campaigns.specs.Rows.{differs_in}
use Rattle.campaigns.proofs.DifferenceLemmas.{stands_at, past_none, first_there, none_there}
use Rattle.campaigns.proofs.differences.counter_otherwise.Goals as goal

pub differs_in-counter-requires : goal.differs_in-counter-requires
differs_in-counter-requires c =
    rw (c.entries.ensures.entries, c.index-books-lane.is, c.index-histories-lane.is)
    (stands_at (λ (history : Bor History). history.now.entries) c.args.histories.now c.args.books.now c.requires.books c.loop-lane.lane
    c.index-histories-lane.result c.index-books-lane.result c.loop-lane-test.true)

pub returns-then-is_some : goal.returns-then-is_some
returns-then-is_some c =
    let entries = λ (history : Bor History). history.now.entries in
    let differs = λ (history : List Entry). differs_in history c.args.job.now in
    let here : differs (entries (get_or c.args.histories.now c.loop-lane.lane c.index-histories-lane.result)) ≡ c.differs_in-counter.result =
    sym (c.differs_in-counter.ensures ∙ ap differs (c.entries.ensures.entries ∙ ap entries c.index-histories-lane.is)) in
    sym (c.loop-lane.invariant ∙ first_there entries differs c.args.histories.now c.loop-lane.lane c.index-histories-lane.result c.differs_in-counter.result
    c.loop-lane-test.true (sym c.is_some.ensures ∙ c.if-is_some.true) here)

pub loop-lane-preserved : goal.loop-lane-preserved
loop-lane-preserved c =
    let entries = λ (history : Bor History). history.now.entries in
    let differs = λ (history : List Entry). differs_in history c.args.job.now in
    let here : differs (entries (get_or c.args.histories.now c.loop-lane.lane c.index-histories-lane.result)) ≡ c.differs_in-counter.result =
    sym (c.differs_in-counter.ensures ∙ ap differs (c.entries.ensures.entries ∙ ap entries c.index-histories-lane.is)) in
    c.loop-lane.invariant ∙ past_none entries differs c.args.histories.now c.loop-lane.lane c.index-histories-lane.result c.loop-lane-test.true
    (here ∙ none_there c.differs_in-counter.result (sym c.is_some.ensures ∙ c.if-is_some.false))
