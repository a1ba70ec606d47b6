use Rattle.ota_core.proofs.RuleLaws.{open_stands_first, open_stands_once, nothing_follows_close, no_counter_twice, counters_follow, earlier_is_refused, settled_once_reserved, moments_never_fall, counters_have_an_end, refusals_ran_nothing}
use Rattle.ota_core.proofs.laws.legal_histories.Goals as goal

pub returns-clause-open_stands_first : goal.returns-clause-open_stands_first
returns-clause-open_stands_first c = open_stands_first _ c.entries-entries.ensures.legal

pub returns-clause-open_stands_once : goal.returns-clause-open_stands_once
returns-clause-open_stands_once c = open_stands_once _ c.entries-entries.ensures.legal

pub returns-clause-nothing_follows_close : goal.returns-clause-nothing_follows_close
returns-clause-nothing_follows_close c = nothing_follows_close _ c.entries-entries.ensures.legal

pub returns-clause-no_counter_twice : goal.returns-clause-no_counter_twice
returns-clause-no_counter_twice c = no_counter_twice _ c.entries-entries.ensures.legal

pub returns-clause-counters_follow : goal.returns-clause-counters_follow
returns-clause-counters_follow c = counters_follow c.before.args.history.now.entries c.entries-entries.ensures.legal

pub returns-clause-earlier_is_refused : goal.returns-clause-earlier_is_refused
returns-clause-earlier_is_refused c = earlier_is_refused _ c.entries-entries.ensures.legal

pub returns-clause-settled_once_reserved : goal.returns-clause-settled_once_reserved
returns-clause-settled_once_reserved c = settled_once_reserved _ c.entries-entries.ensures.legal

pub returns-clause-moments_never_fall : goal.returns-clause-moments_never_fall
returns-clause-moments_never_fall c = moments_never_fall _ c.entries-entries.ensures.legal

pub returns-clause-counters_have_an_end : goal.returns-clause-counters_have_an_end
returns-clause-counters_have_an_end c = counters_have_an_end _ c.entries-entries.ensures.legal

pub returns-clause-refusals_ran_nothing : goal.returns-clause-refusals_ran_nothing
returns-clause-refusals_ran_nothing c = refusals_ran_nothing _ c.entries-entries.ensures.legal
