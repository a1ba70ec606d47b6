use Rattle.std.proofs.Common.{length, ap, sym, ◌∙◌, arith}
use Rattle.senders.specs.Trials.{keyset_for}
use Rattle.senders.proofs.TrialLemmas.{begun_of, none_in, one_of_lane}
use Rattle.senders.proofs.tests.lane.Goals as goal

pub open_keysets-requires-clause-of_lane : goal.open_keysets-requires-clause-of_lane
open_keysets-requires-clause-of_lane c =
    one_of_lane c.keyset.result c.in_ok-facts.field-0 c.args.lane c.args.lanes c.in-Ok-open.opened.journal.lane c.in-Ok-open.opened.journal.lanes (c.keyset.ensures ∙ ap keyset_for c.from-3.ensures) c.requires
    c.in-Ok-open.ensures.new.lane_is c.in-Ok-open.ensures.new.lanes_are

pub returns-in-Ok-open_keysets : goal.returns-in-Ok-open_keysets
returns-in-Ok-open_keysets c =
    let none = c.if-entries-gt0.false in
    let shown = ap length (sym (c.entries.ensures.entries ∙ c.history.ensures.entries)) in
    begun_of _ _ _ _ c.new-site.result c.args.lane c.args.lanes _ _ c.in-Ok-open.opened c.open_keysets.new.self c.keyset.result c.in_ok-facts.field-0
    c.in-Ok-open.ensures.new c.in-Ok-open.ensures.opened c.in-Ok-open.ensures.cause.faults c.in-Ok-open.ensures.cause.wants
    (none_in c.in-Ok-open.opened.journal.entries (omega (arith, none, shown))) (c.keyset.ensures ∙ ap keyset_for c.from-3.ensures) c.in_ok-facts.ensures c.in-Ok-open_keysets.ensures.added c.open_keysets.ensures.later
