use Rattle.std.proofs.Common.{rules, ◌≡◌, None, Some, Option, List, reverse, sym, ap, subst}
use Rattle.std.specs.Option.{option_or}
use Rattle.ota_core.specs.History.{broken_batch}
use Rattle.ota_core.specs.declared.entries.Entry.{Entry}
use Rattle.ota_core.specs.declared.entries.Illegal.{Illegal}
use Rattle.lane_session.specs.Due.{IsBatchFor}
use Rattle.lane_session.proofs.RowLaws.{batch_legal}
use Rattle.lane_session.proofs.lanes.Lane.reserve.Goals as goal

pub add-requires-clause-legal : goal.add-requires-clause-legal
add-requires-clause-legal g c =
    let due : IsBatchFor (reverse c.history.result.now.entries) c.args.job.now (Some c.in-Ok-Some.batch.items) = search (rules, c.in-Ok-Some.ensures, c.in-Ok-Some.field-0-is) in
    subst (λ (entries : List Entry). broken_batch (reverse entries) c.in-Ok-Some.batch.items ≡ None) c.history.ensures.entries
    (batch_legal (reverse c.history.result.now.entries) c.args.job.now c.in-Ok-Some.batch.items due)
