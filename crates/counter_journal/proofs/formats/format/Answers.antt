use Rattle.std.proofs.Common.{List, ℕ, subst}
use Rattle.gate_log.specs.Formatting.{FormatAnswer, FormatTicks}
use Rattle.counter_journal.proofs.MakingLaws.{made_journal}
use Rattle.counter_journal.proofs.formats.format.Goals as goal

pub returns-clause-made : goal.returns-clause-made
returns-clause-made g c = λ tells.
    made_journal c.args.lane c.args.lanes (g.D.DiskCalls.told.seen c.args.disk.now) (g.D.DiskCalls.told.seen c.format.new.disk) c.format.result
    (subst (λ (head : List ℕ). FormatAnswer head (g.D.DiskCalls.told.seen c.args.disk.now) (g.D.DiskCalls.told.seen c.format.new.disk) c.format.result) c.head_of.ensures (c.format.ensures.answer tells))

pub returns-clause-clock : goal.returns-clause-clock
returns-clause-clock g c = λ tells.
    let told = g.D.DiskCalls.told in
    subst (λ (head : List ℕ). FormatTicks head (told.seen c.args.disk.now) (told.clock c.args.disk.now) (told.clock c.format.new.disk) c.format.result) c.head_of.ensures (c.format.ensures.clock tells)
