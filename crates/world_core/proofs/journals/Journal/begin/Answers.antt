use Rattle.std.proofs.Common.{◌≡◌, ◌++◌, reverse, take, drop, ap, inl, inr, arith}
use Rattle.ota_core.specs.History.{broken_batch}
use Rattle.world_core.proofs.Walks.{first_broken_of}
use Rattle.world_core.proofs.journals.Journal.begin.Goals as goal

pub returns-in-Err-clause-refused : goal.returns-in-Err-clause-refused
returns-in-Err-clause-refused c =
    let opened : c.open_batch.new.self.history ≡ c.args.self.now.history = ap (λ journal. journal.history) c.open_batch.ensures in
    let before = reverse (c.open_batch.new.self.history ++ take c.loop-entry.entry-index c.args.batch.now) in
    let legal : broken_batch (reverse c.args.self.now.history) c.args.batch.now ≡ broken_batch before (drop c.loop-entry.entry-index c.args.batch.now) =
    rw (← opened) c.loop-entry.invariant.legal in
    elim c.in-Err.ensures.refused [
      | inl breaks ↦ inl (first_broken_of _ before c.args.batch.now c.loop-entry.entry-index c.entry-item.result c.in-Err.refusal (omega arith) c.entry-item.is legal
          (rw (c.loop-entry.invariant.history, c.loop-entry.invariant.batch) at breaks))
      | inr memory ↦ inr (omega arith, memory)
    ]
