use Rattle.std.proofs.Common.{◌≡◌, ◌≢◌, ◌<◌, List, [], ℕ, length, get_or, sym, ◌∙◌, ap, subst, arith}
use Rattle.std.specs.Prelude.{IfOk}
use Rattle.gate_log.specs.Log.{OPEN}
use Rattle.gate_log.specs.ReadingLaws.{tells_on}
use Rattle.gate_log.specs.Windows.{rest_of, IsTaken}
use Rattle.gate_log.specs.BatchesRead.{IsBatchRead}
use Rattle.gate_log.proofs.Framed.{step_short, step_by_batch, step_of_closed}
use Rattle.gate_log.proofs.batches_read.read_step.Goals as goal

pub returns-then-not-branch-clause-step : goal.returns-then-not-branch-clause-step
returns-then-not-branch-clause-step g c = λ tells long.
    let text = g.D.DiskCalls.told.seen c.args.disk.now in
    let short : length (rest_of text c.args.windows.now) < 1 = rw c.if-not-branch.true at (c.in_ok-take.ensures.taken tells long) in
    step_short (rest_of text c.args.windows.now) short

pub returns-then-index-ne-OPEN-clause-step : goal.returns-then-index-ne-OPEN-clause-step
returns-then-index-ne-OPEN-clause-step g c = λ tells long.
    let text = g.D.DiskCalls.told.seen c.args.disk.now in
    let room = c.take.new.into.items in
    let was = c.args.windows.now in
    let found : IsTaken text 1 c.clear.new.self.items room was c.take.new.self = rw c.if-not-branch.false at (c.in_ok-take.ensures.taken tells long) in
    let taken : IsTaken text 1 [] room was c.take.new.self = subst (λ (l : List ℕ). IsTaken text 1 l room was c.take.new.self) c.clear.ensures.items found in
    let one : length room ≡ 1 = grind arith in
    let closed : get_or room 0 0 ≢ OPEN = grind arith in
    step_of_closed text room was c.take.new.self taken one closed

pub returns-clause-step : goal.returns-clause-step
returns-clause-step g c = λ tells long.
    let told = g.D.DiskCalls.told in
    let text = told.seen c.args.disk.now in
    let room = c.take.new.into.items in
    let was = c.args.windows.now in
    let is = c.take.new.self in
    let looks = c.in_ok-take.ensures.looks in
    let same : told.seen c.take.new.disk ≡ text = looks.content tells in
    let found : IsTaken text 1 c.clear.new.self.items room was is = rw c.if-not-branch.false at (c.in_ok-take.ensures.taken tells long) in
    let taken : IsTaken text 1 [] room was is = subst (λ (l : List ℕ). IsTaken text 1 l room was is) c.clear.ensures.items found in
    let one : length room ≡ 1 = grind arith in
    let gate : get_or room 0 0 ≡ OPEN = grind arith in
    let mid_tells = tells_on told c.args.disk.now c.take.new.disk looks.tells tells in
    let mid_long : is.long ≡ length (told.seen c.take.new.disk) = looks.long tells long ∙ long ∙ ap length (sym same) in
    let batch = subst (λ (t : List ℕ). IfOk c.read_batch.result (λ standing. IsBatchRead standing t c.read_batch.new.room.items is c.read_batch.new.windows)) same (c.read_batch.ensures.batch mid_tells mid_long) in
    step_by_batch text room c.read_batch.new.room.items was is c.read_batch.new.windows taken one gate c.read_batch.result batch
