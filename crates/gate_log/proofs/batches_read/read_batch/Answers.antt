use Rattle.std.proofs.Common.{◌≡◌, ◌<◌, ◌-◌, List, ℕ, take, drop, length, sym, ◌∙◌, ap, subst}
use Rattle.std.specs.Prelude.{IfOk}
use Rattle.std.proofs.lemmas.List.{take_rest}
use Rattle.gate_log.specs.Reading.{size_at}
use Rattle.gate_log.specs.ReadingLaws.{tells_on}
use Rattle.gate_log.specs.Windows.{rest_of, IsTaken}
use Rattle.gate_log.specs.BatchesRead.{IsBody}
use Rattle.gate_log.proofs.Framed.{no_length, size_read, batch_by_body}
use Rattle.gate_log.proofs.batches_read.read_batch.Goals as goal

pub returns-then-not-branch-clause-batch : goal.returns-then-not-branch-clause-batch
returns-then-not-branch-clause-batch g c = λ tells long.
    let text = g.D.DiskCalls.told.seen c.args.disk.now in
    let short : length (rest_of text c.args.windows.now) < 4 = rw c.if-not-branch.true at (c.in_ok-take.ensures.taken tells long) in
    no_length (rest_of text c.args.windows.now) short

pub returns-clause-batch : goal.returns-clause-batch
returns-clause-batch g c = λ tells long.
    let told = g.D.DiskCalls.told in
    let text = told.seen c.args.disk.now in
    let was = c.args.windows.now in
    let is = c.take.new.self in
    let looks = c.in_ok-take.ensures.looks in
    let same : told.seen c.take.new.disk ≡ text = looks.content tells in
    let taken : IsTaken text 4 c.args.room.now.items c.take.new.into.items was is = rw c.if-not-branch.false at (c.in_ok-take.ensures.taken tells long) in
    let slice : take (length c.deref.result.now - 1) (drop 1 c.deref.result.now) ≡ drop 1 c.take.new.into.items = take_rest c.deref.result.now 1 ∙ ap (drop 1) c.deref.ensures.value in
    let size_is : c.size_at-size.result ≡ size_at (rest_of text was) = c.size_at-size.ensures ∙ ap size_at slice ∙ size_read text c.args.room.now.items c.take.new.into.items was is taken c.requires.gate in
    let mid_tells = tells_on told c.args.disk.now c.take.new.disk looks.tells tells in
    let mid_long : is.long ≡ length (told.seen c.take.new.disk) = looks.long tells long ∙ long ∙ ap length (sym same) in
    let body = subst (λ (t : List ℕ). IfOk c.read_body.result (λ standing. IsBody standing t c.size_at-size.result c.read_body.new.room.items is c.read_body.new.windows)) same (c.read_body.ensures.body mid_tells mid_long) in
    batch_by_body text c.args.room.now.items c.take.new.into.items c.read_body.new.room.items was is c.read_body.new.windows taken c.size_at-size.result size_is c.read_body.result body
