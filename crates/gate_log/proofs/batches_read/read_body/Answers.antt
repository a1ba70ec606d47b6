use Rattle.std.proofs.Common.{◌≡◌, ◌<◌, ◌-◌, false, true, take, drop, length, sym, ◌∙◌, ap, arith, length-append, length-drop}
use Rattle.std.proofs.lemmas.List.{take_rest}
use Rattle.gate_log.specs.Windows.{rest_of, IsTaken}
use Rattle.gate_log.specs.BatchesRead.{is_framed}
use Rattle.gate_log.proofs.Framed.{behind_room}
use Rattle.gate_log.proofs.batches_read.read_body.Goals as goal

pub returns-then-not-is_framed-clause-body : goal.returns-then-not-is_framed-clause-body
returns-then-not-is_framed-clause-body g c = λ tells long within framed.
    let text = g.D.DiskCalls.told.seen c.args.disk.now in
    let rest = rest_of text c.args.windows.now in
    let before = c.reserve.new.self.items in
    let room = c.take.new.into.items in
    let taken : IsTaken text c.args.size before room c.args.windows.now c.take.new.self = rw c.if-not-branch.false at (c.in_ok-take.ensures.taken tells long) in
    let five : length before ≡ 5 = ap length c.in_ok-reserve.ensures.items ∙ c.requires.length in
    let body : drop 5 room ≡ take c.args.size rest = behind_room text before room c.args.size c.args.windows.now c.take.new.self taken 5 five in
    let slice : take (length c.deref.result.now - 5) (drop 5 c.deref.result.now) ≡ take c.args.size rest = take_rest c.deref.result.now 5 ∙ ap (drop 5) c.deref.ensures.value ∙ body in
    let never : false ≡ true = c.if-not-is_framed.ensures ∙ ap is_framed slice ∙ framed in
    cc never

pub returns-clause-body : goal.returns-clause-body
returns-clause-body g c = λ tells long.
    let text = g.D.DiskCalls.told.seen c.args.disk.now in
    let rest = rest_of text c.args.windows.now in
    let before = c.reserve.new.self.items in
    let room = c.take.new.into.items in
    let taken : IsTaken text c.args.size before room c.args.windows.now c.take.new.self = rw c.if-not-branch.false at (c.in_ok-take.ensures.taken tells long) in
    let five : length before ≡ 5 = ap length c.in_ok-reserve.ensures.items ∙ c.requires.length in
    let body : drop 5 room ≡ take c.args.size rest = behind_room text before room c.args.size c.args.windows.now c.take.new.self taken 5 five in
    let slice : take (length c.deref.result.now - 5) (drop 5 c.deref.result.now) ≡ take c.args.size rest = take_rest c.deref.result.now 5 ∙ ap (drop 5) c.deref.ensures.value ∙ body in
    let less : c.args.size < c.octets_left.result = grind arith in
    let ahead = c.args.windows.now.ahead in
    let behind = drop c.args.windows.now.read text in
    let within : c.args.size < length rest = omega (arith, less, c.octets_left.ensures.count, long, length-append ahead behind, length-drop c.args.windows.now.read text) in
    (within, body, ap is_framed (sym slice) ∙ sym c.if-not-is_framed.ensures, taken.rest)
