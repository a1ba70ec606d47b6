use Rattle.std.proofs.Common.{◌≡◌, ◌≤◌, ◌-◌, List, ℕ, ◌++◌, ◌+◌, take, drop, length, ◌∙◌, ap, arith, length-drop}
use Rattle.gate_log.proofs.Windowed.{filled, front_of_window, window_is}
use Rattle.std.specs.Prelude.{min}
use Rattle.gate_log.specs.Windows.{WindowsState}
use Rattle.gate_log.proofs.windows.Windows.fill.Goals as goal

pub returns-else-count-size-clause-rest : goal.returns-else-count-size-clause-rest
returns-else-count-size-clause-rest g c = λ tells long.
    let text = g.D.DiskCalls.told.seen c.args.disk.now in
    let count = c.in_ok-count.count in
    let read = c.self.inside.read in
    let one = filled text c.deref_mut.result.now c.read_at.new.into read count (c.in_ok-count.ensures.octets tells) in
    let within : count ≤ c.resize.new.self.len = grind arith in
    let short : count ≤ length c.read_at.new.into = grind arith in
    let front = front_of_window c.read_at.new.into _ count c.resize.new.self.len within short in
    ap (λ (l : List ℕ). l ++ drop (read + count) text) (c.truncate.ensures.items ∙ front) ∙ one ∙ ap (λ (n : ℕ). drop n text) (ap (λ (w : WindowsState). w.read) c.self.view_is)

pub returns-else-count-size-clause-window : goal.returns-else-count-size-clause-window
returns-else-count-size-clause-window g c = λ tells long.
    let text = g.D.DiskCalls.told.seen c.args.disk.now in
    let count = c.in_ok-count.count in
    let read = c.self.inside.read in
    let reads = c.in_ok-count.ensures.octets tells in
    let within : count ≤ c.resize.new.self.len = grind arith in
    let short : count ≤ length c.read_at.new.into = grind arith in
    let front = front_of_window c.read_at.new.into _ count c.resize.new.self.len within short in
    let size : length c.deref_mut.result.now ≡ min (c.self.inside.long - read) 65536 = grind arith in
    let same : c.self.inside.long ≡ length text = ap (λ (w : WindowsState). w.long) c.self.view_is ∙ long in
    let number : count ≡ min 65536 (length (drop read text)) = omega (arith, reads.number, size, same, length-drop read text) in
    c.truncate.ensures.items ∙ front ∙ reads.front ∙ window_is (drop read text) count number ∙ ap (λ (n : ℕ). take 65536 (drop n text)) (ap (λ (w : WindowsState). w.read) c.self.view_is)
