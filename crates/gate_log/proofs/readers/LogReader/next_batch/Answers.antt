use Rattle.std.proofs.Common.{◌≡◌, ◌-◌, List, ℕ, [], drop, length, sym, ◌∙◌, ap}
use Rattle.std.specs.Vec.{vec_len}
use Rattle.gate_log.specs.declared.standings.Standing.{Standing}
use Rattle.gate_log.specs.declared.standings.Standing.TheVariants.{Going}
use Rattle.gate_log.specs.Readers.{ReaderState, left_at}
use Rattle.gate_log.specs.Windows.{WindowsState, rest_of}
use Rattle.gate_log.specs.ReaderSteps.{body_length}
use Rattle.gate_log.proofs.ReaderParts.{step_left, going_batch}
use Rattle.gate_log.proofs.readers.LogReader.next_batch.Goals as goal

pub returns-clause-same : goal.returns-clause-same
returns-clause-same g c = λ tells long.
    let text = g.D.DiskCalls.told.seen c.args.disk.now in
    let room = c.read_step.new.room.items in
    let v = c.self.view_is in
    let windows : c.self.inside.windows ≡ c.args.self.now.windows = ap (λ (s : ReaderState). s.windows) v in
    let step = c.in_ok-standing.ensures.step tells (ap (λ (w : WindowsState). w.long) windows ∙ long) in
    let size : length room ≡ vec_len c.read_step.new.room = sym (ap length c.deref.ensures.value) ∙ c.deref.ensures.len in
    step_left c.in_ok-standing.standing text room c.self.inside.windows c.read_step.new.windows (drop (vec_len c.read_step.new.room - c.body_length-self-inside.result) room)
    (λ is. going_batch c.in_ok-standing.standing room (vec_len c.read_step.new.room) c.body_length-self-inside.result is size (c.body_length-self-inside.ensures ∙ ap (λ (l : List ℕ). body_length c.in_ok-standing.standing l) c.deref.ensures.value) c.in_ok-standing.ensures.held)
    step
    ∙ ap (λ (w : WindowsState). left_at Going [] (rest_of text w)) windows
    ∙ ap (λ (l : List ℕ). left_at Going l (rest_of text c.args.self.now.windows)) (sym c.requires.over)
    ∙ ap (λ (s : Standing). left_at s c.args.self.now.batch (rest_of text c.args.self.now.windows)) (sym c.requires.going)
