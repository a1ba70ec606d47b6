use Rattle.std.proofs.Common.{List, ℕ, sym, subst}
use Rattle.gate_log.specs.Readers.{IsReadOn}
use Rattle.gate_log.proofs.ReaderParts.{read_on, counted_on, given_within}
use Rattle.gate_log.proofs.readers.LogReader.next_part.Goals as goal

pub returns-clause-reading : goal.returns-clause-reading
returns-clause-reading g c = λ tells head parts reading.
    let text = g.D.DiskCalls.told.seen c.args.disk.now in
    let e = c.in_ok-reach_part.ensures in
    let on = read_on head text parts c.args.self.now c.reach_part.new.self c.give_part.new.self reading e.reached (e.same tells reading.long) (e.looks.long tells reading.long) c.give_part.result c.give_part.ensures in
    subst (λ (t : List ℕ). IsReadOn head t parts c.give_part.result c.give_part.new.self) (sym (e.looks.content tells)) on

pub returns-clause-counted : goal.returns-clause-counted
returns-clause-counted g c = counted_on c.args.self.now c.reach_part.new.self c.give_part.new.self c.in_ok-reach_part.ensures.reached c.give_part.result c.give_part.ensures

pub returns-clause-within : goal.returns-clause-within
returns-clause-within g c = given_within c.reach_part.new.self c.give_part.new.self c.give_part.result c.give_part.ensures c.in_ok-reach_part.ensures.within
