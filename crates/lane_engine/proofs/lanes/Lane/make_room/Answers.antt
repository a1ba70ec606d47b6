use Rattle.lane_engine.proofs.TakenLemmas.{same_journal, unpolled_by}
use Rattle.lane_engine.proofs.lanes.Lane.make_room.Goals as goal

pub returns-in_err-make_room-clause-same : goal.returns-in_err-make_room-clause-same
returns-in_err-make_room-clause-same g c =
    unpolled_by c.self.inside.site c.self.inside.journal c.self.inside.journal c.self.inside.is_stale c.self.inside.assembler c.make_room.new.self c.self.inside.moment c.self.inside.name.items c.self.inside.end c.self.inside.opened c.self.inside.lost.value.items c.args.self.now c.self.view_is (same_journal c.self.inside.journal) c.make_room.ensures.element c.make_room.ensures.pieces

pub returns-in_err-make_room-2-clause-same : goal.returns-in_err-make_room-2-clause-same
returns-in_err-make_room-2-clause-same g c =
    unpolled_by c.self.inside.site c.self.inside.journal c.make_room-2.new.self c.self.inside.is_stale c.self.inside.assembler c.make_room.new.self c.self.inside.moment c.self.inside.name.items c.self.inside.end c.self.inside.opened c.self.inside.lost.value.items c.args.self.now c.self.view_is c.make_room-2.ensures.same c.make_room.ensures.element c.make_room.ensures.pieces

pub returns-in_err-answer-clause-same : goal.returns-in_err-answer-clause-same
returns-in_err-answer-clause-same g c =
    unpolled_by c.self.inside.site c.self.inside.journal c.make_room-2.new.self c.self.inside.is_stale c.self.inside.assembler c.make_room.new.self c.self.inside.moment c.self.inside.name.items c.self.inside.end c.self.inside.opened c.self.inside.lost.value.items c.args.self.now c.self.view_is c.make_room-2.ensures.same c.make_room.ensures.element c.make_room.ensures.pieces

pub returns-in_err-batch-clause-same : goal.returns-in_err-batch-clause-same
returns-in_err-batch-clause-same g c =
    unpolled_by c.self.inside.site c.self.inside.journal c.make_room-2.new.self c.self.inside.is_stale c.self.inside.assembler c.make_room.new.self c.self.inside.moment c.self.inside.name.items c.self.inside.end c.self.inside.opened c.self.inside.lost.value.items c.args.self.now c.self.view_is c.make_room-2.ensures.same c.make_room.ensures.element c.make_room.ensures.pieces

pub returns-clause-same : goal.returns-clause-same
returns-clause-same g c =
    unpolled_by c.self.inside.site c.self.inside.journal c.make_room-2.new.self c.self.inside.is_stale c.self.inside.assembler c.make_room.new.self c.self.inside.moment c.self.inside.name.items c.self.inside.end c.self.inside.opened c.self.inside.lost.value.items c.args.self.now c.self.view_is c.make_room-2.ensures.same c.make_room.ensures.element c.make_room.ensures.pieces
