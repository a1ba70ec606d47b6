use Rattle.sms_segments.proofs.assembling.Assembler.make_room.Goals as goal

pub returns-in_err-make_room-clause-pieces : goal.returns-in_err-make_room-clause-pieces
returns-in_err-make_room-clause-pieces c = rw (← c.self.view_is) c.make_room.ensures.pieces

pub returns-in_err-reserve-clause-pieces : goal.returns-in_err-reserve-clause-pieces
returns-in_err-reserve-clause-pieces c = rw (← c.self.view_is) c.make_room.ensures.pieces

pub returns-clause-pieces : goal.returns-clause-pieces
returns-clause-pieces c = rw (← c.self.view_is) c.make_room.ensures.pieces
