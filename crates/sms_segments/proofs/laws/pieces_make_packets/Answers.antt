use Rattle.sms_segments.proofs.ArrivalLemmas.{dont_mix, make_it, make_one}
use Rattle.sms_segments.proofs.laws.pieces_make_packets.Goals as goal

pub returns-clause-pieces : goal.returns-clause-pieces
returns-clause-pieces c = λ card packet element reference past before last several fits are fills.
    make_it card packet element reference several fits past before last are fills

pub returns-clause-nothing_else : goal.returns-clause-nothing_else
returns-clause-nothing_else c = λ card packet element reference before last several fits fills.
    make_one card packet element reference several fits before last fills

pub returns-clause-apart : goal.returns-clause-apart
returns-clause-apart c = dont_mix
