use Rattle.lane_session.specs.Grown.{grown_of}
use Rattle.lane_session.proofs.laws.grown_histories_are_legal.Goals as goal

pub returns : goal.returns
returns c = λ plan jobs lane lanes before added history adds. grown_of plan jobs lane lanes before added history adds
