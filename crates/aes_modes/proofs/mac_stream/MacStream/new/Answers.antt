use Rattle.aes_modes.specs.Modes.{chained}
use Rattle.aes_modes.proofs.StreamLemmas.{same_state}
use Rattle.aes_modes.proofs.mac_stream.MacStream.new.Goals as goal

pub returns : goal.returns
unfolding chained
returns c = λ key. same_state _ _ c.zero.ensures c.new.ensures
