use Rattle.std.proofs.Common.{◌≡◌}
use Rattle.aes_modes.specs.Modes.{chained}
use Rattle.aes_modes.proofs.mac.cmac.Given as goal

abbrev pub invariant-loop-i : goal.invariant-loop-i
invariant-loop-i l = l.chain ≡ chained l.key l.octets l.i
