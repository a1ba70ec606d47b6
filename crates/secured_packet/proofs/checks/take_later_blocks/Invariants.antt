use Rattle.std.proofs.Common.{◌≡◌, ◌++◌, ◌*◌, ℕ, List, length, drop}
use Rattle.aes_modes.specs.Modes.{plain_blocks}
use Rattle.aes_modes.specs.Streams.{state_after}
use Rattle.secured_packet.proofs.checks.take_later_blocks.Given as goal

-- the blocks before this one are taken, all but the first
abbrev pub invariant-loop-i : goal.invariant-loop-i
invariant-loop-i l = ((text : List ℕ) → l.fn.mac ≡ state_after l.keys.kid text → l.mac ≡ state_after l.keys.kid (text ++ drop 16 (plain_blocks l.keys.kic l.octets l.i)))
    × (length (plain_blocks l.keys.kic l.octets l.i) ≡ 16 * l.i)
