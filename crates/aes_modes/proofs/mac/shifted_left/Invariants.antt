use Rattle.std.proofs.Common.{◌≡◌, ℕ, ◌+◌, ◌*◌, ◌/◌, ◌%◌, ◌<◌, length}
use Rattle.std.specs.Prelude.{slice_index}
use Rattle.aes_modes.proofs.mac.shifted_left.Given as goal

abbrev pub invariant-loop-i : goal.invariant-loop-i
invariant-loop-i l = (length l.shifted ≡ 16)
    × ((k : ℕ) → k < l.i → slice_index l.shifted k ≡ slice_index l.block k % 128 * 2 + slice_index l.block (k + 1) / 128)
