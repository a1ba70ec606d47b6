use Rattle.std.proofs.Common.{◌≡◌, ℕ, ◌<◌, ◌≤◌}
use Rattle.std.specs.Prelude.{slice_index}
use Rattle.gf_aes.specs.Cipher.{inverse_mix_column, octets}
use Rattle.gf_aes.proofs.key_schedule.mix.Given as goal

-- the words so far are mixed
abbrev pub invariant-loop-i : goal.invariant-loop-i
invariant-loop-i l = (k : ℕ) → 4 ≤ k → k < l.i → octets (slice_index l.mixed k) ≡ inverse_mix_column (octets (slice_index l.words k))
