-- Windows follow one another from the first octet on.
use Rattle.std.specs.Prelude.{◌≡◌, ◌⊎◌, ℕ, ◌*◌}
use Rattle.gate_log.specs.Windows.{windows_in}

-- each read so far was of a whole window, but for that of the last octets
abbrev pub IsAligned : ℕ → ℕ → Type 0
IsAligned read long = (read ≡ long) ⊎ (read ≡ 65536 * windows_in read)
