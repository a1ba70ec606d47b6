use Rattle.std.proofs.Common.{◌≡◌, ℕ, ◌+◌, ◌++◌, string_bytes}
use Rattle.hex.specs.Hex.{encode_lower}
use Rattle.campaigns.specs.Drill.{state_at, draws}
use Rattle.campaigns.proofs.drill.put_draws.Given as goal

abbrev pub invariant-loop-drawn : goal.invariant-loop-drawn
invariant-loop-drawn l = (number before : ℕ) → l.fn.state ≡ state_at number before
    → (string_bytes l.text ≡ string_bytes l.fn.text ++ encode_lower (draws number before l.drawn)) × (l.state ≡ state_at number (before + l.drawn))
