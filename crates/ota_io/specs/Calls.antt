-- The calls of a source or a sink, by their numbers, and its count of faults.
use Rattle.std.specs.Prelude.{◌≡◌, ◌+◌, ◌-◌, ◌^◌, ◌≤◌, ℕ, min, Result, OnOk, OnErr}

-- a count of 64 bits one higher, or at its greatest value
abbrev pub next : ℕ → ℕ
next count = min (count + 1) (2 ^ 64 - 1)

-- a count that rose in a call
pub record HasRisen (before now : ℕ) : Type 0 where
  pub never_falls : before ≤ now
  pub rises : next before ≤ now

-- the count of faults never falls, a fault has raised it, and Ok leaves it
pub record HasCause {T E : Type 0} (before now : ℕ) (result : Result T E) : Type 0 where
  pub never_falls : before ≤ now
  pub failed : OnErr result (HasRisen before now)
  pub ok : OnOk result (now ≡ before)
