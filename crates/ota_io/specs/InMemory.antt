-- A source and a sink in memory, which tell all. Their calls are numbered from 1.
use Rattle.std.specs.Prelude.{ℕ, List}

-- the octets that are left, the calls made, the numbers of those that fail, and how many did
pub record SourceState : Type 0 where
  pub left : List ℕ
  pub calls : ℕ
  pub failing : List ℕ
  pub faults : ℕ

-- the same of a sink, which has room for so many octets more
pub record SinkState : Type 0 where
  pub written : List ℕ
  pub room : ℕ
  pub calls : ℕ
  pub failing : List ℕ
  pub faults : ℕ
