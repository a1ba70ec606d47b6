-- What a source has left, and what a sink holds.
use Rattle.std.specs.Prelude.{◌≡◌, ◌<◌, ◌≤◌, ℕ, List, ◌++◌, length, take}

-- the greatest number of octets that are read as one text
abbrev pub text_limit : ℕ
text_limit = 8388608

-- the octets taken from the front, and no more than so many
pub record TakesAtMost (limit : ℕ) (old new : List ℕ) : Type 0 where
  pub taken : List ℕ
  pub front : old ≡ taken ++ new
  pub no_more : length taken ≤ limit

-- a part of the text was added, and not all of it
pub record AddsPart (text old new : List ℕ) : Type 0 where
  pub size : ℕ
  pub part : size < length text
  pub added : new ≡ old ++ take size text
