-- The octets of a transparent EF. ETSI TS 102 221, 8.2.2.1.
use Rattle.std.specs.Prelude.{ℕ, ◌+◌, List, ◌++◌, length, take, drop}

-- the octets after others are written from a place on
abbrev pub overwritten : List ℕ → ℕ → List ℕ → List ℕ
overwritten octets offset new = take offset octets ++ (new ++ drop (offset + length new) octets)
