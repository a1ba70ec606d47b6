-- CMAC over a text that is taken piece by piece. NIST SP 800-38B, 6.2.
use Rattle.std.specs.Prelude.{ℕ, ◌*◌, List, drop}
use Rattle.aes_modes.specs.Modes.{blocks_before, chained}

-- what is kept of a text: the last cipher block of the chain over the blocks before its last one, and its last block
pub record MacState : Type 0 where
  pub chain : List ℕ
  pub held : List ℕ

-- what is kept after a text, whose last block holds 1 to 16 octets, or none where it is empty
abbrev pub state_after : List ℕ → List ℕ → MacState
state_after key text = record { chain = chained key text (blocks_before text); held = drop (16 * blocks_before text) text }
