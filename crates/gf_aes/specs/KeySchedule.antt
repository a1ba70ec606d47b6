-- What the fields of a key schedule mean.
use Rattle.std.specs.Prelude.{◌≡◌, ℕ, ◌+◌, ◌-◌, ◌*◌, ◌%◌, ◌≤◌, List, flat_map, take}
use Rattle.gf_aes.specs.declared.key_schedule.KeySchedule.TheInside.{Inside}
use Rattle.gf_aes.specs.Cipher.{IsMixed, key_words, octets}

-- the key: the octets of the words that the expansion begins with
abbrev pub key_of : Inside → List ℕ
key_of s = flat_map octets (take (s.rounds - 6) s.words)

-- the words are the key's expansion, and those of the inner rounds stand mixed beside them
pub record IsExpanded (s : Inside) : Type 0 where
  pub some : 10 ≤ s.rounds
  pub most : s.rounds ≤ 14
  pub even : s.rounds % 2 ≡ 0
  pub expanded : take (4 * s.rounds + 4) s.words ≡ key_words (key_of s)
  pub mixed : IsMixed s.words s.mixed s.rounds
