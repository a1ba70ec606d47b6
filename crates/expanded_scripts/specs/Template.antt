-- Expanded command scripts, as they are spelled. ETSI TS 102 226, 5.2.2; tags by ETSI TS 101 220, 7.2.
use Rattle.std.specs.Prelude.{◌≡◌, ℕ, ◌+◌, ◌*◌, ◌<◌, ◌≤◌, List, [], ◌∷◌, ◌++◌, length}
use Rattle.apdu_codec.specs.Apdu.{data_len_of}

-- the octets spell a length: one octet below 80, or 81 and one octet, or 82 and two octets, least form or not
abbrev pub SpellsLength : List ℕ → ℕ → Type 0
SpellsLength [] number = ⊥
SpellsLength (a ∷ []) number = (a < 0x80) × (number ≡ a)
SpellsLength (a ∷ b ∷ []) number = (a ≡ 0x81) × (number ≡ b)
SpellsLength (a ∷ b ∷ c ∷ []) number = (a ≡ 0x82) × (number ≡ b * 256 + c)
SpellsLength (_ ∷ _ ∷ _ ∷ _ ∷ _) number = ⊥

-- the octets are a length, a value of so many octets, and others behind it
pub record HasValue (octets value behind : List ℕ) : Type 0 where
  pub len : List ℕ
  pub spells : SpellsLength len (length value)
  pub spelled : octets ≡ len ++ value ++ behind

-- no length with its whole value stands at the front of the octets
abbrev pub HasNoValue : List ℕ → Type 0
HasNoValue octets = (value behind : List ℕ) → HasValue octets value behind → ⊥

-- CLA, INS, P1, P2, P3, and exactly the data that such a command has
abbrev pub IsWhole : List ℕ → Type 0
IsWhole (cla ∷ ins ∷ p1 ∷ p2 ∷ p3 ∷ octets) = length octets ≡ data_len_of ins p3
IsWhole _ = ⊥

-- the octets are a command with this plain form: CLA, INS, P1, P2 alone, which counts as P3 00; or a whole
-- command; or a whole command that has data, followed by one octet Le
pub data IsCommand (value plain : List ℕ) : Type 0 where
  header_alone : length value ≡ 4 → plain ≡ value ++ 0x00 ∷ [] → IsCommand value plain
  whole : IsWhole value → plain ≡ value → IsCommand value plain
  with_le : (le : ℕ) → IsWhole plain → 5 < length plain → value ≡ plain ++ le ∷ [] → IsCommand value plain

abbrev pub IsNoCommand : List ℕ → Type 0
IsNoCommand value = (plain : List ℕ) → IsCommand value plain → ⊥

-- the octets are a child with the command of this plain form, the tag 22 before its length, and others behind it
pub record IsChild (octets plain behind : List ℕ) : Type 0 where
  pub value : List ℕ
  pub rest : List ℕ
  pub tagged : octets ≡ 0x22 ∷ rest
  pub holds : HasValue rest value behind
  pub command : IsCommand value plain

-- the octets are children with these commands, one behind the other, and others behind them
abbrev pub AreChildren : List ℕ → List (List ℕ) → List ℕ → Type 0
AreChildren octets [] behind = octets ≡ behind
AreChildren octets (plain ∷ plains) behind = (others : List ℕ) × IsChild octets plain others × AreChildren others plains behind

-- the octets, at most 4,096, are the tag AA, a length and what it holds, and end there
pub record IsOuter (octets children : List ℕ) : Type 0 where
  pub rest : List ℕ
  pub tagged : octets ≡ 0xAA ∷ rest
  pub short : length octets ≤ 4096
  pub holds : HasValue rest children []

-- the octets are a template whose children have these commands and fill it
pub record IsTemplate (octets : List ℕ) (commands : List (List ℕ)) : Type 0 where
  pub children : List ℕ
  pub outer : IsOuter octets children
  pub filled : AreChildren children commands []

-- each is a whole command
abbrev pub AreWhole : List (List ℕ) → Type 0
AreWhole [] = Unit {0}
AreWhole (plain ∷ plains) = IsWhole plain × AreWhole plains

-- plain forms that a script may have
abbrev pub ArePlain : List (List ℕ) → Type 0
ArePlain plains = (length plains ≤ 4096) × AreWhole plains
