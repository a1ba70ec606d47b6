-- Why octets are no expanded command script, and where: what is wrong first. A place is that from which so
-- many octets are left.
use Rattle.std.specs.Prelude.{◌≡◌, ◌⊎◌, ℕ, ◌+◌, ◌<◌, List, [], ◌∷◌, length}
use Rattle.expanded_scripts.specs.declared.reading.TemplateErr.{TemplateErr}
use Rattle.expanded_scripts.specs.declared.reading.TemplateErr.TheVariants.{Tag, Length, Child, Command, Memory}
use Rattle.expanded_scripts.specs.Template.{HasValue, HasNoValue, IsNoCommand, AreChildren, IsOuter}

-- the octets have another tag than this one at their front, or none
abbrev pub HasNoTag : ℕ → List ℕ → Type 0
HasNoTag tag octets = (rest : List ℕ) → octets ≡ tag ∷ rest → ⊥

-- behind its tag a template has no length that ends where the octets end, or there are more than 4,096
pub record HasNoEnd (octets : List ℕ) : Type 0 where
  pub rest : List ℕ
  pub tagged : octets ≡ 0xAA ∷ rest
  pub wrong : (4096 < length octets) ⊎ ((children : List ℕ) → HasValue rest children [] → ⊥)

-- the template as a whole is refused so
abbrev pub IsRefusedOuter : List ℕ → TemplateErr → Type 0
IsRefusedOuter octets Tag = HasNoTag 0xAA octets
IsRefusedOuter octets (Length place) = (place ≡ 1) × HasNoEnd octets
IsRefusedOuter octets (Child place) = ⊥
IsRefusedOuter octets (Command place) = ⊥
IsRefusedOuter octets Memory = Unit {0}

-- a child has a tag that no length with its whole value follows
pub record HasNoLength (all place : ℕ) (left : List ℕ) : Type 0 where
  pub rest : List ℕ
  pub tagged : left ≡ 0x22 ∷ rest
  pub stands : place + length rest ≡ all
  pub cut : HasNoValue rest

-- a child's value is no command
pub record HoldsNoCommand (all place : ℕ) (left : List ℕ) : Type 0 where
  pub rest : List ℕ
  pub value : List ℕ
  pub behind : List ℕ
  pub tagged : left ≡ 0x22 ∷ rest
  pub holds : HasValue rest value behind
  pub stands : place + length value + length behind ≡ all
  pub wrong : IsNoCommand value

-- of so many octets in all these are left, and begin with no child: they are refused so
abbrev pub IsRefusedChild : ℕ → List ℕ → TemplateErr → Type 0
IsRefusedChild all left Tag = ⊥
IsRefusedChild all left (Length place) = HasNoLength all place left
IsRefusedChild all left (Child place) = (0 < length left) × (place + length left ≡ all) × HasNoTag 0x22 left
IsRefusedChild all left (Command place) = HoldsNoCommand all place left
IsRefusedChild all left Memory = Unit {0}

-- the template is whole, and behind its first children, which are right, the next one is refused so
pub record IsRefusedLater (octets : List ℕ) (error : TemplateErr) : Type 0 where
  pub children : List ℕ
  pub commands : List (List ℕ)
  pub left : List ℕ
  pub outer : IsOuter octets children
  pub before : AreChildren children commands left
  pub refused : IsRefusedChild (length octets) left error

-- octets are refused so
abbrev pub IsRefused : List ℕ → TemplateErr → Type 0
IsRefused octets error = IsRefusedOuter octets error ⊎ IsRefusedLater octets error
