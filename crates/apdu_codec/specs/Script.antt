-- A whole script. ETSI TS 102 226, 5.2.1.
use Rattle.std.specs.Prelude.{◌≡◌, ℕ, suc, List, [], ◌∷◌}
use Rattle.apdu_codec.specs.declared.apdu.Apdu.{Apdu}
use Rattle.apdu_codec.specs.declared.apdu.Next.TheVariants.{End, Command, Short}
use Rattle.apdu_codec.specs.Apdu.{next_of}

-- from a place on, the script is these commands, and ends
pub data Splits (script : List ℕ) : ℕ → List Apdu → Type 0 where
  ended : (at : ℕ) → next_of script at ≡ End → Splits script at []
  command : (at next : ℕ) (apdu : Apdu) (others : List Apdu) → next_of script at ≡ Command apdu next → Splits script next others → Splits script at (apdu ∷ others)

-- from a place on, the script is whole commands up to the place `cut`, and there a rest that is none
pub data IsCutAt (script : List ℕ) (cut : ℕ) : ℕ → Type 0 where
  here : next_of script cut ≡ Short → IsCutAt script cut cut
  later : (at next : ℕ) (apdu : Apdu) → next_of script at ≡ Command apdu next → IsCutAt script cut next → IsCutAt script cut at

-- from a place on, the script has so many commands. A rest that is no whole command is one; an Le that is
-- passed over is none
pub data HasCommands (script : List ℕ) : ℕ → ℕ → Type 0 where
  none : (at : ℕ) → next_of script at ≡ End → HasCommands script at 0
  cut_off : (at : ℕ) → next_of script at ≡ Short → HasCommands script at 1
  one_more : (at next count : ℕ) (apdu : Apdu) → next_of script at ≡ Command apdu next → HasCommands script next count → HasCommands script at (suc count)

-- behind the command at a place of the script, another place is that of the next one, or of the end
pub record IsBehind (script : List ℕ) (at next : ℕ) : Type 0 where
  pub command : Apdu
  pub reads : next_of script at ≡ Command command next
