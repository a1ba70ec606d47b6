-- The values of options.
use Rattle.std.specs.Prelude.{ℕ, nat_le, ◌==◌, ◌&&◌, ◌||◌, not, Bool, false, if◌then◌else◌, Option, Some, None, List, [], ◌∷◌, length, codes}
use Rattle.std.specs.List.{list_all, list_any}
use Rattle.std.specs.Char.{is_ascii_alphanumeric}
use Rattle.std.specs.Str.{bytes_eq}
use Rattle.plan_reader.specs.Number.{number_of}
use Rattle.plan_reader.specs.Text.{◌>>=◌, only_if}

-- a text that can be a value: it isn't empty and doesn't begin as an option does
abbrev pub is_value : List ℕ → Bool
is_value [] = false
is_value (first ∷ rest) = not (first == 45)

-- no word ends the options
abbrev pub has_no_end : List (List ℕ) → Bool
has_no_end words = not (list_any (λ word. bytes_eq word (codes "--")) words)

-- a number in 1 to 18 decimal digits, from a least to a greatest
abbrev pub number_from : (least greatest : ℕ) → List ℕ → Option ℕ
number_from least greatest digits = number_of 18 greatest digits >>= (λ number. only_if (nat_le least number) number)

-- a number with a value where the option is missing
abbrev pub number_or : (missing least greatest : ℕ) → Option (List ℕ) → Option ℕ
number_or missing least greatest None = Some missing
number_or missing least greatest (Some digits) = number_from least greatest digits

-- an ASCII letter, a digit or an underscore
abbrev pub is_word_octet : ℕ → Bool
is_word_octet octet = is_ascii_alphanumeric octet || octet == 95

-- 1 to 32 ASCII letters, digits or underscores
abbrev pub is_name : List ℕ → Bool
is_name name = nat_le 1 (length name) && nat_le (length name) 32 && list_all is_word_octet name

-- the name of a campaign, which is empty where the option is missing
abbrev pub name_or : Option (List ℕ) → Option (List ℕ)
name_or None = Some []
name_or (Some name) = if is_name name then Some name else None
