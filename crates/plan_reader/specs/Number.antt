-- Numbers as decimal digits.
use Rattle.std.specs.Prelude.{ℕ, nat_le, nat_lt, Bool, ◌&&◌, Option, List, length}
use Rattle.std.specs.Char.{is_ascii_digit}
use Rattle.std.specs.List.{list_all}
use Rattle.std.specs.Str.Parse.{digits_value}
use Rattle.plan_reader.specs.Text.{only_if}

-- each octet is a decimal digit
abbrev pub are_digits : List ℕ → Bool
are_digits digits = list_all is_ascii_digit digits

-- decimal digits, at least one and at most `width`
abbrev pub is_numeral : ℕ → List ℕ → Bool
is_numeral width digits = are_digits digits && nat_lt 0 (length digits) && nat_le (length digits) width

-- the number of at most `most` that a numeral writes, also with zeros in front
unfoldable pub number_of : ℕ → ℕ → List ℕ → Option ℕ
number_of width most digits =
    let number = digits_value 10 digits in only_if (is_numeral width digits && nat_le number most) number
