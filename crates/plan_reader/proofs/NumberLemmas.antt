use Rattle.std.proofs.Common.{◌≡◌, ℕ, ◌+◌, ◌-◌, ◌*◌, ◌^◌, ◌<◌, ◌≤◌, true, List, length, take, get_or, arith, rules}
use Rattle.std.specs.Str.Parse.{digits_value}
use Rattle.std.proofs.lemmas.Int.Digits.{digits_value_more}
use Rattle.std.proofs.lemmas.Str.{digit_value_digit}
use Rattle.std.proofs.lemmas.Str.Parse.{IsNumeralModel, numerals_by_value, digits_value_short, digits_value-take-le, digit_at}
use Rattle.plan_reader.specs.Number.{are_digits}

-- the test of digits is that of numerals
pub decimal_numerals : IsNumeralModel (λ ds. are_digits ds ≡ true) (digits_value 10)
decimal_numerals = numerals_by_value _ (search rules)

-- the value of one digit more
pub digits_value-step : (digits : List ℕ) (i : ℕ) → are_digits digits ≡ true → i < length digits
    → digits_value 10 (take (i + 1) digits) ≡ digits_value 10 (take i digits) * 10 + (get_or digits i 0 - 48)
digits_value-step digits i are within =
    let more = digits_value_more 10 digits i within in
    let range = digit_at digits i (decimal_numerals.to digits are) within in
    let digit = digit_value_digit (get_or digits i 0) range in
    omega (arith, more, digit)

-- at most 18 digits write a number below 10^18, and so does a part of them
pub digits_value-short : (digits : List ℕ) (i : ℕ) → are_digits digits ≡ true → length digits ≤ 18 → digits_value 10 (take i digits) < 10 ^ 18
digits_value-short digits i are short =
    let below : 1 ≤ 10 = omega arith in
    let part = digits_value-take-le 10 digits i below in
    let whole = digits_value_short decimal_numerals digits 18 are short in
    omega (arith, part, whole)
