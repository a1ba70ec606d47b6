-- How many messages a packet takes, and where their octets stand in it.
use Rattle.std.proofs.Common.{◌≡◌, ℕ, ◌+◌, ◌-◌, ◌*◌, ◌<◌, ◌≤◌, Bool, true, false, min, List, length, take, drop, arith, ap, ◌∙◌}
use Rattle.std.proofs.lemmas.Bool.Decides.{nat_tests}
use Rattle.std.proofs.lemmas.List.{length-drop, take_all, take_min}
use Rattle.sms_segments.specs.Cut.{first_room, later_room, longest, octets_at, pieces_count}

pub more_than_one : (wide : Bool) (len total : ℕ) → total ≡ pieces_count len wide → ¬ (total ≡ 1) → 137 < len
more_than_one false len total is several = grind (arith, nat_tests)
more_than_one true len total is several = grind (arith, nat_tests)

pub just_one : (wide : Bool) (len total : ℕ) → total ≡ pieces_count len wide → total ≡ 1 → len ≤ 137
just_one false len total is one = grind (arith, nat_tests)
just_one true len total is one = grind (arith, nat_tests)

pub starts_within : (wide : Bool) (len total place : ℕ) → total ≡ pieces_count len wide → ¬ (total ≡ 1) → 2 ≤ place → place ≤ total → first_room wide + later_room wide * (place - 2) < len
starts_within false len total place is several later within = grind (arith, nat_tests)
starts_within true len total place is several later within = grind (arith, nat_tests)

pub count_fits : (wide : Bool) (len : ℕ) → 1 ≤ len → len ≤ longest wide → pieces_count len wide ≤ 255
count_fits false len some fits = grind (arith, nat_tests)
count_fits true len some fits = grind (arith, nat_tests)

pub first_few : (wide : Bool) → first_room wide ≤ 132
first_few false = omega arith
first_few true = omega arith

pub later_few : (wide : Bool) → (1 ≤ later_room wide) × (later_room wide ≤ 134)
later_few false = (omega arith, omega arith)
later_few true = (omega arith, omega arith)

pub octets_at-later : (wide : Bool) (packet : List ℕ) (total place : ℕ) → ¬ (total ≡ 1) → ¬ (place ≡ 1) → octets_at wide total packet place ≡ take (later_room wide) (drop (first_room wide + later_room wide * (place - 2)) packet)
octets_at-later wide packet total place several later = grind (arith, nat_tests)

pub rest_from : (packet : List ℕ) (start : ℕ) → take (length packet - start) (drop start packet) ≡ drop start packet
rest_from packet start = take_all (length packet - start) (drop start packet) (omega (arith, length-drop start packet))

pub filled_from : (packet : List ℕ) (start room k : ℕ) → k ≡ min room (length (take (length packet - start) (drop start packet))) → take k (take (length packet - start) (drop start packet)) ≡ take room (drop start packet)
filled_from packet start room k is =
    let rest : List ℕ = take (length packet - start) (drop start packet) in
    ap (λ n. take n rest) is ∙ take_min room rest ∙ ap (take room) (rest_from packet start)

pub two_or_more : (wide : Bool) (len : ℕ) → 137 < len → 2 ≤ pieces_count len wide
two_or_more false len long = grind (arith, nat_tests)
two_or_more true len long = grind (arith, nat_tests)

pub last_reaches : (wide : Bool) (len : ℕ) → 137 < len → len ≤ first_room wide + later_room wide * (pieces_count len wide - 1)
last_reaches false len long = grind (arith, nat_tests)
last_reaches true len long = grind (arith, nat_tests)

-- where the next message begins
pub next_start : (wide : Bool) (n : ℕ) → first_room wide + later_room wide * n + later_room wide ≡ first_room wide + later_room wide * (n + 1)
next_start false n = omega arith
next_start true n = omega arith
