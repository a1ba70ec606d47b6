-- The steps of the loops over parts and batches.
use Rattle.std.proofs.Common.{◌≡◌, ◌≢◌, ℕ, ◌+◌, ◌<◌, List, [], ◌∷◌, length, drop, get_or, Some, ◌∙◌, ap, arith}
use Rattle.std.proofs.lemmas.List.{length-drop}
use Rattle.gate_log.specs.Log.{OPEN}
use Rattle.gate_log.specs.Reading.{measured, walk_from}
use Rattle.gate_log.specs.Reading.Walk.{Ended, Broken}
use Rattle.gate_log.specs.Measures.{measured_some}
use Rattle.gate_log.specs.Laws.{split_at}
use Rattle.gate_log.specs.Walks.{walk_closed, walk_missing}

pub parts_smaller : (part rest behind : List ℕ) → measured rest ≡ Some (part, behind) → length behind < length rest
parts_smaller part rest behind e =
    let is = measured_some rest part behind e in
    omega (arith, ap length is.rest_is, length-drop (4 + length part) rest, is.within)

-- ---- a step of a walk

pub first_of : (octets : List ℕ) → 0 < length octets → octets ≡ get_or octets 0 0 ∷ drop 1 octets
first_of octets some = split_at octets 0 some

pub step_missing : (octets : List ℕ) → length octets ≡ 0 → walk_from 0 octets ≡ Broken []
step_missing [] e = walk_missing
step_missing (x ∷ octets) e = absurd (omega arith)

pub step_closed : (octets : List ℕ) → 0 < length octets → get_or octets 0 0 ≢ OPEN → walk_from 0 octets ≡ Ended [] (drop 1 octets)
step_closed octets some closed = ap (walk_from 0) (first_of octets some) ∙ walk_closed (get_or octets 0 0) (drop 1 octets) closed
