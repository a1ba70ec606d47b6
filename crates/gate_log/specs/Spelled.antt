-- A log as its octets are spelled opens to its parts.
use Rattle.std.specs.Prelude.{◌≡◌, ◌≢◌, ℕ, ◌^◌, ◌<◌, ◌≤◌, List, [], ◌∷◌, ◌++◌, length, take, drop, refl}
use Rattle.std.specs.List.{flat_map}
use Rattle.std.proofs.Common.{sym, ◌∙◌, ap, arith, append_assoc, length-append, length-drop}
use Rattle.std.proofs.lemmas.List.{take_at, drop_at, take-append-le, drop-append-le}
use Rattle.gate_log.specs.declared.headings.Heading.{Heading}
use Rattle.gate_log.specs.Log.{OPEN, part_octets, batch_octets, opened_batches, IsLogOf}
use Rattle.gate_log.specs.Reading.{behind_parts, walk_from, reading_of_walk, reading_with, parts_of, OpensTo}
use Rattle.gate_log.specs.Reading.Walk.{Ended}
use Rattle.gate_log.specs.Readings.{IsFormatted, formatted_is}
use Rattle.gate_log.specs.Walks.{walk_closed, walk-written}

-- batches that a log can have: each has a part, and its length has a place in four octets
abbrev pub AreBatches : List (List (List ℕ)) → Type 0
AreBatches [] = Unit {0}
AreBatches (parts ∷ batches) = (0 < length parts) × (length (flat_map part_octets parts) < 2 ^ 32) × AreBatches batches

-- the parts of all batches
abbrev pub parts_in_all : List (List (List ℕ)) → List (List ℕ)
parts_in_all batches = flat_map (λ parts. parts) batches

-- behind a batch stands a gate
next_gate : (batches : List (List (List ℕ))) (gate : ℕ) (behind : List ℕ) → (next : ℕ) × (rest : List ℕ) × (opened_batches batches ++ gate ∷ behind ≡ next ∷ rest)
next_gate [] gate behind = (gate, behind, refl)
next_gate (parts ∷ batches) gate behind = (OPEN, (batch_octets parts ++ opened_batches batches) ++ gate ∷ behind, refl)

walk-spelled : (batches : List (List (List ℕ))) (gate : ℕ) (behind : List ℕ) → gate ≢ OPEN → AreBatches batches
    → walk_from 0 (opened_batches batches ++ gate ∷ behind) ≡ Ended (parts_in_all batches) behind
walk-spelled [] gate behind closed are = walk_closed gate behind closed
walk-spelled (parts ∷ batches) gate behind closed are =
    let next = next_gate batches gate behind in
    ap (walk_from 0) (append_assoc (OPEN ∷ batch_octets parts) (opened_batches batches) (gate ∷ behind) ∙ ap (λ (l : List ℕ). (OPEN ∷ batch_octets parts) ++ l) next.2)
    ∙ walk-written parts next.0 next.1 are.0 are.1
    ∙ ap (λ (l : List ℕ). behind_parts parts (walk_from 0 l)) (sym next.2)
    ∙ ap (behind_parts parts) (walk-spelled batches gate behind closed are.2)

pub parts-spelled : (head : List ℕ) (batches : List (List (List ℕ))) (octets : List ℕ) → length head ≡ 9 → AreBatches batches → IsLogOf head batches octets
    → OpensTo head (parts_in_all batches) octets
parts-spelled head batches octets nine are log =
    let tail = opened_batches batches ++ log.gate ∷ log.behind in
    let spelled = OPEN ∷ (head ++ tail) in
    let is : octets ≡ spelled = log.is ∙ append_assoc (OPEN ∷ head) (opened_batches batches) (log.gate ∷ log.behind) in
    let tail_long : 1 ≤ length tail = omega (arith, length-append (opened_batches batches) (log.gate ∷ log.behind)) in
    let rest_long : length (drop 5 head) ≡ 4 = omega (arith, nine, length-drop 5 head) in
    let formatted : IsFormatted head spelled = record {
      long = omega (arith, nine, tail_long, length-append head tail);
      mark = refl;
      name = take-append-le 5 head tail (omega (arith, nine));
      rest = ap (take 4) (drop-append-le 5 head tail (omega (arith, nine))) ∙ take_at (drop 5 head) tail 4 rest_long;
    } in (
      log.behind,
      ap (parts_of head) is
          ∙ ap (λ (h : Heading). reading_with h (walk_from 0 (drop 9 (head ++ tail)))) (formatted_is head spelled formatted)
          ∙ ap (λ (l : List ℕ). reading_of_walk (walk_from 0 l)) (drop_at head tail 9 nine)
          ∙ ap reading_of_walk (walk-spelled batches log.gate log.behind log.closed are),
    )
