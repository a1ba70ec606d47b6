-- Laws of logs, for those who keep one.
use Rattle.std.specs.Prelude.{◌≡◌, ◌≢◌, ℕ, ◌+◌, ◌-◌, ◌<◌, List, [], ◌∷◌, ◌++◌, length, take, drop, refl}
use Rattle.std.proofs.Common.{get_or, sym, ◌∙◌, ap, arith, append_assoc, length-append, take-append-drop}
use Rattle.std.proofs.lemmas.List.{take_at, drop_more, drop_all, append-nil, get_or-append-add}
use Rattle.std.proofs.lemmas.Grind.{flat_map-append}
use Rattle.gate_log.specs.Log.{OPEN, CLOSED, batch_octets, opened_batches, log_front, log_octets, IsClosedBehind, IsLogOf}
use Rattle.gate_log.specs.Append.{EndsClosed, front_of, opened_with}

-- a list up to a place, the element there, and the rest
pub split_at : (octets : List ℕ) (n : ℕ) → n < length octets → octets ≡ take n octets ++ get_or octets n 0 ∷ drop (n + 1) octets
split_at octets n within = sym (take-append-drop n octets) ∙ ap (λ (l : List ℕ). take n octets ++ l) (drop_more octets n 0 within)

-- octets that end in a closed gate are their front, that gate, and nothing behind it
pub last_gate : (log : List ℕ) → EndsClosed log → log ≡ front_of log ++ get_or log (length log - 1) 0 ∷ []
last_gate log ends =
    split_at log (length log - 1) (omega (arith, ends.filled))
    ∙ ap (λ (l : List ℕ). front_of log ++ get_or log (length log - 1) 0 ∷ l) (drop_all (length log - 1 + 1) log (omega (arith, ends.filled)))

pub closed_itself : (log : List ℕ) → EndsClosed log → IsClosedBehind (front_of log) log
closed_itself log ends = record { gate = get_or log (length log - 1) 0; behind = []; closed = ends.closed; is = last_gate log ends }

-- what ends in an octet that isn't an open gate ends closed
pub ends_in : (front : List ℕ) (gate : ℕ) → gate ≢ OPEN → EndsClosed (front ++ gate ∷ [])
ends_in front gate closed = record {
  filled = omega (arith, long);
  closed = λ is. closed (sym last ∙ is);
}
  where
    long : length (front ++ gate ∷ []) ≡ length front + 1
    long = length-append front (gate ∷ [])

    last : get_or (front ++ gate ∷ []) (length (front ++ gate ∷ []) - 1) 0 ≡ gate
    last =
        ap (λ (i : ℕ). get_or (front ++ gate ∷ []) i 0) (omega (arith, long))
        ∙ get_or-append-add front (gate ∷ []) 0 0

-- the front of a log as it is written
pub front_of-log_octets : (head : List ℕ) (batches : List (List (List ℕ))) → front_of (log_octets head batches) ≡ log_front head batches
front_of-log_octets head batches =
    take_at (log_front head batches) (CLOSED ∷ []) (length (log_octets head batches) - 1)
    (omega (arith, length-append (log_front head batches) (CLOSED ∷ [])))

-- the front of a log with a batch more
pub log_front-push : (head : List ℕ) (batches : List (List (List ℕ))) (parts : List (List ℕ))
    → log_front head (batches ++ parts ∷ []) ≡ log_front head batches ++ OPEN ∷ batch_octets parts
log_front-push head batches parts =
    let one = λ (p : List (List ℕ)). OPEN ∷ batch_octets p in
    ap (λ (l : List ℕ). (OPEN ∷ head) ++ l) (flat_map-append one batches (parts ∷ []) ∙ ap (λ (l : List ℕ). opened_batches batches ++ l) (append-nil (OPEN ∷ batch_octets parts)))
    ∙ sym (append_assoc (OPEN ∷ head) (opened_batches batches) (OPEN ∷ batch_octets parts))

-- a log with a framed batch more is a log of one batch more
pub opened_with-log_octets : (head : List ℕ) (batches : List (List (List ℕ))) (parts : List (List ℕ))
    → opened_with (log_octets head batches) (batch_octets parts ++ CLOSED ∷ []) ≡ log_octets head (batches ++ parts ∷ [])
opened_with-log_octets head batches parts =
    ap (λ (l : List ℕ). l ++ OPEN ∷ (batch_octets parts ++ CLOSED ∷ [])) (front_of-log_octets head batches)
    ∙ sym (append_assoc (log_front head batches) (OPEN ∷ batch_octets parts) (CLOSED ∷ []))
    ∙ ap (λ (l : List ℕ). l ++ CLOSED ∷ []) (sym (log_front-push head batches parts))

-- a log as it is written is one of its batches
pub IsLogOf-log_octets : (head : List ℕ) (batches : List (List (List ℕ))) → IsLogOf head batches (log_octets head batches)
IsLogOf-log_octets head batches = record { gate = CLOSED; behind = []; closed = λ is. cc is; is = refl }
