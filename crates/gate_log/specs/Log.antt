-- The octets of a log.
use Rattle.std.specs.Prelude.{◌≡◌, ◌≢◌, ℕ, List, [], ◌∷◌, ◌++◌, length}
use Rattle.std.specs.List.{flat_map}
use Rattle.std.specs.Int.{bytes_high_first}

-- the mark in front of a log, and an open gate
abbrev pub OPEN : ℕ
OPEN = 0xA5

-- a closed gate, as it is written
abbrev pub CLOSED : ℕ
CLOSED = 0x00

-- a number in four octets
unfoldable pub four : ℕ → List ℕ
four number = bytes_high_first 4 number

-- a part of a batch: its length and its octets
abbrev pub part_octets : List ℕ → List ℕ
part_octets part = four (length part) ++ part

-- a batch: its length and its parts
abbrev pub batch_octets : List (List ℕ) → List ℕ
batch_octets parts = four (length (flat_map part_octets parts)) ++ flat_map part_octets parts

-- batches, each behind an open gate
abbrev pub opened_batches : List (List (List ℕ)) → List ℕ
opened_batches batches = flat_map (λ parts. OPEN ∷ batch_octets parts) batches

-- a log up to the gate that ends it
abbrev pub log_front : List ℕ → List (List (List ℕ)) → List ℕ
log_front head batches = OPEN ∷ head ++ opened_batches batches

-- a log as it is written
abbrev pub log_octets : List ℕ → List (List (List ℕ)) → List ℕ
log_octets head batches = log_front head batches ++ CLOSED ∷ []

-- the octets are this front, a closed gate, and anything behind it
pub record IsClosedBehind (front octets : List ℕ) : Type 0 where
  pub gate : ℕ
  pub behind : List ℕ
  pub closed : gate ≢ OPEN
  pub is : octets ≡ front ++ gate ∷ behind

-- the octets are a log of these batches: a closed gate ends it, whatever lies behind
abbrev pub IsLogOf : List ℕ → List (List (List ℕ)) → List ℕ → Type 0
IsLogOf head batches octets = IsClosedBehind (log_front head batches) octets
