-- How a log is read: what whole octets say.
use Rattle.std.specs.Prelude.{◌≡◌, ℕ, zero, suc, ◌+◌, Bool, not, nat_lt, ◌==◌, ◌&&◌, ◌||◌, if◌then◌else◌, Option, Some, None, List, [], ◌∷◌, ◌++◌, length, take, drop, slice_index}
use Rattle.std.specs.Option.{option_map, option_and_then}
use Rattle.std.specs.Int.{w32, from_be_bytes}
use Rattle.std.specs.Str.{bytes_eq}
use Rattle.gate_log.specs.declared.headings.Heading.{Heading}
use Rattle.gate_log.specs.declared.headings.Heading.TheVariants as heading
use Rattle.gate_log.specs.Log.{OPEN}

-- the number of octets that a length of four octets says
abbrev pub size_at : List ℕ → ℕ
size_at octets = from_be_bytes w32 (take 4 octets)

-- the octets behind their length, so many, and what follows them; None where they run past the end
unfoldable pub measured : List ℕ → Option (List ℕ × List ℕ)
measured octets =
    if nat_lt (length octets) (4 + size_at octets) then None
    else Some (take (size_at octets) (drop 4 octets), drop (4 + size_at octets) octets)

-- the parts that fill the octets, of which the first `skip` are passed over; None where they don't fill them
unfoldable pub parts_from : ℕ → List ℕ → Option (List (List ℕ))
parts_from skip [] = Some []
parts_from (suc skip) (_ ∷ octets) = parts_from skip octets
parts_from zero (octet ∷ octets) =
    option_and_then (λ m. option_map (λ parts. m.0 ∷ parts) (parts_from (3 + length m.0) octets)) (measured (octet ∷ octets))

-- a batch has a part, and a gate behind it
abbrev pub batch_with : ℕ → List ℕ → List (List ℕ) → Option (List (List ℕ) × ℕ)
batch_with size (gate ∷ behind) (part ∷ parts) = Some (part ∷ parts, size)
batch_with size _ _ = None

-- the parts of the batch behind an open gate, and how many octets follow its length; None where it is damaged
unfoldable pub batch_of : List ℕ → Option (List (List ℕ) × ℕ)
batch_of octets = option_and_then (λ m. option_and_then (batch_with (length m.0) m.1) (parts_from 0 m.0)) (measured octets)

-- what stands from a gate on
pub data Walk : Type 0 where
  -- these parts, and what lies behind the closed gate that ends them
  Ended : List (List ℕ) → List ℕ → Walk
  -- these parts, and then a batch that is damaged
  Broken : List (List ℕ) → Walk

-- the same behind these parts
abbrev pub behind_parts : List (List ℕ) → Walk → Walk
behind_parts parts (Ended more behind) = Ended (parts ++ more) behind
behind_parts parts (Broken more) = Broken (parts ++ more)

-- a batch and what stands behind it
abbrev pub from_batch : (ℕ → Walk) → Option (List (List ℕ) × ℕ) → Walk
from_batch walk None = Broken []
from_batch walk (Some (parts, size)) = behind_parts parts (walk (4 + size))

-- What stands from a gate on, where the first `skip` octets are passed over. A gate other than an open one is closed
-- and ends the log; behind an open gate stands a batch, and then the next gate.
unfoldable pub walk_from : ℕ → List ℕ → Walk
walk_from skip [] = Broken []
walk_from (suc skip) (_ ∷ octets) = walk_from skip octets
walk_from zero (gate ∷ octets) = if gate == OPEN then from_batch (λ skip. walk_from skip octets) (batch_of octets) else Ended [] octets

-- a log without batches of which only the mark isn't written
abbrev pub is_half_made : List ℕ → List ℕ → Bool
is_half_made head octets =
    (length octets == 11) && bytes_eq (take 9 (drop 1 octets)) head && (slice_index octets 10 == 0) && not (slice_index octets 0 == OPEN)

-- a log that is not made yet, or whose making was stopped
abbrev pub is_unformatted : List ℕ → List ℕ → Bool
is_unformatted head octets = nat_lt (length octets) 11 || (slice_index octets 0 == 0) || is_half_made head octets

-- the mark, and the first five octets of the head
abbrev pub is_log : List ℕ → List ℕ → Bool
is_log head octets = (slice_index octets 0 == OPEN) && bytes_eq (take 5 (drop 1 octets)) (take 5 head)

-- what the octets in front of the first gate are
unfoldable pub heading_of : List ℕ → List ℕ → Heading
heading_of head octets =
    if is_unformatted head octets then heading.Unformatted
    else if not (is_log head octets) then heading.NotALog
    else if not (bytes_eq (take 4 (drop 6 octets)) (drop 5 head)) then heading.OtherHead (take 4 (drop 6 octets))
    else heading.Formatted

-- what is read of a log
pub data Reading : Type 0 where
  Unformatted : Reading
  NotALog : Reading
  -- a log whose head ends in these four octets
  OtherHead : List ℕ → Reading
  -- these parts, and then a batch that is damaged
  Damaged : List (List ℕ) → Reading
  -- these parts, and what lies behind the gate that ends the log
  Opened : List (List ℕ) → List ℕ → Reading

abbrev pub reading_of_walk : Walk → Reading
reading_of_walk (Ended parts behind) = Opened parts behind
reading_of_walk (Broken parts) = Damaged parts

abbrev pub reading_with : Heading → Walk → Reading
reading_with heading.Unformatted walk = Unformatted
reading_with heading.NotALog walk = NotALog
reading_with (heading.OtherHead rest) walk = OtherHead rest
reading_with heading.Formatted walk = reading_of_walk walk

-- the parts of a log with this head, or why there are none
abbrev pub parts_of : List ℕ → List ℕ → Reading
parts_of head octets = reading_with (heading_of head octets) (walk_from 0 (drop 10 octets))

-- the octets open to these parts, whatever lies behind
abbrev pub OpensTo : List ℕ → List (List ℕ) → List ℕ → Type 0
OpensTo head parts octets = (behind : List ℕ) × (parts_of head octets ≡ Opened parts behind)
