-- Laws of a log that is read part by part.
use Rattle.std.proofs.Common.{◌≡◌, ℕ, ◌+◌, List, [], ◌∷◌, ◌++◌, length, Option, Some, None, refl, sym, ap, subst, ◌∙◌, arith, length-append}
use Rattle.gate_log.specs.Readers.{ReaderState, IsReading}
use Rattle.counter_journal.specs.declared.histories_read.Past.{Past}
use Rattle.counter_journal.specs.HistoryReading.{IsReadSoFar}

-- the parts that were given are read
pub record SoFar (head text : List ℕ) (lane lanes : ℕ) (past : Past) (wrong : Option ℕ) (reader : ReaderState) : Type 0 where
  pub parts : List (List ℕ)
  pub reading : IsReading head text parts reader
  pub read : IsReadSoFar lane lanes parts past wrong

-- the number of the part that was given last
pub part_number : (head text : List ℕ) (parts : List (List ℕ)) (part : List ℕ) (reader : ReaderState) → IsReading head text (parts ++ part ∷ []) reader → reader.given ≡ length parts + 1
part_number head text parts part reader reading = omega (arith, reading.number, length-append parts (part ∷ []))
