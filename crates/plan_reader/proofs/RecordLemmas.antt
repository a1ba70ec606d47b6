-- What a CSV reader has left after each record.
use Rattle.std.proofs.Common.{◌≡◌, ◌∙◌, refl, ap, cond, ℕ, zero, suc, ◌+◌, ◌<◌, ◌≤◌, ◌==◌, ◌&&◌, Bool, true, false, Bor, List, [], ◌∷◌, length, Option, Some, None, is_some, arith, add-one, inl, inr}
use Rattle.std.specs.Bool.{OnTrue}
use Rattle.std.proofs.lemmas.Bool.{cases_Bool, false≢true}
use Rattle.std.proofs.lemmas.Option.{same_Some}
use Rattle.csv.specs.Machine.{Read, step, in_field, start_field, start_record, after_end, ends_with, is_byte, ends_at_end, is_end, fields_after, field_after, next_record}
use Rattle.csv.specs.Reading.{strip_bom, ReadRecord, Reached, default_config, records_from, records_next, source_of}
use Rattle.csv.specs.declared.parser.Config.{Config}
use Rattle.csv.specs.declared.parser.Terminator.{Terminator}
use Rattle.csv.specs.declared.parser.Terminator.TheVariants as term
use Rattle.csv.specs.declared.parser.Action.{Action}
use Rattle.csv.specs.declared.parser.Action.TheVariants as act
use Rattle.csv.specs.declared.parser.State.{State}
use Rattle.csv.specs.declared.parser.State.TheVariants as st
use Rattle.csv.specs.declared.reader.Reader.{Reader}
use Rattle.csv.proofs.ReadFacts.{rows-end, rows-more}
use Rattle.plan_reader.specs.JobRows.{Row, records_of}
use Rattle.plan_reader.specs.RowsLeft.{rows_from, octets_left, rows_left, IsReading, Takes}

-- behind the end of a record a reader stands between records
after-end : (terminator : Terminator) (c : ℕ) → ends_at_end (after_end terminator c) ≡ false
after-end term.CRLF c = elim (cases_Bool (c == 13)) [ inl cr ↦ rw cr refl | inr other ↦ rw other refl ]
after-end (term.Any t) c = refl

field-ended : (cfg : Config) (c : ℕ) → is_end (in_field cfg c).1 ≡ true → ends_at_end (in_field cfg c).0 ≡ false
field-ended cfg c ends =
    elim (cases_Bool (c == cfg.delimiter)) [
      | inl cut ↦ absurd (false≢true (rw cut at ends))
      | inr other ↦ elim (cases_Bool (ends_with cfg.terminator c)) [
        | inl end ↦ rw (other, end) (after-end cfg.terminator c)
        | inr more ↦ absurd (false≢true (rw (other, more) at ends))
      ]
    ]

-- a step that skips an octet ends no record
skip-or : (test : Bool) (s : State) (other : State × Action) → (is_end other.1 ≡ true → ends_at_end other.0 ≡ false)
    → is_end (cond test (s, act.Skip) other).1 ≡ true → ends_at_end (cond test (s, act.Skip) other).0 ≡ false
skip-or true s other more ends = absurd (false≢true ends)
skip-or false s other more ends = more ends

copy-or : (test : Bool) (s : State) (other : State × Action) → (is_end other.1 ≡ true → ends_at_end other.0 ≡ false)
    → is_end (cond test (s, act.Copy) other).1 ≡ true → ends_at_end (cond test (s, act.Copy) other).0 ≡ false
copy-or true s other more ends = absurd (false≢true ends)
copy-or false s other more ends = more ends

start-ended : (cfg : Config) (c : ℕ) → is_end (start_field cfg c).1 ≡ true → ends_at_end (start_field cfg c).0 ≡ false
start-ended cfg c = skip-or (cfg.quoting && (c == cfg.quote)) st.InQuoted (in_field cfg c) (field-ended cfg c)

record-ended : (cfg : Config) (c : ℕ) → is_end (start_record cfg c).1 ≡ true → ends_at_end (start_record cfg c).0 ≡ false
record-ended cfg c =
    skip-or (ends_with cfg.terminator c) st.StartRecord (cond (is_byte cfg.comment c) (st.InComment, act.Skip) (start_field cfg c))
    (skip-or (is_byte cfg.comment c) st.InComment (start_field cfg c) (start-ended cfg c))

step-ended : (cfg : Config) (s : State) (c : ℕ) → is_end (step cfg s c).1 ≡ true → ends_at_end (step cfg s c).0 ≡ false
step-ended cfg st.StartRecord c ends = record-ended cfg c ends
step-ended cfg st.StartField c ends = start-ended cfg c ends
step-ended cfg st.InField c ends = field-ended cfg c ends
step-ended cfg st.InQuoted c ends =
    skip-or (cfg.quoting && (c == cfg.quote)) st.AfterQuote (cond (cfg.quoting && is_byte cfg.escape c) (st.InEscape, act.Skip) (st.InQuoted, act.Copy))
    (skip-or (cfg.quoting && is_byte cfg.escape c) st.InEscape (st.InQuoted, act.Copy) (λ ends. absurd (false≢true ends))) ends
step-ended cfg st.InEscape c ends = absurd (false≢true ends)
step-ended cfg st.AfterQuote c ends = copy-or (cfg.quoting && cfg.double_quote && (c == cfg.quote)) st.InQuoted (in_field cfg c) (field-ended cfg c) ends
step-ended cfg st.InComment c ends = skip-or (c == 10) st.StartRecord (st.InComment, act.Skip) (λ ends. absurd (false≢true ends)) ends
step-ended cfg st.AfterCr c ends = skip-or (c == 10) st.StartRecord (start_record cfg c) (record-ended cfg c) ends

-- a record leaves a reader between records, and no longer text
next-rest : (cfg : Config) (s : State) (fields : List (List ℕ)) (field text : List ℕ) (read : Read) → next_record cfg s fields field text ≡ Some read
    → (ends_at_end read.1 ≡ false) × (length read.2 ≤ length text)
unfolding next_record
next-rest cfg s fields field [] read next =
    elim (cases_Bool (ends_at_end s)) [
      | inl ends ↦ let is = same_Some _ _ (rw ends at next) in rw (← is) (refl, omega arith)
      | inr none ↦ let absent = rw none at next in cc absent
    ]
next-rest cfg s fields field (c ∷ text) read next =
    elim (cases_Bool (is_end (step cfg s c).1)) [
      | inl ends ↦ let is = same_Some _ _ (rw ends at next) in rw (← is) (step-ended cfg s c ends, omega arith)
      | inr goes ↦
          let (between, short) = next-rest cfg (step cfg s c).0 (fields_after (step cfg s c).1 fields field) (field_after (step cfg s c).1 c field) text read (rw goes at next) in
          (between, omega arith)
    ]

-- a record that begins between records takes an octet at least
next-shorter : (cfg : Config) (s : State) (fields : List (List ℕ)) (field text : List ℕ) (read : Read) → ends_at_end s ≡ false → next_record cfg s fields field text ≡ Some read
    → length read.2 < length text
unfolding next_record
next-shorter cfg s fields field [] read between next = let absent = rw between at next in cc absent
next-shorter cfg s fields field (c ∷ text) read between next =
    elim (cases_Bool (is_end (step cfg s c).1)) [
      | inl ends ↦ let is = same_Some _ _ (rw ends at next) in rw (← is) (omega arith)
      | inr goes ↦
          let (_, short) = next-rest cfg (step cfg s c).0 (fields_after (step cfg s c).1 fields field) (field_after (step cfg s c).1 c field) text read (rw goes at next) in
          omega arith
    ]

-- the bound on the number of records changes nothing where it is above the text's length
enough : (cfg : Config) (n m : ℕ) (s : State) (text : List ℕ) → ends_at_end s ≡ false → length text < n → length text < m
    → records_from cfg n s text ≡ records_from cfg m s text
unfolding records_from
enough cfg zero m s text between first second = absurd (omega arith)
enough cfg (suc n) zero s text between first second = absurd (omega arith)
enough cfg (suc n) (suc m) s text between first second = by (next_record cfg s [] [] text) refl (enough cfg n m)
  where
    by : (read : Option Read) → next_record cfg s [] [] text ≡ read
        → ((s : State) (text : List ℕ) → ends_at_end s ≡ false → length text < n → length text < m → records_from cfg n s text ≡ records_from cfg m s text)
        → records_next (records_from cfg n) read ≡ records_next (records_from cfg m) read
    by None next more = refl
    by (Some read) next more =
        let short = next-shorter cfg s [] [] text read between next in
        ap (λ rows. read.0 ∷ rows) (more read.1 read.2 (next-rest cfg s [] [] text read next).0 (omega arith) (omega arith))

-- the records from a state, by the first one
pub rows-some : (s : State) (text : List ℕ) (read : Read) → ends_at_end s ≡ false → next_record default_config s [] [] text ≡ Some read
    → rows_from s text ≡ read.0 ∷ rows_from read.1 read.2
unfolding rows_from records_from
rows-some s text read between next =
    let short = next-shorter default_config s [] [] text read between next in
    rw (add-one (length text), next)
    (ap (λ rows. read.0 ∷ rows) (enough default_config (length text) (length read.2 + 1) read.1 read.2 (next-rest default_config s [] [] text read next).0 short (omega arith)))

pub rows-none : (s : State) (text : List ℕ) → next_record default_config s [] [] text ≡ None → rows_from s text ≡ []
unfolding rows_from records_from
rows-none s text next = rw (add-one (length text), next) refl

-- the octets of a reader, seen from the one that its source points to
abbrev source_octets : Bor (List ℕ) → Option (List ℕ)
source_octets source = Some source.now

-- a record that a reader gives is the first of those that it had left
taken-one : (old new : Reader (Bor (List ℕ))) (fields : Row) (text : List ℕ) → IsReading old → source_of source_octets old ≡ Some text → new.first ≡ true
    → ReadRecord source_octets old new true fields → IsReading new × Takes (rows_from old.state text) true fields (rows_left new)
unfolding Reached
taken-one old new fields text is source first read =
    let (rest, left, (next, following, said, (state, same))) = rows-more source_octets old new fields default_config old.state text text [] is.config source (refl, refl) read in
    let between : ends_at_end new.state ≡ false = rw state at (next-rest default_config old.state [] [] text next following).0 in (
      record { trim = read.3 ∙ is.trim; ready = inl first; config = read.2 ∙ is.config; source = ap is_some left; between = between },
      rw (rows-some old.state text next is.between following, left, state, same) (refl, said, refl),
    )

-- what a read of a record takes
taken-by : (old new : Reader (Bor (List ℕ))) (found : Bool) (fields : Row) (text : List ℕ) → IsReading old → source_of source_octets old ≡ Some text → new.first ≡ true
    → ReadRecord source_octets old new found fields → OnTrue found (IsReading new) × Takes (rows_from old.state text) found fields (rows_left new)
taken-by old new true fields text is source first read =
    let (reading, takes) = taken-one old new fields text is source first read in (reading, takes)
taken-by old new false fields text is source first read =
    (tt, rw (rows-none old.state text (rows-end source_octets old new fields default_config text is.config source read)) refl)

pub taken : (old new : Reader (Bor (List ℕ))) (found : Bool) (fields : Row) → IsReading old → new.first ≡ true
    → ReadRecord source_octets old new found fields → OnTrue found (IsReading new) × Takes (rows_left old) found fields (rows_left new)
taken old new found fields is first read = by (octets_left old) refl is.source
  where
    by : (left : Option (List ℕ)) → octets_left old ≡ left → is_some left ≡ true → OnTrue found (IsReading new) × Takes (rows_left old) found fields (rows_left new)
    by None source known = absurd (false≢true known)
    by (Some text) source known = rw source (taken-by old new found fields text is source first read)

-- all records of a text are left when it is opened
pub opened : (reader : Reader (Bor (List ℕ))) (text : List ℕ) → octets_left reader ≡ Some (strip_bom text) → reader.state ≡ st.StartRecord → rows_left reader ≡ records_of text
unfolding rows_from records_of
opened reader text source state = rw (source, state) refl
