-- How a reading goes on, part by part.
use Rattle.std.proofs.Common.{◌≡◌, ◌⊎◌, ℕ, ◌+◌, ◌-◌, ◌≤◌, Bool, true, false, Option, Some, None, List, [], ◌∷◌, ◌++◌, length, take, drop, inl, inr, refl, sym, ◌∙◌, ap, subst, arith, append_assoc, length-append, length-drop}
use Rattle.std.specs.Prelude.{is_some, unwrap_or, Ok, Err}
use Rattle.std.specs.Option.{option_map}
use Rattle.std.proofs.lemmas.List.{drop-drop, append-nil, take-take, drop-append-le}
use Rattle.std.proofs.Math.Seq.{drop-nil}
use Rattle.gate_log.specs.declared.standings.Standing.{Standing}
use Rattle.gate_log.specs.declared.standings.Standing.TheVariants as standing
use Rattle.gate_log.specs.declared.headings.Heading.{Heading}
use Rattle.gate_log.specs.declared.headings.Heading.TheVariants as heading
use Rattle.gate_log.specs.Reading.{Reading, Walk, measured, parts_from, parts_of, behind_parts, walk_from, reading_of_walk, heading_of}
use Rattle.gate_log.specs.Reading.Walk.{Ended, Broken}
use Rattle.gate_log.specs.Reading.Reading.{Unformatted, NotALog, OtherHead, Damaged, Opened}
use Rattle.gate_log.specs.declared.log_errors.LogErr.{LogErr}
use Rattle.gate_log.specs.declared.log_errors.LogErr.TheVariants as log_err
use Rattle.gate_log.specs.Answers.{Refuses, heading_answer}
use Rattle.gate_log.specs.Measures.{measured_some, parts_step, parts_done}
use Rattle.gate_log.specs.Walks.{behind_none}
use Rattle.gate_log.specs.Windows.{WindowsState, rest_of, IsWithin}
use Rattle.gate_log.specs.BatchesRead.{IsStepRead, IsHeld}
use Rattle.gate_log.specs.Readers.{ReaderState, has_ended, octets_left, in_front, parts_in, left_at, left, IsReading, IsReadTo, IsReadOn, IsCounted}
use Rattle.gate_log.specs.ReaderKept.{IsReader}
use Rattle.gate_log.specs.ReaderSteps.{GivesPart, IsReached, body_length}
use Rattle.gate_log.proofs.Framed.{are_turn, are_stop}
use Rattle.gate_log.proofs.Made.{heading-take, parts_by}
use Rattle.gate_log.proofs.Opened.{formatted_by}

-- ---- a part is given of the batch

module _ (octets : List ℕ) (size before lefts given : ℕ) (windows : WindowsState) (standing_is : Standing) (kept : IsReader octets size before lefts given windows standing_is) (long : length octets ≡ size)
    (part behind : List ℕ) (m : measured (drop (size - lefts) octets) ≡ Some (part, behind)) where
  sizes : 4 + length part + length behind ≡ lefts
  sizes =
      let is = measured_some (drop (size - lefts) octets) part behind m in
      omega (arith, is.within, ap length is.rest_is, length-drop (4 + length part) (drop (size - lefts) octets), length-drop (size - lefts) octets, long, kept.inside)

  pub behind_is : drop (size - length behind) octets ≡ behind
  behind_is =
      let is = measured_some (drop (size - lefts) octets) part behind m in
      let place : size - length behind ≡ (size - lefts) + (4 + length part) = omega (arith, sizes, kept.inside) in
      ap (λ (n : ℕ). drop n octets) place ∙ sym (drop-drop (4 + length part) (size - lefts) octets) ∙ sym is.rest_is

  pub part_is : take (length part) (drop (size - length behind - length part) octets) ≡ part
  part_is =
      let is = measured_some (drop (size - lefts) octets) part behind m in
      let place : size - length behind - length part ≡ (size - lefts) + 4 = omega (arith, sizes, kept.inside) in
      ap (λ (n : ℕ). take (length part) (drop n octets)) place ∙ ap (take (length part)) (sym (drop-drop 4 (size - lefts) octets)) ∙ sym is.part_is

  pub is_going : standing_is ≡ standing.Going
  is_going = at kept.going
    where
      at : (standing_is ≡ standing.Going) ⊎ (lefts ≡ 0) → standing_is ≡ standing.Going
      at (inl going) = going
      at (inr none) = absurd (omega (arith, none, sizes))

  pub next_kept : IsReader octets size (length part) (length behind) (given + 1) windows standing_is
  next_kept = record {
    inside = omega (arith, sizes, kept.inside);
    framed = ap (λ (l : List ℕ). is_some (parts_from 0 l)) behind_is ∙ are_turn part (drop (size - lefts) octets) behind m ∙ kept.framed;
    within = kept.within;
    counted = omega (arith, sizes, kept.counted);
    going = inl is_going;
    closed = λ closed. absurd (let never : standing.Going ≡ standing.Closed = sym is_going ∙ closed in cc never);
  }

pub nothing_left : (octets : List ℕ) → is_some (parts_from 0 octets) ≡ true → measured octets ≡ None → octets ≡ []
nothing_left [] framed m = refl
nothing_left (x ∷ octets) framed m = absurd (let never : true ≡ false = sym framed ∙ are_stop (x ∷ octets) (omega arith) m in cc never)

-- ---- what is left

parts_in_none : parts_in [] ≡ []
parts_in_none = ap (λ (f : Option (List (List ℕ))). unwrap_or f []) parts_done

pub left_none : (rest : List ℕ) → left_at standing.Going [] rest ≡ reading_of_walk (walk_from 0 rest)
left_none rest = ap (λ (l : List (List ℕ)). reading_of_walk (behind_parts l (walk_from 0 rest))) parts_in_none ∙ ap reading_of_walk (behind_none (walk_from 0 rest))

-- what was read from a gate on is left as it was
pub step_left : (is : Standing) (text room : List ℕ) (was now : WindowsState) (batch : List ℕ) → (is ≡ standing.Going → batch ≡ drop 5 room) → IsStepRead is text room was now
    → left_at is batch (rest_of text now) ≡ left_at standing.Going [] (rest_of text was)
step_left standing.Going text room was now batch batch_is step =
    ap (λ (l : List ℕ). reading_of_walk (behind_parts (parts_in l) (walk_from 0 (rest_of text now)))) (batch_is refl)
    ∙ ap (λ (f : Option (List (List ℕ))). reading_of_walk (behind_parts (unwrap_or f []) (walk_from 0 (rest_of text now)))) step.1
    ∙ ap reading_of_walk (sym step.2)
    ∙ sym (left_none (rest_of text was))
step_left standing.Closed text room was now batch batch_is step = sym (left_none (rest_of text was) ∙ ap reading_of_walk step)
step_left standing.Damaged text room was now batch batch_is step = sym (left_none (rest_of text was) ∙ ap reading_of_walk step)

-- a whole batch lies in its room behind its gate and its length
pub going_batch : (is : Standing) (room : List ℕ) (size lefts : ℕ) → is ≡ standing.Going → length room ≡ size → lefts ≡ body_length is room → IsHeld is room → drop (size - lefts) room ≡ drop 5 room
going_batch standing.Going room size lefts going long lefts_are held =
    let five : size - lefts ≡ 5 = omega (arith, long, lefts_are, held.long) in
    ap (λ (n : ℕ). drop n room) five
going_batch standing.Closed room size lefts going long lefts_are held = absurd cc
going_batch standing.Damaged room size lefts going long lefts_are held = absurd cc

pub in_front_more : (one other : List (List ℕ)) (read : Reading) → in_front one (in_front other read) ≡ in_front (one ++ other) read
in_front_more one other (Opened parts behind) = ap (λ (l : List (List ℕ)). Opened l behind) (sym (append_assoc one other parts))
in_front_more one other (Damaged parts) = ap (λ (l : List (List ℕ)). Damaged l) (sym (append_assoc one other parts))
in_front_more one other Unformatted = refl
in_front_more one other NotALog = refl
in_front_more one other (OtherHead rest) = refl

front_walk : (parts : List (List ℕ)) (walk : Walk) → reading_of_walk (behind_parts parts walk) ≡ in_front parts (reading_of_walk walk)
front_walk parts (Ended more behind) = refl
front_walk parts (Broken more) = refl

in_front_none : (walk : Walk) → in_front [] (reading_of_walk walk) ≡ reading_of_walk walk
in_front_none (Ended more behind) = refl
in_front_none (Broken more) = refl

some_map : (part : List ℕ) (found : Option (List (List ℕ))) → is_some (option_map (λ (more : List (List ℕ)). part ∷ more) found) ≡ true
    → unwrap_or (option_map (λ (more : List (List ℕ)). part ∷ more) found) [] ≡ part ∷ unwrap_or found []
some_map part None e = absurd cc
some_map part (Some parts) e = refl

-- the part in front of a batch, and the rest
parts_in_step : (octets part behind : List ℕ) → is_some (parts_from 0 octets) ≡ true → measured octets ≡ Some (part, behind) → parts_in octets ≡ part ∷ parts_in behind
parts_in_step octets part behind framed m =
    let step = parts_step octets part behind m in
    ap (λ (f : Option (List (List ℕ))). unwrap_or f []) step
    ∙ some_map part (parts_from 0 behind) (sym (ap (λ (f : Option (List (List ℕ))). is_some f) step) ∙ framed)

pub left_part : (octets part behind rest : List ℕ) → is_some (parts_from 0 octets) ≡ true → measured octets ≡ Some (part, behind)
    → left_at standing.Going octets rest ≡ in_front (part ∷ []) (left_at standing.Going behind rest)
left_part octets part behind rest framed m =
    ap (λ (l : List (List ℕ)). reading_of_walk (behind_parts l (walk_from 0 rest))) (parts_in_step octets part behind framed m)
    ∙ front_walk (part ∷ parts_in behind) (walk_from 0 rest)
    ∙ sym (in_front_more (part ∷ []) (parts_in behind) (reading_of_walk (walk_from 0 rest)))
    ∙ ap (in_front (part ∷ [])) (sym (front_walk (parts_in behind) (walk_from 0 rest)))

-- ---- a turn

pub left_by : (state : ReaderState) (text : List ℕ) (is : Standing) (batch : List ℕ) (windows : WindowsState) → state.standing ≡ is → state.batch ≡ batch → state.windows ≡ windows
    → left state text ≡ left_at is batch (rest_of text windows)
left_by state text is batch windows s b w =
    ap (λ (x : Standing). left_at x state.batch (rest_of text state.windows)) s
    ∙ ap (λ (l : List ℕ). left_at is l (rest_of text state.windows)) b
    ∙ ap (λ (v : WindowsState). left_at is batch (rest_of text v)) w

read_to : (is : Standing) (batch rest : List ℕ) (parts : List (List ℕ)) (whole : Reading) → batch ≡ [] → (is ≡ standing.Going → ⊥) → in_front parts (left_at is batch rest) ≡ whole → IsReadTo parts whole
read_to standing.Going batch rest parts whole none ended all = absurd (ended refl)
read_to standing.Closed batch rest parts whole none ended all = inl (rest, sym all ∙ ap (λ (l : List (List ℕ)). Opened l rest) (append-nil parts))
read_to standing.Damaged batch rest parts whole none ended all = inr (sym all ∙ ap (λ (l : List (List ℕ)). Damaged l) (append-nil parts))

not_going : (state : ReaderState) → has_ended state ≡ true → state.standing ≡ standing.Going → ⊥
not_going state ended going = let never : has_ended state ≡ false = ap ended_is going in cc (sym never ∙ ended)
  where
    ended_is : Standing → Bool
    ended_is standing.Going = false
    ended_is standing.Closed = true
    ended_is standing.Damaged = true

module _ (head text : List ℕ) (parts : List (List ℕ)) (old mid new : ReaderState) (reading : IsReading head text parts old)
    (reached : IsReached old mid) (same : left mid text ≡ left old text) (long : mid.windows.long ≡ old.windows.long) where
  mid_reading : IsReading head text parts mid
  mid_reading = record { long = long ∙ reading.long; number = reached.given ∙ reading.number; all = ap (in_front parts) same ∙ reading.all }

  pub read_on : (more : Bool) → GivesPart more mid new → IsReadOn head text parts more new
  read_on true gives =
      let part = new.part in
      let step : left mid text ≡ in_front (part ∷ []) (left new text) =
      left_by mid text standing.Going mid.batch new.windows gives.2 refl (sym gives.4)
      ∙ left_part mid.batch part new.batch (rest_of text new.windows) gives.1 gives.0
      ∙ ap (in_front (part ∷ [])) (sym (left_by new text standing.Going new.batch new.windows (gives.5 ∙ gives.2) refl refl)) in
      record {
        long = ap (λ (w : WindowsState). w.long) gives.4 ∙ mid_reading.long;
        number = omega (arith, gives.3, mid_reading.number, length-append parts (part ∷ []));
        all = sym (in_front_more parts (part ∷ []) (left new text)) ∙ ap (in_front parts) (sym step) ∙ mid_reading.all;
      }
  read_on false gives =
      let is = subst (λ (s : ReaderState). IsReading head text parts s) (sym gives.1) mid_reading in
      (is, read_to mid.standing mid.batch (rest_of text mid.windows) parts (parts_of head text) gives.0 (not_going mid (reached.ended gives.0)) mid_reading.all)

pub counted_on : (old mid new : ReaderState) → IsReached old mid → (more : Bool) → GivesPart more mid new → IsCounted old more new
counted_on old mid new reached true gives =
    let is = measured_some mid.batch new.part new.batch gives.0 in
    let read = ap (λ (w : WindowsState). w.read) gives.4 in
    let long = ap (λ (w : WindowsState). w.long) gives.4 in
    let ahead = ap (λ (w : WindowsState). length w.ahead) gives.4 in
    (omega (arith, gives.3, reached.given), omega (arith, reached.fewer, read, long, ahead, is.within, ap length is.rest_is, length-drop (4 + length new.part) mid.batch))
counted_on old mid new reached false gives =
    let same = ap octets_left gives.1 in
    (ap (λ (s : ReaderState). s.given) gives.1 ∙ reached.given, omega (arith, same, reached.fewer), ap (λ (s : ReaderState). has_ended s) gives.1 ∙ reached.ended gives.0)

-- no window is read where a part is given
pub given_within : (old new : ReaderState) (more : Bool) → GivesPart more old new → IsWithin old.windows → IsWithin new.windows
given_within old new true gives within = subst IsWithin (sym gives.4) within
given_within old new false gives within = subst IsWithin (sym (ap (λ (s : ReaderState). s.windows) gives.1)) within

-- ---- a beginning

-- the first window says what all octets say
pub heading_window : (head text : List ℕ) → heading_of head (take 65536 text) ≡ heading_of head text
heading_window head text =
    sym (heading-take head (take 65536 text)) ∙ ap (heading_of head) (take-take 12 65536 text (omega arith)) ∙ heading-take head text

refuses_by : (head text : List ℕ) (found : Heading) (error : LogErr) → Err error ≡ heading_answer found → heading_of head text ≡ found → Refuses (parts_of head text) error
refuses_by head text heading.Unformatted error e is =
    let error_is : error ≡ log_err.Unformatted = cc in subst (λ (x : LogErr). Refuses (parts_of head text) x) (sym error_is) (parts_by head text heading.Unformatted is)
refuses_by head text heading.NotALog error e is =
    let error_is : error ≡ log_err.NotALog = cc in subst (λ (x : LogErr). Refuses (parts_of head text) x) (sym error_is) (parts_by head text heading.NotALog is)
refuses_by head text (heading.OtherHead rest) error e is =
    let error_is : error ≡ log_err.OtherHead rest = cc in subst (λ (x : LogErr). Refuses (parts_of head text) x) (sym error_is) (parts_by head text (heading.OtherHead rest) is)
refuses_by head text heading.Formatted error e is = absurd cc

-- what is refused for its first window
pub window_refuses : (head text window : List ℕ) (error : LogErr) → window ≡ take 65536 text → Err error ≡ heading_answer (heading_of head window) → Refuses (parts_of head text) error
window_refuses head text window error is e =
    refuses_by head text (heading_of head window) error e (sym (ap (heading_of head) is ∙ heading_window head text))

-- a reading of what is a log by its first window
pub began : (head text window : List ℕ) (windows : WindowsState) (reader : ReaderState) → window ≡ take 65536 text → Ok (tt {0}) ≡ heading_answer (heading_of head window) → 11 ≤ length window
    → windows.ahead ≡ window → rest_of text windows ≡ text → windows.long ≡ length text
    → reader.windows ≡ record { ahead = drop 10 windows.ahead; read = windows.read; long = windows.long } → reader.batch ≡ [] → reader.standing ≡ standing.Going → reader.given ≡ 0
    → IsReading head text [] reader
began head text window windows reader is e long ahead rest size windows_are batch going given =
    let formatted : heading_of head text ≡ heading.Formatted = sym (ap (heading_of head) is ∙ heading_window head text) ∙ formatted_by (heading_of head window) e in
    let passed : rest_of text reader.windows ≡ drop 10 text =
    ap (rest_of text) windows_are
    ∙ sym (drop-append-le 10 windows.ahead (drop windows.read text) (omega (arith, long, ap length ahead)))
    ∙ ap (drop 10) rest in
    record {
      long = ap (λ (w : WindowsState). w.long) windows_are ∙ size;
      number = given;
      all = ap (in_front []) (left_by reader text standing.Going [] reader.windows going batch refl ∙ left_none (rest_of text reader.windows))
          ∙ in_front_none (walk_from 0 (rest_of text reader.windows))
          ∙ ap (λ (l : List ℕ). reading_of_walk (walk_from 0 l)) passed
          ∙ sym (parts_by head text heading.Formatted formatted);
    }

pub batch_none : (octets : List ℕ) (n : ℕ) → octets ≡ [] → drop n octets ≡ []
batch_none [] n is = drop-nil n
batch_none (x ∷ octets) n is = absurd cc

-- how a reading is kept that has just begun
pub reader_began : (octets : List ℕ) (size : ℕ) (before windows : WindowsState) → octets ≡ [] → windows ≡ record { ahead = drop 10 before.ahead; read = before.read; long = before.long }
    → 11 ≤ length before.ahead → IsWithin before → IsReader octets size 0 0 0 windows standing.Going
reader_began octets size before windows none is long within =
    let ahead = ap (λ (w : WindowsState). length w.ahead) is in
    let read : windows.read ≡ before.read = ap (λ (w : WindowsState). w.read) is in
    let whole : windows.long ≡ before.long = ap (λ (w : WindowsState). w.long) is in
    let size_ahead = length-drop 10 before.ahead in
    record {
      inside = omega arith;
      framed = ap (λ (l : List ℕ). is_some (parts_from 0 l)) (batch_none octets (size - 0) none) ∙ ap (λ (f : Option (List (List ℕ))). is_some f) parts_done;
      within = record { ahead = omega (arith, ahead, size_ahead, read, within.ahead); read = omega (arith, read, whole, within.read); fits = omega (arith, whole, within.fits) };
      counted = omega (arith, ahead, size_ahead, read, long, within.ahead);
      going = inl refl;
      closed = λ closed. absurd (let never : standing.Going ≡ standing.Closed = closed in cc never);
    }
