-- What each step of the making of a log leaves.
use Rattle.std.proofs.Common.{◌≡◌, ◌≢◌, ◌⊎◌, ℕ, ◌+◌, ◌<◌, ◌≤◌, Bool, true, false, List, [], ◌∷◌, ◌++◌, length, take, drop, refl, inl, inr, sym, ◌∙◌, ap, subst, arith, length-take}
use Rattle.std.specs.Prelude.{min, slice_index, nat_lt, ◌==◌, ◌||◌, ◌&&◌, not, if◌then◌else◌}
use Rattle.std.specs.Str.{bytes_eq}
use Rattle.std.proofs.lemmas.Bool.{le-ltb, ne_eqb, cases_lt}
use Rattle.std.proofs.lemmas.List.{take_all, take-take, drop-take, get_or-take, drop_all, append-nil, take_min}
use Rattle.disk_model.specs.Disk.{Meaning, DiskRun, overwritten, Torn, Cut, Follows, Only, Reads, image_now}
use Rattle.disk_model.specs.Runs.{joined, weaker, left_now, at_once}
use Rattle.gate_log.specs.declared.headings.Heading.{Heading}
use Rattle.gate_log.specs.declared.headings.Heading.TheVariants as heading
use Rattle.gate_log.specs.Log.{OPEN, CLOSED, log_octets}
use Rattle.gate_log.specs.Reading.{is_half_made, is_unformatted, is_log, heading_of, parts_of, Walk, reading_of_walk, reading_with, walk_from}
use Rattle.gate_log.specs.Reading.Walk.{Ended, Broken}
use Rattle.std.specs.Prelude.{Err}
use Rattle.disk_model.specs.declared.faults.DiskFault.{DiskFault}
use Rattle.disk_model.specs.declared.faults.DiskFault.TheVariants.{Failed, Memory}
use Rattle.gate_log.specs.Append.{CallTicks}
use Rattle.gate_log.specs.Formatting.{IsMade, IsBeforeOrNew, HasMark, MadeTicks, calls_of_making, ClearTicks}
use Rattle.gate_log.specs.Reading.Reading.{Unformatted}
use Rattle.gate_log.specs.Making.{IsNew, IsMarked, torn_mark, torn_last, marked_unformatted, cut_marked, torn_marked, cut_to_mark}

-- ---- the first twelve octets say what all say

long_unformatted : (head octets : List ℕ) → 12 ≤ length octets → is_unformatted head octets ≡ ((slice_index octets 0 == 0) || false)
long_unformatted head octets long =
    let short : nat_lt (length octets) 11 ≡ false = le-ltb (length octets) 11 (omega (arith, long)) in
    let eleven : (length octets == 11) ≡ false = ne_eqb (length octets) 11 (λ is. omega (arith, long, is)) in
    ap (λ (b : Bool). b || (slice_index octets 0 == 0) || is_half_made head octets) short
    ∙ ap (λ (b : Bool). (slice_index octets 0 == 0) || (b && bytes_eq (take 9 (drop 1 octets)) head && (slice_index octets 10 == 0) && not (slice_index octets 0 == OPEN))) eleven

heading_front : (head octets : List ℕ) → 12 ≤ length octets → heading_of head (take 12 octets) ≡ heading_of head octets
unfolding heading_of
heading_front head octets long =
    let front = take 12 octets in
    let front_long : 12 ≤ length front = omega (arith, length-take 12 octets, long) in
    let first : slice_index front 0 ≡ slice_index octets 0 = get_or-take 12 octets 0 0 (omega arith) in
    let name : take 5 (drop 1 front) ≡ take 5 (drop 1 octets) = ap (take 5) (drop-take 1 11 octets) ∙ take-take 5 11 (drop 1 octets) (omega arith) in
    let rest : take 4 (drop 6 front) ≡ take 4 (drop 6 octets) = ap (take 4) (drop-take 6 6 octets) ∙ take-take 4 6 (drop 6 octets) (omega arith) in
    let unformatted : is_unformatted head front ≡ is_unformatted head octets =
    long_unformatted head front front_long ∙ ap (λ (n : ℕ). (n == 0) || false) first ∙ sym (long_unformatted head octets long) in
    let log : is_log head front ≡ is_log head octets =
    ap (λ (n : ℕ). (n == OPEN) && bytes_eq (take 5 (drop 1 front)) (take 5 head)) first
    ∙ ap (λ (l : List ℕ). (slice_index octets 0 == OPEN) && bytes_eq l (take 5 head)) name in
    let tests : Bool → Bool → List ℕ → Heading = λ u l r. if u then heading.Unformatted else (if not l then heading.NotALog else (if not (bytes_eq r (drop 5 head)) then heading.OtherHead r else heading.Formatted)) in
    ap (λ (u : Bool). tests u (is_log head front) (take 4 (drop 6 front))) unformatted
    ∙ ap (λ (l : Bool). tests (is_unformatted head octets) l (take 4 (drop 6 front))) log
    ∙ ap (λ (r : List ℕ). tests (is_unformatted head octets) (is_log head octets) r) rest

pub heading-take : (head octets : List ℕ) → heading_of head (take 12 octets) ≡ heading_of head octets
heading-take head octets = at (cases_lt (length octets) 12)
  where
    at : (length octets < 12) ⊎ (12 ≤ length octets) → heading_of head (take 12 octets) ≡ heading_of head octets
    at (inl short) = ap (heading_of head) (take_all 12 octets (omega (arith, short)))
    at (inr long) = heading_front head octets long

-- ---- the steps

-- the mark 00, written
pub marked_now : (octets new : List ℕ) → new ≡ overwritten octets 0 (0 ∷ []) → IsMarked new
marked_now octets new is = subst IsMarked (sym is) (record { filled = omega arith; mark = refl })

pub marked_new : (head image : List ℕ) → IsMarked image → IsNew head image
marked_new head image marked = inl (marked_unformatted head image marked.mark)

module _ {D B C : Type 0} (told : Meaning D B C) (head : List ℕ) (nine : length head ≡ 9) where
  -- the mark 00 is written over what isn't a log
  pub clear_run : (old new : D) → Only (told.seen old) (image_now told old) → parts_of head (told.seen old) ≡ Unformatted → (0 < length (told.seen old) → slice_index (told.seen old) 0 ≢ 0)
      → DiskRun told old new (Follows (Torn 0 1) (image_now told old)) → DiskRun told old new (IsNew head)
  clear_run old new only unformatted mark run =
      weaker told old new (Follows (Torn 0 1) (image_now told old)) (IsNew head) run
      (λ image follows. torn_mark head nine (told.seen old) image unformatted mark (subst (λ (o : List ℕ). Torn 0 1 o image) (only follows.0 follows.1) follows.2))

  -- nothing is written where it stands
  pub stands_run : (disk : D) → Only (told.seen disk) (image_now told disk) → IsMarked (told.seen disk) → DiskRun told disk disk (IsNew head)
  stands_run disk only marked = at_once told disk (IsNew head) (λ image now. subst (IsNew head) (sym (only image now)) (marked_new head (told.seen disk) marked))

  -- the mark of a log is written
  pub mark_run : (old new : D) → Only (told.seen old) (image_now told old) → told.seen old ≡ 0 ∷ (head ++ CLOSED ∷ [])
      → DiskRun told old new (Follows (Torn 0 1) (image_now told old)) → DiskRun told old new (IsNew head)
  mark_run old new only is run =
      weaker told old new (Follows (Torn 0 1) (image_now told old)) (IsNew head) run
      (λ image follows. torn_last head nine 0 image (subst (λ (o : List ℕ). Torn 0 1 o image) (only follows.0 follows.1 ∙ is) follows.2))

  pub mark_written : (old new : List ℕ) → old ≡ 0 ∷ (head ++ CLOSED ∷ []) → new ≡ overwritten old 0 (OPEN ∷ []) → new ≡ log_octets head []
  mark_written old new is written =
      written ∙ ap (λ (o : List ℕ). overwritten o 0 (OPEN ∷ [])) is
      ∙ ap (λ (l : List ℕ). OPEN ∷ (l ++ CLOSED ∷ [])) (sym (append-nil head))

module _ {D B C : Type 0} (told : Meaning D B C) where
  -- the octets behind the mark 00 are cut off, and others written
  pub cut_run : (old new : D) → Only (told.seen old) (image_now told old) → IsMarked (told.seen old) → DiskRun told old new (Follows (Cut 1) (image_now told old)) → DiskRun told old new IsMarked
  cut_run old new only marked run =
      weaker told old new (Follows (Cut 1) (image_now told old)) IsMarked run
      (λ image follows. cut_marked (told.seen old) image marked (subst (λ (o : List ℕ). Cut 1 o image) (only follows.0 follows.1) follows.2))

  pub lay_run : (old mid new : D) (n : ℕ) → DiskRun told old mid IsMarked → DiskRun told mid new (Follows (Torn 1 n) (image_now told mid)) → DiskRun told old new IsMarked
  lay_run old mid new n first second =
      joined told old mid new IsMarked first
      (weaker told mid new (Follows (Torn 1 n) (image_now told mid)) IsMarked second
      (λ image follows. torn_marked n follows.0 image (left_now told old mid IsMarked first follows.0 follows.1) follows.2))

pub laid_out : (old mid new rest : List ℕ) → IsMarked old → mid ≡ take 1 old → new ≡ overwritten mid 1 rest → new ≡ 0 ∷ rest
laid_out old mid new rest marked cut written =
    let one : mid ≡ 0 ∷ [] = cut ∙ cut_to_mark old marked in
    let all : drop (1 + length rest) (0 ∷ []) ≡ [] = drop_all (1 + length rest) (0 ∷ []) (omega arith) in
    written ∙ ap (λ (m : List ℕ). overwritten m 1 rest) one
    ∙ ap (λ (l : List ℕ). ((0 ∷ []) ++ rest) ++ l) all ∙ append-nil (0 ∷ rest)

-- ---- the whole

module _ {D B C : Type 0} (told : Meaning D B C) where
  pub then_new : (old mid new : D) (head : List ℕ) → DiskRun told old mid (IsNew head) → DiskRun told mid new (IsNew head) → DiskRun told old new (IsNew head)
  then_new old mid new head first second = joined told old mid new (IsNew head) first second

  pub marked_run : (old new : D) (head : List ℕ) → DiskRun told old new IsMarked → DiskRun told old new (IsNew head)
  marked_run old new head run = weaker told old new IsMarked (IsNew head) run (λ image marked. marked_new head image marked)

-- ---- what was read

-- a read of twelve octets from the first on
pub read_front : (octets old new : List ℕ) (count : ℕ) → Reads octets 0 old new count → length old ≡ 12 → take count new ≡ take 12 octets
read_front octets old new count reads twelve =
    let number : count ≡ min 12 (length octets) = reads.number ∙ ap (λ (n : ℕ). min n (length octets)) twelve in
    reads.front ∙ ap (λ (n : ℕ). take n octets) number ∙ take_min 12 octets

-- the heading of what was read is that of all
pub read_heading : (head octets old new : List ℕ) (count : ℕ) (found : Heading) → Reads octets 0 old new count → length old ≡ 12
    → found ≡ heading_of head (take count new) → heading_of head octets ≡ found
read_heading head octets old new count found reads twelve is =
    sym (is ∙ ap (heading_of head) (read_front octets old new count reads twelve) ∙ heading-take head octets)

pub parts_by : (head octets : List ℕ) (found : Heading) → heading_of head octets ≡ found → parts_of head octets ≡ reading_with found (walk_from 0 (drop 10 octets))
parts_by head octets found is = ap (λ (h : Heading). reading_with h (walk_from 0 (drop 10 octets))) is

is_made : (walk : Walk) → IsMade (reading_of_walk walk)
is_made (Ended parts behind) = tt
is_made (Broken parts) = tt

pub made_by : (head octets : List ℕ) → heading_of head octets ≡ heading.Formatted → IsMade (parts_of head octets)
made_by head octets is = subst IsMade (sym (parts_by head octets heading.Formatted is)) (is_made (walk_from 0 (drop 10 octets)))

-- the mark of what was read is that of all
pub read_mark : (octets old new : List ℕ) (count : ℕ) (marked : Bool) → Reads octets 0 old new count → length old ≡ 12 → HasMark marked (take count new) → HasMark marked octets
read_mark octets old new count marked reads twelve has = front_mark octets marked (subst (HasMark marked) (read_front octets old new count reads twelve) has)
  where
    front_mark : (octets : List ℕ) (marked : Bool) → HasMark marked (take 12 octets) → HasMark marked octets
    front_mark [] true has = absurd (omega (arith, has.filled))
    front_mark [] false has = λ some. absurd (omega arith)
    front_mark (x ∷ octets) true has = record { filled = omega arith; mark = has.mark }
    front_mark (x ∷ octets) false has = λ some. has (omega arith)

module _ {D B C : Type 0} (told : Meaning D B C) where
  -- looks, and then a log is made where none is
  pub format_run : (old mid new : D) (head : List ℕ) → DiskRun told old mid (image_now told old) → parts_of head (told.seen old) ≡ Unformatted → DiskRun told mid new (IsNew head)
      → DiskRun told old new (IsBeforeOrNew told old head)
  format_run old mid new head first unformatted second =
      joined told old mid new (IsBeforeOrNew told old head)
      (weaker told old mid (image_now told old) (IsBeforeOrNew told old head) first (λ image now. inl now))
      (weaker told mid new (IsNew head) (IsBeforeOrNew told old head) second (λ image made. inr (unformatted, made)))

-- ---- how many calls were made

pub cleared_err : (marked : Bool) (before now : ℕ) (fault : DiskFault) → ClearTicks marked before now (Err fault) → CallTicks {T = Unit {0}} (calls_of_making marked) before now (Err fault)
cleared_err true before now fault ticks = absurd (let never = ticks.0 in cc never)
cleared_err false before now Failed ticks = (ticks.0, omega (arith, ticks.1))
cleared_err false before now Memory ticks = (ticks.0, omega (arith, ticks.1))

pub made_ticks : (head octets : List ℕ) (before now : ℕ) → IsMade (parts_of head octets) → now ≡ before + 2 → MadeTicks head octets before now
made_ticks head octets before now is ticks = record {
  marked = λ un mark. absurd (subst IsMade un is);
  unmarked = λ un mark. absurd (subst IsMade un is);
  made = λ made. ticks;
}

pub new_ticks : (head octets : List ℕ) (marked : Bool) (before mid now : ℕ) → parts_of head octets ≡ Unformatted → HasMark marked octets → mid ≡ before + 2 → now ≡ mid + calls_of_making marked
    → MadeTicks head octets before now
new_ticks head octets true before mid now un has first ticks = record {
  marked = λ is mark. omega (arith, first, ticks);
  unmarked = λ is mark. absurd (mark has);
  made = λ made. absurd (subst IsMade un made);
}
new_ticks head octets false before mid now un has first ticks = record {
  marked = λ is mark. absurd (has mark.filled mark.mark);
  unmarked = λ is mark. omega (arith, first, ticks);
  made = λ made. absurd (subst IsMade un made);
}
