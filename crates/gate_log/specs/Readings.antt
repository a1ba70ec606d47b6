-- Laws of the reading of a log: what the octets in front of its first gate say, and what another end behind the same
-- front opens to.
use Rattle.std.specs.Prelude.{◌≡◌, ◌≢◌, ◌⊎◌, ℕ, suc, ◌+◌, ◌-◌, ◌^◌, ◌<◌, ◌≤◌, ◌==◌, ◌&&◌, ◌||◌, not, nat_lt, Bool, true, false, cond, List, [], ◌∷◌, ◌++◌, length, take, drop, slice_index, refl}
use Rattle.std.specs.List.{flat_map}
use Rattle.std.specs.Str.{bytes_eq}
use Rattle.std.proofs.Common.{inl, inr, sym, ◌∙◌, ap, subst, arith, append_assoc, length-append, length-take, take-append-drop}
use Rattle.std.proofs.lemmas.Bool.{ltb-false, le-ltb, eqb-true, eq-eqb}
use Rattle.std.proofs.lemmas.List.{take_at, drop_at, take-take, drop-take, append-nil}
use Rattle.std.proofs.Math.Seq.{take-append-add}
use Rattle.std.proofs.lemmas.Slice.Eq.{bytes_eq-Decides}
use Rattle.gate_log.specs.declared.headings.Heading.{Heading}
use Rattle.gate_log.specs.declared.headings.Heading.TheVariants as heading
use Rattle.gate_log.specs.Log.{OPEN, CLOSED, part_octets, batch_octets, IsClosedBehind}
use Rattle.gate_log.specs.Append.{front_of, opened_with, EndsClosed, IsBeforeOrAfter}
use Rattle.gate_log.specs.Reading.{is_half_made, is_unformatted, is_log, heading_of, Walk, behind_parts, walk_from, reading_of_walk, reading_with, parts_of, OpensTo}
use Rattle.gate_log.specs.Reading.Walk.{Ended, Broken}
use Rattle.gate_log.specs.Reading.Reading.{Opened}
use Rattle.gate_log.specs.Laws.{ends_in}
use Rattle.gate_log.specs.Walks.{walk_closed, walk-written, split}

-- ---- the heading

-- a log with this head
pub record IsFormatted (head octets : List ℕ) : Type 0 where
  pub long : 11 ≤ length octets
  pub mark : slice_index octets 0 ≡ OPEN
  pub name : take 5 (drop 1 octets) ≡ take 5 head
  pub rest : take 4 (drop 6 octets) ≡ drop 5 head

not_half : (a b c : Bool) → (a && b && c && not true) ≡ false
not_half true true true = refl
not_half true true false = refl
not_half true false c = refl
not_half false b c = refl

both_true : (a b : Bool) → (a && b) ≡ true → (a ≡ true) × (b ≡ true)
both_true true true e = (refl, refl)
both_true true false e = absurd cc
both_true false b e = absurd cc

-- how the four tests of a heading go
heading_cases : (octets rest : List ℕ) (unformatted log same : Bool)
    → cond unformatted heading.Unformatted (cond (not log) heading.NotALog (cond (not same) (heading.OtherHead rest) heading.Formatted)) ≡ heading.Formatted
    → (unformatted ≡ false) × (log ≡ true) × (same ≡ true)
heading_cases octets rest true log same e = absurd cc
heading_cases octets rest false false same e = absurd cc
heading_cases octets rest false true false e = absurd cc
heading_cases octets rest false true true e = (refl, refl, refl)

or_false : (a b c : Bool) → (a || b || c) ≡ false → a ≡ false
or_false true b c e = absurd cc
or_false false b c e = refl

pub is_formatted : (head octets : List ℕ) → heading_of head octets ≡ heading.Formatted → IsFormatted head octets
unfolding heading_of
is_formatted head octets e =
    let same = bytes_eq (take 4 (drop 6 octets)) (drop 5 head) in
    let t = heading_cases octets (take 4 (drop 6 octets)) (is_unformatted head octets) (is_log head octets) same e in
    let l = both_true (slice_index octets 0 == OPEN) (bytes_eq (take 5 (drop 1 octets)) (take 5 head)) t.1 in
    record {
      long = ltb-false (length octets) 11 (or_false (nat_lt (length octets) 11) (slice_index octets 0 == 0) (is_half_made head octets) t.0);
      mark = eqb-true (slice_index octets 0) OPEN l.0;
      name = (bytes_eq-Decides (take 5 (drop 1 octets)) (take 5 head)).0 l.1;
      rest = (bytes_eq-Decides (take 4 (drop 6 octets)) (drop 5 head)).0 t.2;
    }

unformatted_false : (head octets : List ℕ) → 11 ≤ length octets → slice_index octets 0 ≡ OPEN → is_unformatted head octets ≡ false
unformatted_false head octets long mark =
    let short : nat_lt (length octets) 11 ≡ false = le-ltb (length octets) 11 long in
    let open_mark : (slice_index octets 0 == OPEN) ≡ true = eq-eqb (slice_index octets 0) OPEN mark in
    let zero_mark : (slice_index octets 0 == 0) ≡ false = ap (λ (m : ℕ). m == 0) mark in
    let half : is_half_made head octets ≡ false =
    ap (λ (b : Bool). (length octets == 11) && bytes_eq (take 9 (drop 1 octets)) head && (slice_index octets 10 == 0) && not b) open_mark
    ∙ not_half (length octets == 11) (bytes_eq (take 9 (drop 1 octets)) head) (slice_index octets 10 == 0) in
    ap (λ (b : Bool). b || (slice_index octets 0 == 0) || is_half_made head octets) short
    ∙ ap (λ (b : Bool). b || is_half_made head octets) zero_mark
    ∙ half

pub formatted_is : (head octets : List ℕ) → IsFormatted head octets → heading_of head octets ≡ heading.Formatted
unfolding heading_of
formatted_is head octets is =
    let same = bytes_eq (take 4 (drop 6 octets)) (drop 5 head) in
    let log : is_log head octets ≡ true =
    ap (λ (b : Bool). b && bytes_eq (take 5 (drop 1 octets)) (take 5 head)) (eq-eqb (slice_index octets 0) OPEN is.mark)
    ∙ (bytes_eq-Decides (take 5 (drop 1 octets)) (take 5 head)).1 is.name in
    let rest : same ≡ true = (bytes_eq-Decides (take 4 (drop 6 octets)) (drop 5 head)).1 is.rest in
    let given : Heading = heading.OtherHead (take 4 (drop 6 octets)) in
    ap (λ (b : Bool). cond b heading.Unformatted (cond (not (is_log head octets)) heading.NotALog (cond (not same) given heading.Formatted))) (unformatted_false head octets is.long is.mark)
    ∙ ap (λ (b : Bool). cond (not b) heading.NotALog (cond (not same) given heading.Formatted)) log
    ∙ ap (λ (b : Bool). cond (not b) given heading.Formatted) rest

-- a heading looks at the first ten octets and at whether any follow
pub formatted_like : (head octets other : List ℕ) → IsFormatted head octets → take 10 other ≡ take 10 octets → 11 ≤ length other → IsFormatted head other
formatted_like head octets other is same long = record {
  long = long;
  mark = sym (first other) ∙ ap (λ (l : List ℕ). slice_index l 0) same ∙ first octets ∙ is.mark;
  name = sym (drop-take 1 5 other) ∙ ap (drop 1) (six other octets same) ∙ drop-take 1 5 octets ∙ is.name;
  rest = sym (drop-take 6 4 other) ∙ ap (drop 6) same ∙ drop-take 6 4 octets ∙ is.rest;
}
  where
    first : (l : List ℕ) → slice_index (take 10 l) 0 ≡ slice_index l 0
    first [] = refl
    first (x ∷ l) = refl

    six : (l m : List ℕ) → take 10 l ≡ take 10 m → take 6 l ≡ take 6 m
    six l m e = sym (take-take 6 10 l (omega arith)) ∙ ap (take 6) e ∙ take-take 6 10 m (omega arith)

-- ---- a log that opens

walk_of_opened : (walk : Walk) (parts : List (List ℕ)) (behind : List ℕ) → reading_of_walk walk ≡ Opened parts behind → walk ≡ Ended parts behind
walk_of_opened (Ended found rest) parts behind e =
    let parts_are : found ≡ parts = cc in
    let rest_is : rest ≡ behind = cc in
    ap (λ (l : List (List ℕ)). Ended l rest) parts_are ∙ ap (Ended parts) rest_is
walk_of_opened (Broken found) parts behind e = absurd cc

parts_of_opened : (found : Heading) (walk : Walk) (parts : List (List ℕ)) (behind : List ℕ) → reading_with found walk ≡ Opened parts behind
    → (found ≡ heading.Formatted) × (walk ≡ Ended parts behind)
parts_of_opened heading.Unformatted walk parts behind e = absurd cc
parts_of_opened heading.NotALog walk parts behind e = absurd cc
parts_of_opened (heading.OtherHead rest) walk parts behind e = absurd cc
parts_of_opened heading.Formatted walk parts behind e = (refl, walk_of_opened walk parts behind e)

-- what is known of octets that open
pub opens_by : (head octets : List ℕ) (parts : List (List ℕ)) (behind : List ℕ) → parts_of head octets ≡ Opened parts behind
    → IsFormatted head octets × (walk_from 0 (drop 10 octets) ≡ Ended parts behind)
opens_by head octets parts behind e =
    let both = parts_of_opened (heading_of head octets) (walk_from 0 (drop 10 octets)) parts behind e in
    (is_formatted head octets both.0, both.1)

-- The octets of a log that opens are a front, a closed gate and what lies behind it. Another gate and rest behind that
-- front make a log that goes on from there.
pub record IsLog (head octets : List ℕ) (parts : List (List ℕ)) (behind : List ℕ) : Type 0 where
  pub front : List ℕ
  pub gate : ℕ
  pub is : octets ≡ front ++ gate ∷ behind
  pub closed : gate ≢ OPEN
  pub long : 10 ≤ length front
  pub again : (other : ℕ) (rest : List ℕ) → parts_of head (front ++ other ∷ rest) ≡ reading_of_walk (behind_parts parts (walk_from 0 (other ∷ rest)))

pub is_log_of : (head octets : List ℕ) (parts : List (List ℕ)) (behind : List ℕ) → parts_of head octets ≡ Opened parts behind → IsLog head octets parts behind
is_log_of head octets parts behind e =
    let both = parts_of_opened (heading_of head octets) (walk_from 0 (drop 10 octets)) parts behind e in
    let formatted = is_formatted head octets both.0 in
    let s = split (drop 10 octets) 0 parts behind both.1 in
    let ten = take 10 octets in
    let ten_long : length ten ≡ 10 = omega (arith, length-take 10 octets, formatted.long) in
    let whole : octets ≡ (ten ++ s.front) ++ s.gate ∷ behind =
    sym (take-append-drop 10 octets) ∙ ap (λ (l : List ℕ). ten ++ l) s.is ∙ sym (append_assoc ten s.front (s.gate ∷ behind)) in
    record {
      front = ten ++ s.front;
      gate = s.gate;
      is = whole;
      closed = s.closed;
      long = omega (arith, ten_long, length-append ten s.front);
      again = λ other rest.
          let tail = s.front ++ other ∷ rest in
          let next = ten ++ tail in
          let regrouped : (ten ++ s.front) ++ other ∷ rest ≡ next = append_assoc ten s.front (other ∷ rest) in
          let next_front : take 10 next ≡ take 10 octets = take_at ten tail 10 ten_long in
          let next_rest : drop 10 next ≡ tail = drop_at ten tail 10 ten_long in
          let next_long : 11 ≤ length next = omega (arith, ten_long, length-append ten tail, length-append s.front (other ∷ rest)) in
          ap (parts_of head) regrouped
          ∙ ap (λ (h : Heading). reading_with h (walk_from 0 (drop 10 next))) (formatted_is head next (formatted_like head octets next formatted next_front next_long))
          ∙ ap (λ (l : List ℕ). reading_of_walk (walk_from 0 l)) next_rest
          ∙ ap reading_of_walk (s.again other rest);
    }

-- another closed gate behind the same front, whatever lies behind it, opens to the same parts
pub closed_again : (head octets : List ℕ) (parts : List (List ℕ)) (behind : List ℕ) (log : IsLog head octets parts behind) (gate : ℕ) (rest : List ℕ)
    → gate ≢ OPEN → parts_of head (log.front ++ gate ∷ rest) ≡ Opened parts rest
closed_again head octets parts behind log gate rest closed =
    log.again gate rest
    ∙ ap (λ (w : Walk). reading_of_walk (behind_parts parts w)) (walk_closed gate rest closed)
    ∙ ap (λ (l : List (List ℕ)). Opened l rest) (append-nil parts)

-- a batch behind the same front, and a closed gate, opens to its parts too
pub batch_again : (head octets : List ℕ) (parts : List (List ℕ)) (behind : List ℕ) (log : IsLog head octets parts behind) (more : List (List ℕ)) (gate : ℕ) (rest : List ℕ)
    → 0 < length more → length (flat_map part_octets more) < 2 ^ 32 → gate ≢ OPEN
    → parts_of head (log.front ++ OPEN ∷ (batch_octets more ++ gate ∷ rest)) ≡ Opened (parts ++ more) rest
batch_again head octets parts behind log more gate rest has fits closed =
    log.again OPEN (batch_octets more ++ gate ∷ rest)
    ∙ ap (λ (w : Walk). reading_of_walk (behind_parts parts w))
    (walk-written more gate rest has fits ∙ ap (behind_parts more) (walk_closed gate rest closed) ∙ ap (λ (l : List (List ℕ)). Ended l rest) (append-nil more))

-- ---- a log with nothing behind its gate

module _ (head octets : List ℕ) (parts : List (List ℕ)) (opened : parts_of head octets ≡ Opened parts []) where
  abbrev the_log : IsLog head octets parts []
  the_log = is_log_of head octets parts [] opened

  front_is : front_of octets ≡ (the_log).front
  front_is =
      let n : length octets ≡ length (the_log).front + 1 = ap length (the_log).is ∙ omega (arith, length-append (the_log).front ((the_log).gate ∷ [])) in
      ap (λ (l : List ℕ). take (length octets - 1) l) (the_log).is
      ∙ take_at (the_log).front ((the_log).gate ∷ []) (length octets - 1) (omega (arith, n))

  -- it ends in a closed gate
  pub opened_ends : EndsClosed octets
  opened_ends = subst EndsClosed (sym (the_log).is) (ends_in (the_log).front (the_log).gate (the_log).closed)

  -- with a closed gate in the place of its own it is the same log
  pub opened_behind : (image : List ℕ) → IsClosedBehind (front_of octets) image → OpensTo head parts image
  opened_behind image before = (
    before.behind,
    ap (parts_of head) (before.is ∙ ap (λ (l : List ℕ). l ++ before.gate ∷ before.behind) front_is)
        ∙ closed_again head octets parts [] (the_log) before.gate before.behind before.closed,
  )

  module _ (more : List (List ℕ)) (has : 0 < length more) (fits : length (flat_map part_octets more) < 2 ^ 32) where
    -- a batch that is appended is read behind its parts
    pub appended : parts_of head (opened_with octets (batch_octets more ++ CLOSED ∷ [])) ≡ Opened (parts ++ more) []
    appended =
        ap (λ (l : List ℕ). parts_of head (l ++ OPEN ∷ (batch_octets more ++ CLOSED ∷ []))) front_is
        ∙ batch_again head octets parts [] (the_log) more CLOSED [] has fits (λ is. cc is)

    -- at each moment of an append it opens to its parts, or to them with the whole batch
    pub before_or_after : (image : List ℕ) → IsBeforeOrAfter octets (batch_octets more ++ CLOSED ∷ []) image → OpensTo head parts image ⊎ OpensTo head (parts ++ more) image
    before_or_after image (inl before) = inl (opened_behind image before)
    before_or_after image (inr after) = inr ([], ap (parts_of head) after ∙ appended)

-- ---- what is cut behind the gate

-- the gate and what stands before it
pub log_long : (head octets : List ℕ) (parts : List (List ℕ)) (behind : List ℕ) → parts_of head octets ≡ Opened parts behind → length behind + 11 ≤ length octets
log_long head octets parts behind opened =
    let log = is_log_of head octets parts behind opened in
    let long = ap length log.is ∙ length-append log.front (log.gate ∷ behind) in
    omega (arith, long, log.long)

module _ (head octets : List ℕ) (parts : List (List ℕ)) (behind : List ℕ) (opened : parts_of head octets ≡ Opened parts behind) (n : ℕ) (up_to : n + length behind ≡ length octets) where
  abbrev cut_log : IsLog head octets parts behind
  cut_log = is_log_of head octets parts behind opened

  front_long : n ≡ length (cut_log).front + 1
  front_long =
      let long = ap length (cut_log).is ∙ length-append (cut_log).front ((cut_log).gate ∷ behind) in
      omega (arith, long, up_to)

  -- at least the gate stays
  pub cut_again : (m : ℕ) → n ≤ m → parts_of head (take m octets) ≡ Opened parts (take (m - n) behind)
  cut_again m le =
      let log = cut_log in
      let up_to_gate : m ≡ length log.front + suc (m - n) = omega (arith, front_long, le) in
      let taken : take m octets ≡ log.front ++ log.gate ∷ take (m - n) behind =
      ap (take m) log.is ∙ ap (λ (k : ℕ). take k (log.front ++ log.gate ∷ behind)) up_to_gate ∙ take-append-add log.front (log.gate ∷ behind) (suc (m - n)) in
      ap (parts_of head) taken ∙ closed_again head octets parts behind log log.gate (take (m - n) behind) log.closed
