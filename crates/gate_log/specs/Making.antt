-- What stands at each moment while a log is made.
use Rattle.std.specs.Prelude.{◌≡◌, ◌≢◌, ◌⊎◌, ℕ, ◌+◌, ◌<◌, ◌≤◌, ◌==◌, ◌&&◌, ◌||◌, not, nat_lt, Bool, true, false, cond, List, [], ◌∷◌, ◌++◌, length, take, drop, slice_index, refl}
use Rattle.std.specs.Str.{bytes_eq}
use Rattle.std.proofs.Common.{inl, inr, get_or, sym, ◌∙◌, ap, subst, arith, length-append, length-drop}
use Rattle.std.proofs.lemmas.Bool.{lt-ltb, le-ltb, eqb-true, eq-eqb, ne_eqb, cases_eq, cases_lt}
use Rattle.std.proofs.lemmas.List.{take_at, drop_at, take-append-le, drop-append-le, get_or-append-add, get_or-drop, take_more, take_all, take-take}
use Rattle.std.proofs.lemmas.Slice.Eq.{bytes_eq-Decides}
use Rattle.disk_model.specs.Disk.{Torn, Cut}
use Rattle.gate_log.specs.declared.headings.Heading.{Heading}
use Rattle.gate_log.specs.declared.headings.Heading.TheVariants as heading
use Rattle.gate_log.specs.Log.{OPEN, CLOSED}
use Rattle.gate_log.specs.Reading.{is_half_made, is_unformatted, is_log, heading_of, Walk, walk_from, reading_of_walk, reading_with, parts_of, OpensTo}
use Rattle.gate_log.specs.Reading.Reading.{Unformatted, Opened}
use Rattle.gate_log.specs.Reading.Walk.{Ended, Broken}
use Rattle.gate_log.specs.Laws.{split_at}
use Rattle.gate_log.specs.Readings.{IsFormatted, formatted_is}
use Rattle.gate_log.specs.Walks.{walk_closed}

-- no log is made yet, or one without parts
abbrev pub IsNew : List ℕ → List ℕ → Type 0
IsNew head octets = (parts_of head octets ≡ Unformatted) ⊎ OpensTo head [] octets

reading_unformatted : (head octets : List ℕ) → is_unformatted head octets ≡ true → parts_of head octets ≡ Unformatted
unfolding heading_of
reading_unformatted head octets test =
    let rest : Heading = cond (not (is_log head octets)) heading.NotALog (cond (not (bytes_eq (take 4 (drop 6 octets)) (drop 5 head))) (heading.OtherHead (take 4 (drop 6 octets))) heading.Formatted) in
    ap (λ (b : Bool). reading_with (cond b heading.Unformatted rest) (walk_from 0 (drop 10 octets))) test

or_true_mid : (a c : Bool) → (a || true || c) ≡ true
or_true_mid true c = refl
or_true_mid false c = refl

or_true_last : (a b : Bool) → (a || b || true) ≡ true
or_true_last true b = refl
or_true_last false true = refl
or_true_last false false = refl

-- fewer octets than a log has
pub short_unformatted : (head octets : List ℕ) → length octets < 11 → parts_of head octets ≡ Unformatted
short_unformatted head octets short =
    reading_unformatted head octets (ap (λ (b : Bool). b || (slice_index octets 0 == 0) || is_half_made head octets) (lt-ltb (length octets) 11 short))

-- a mark of 0
pub marked_unformatted : (head octets : List ℕ) → slice_index octets 0 ≡ 0 → parts_of head octets ≡ Unformatted
marked_unformatted head octets mark =
    reading_unformatted head octets (ap (λ (b : Bool). nat_lt (length octets) 11 || b || is_half_made head octets) (eq-eqb (slice_index octets 0) 0 mark)
    ∙ or_true_mid (nat_lt (length octets) 11) (is_half_made head octets))

pub half_unformatted : (head octets : List ℕ) → is_half_made head octets ≡ true → parts_of head octets ≡ Unformatted
half_unformatted head octets half =
    reading_unformatted head octets (ap (λ (b : Bool). nat_lt (length octets) 11 || (slice_index octets 0 == 0) || b) half
    ∙ or_true_last (nat_lt (length octets) 11) (slice_index octets 0 == 0))

all_four : (a b c d : Bool) → a ≡ true → b ≡ true → c ≡ true → d ≡ false → (a && b && c && not d) ≡ true
all_four a b c d e f g h = rw (e, f, g, h) refl

module _ (head : List ℕ) (nine : length head ≡ 9) where
  -- all of a log without batches but its mark
  abbrev pub behind_mark : List ℕ
  behind_mark = head ++ CLOSED ∷ []

  eleven : (mark : ℕ) → length (mark ∷ behind_mark) ≡ 11
  eleven mark = omega (arith, nine, length-append head (CLOSED ∷ []))

  rest_long : length (drop 5 head) ≡ 4
  rest_long = omega (arith, nine, length-drop 5 head)

  rest_is : take 4 (drop 5 behind_mark) ≡ drop 5 head
  rest_is = ap (take 4) (drop-append-le 5 head (CLOSED ∷ []) (omega (arith, nine))) ∙ take_at (drop 5 head) (CLOSED ∷ []) 4 rest_long

  made : (mark : ℕ) → mark ≡ OPEN → parts_of head (mark ∷ behind_mark) ≡ Opened [] []
  made mark is =
      let formatted : IsFormatted head (mark ∷ behind_mark) = record {
        long = omega (arith, eleven mark);
        mark = is;
        name = take-append-le 5 head (CLOSED ∷ []) (omega (arith, nine));
        rest = rest_is;
      } in
      ap (λ (h : Heading). reading_with h (walk_from 0 (drop 9 behind_mark))) (formatted_is head (mark ∷ behind_mark) formatted)
      ∙ ap (λ (l : List ℕ). reading_of_walk (walk_from 0 l)) (drop_at head (CLOSED ∷ []) 9 nine)
      ∙ ap reading_of_walk (walk_closed CLOSED [] (λ is. cc is))

  half_made : (mark : ℕ) → mark ≢ OPEN → is_half_made head (mark ∷ behind_mark) ≡ true
  half_made mark closed =
      let long : (length (mark ∷ behind_mark) == 11) ≡ true = eq-eqb (length (mark ∷ behind_mark)) 11 (eleven mark) in
      let same : bytes_eq (take 9 behind_mark) head ≡ true = (bytes_eq-Decides (take 9 behind_mark) head).1 (take_at head (CLOSED ∷ []) 9 nine) in
      let gate : slice_index behind_mark 9 ≡ CLOSED =
      let place : 9 ≡ length head + 0 = omega (arith, nine) in
      ap (λ (k : ℕ). slice_index behind_mark k) place ∙ get_or-append-add head (CLOSED ∷ []) 0 0 in
      all_four (length (mark ∷ behind_mark) == 11) (bytes_eq (take 9 behind_mark) head) (slice_index behind_mark 9 == 0) (mark == OPEN)
      long same (eq-eqb (slice_index behind_mark 9) 0 gate) (ne_eqb mark OPEN closed)

  -- whatever the mark is, no log is made yet, or one without parts
  pub new_behind_mark : (mark : ℕ) → IsNew head (mark ∷ behind_mark)
  new_behind_mark mark = at (cases_eq mark OPEN)
    where
      at : (mark ≡ OPEN) ⊎ (mark ≢ OPEN) → IsNew head (mark ∷ behind_mark)
      at (inl is) = inr ([], made mark is)
      at (inr closed) = inl (half_unformatted head (mark ∷ behind_mark) (half_made mark closed))

  -- ---- octets of which no log is made

  four_true : (a b c d : Bool) → (a && b && c && d) ≡ true → (a ≡ true) × (b ≡ true) × (c ≡ true)
  four_true true true true d e = (refl, refl, refl)
  four_true true true false d e = absurd cc
  four_true true false c d e = absurd cc
  four_true false b c d e = absurd cc

  -- a log of which only the mark isn't written
  behind_half : (octets : List ℕ) → is_half_made head octets ≡ true → (length octets ≡ 11) × (drop 1 octets ≡ behind_mark)
  behind_half octets half =
      let t = four_true (length octets == 11) (bytes_eq (take 9 (drop 1 octets)) head) (slice_index octets 10 == 0) (not (slice_index octets 0 == OPEN)) half in
      let long : length octets ≡ 11 = eqb-true (length octets) 11 t.0 in
      let rest = drop 1 octets in
      let rest_long : length rest ≡ 10 = omega (arith, long, length-drop 1 octets) in
      let head_is : take 9 rest ≡ head = (bytes_eq-Decides (take 9 rest) head).0 t.1 in
      let gate : get_or rest 9 0 ≡ CLOSED = get_or-drop 1 octets 9 0 ∙ eqb-true (slice_index octets 10) 0 t.2 in (
        long,
        sym (take_all 10 rest (omega (arith, rest_long))) ∙ take_more rest 9 0 (omega (arith, rest_long))
            ∙ ap (λ (l : List ℕ). l ++ get_or rest 9 0 ∷ []) head_is ∙ ap (λ (g : ℕ). head ++ g ∷ []) gate,
      )

  third_true : (a b c : Bool) → a ≡ false → b ≡ false → (a || b || c) ≡ true → c ≡ true
  third_true a b c e f g = rw (e, f) at g

  heading_unformatted : (octets rest : List ℕ) (unformatted log same : Bool) (walk : Walk)
      → reading_with (cond unformatted heading.Unformatted (cond (not log) heading.NotALog (cond (not same) (heading.OtherHead rest) heading.Formatted))) walk ≡ Unformatted
      → unformatted ≡ true
  heading_unformatted octets rest true log same walk e = refl
  heading_unformatted octets rest false false same walk e = absurd cc
  heading_unformatted octets rest false true false walk e = absurd cc
  heading_unformatted octets rest false true true (Ended parts behind) e = absurd cc
  heading_unformatted octets rest false true true (Broken parts) e = absurd cc

  is_unformatted_of : (octets : List ℕ) → parts_of head octets ≡ Unformatted → is_unformatted head octets ≡ true
  unfolding heading_of
  is_unformatted_of octets e =
      heading_unformatted octets (take 4 (drop 6 octets)) (is_unformatted head octets) (is_log head octets) (bytes_eq (take 4 (drop 6 octets)) (drop 5 head)) (walk_from 0 (drop 10 octets)) e

  -- the mark of what isn't made is written as 0: at each moment no log is made, or one without parts
  pub torn_mark : (octets image : List ℕ) → parts_of head octets ≡ Unformatted → (0 < length octets → slice_index octets 0 ≢ 0) → Torn 0 1 octets image → IsNew head image
  torn_mark octets image unformatted mark torn = at (cases_lt (length octets) 11)
    where
      at : (length octets < 11) ⊎ (11 ≤ length octets) → IsNew head image
      at (inl short) = inl (short_unformatted head image (omega (arith, torn.no_longer, short)))
      at (inr long) =
          let half : is_half_made head octets ≡ true =
          third_true (nat_lt (length octets) 11) (slice_index octets 0 == 0) (is_half_made head octets) (le-ltb (length octets) 11 long)
          (ne_eqb (slice_index octets 0) 0 (mark (omega (arith, long)))) (is_unformatted_of octets unformatted) in
          let is = behind_half octets half in
          let first : image ≡ get_or image 0 0 ∷ drop 1 image = split_at image 0 (omega (arith, torn.no_shorter, long)) in
          subst (IsNew head) (sym (first ∙ ap (λ (l : List ℕ). get_or image 0 0 ∷ l) (torn.after ∙ is.1))) (new_behind_mark (get_or image 0 0))

  -- the mark of a log without batches is written as A5
  pub torn_last : (mark : ℕ) (image : List ℕ) → Torn 0 1 (mark ∷ behind_mark) image → IsNew head image
  torn_last mark image torn =
      let first : image ≡ get_or image 0 0 ∷ drop 1 image = split_at image 0 (omega (arith, torn.no_shorter)) in
      subst (IsNew head) (sym (first ∙ ap (λ (l : List ℕ). get_or image 0 0 ∷ l) torn.after)) (new_behind_mark (get_or image 0 0))

-- octets with a mark of 0
pub record IsMarked (octets : List ℕ) : Type 0 where
  pub filled : 1 ≤ length octets
  pub mark : slice_index octets 0 ≡ 0

take_one : (octets : List ℕ) → slice_index (take 1 octets) 0 ≡ slice_index octets 0
take_one [] = refl
take_one (x ∷ octets) = refl

-- the mark stays where octets are cut behind it
pub cut_marked : (octets image : List ℕ) → IsMarked octets → Cut 1 octets image → IsMarked image
cut_marked octets image marked cut =
    let filled : 1 ≤ length image = omega (arith, cut.no_shorter, marked.filled) in
    record {
      filled = filled;
      mark = sym (take_one image)
          ∙ ap (λ (l : List ℕ). slice_index l 0) (ap (take 1) cut.front ∙ take-take 1 (length image) octets filled)
          ∙ take_one octets ∙ marked.mark;
    }

-- and where octets are written behind it
pub torn_marked : (n : ℕ) (octets image : List ℕ) → IsMarked octets → Torn 1 n octets image → IsMarked image
torn_marked n octets image marked torn = record {
  filled = omega (arith, torn.no_shorter, marked.filled);
  mark = sym (take_one image) ∙ ap (λ (l : List ℕ). slice_index l 0) torn.before ∙ take_one octets ∙ marked.mark;
}

pub cut_to_mark : (octets : List ℕ) → IsMarked octets → take 1 octets ≡ 0 ∷ []
cut_to_mark [] marked = absurd (omega (arith, marked.filled))
cut_to_mark (x ∷ octets) marked = ap (λ (m : ℕ). m ∷ []) marked.mark
