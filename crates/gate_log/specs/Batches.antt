-- A batch that is put together, and how it is kept.
use Rattle.std.specs.Prelude.{◌≡◌, ℕ, ◌+◌, ◌-◌, ◌*◌, ◌^◌, ◌<◌, ◌≤◌, unwrap_or, List, [], ◌∷◌, ◌++◌, length, drop, refl}
use Rattle.std.specs.List.{flat_map, sum_by}
use Rattle.std.proofs.Math.ListN.{set}
use Rattle.std.proofs.Common.{sym, ◌∙◌, ap, arith, length-append}
use Rattle.std.proofs.lemmas.List.{take_at, drop_at, append-nil}
use Rattle.std.proofs.lemmas.List.Concat.{length-flat_map}
use Rattle.std.proofs.lemmas.List.Sums.{sum_by-cons, sum_by-append}
use Rattle.std.proofs.lemmas.Grind.{flat_map-append}
use Rattle.gate_log.specs.Log.{CLOSED, four, part_octets, batch_octets}
use Rattle.gate_log.specs.Append.{front_of, EndsClosed}
use Rattle.gate_log.specs.Reading.{parts_from}
use Rattle.gate_log.specs.Measures.{length-four, parts-written}
use Rattle.gate_log.specs.Laws.{ends_in}
use Rattle.gate_log.specs.Opening.{need_of}

-- the parts, and how many more have room, and how many octets in them
pub record BatchState : Type 0 where
  pub parts : List (List ℕ)
  pub parts_room : ℕ
  pub octets_room : ℕ

-- the greatest number of parts in a batch, and of octets in them
abbrev pub MOST_PARTS : ℕ
MOST_PARTS = 16

abbrev pub MOST_OCTETS : ℕ
MOST_OCTETS = 131072

-- the octets in all parts
abbrev pub octets_in : List (List ℕ) → ℕ
octets_in parts = sum_by (λ part. length part) parts

-- a batch as it is written, with the closed gate behind it
abbrev pub framed : List (List ℕ) → List ℕ
framed parts = batch_octets parts ++ CLOSED ∷ []

-- the parts behind the length of a batch
abbrev pub body_framed : List ℕ → List ℕ
body_framed octets = drop 4 (front_of octets)

-- the parts of a batch as it is written
abbrev pub parts_framed : List ℕ → List (List ℕ)
parts_framed octets = unwrap_or (parts_from 0 (body_framed octets)) []

-- a batch as it is written, from its body
abbrev pub frame : List ℕ → List ℕ
frame body = (four (length body) ++ body) ++ CLOSED ∷ []

-- a batch as it is written with a part more
abbrev pub with_part : List ℕ → List ℕ → List ℕ
with_part octets part = frame (body_framed octets ++ part_octets part)

-- how the octets of a batch are kept: there is room for all that may still be put in
pub record IsKept (octets : List ℕ) (capacity held parts_room octets_room : ℕ) : Type 0 where
  pub framed_is : octets ≡ framed (parts_framed octets)
  pub held_is : held ≡ length (parts_framed octets)
  pub long : length octets ≡ 5 + 4 * held + octets_in (parts_framed octets)
  pub few : held + parts_room ≤ MOST_PARTS
  pub short : octets_in (parts_framed octets) + octets_room ≤ MOST_OCTETS
  pub fits : length octets + 4 * parts_room + octets_room ≤ capacity

-- ---- laws

sum_of_parts : (parts : List (List ℕ)) → sum_by (λ part. length (part_octets part)) parts ≡ 4 * length parts + octets_in parts
sum_of_parts [] = refl
sum_of_parts (part ∷ parts) = omega (arith, sum_of_parts parts, sum_by-cons (λ part. length (part_octets part)) part parts, sum_by-cons (λ part. length part) part parts, length-append (four (length part)) part, length-four (length part))

pub length-body : (parts : List (List ℕ)) → length (flat_map part_octets parts) ≡ 4 * length parts + octets_in parts
length-body parts = length-flat_map part_octets parts ∙ sum_of_parts parts

pub length-framed : (parts : List (List ℕ)) → length (framed parts) ≡ 5 + 4 * length parts + octets_in parts
length-framed parts =
    let body = flat_map part_octets parts in
    omega (arith, length-body parts, length-append (batch_octets parts) (CLOSED ∷ []), length-append (four (length body)) body, length-four (length body))

pub body_framed-framed : (parts : List (List ℕ)) → body_framed (framed parts) ≡ flat_map part_octets parts
body_framed-framed parts =
    let body = flat_map part_octets parts in
    let whole = length-append (batch_octets parts) (CLOSED ∷ []) in
    ap (drop 4) (take_at (batch_octets parts) (CLOSED ∷ []) (length (framed parts) - 1) (omega (arith, whole)))
    ∙ drop_at (four (length body)) body 4 (length-four (length body))

-- a batch that is written has these parts
pub parts_framed-framed : (parts : List (List ℕ)) → length (flat_map part_octets parts) < 2 ^ 32 → parts_framed (framed parts) ≡ parts
parts_framed-framed parts fits =
    ap (λ (body : List ℕ). unwrap_or (parts_from 0 body) []) (body_framed-framed parts)
    ∙ ap (λ found. unwrap_or found []) (parts-written parts fits)

-- one part more
pub with_part-framed : (octets : List ℕ) (parts : List (List ℕ)) (part : List ℕ) → octets ≡ framed parts → with_part octets part ≡ framed (parts ++ part ∷ [])
with_part-framed octets parts part is =
    let more : flat_map part_octets parts ++ part_octets part ≡ flat_map part_octets (parts ++ part ∷ []) =
    sym (flat_map-append part_octets parts (part ∷ []) ∙ ap (λ (l : List ℕ). flat_map part_octets parts ++ l) (append-nil (part_octets part))) in
    ap (λ (o : List ℕ). with_part o part) is ∙ ap (λ (b : List ℕ). frame (b ++ part_octets part)) (body_framed-framed parts) ∙ ap frame more

pub octets_in-push : (parts : List (List ℕ)) (part : List ℕ) → octets_in (parts ++ part ∷ []) ≡ octets_in parts + length part
octets_in-push parts part =
    omega (arith, sum_by-append (λ (p : List ℕ). length p) parts (part ∷ []), sum_by-cons (λ (p : List ℕ). length p) part [])

pub framed_ends : (parts : List (List ℕ)) → EndsClosed (framed parts)
framed_ends parts = ends_in (batch_octets parts) CLOSED (λ is. cc is)

-- the octets that a batch needs
pub need-framed : (parts : List (List ℕ)) → 5 + sum_by (λ part. 4 + length part) parts ≡ 5 + 4 * length parts + octets_in parts
need-framed [] = refl
need-framed (part ∷ parts) = omega (arith, need-framed parts, sum_by-cons (λ (p : List ℕ). 4 + length p) part parts, sum_by-cons (λ (p : List ℕ). length p) part parts)

pub framed-need : (parts : List (List ℕ)) → length (framed parts) ≡ need_of parts
framed-need parts = length-framed parts ∙ sym (need-framed parts)

-- ---- what the calls of a batch keep

-- more room than is needed
pub kept_more : (octets : List ℕ) (capacity more held parts_room octets_room : ℕ) → IsKept octets capacity held parts_room octets_room → capacity ≤ more → IsKept octets more held parts_room octets_room
kept_more octets capacity more held parts_room octets_room kept le = record { framed_is = kept.framed_is; held_is = kept.held_is; long = kept.long; few = kept.few; short = kept.short; fits = omega (arith, kept.fits, le) }

-- four octets written over the first four
pub set_four : (octets : List ℕ) (a b c d : ℕ) → 4 ≤ length octets → set (set (set (set octets 0 a) 1 b) 2 c) 3 d ≡ a ∷ b ∷ c ∷ d ∷ drop 4 octets
set_four [] a b c d long = absurd (omega arith)
set_four (w ∷ []) a b c d long = absurd (omega arith)
set_four (w ∷ x ∷ []) a b c d long = absurd (omega arith)
set_four (w ∷ x ∷ y ∷ []) a b c d long = absurd (omega arith)
set_four (w ∷ x ∷ y ∷ z ∷ octets) a b c d long = refl

pub kept_empty : (octets : List ℕ) (capacity parts_room octets_room : ℕ) → octets ≡ framed [] → parts_room ≤ MOST_PARTS → octets_room ≤ MOST_OCTETS
    → 5 + 4 * parts_room + octets_room ≤ capacity → IsKept octets capacity 0 parts_room octets_room
kept_empty octets capacity parts_room octets_room is few short fits =
    let none : parts_framed octets ≡ [] = ap parts_framed is ∙ parts_framed-framed [] (omega arith) in
    let long : length octets ≡ 5 = ap length is ∙ length-framed [] in
    let sum : octets_in (parts_framed octets) ≡ 0 = ap octets_in none in
    record {
      framed_is = is ∙ ap framed (sym none);
      held_is = sym (ap length none);
      long = omega (arith, long, sum);
      few = omega (arith, few);
      short = omega (arith, short, sum);
      fits = omega (arith, long, fits);
    }

pub kept_put : (octets new part : List ℕ) (capacity held parts_room octets_room : ℕ) → IsKept octets capacity held parts_room octets_room → 1 ≤ parts_room → length part ≤ octets_room
    → new ≡ with_part octets part
    → IsKept new capacity (held + 1) (parts_room - 1) (octets_room - length part) × (parts_framed new ≡ parts_framed octets ++ part ∷ [])
kept_put octets new part capacity held parts_room octets_room kept some room is =
    let parts = parts_framed octets in
    let more = parts ++ part ∷ [] in
    let sum : octets_in more ≡ octets_in parts + length part = octets_in-push parts part in
    let number : length more ≡ length parts + 1 = length-append parts (part ∷ []) in
    let written : new ≡ framed more = is ∙ with_part-framed octets parts part kept.framed_is in
    let small : length (flat_map part_octets more) < 2 ^ 32 = omega (arith, length-body more, sum, number, kept.held_is, kept.few, kept.short, room) in
    let parts_are : parts_framed new ≡ more = ap parts_framed written ∙ parts_framed-framed more small in
    let long : length new ≡ 5 + 4 * length more + octets_in more = ap length written ∙ length-framed more in
    let same_sum : octets_in (parts_framed new) ≡ octets_in more = ap octets_in parts_are in (
      record {
        framed_is = written ∙ ap framed (sym parts_are);
        held_is = omega (arith, ap length parts_are, number, kept.held_is);
        long = omega (arith, long, number, kept.held_is, same_sum);
        few = omega (arith, kept.few, some);
        short = omega (arith, same_sum, sum, kept.short, room);
        fits = omega (arith, long, number, sum, kept.held_is, kept.long, kept.fits, some, room);
      },
      parts_are,
    )

-- the body of a batch is short enough for its length
pub kept_small : (octets : List ℕ) (capacity held parts_room octets_room : ℕ) → IsKept octets capacity held parts_room octets_room → length (flat_map part_octets (parts_framed octets)) < 2 ^ 32
kept_small octets capacity held parts_room octets_room kept = omega (arith, length-body (parts_framed octets), kept.held_is, kept.few, kept.short)

-- two states with the same fields
pub same_state : (one other : List (List ℕ)) (a b c d : ℕ) → one ≡ other → a ≡ b → c ≡ d
    → ◌≡◌ {A = BatchState} (record { parts = one; parts_room = a; octets_room = c }) (record { parts = other; parts_room = b; octets_room = d })
same_state one other a b c d p e f = rw (p, e, f) refl

-- the parts of an empty batch
pub none_framed : (octets : List ℕ) → octets ≡ framed [] → parts_framed octets ≡ []
none_framed octets is = ap parts_framed is ∙ parts_framed-framed [] (omega arith)

-- an empty batch is five zeros
pub framed-none : framed [] ≡ 0 ∷ 0 ∷ 0 ∷ 0 ∷ 0 ∷ []
unfolding four
framed-none = refl
