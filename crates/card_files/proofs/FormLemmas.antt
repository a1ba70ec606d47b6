-- A command on one file keeps its kind, its size and its form.
use Rattle.std.proofs.Common.{◌≡◌, ℕ, zero, suc, ◌+◌, ◌-◌, ◌*◌, ◌%◌, ◌^◌, ◌<◌, ◌≤◌, Bool, true, false, not, ◌==◌, ◌&&◌, nat_lt, nat_le, if◌then◌else◌, List, [], ◌∷◌, ◌++◌, length, take, drop, set, get_or, Option, Some, None, ok_or, Result, Ok, Err, refl, sym, ap, subst, ◌∙◌, arith, length-append, length-drop, length-take, length-set}
use Rattle.std.proofs.lemmas.Bool.{leb-true}
use Rattle.std.proofs.lemmas.Bool.Decides.{nat_tests}
use Rattle.std.proofs.lemmas.List.Elements.{All-cons, All-take, All-set}
use Rattle.apdu_codec.specs.declared.refusal.Refusal.{Refusal}
use Rattle.apdu_codec.specs.declared.refusal.Refusal.TheVariants.{WrongLength, WrongKind, RecordNotFound, NotRemote, ConditionsNotMet, WrongOffset, GreatestReached}
use Rattle.apdu_codec.specs.Refusal.{◌>>=◌, ◌>>◌, only_if}
use Rattle.file_records.specs.declared.contents.Contents.{Contents}
use Rattle.file_records.specs.declared.contents.Contents.TheVariants.{Folder, Transparent, Linear, Cyclic}
use Rattle.file_records.specs.declared.file.File.{File}
use Rattle.file_records.specs.File.{is_folder, size_of, is_number_in, with_first, binary_written, record_written, record_pushed, increased, marked}
use Rattle.file_records.specs.Binary.{overwritten}
use Rattle.file_records.specs.Numbers.{octets_with, number_of, sum_in}
use Rattle.file_records.specs.Rows.{Rows}
use Rattle.card_files.specs.Sound.{AreRecords, HasForm}

pub record IsKept (before after : File) : Type 0 where
  pub kind : is_folder after ≡ is_folder before
  pub size : size_of after ≡ size_of before
  pub form : HasForm before.contents → HasForm after.contents

value_or : {A : Type 0} → A → Result A Refusal → A
value_or x (Ok y) = y
value_or x (Err refusal) = x

same-ok : {A : Type 0} (x y : A) → ◌≡◌ {A = Result A Refusal} (Ok x) (Ok y) → x ≡ y
unfolding value_or
same-ok {A = A} x y e = ap (value_or {A = A} x) e

-- behind one test
kept-if : (b : Bool) (refusal : Refusal) (before made after : File) → (b ≡ true → IsKept before made) → (only_if b refusal >> Ok made) ≡ Ok after → IsKept before after
kept-if true refusal before made after h e = subst (IsKept before) (same-ok made after e) (h refl)
kept-if false refusal before made after h e = cc

-- behind two
kept-if_both : (a b : Bool) (first second : Refusal) (before made after : File) → (b ≡ true → IsKept before made) → (only_if a first >> (only_if b second >> Ok made)) ≡ Ok after → IsKept before after
kept-if_both true b first second before made after h e = kept-if b second before made after h e
kept-if_both false b first second before made after h e = cc

length-overwritten : (octets new : List ℕ) (offset : ℕ) → offset + length new ≤ length octets → length (overwritten octets offset new) ≡ length octets
length-overwritten octets new offset h =
    length-append (take offset octets) (new ++ drop (offset + length new) octets)
    ∙ ap (λ n. length (take offset octets) + n) (length-append new (drop (offset + length new) octets))
    ∙ (let a = length-take offset octets in
    let b = length-drop (offset + length new) octets in
    omega (arith, a, b, h))

binary-in : (remote active : Bool) (contents : Contents) (after : File) (offset : ℕ) (new : List ℕ)
    → binary_written (record { remote = remote; active = active; contents = contents }) offset new ≡ Ok after → IsKept (record { remote = remote; active = active; contents = contents }) after
binary-in true true (Transparent octets) after offset new e =
    kept-if (nat_le (offset + length new) (length octets)) WrongOffset (record { remote = true; active = true; contents = Transparent octets }) (record { remote = true; active = true; contents = Transparent (overwritten octets offset new) }) after
    (λ fits.
    let long = length-overwritten octets new offset (leb-true (offset + length new) (length octets) fits) in
    record { kind = refl; size = long; form = λ some. subst (λ n. 0 < n) (sym long) some }) e
binary-in true false (Transparent octets) after offset new e = cc
binary-in false active (Transparent octets) after offset new e = cc
binary-in remote active Folder after offset new e = cc
binary-in remote active (Linear records) after offset new e = cc
binary-in remote active (Cyclic records) after offset new e = cc

pub binary-kept : (offset : ℕ) (new : List ℕ) (before after : File) → binary_written before offset new ≡ Ok after → IsKept before after
binary-kept offset new before after e = binary-in before.remote before.active before.contents after offset new e

set-rows : (records : Rows) (at : ℕ) (new : List ℕ) → length new ≡ records.width → AreRecords records → AreRecords (record records { rows = set records.rows at new })
set-rows records at new long h =
    let count : length (set records.rows at new) ≡ length records.rows = length-set records.rows at new in
    record {
      octets = h.octets;
      short = h.short;
      some = subst (λ n. 0 < n) (sym count) h.some;
      few = subst (λ n. n ≤ 254) (sym count) h.few;
      alike = All-set (λ (row : List ℕ). length row ≡ records.width) records.rows at new long h.alike;
    }

linear-in : (remote active : Bool) (contents : Contents) (after : File) (number : ℕ) (new : List ℕ)
    → record_written (record { remote = remote; active = active; contents = contents }) number new ≡ Ok after → IsKept (record { remote = remote; active = active; contents = contents }) after
linear-in true true (Linear records) after number new e =
    kept-if_both (is_number_in records.rows number) (length new == records.width) RecordNotFound WrongLength (record { remote = true; active = true; contents = Linear records }) (record { remote = true; active = true; contents = Linear (record records { rows = set records.rows (number - 1) new }) }) after
    (λ long. record {
      kind = refl;
      size = ap (λ n. records.width * n) (length-set records.rows (number - 1) new);
      form = set-rows records (number - 1) new (grind (arith, nat_tests));
    }) e
linear-in true false (Linear records) after number new e = cc
linear-in false active (Linear records) after number new e = cc
linear-in remote active Folder after number new e = cc
linear-in remote active (Transparent octets) after number new e = cc
linear-in remote active (Cyclic records) after number new e = cc

pub record-kept : (number : ℕ) (new : List ℕ) (before after : File) → record_written before number new ≡ Ok after → IsKept before after
record-kept number new before after e = linear-in before.remote before.active before.contents after number new e

as-many : (records : Rows) (new : List ℕ) → length (with_first records new).rows ≡ length records.rows
as-many records new = length-take (length records.rows) (new ∷ records.rows) ∙ omega arith

pushed-rows : (records : Rows) (new : List ℕ) → length new ≡ records.width → AreRecords records → AreRecords (with_first records new)
pushed-rows records new long h =
    let count : length (with_first records new).rows ≡ length records.rows = as-many records new in
    record {
      octets = h.octets;
      short = h.short;
      some = subst (λ n. 0 < n) (sym count) h.some;
      few = subst (λ n. n ≤ 254) (sym count) h.few;
      alike = All-take (λ (row : List ℕ). length row ≡ records.width) (length records.rows) (new ∷ records.rows) (All-cons (λ (row : List ℕ). length row ≡ records.width) new records.rows long h.alike);
    }

cyclic-in : (remote active : Bool) (contents : Contents) (after : File) (new : List ℕ)
    → record_pushed (record { remote = remote; active = active; contents = contents }) new ≡ Ok after → IsKept (record { remote = remote; active = active; contents = contents }) after
cyclic-in true true (Cyclic records) after new e =
    kept-if (length new == records.width) WrongLength (record { remote = true; active = true; contents = Cyclic records }) (record { remote = true; active = true; contents = Cyclic (with_first records new) }) after
    (λ long. record {
      kind = refl;
      size = ap (λ n. records.width * n) (as-many records new);
      form = pushed-rows records new (grind (arith, nat_tests));
    }) e
cyclic-in true false (Cyclic records) after new e = cc
cyclic-in false active (Cyclic records) after new e = cc
cyclic-in remote active Folder after new e = cc
cyclic-in remote active (Transparent octets) after new e = cc
cyclic-in remote active (Linear records) after new e = cc

pub pushed-kept : (new : List ℕ) (before after : File) → record_pushed before new ≡ Ok after → IsKept before after
pushed-kept new before after e = cyclic-in before.remote before.active before.contents after new e

length-octets_with : (count number : ℕ) → length (octets_with count number) ≡ count
length-octets_with zero number = refl
length-octets_with (suc count) number = ap suc (length-octets_with count (number % 256 ^ count))

summed : (row : List ℕ) (by : ℕ) (new : List ℕ) → sum_in row by ≡ Some new → length new ≡ length row
summed row by new e =
    elim (nat_lt (number_of row + by) (256 ^ length row)) as (λ b. (if b then Some (octets_with (length row) (number_of row + by)) else None) ≡ Some new → length new ≡ length row) [
      | true ↦ λ is. ap (λ (o : Option (List ℕ)). elim o as (λ _. ℕ) [ Some x ↦ length x | None ↦ 0 ]) (sym is) ∙ length-octets_with (length row) (number_of row + by)
      | false ↦ λ is. cc
    ] e

same-pair : (x y : File) (a b : List ℕ) → ◌≡◌ {A = Result (File × List ℕ) Refusal} (Ok (x, a)) (Ok (y, b)) → x ≡ y
same-pair x y a b e =
    let p : File × List ℕ = (x, a) in
    let q : File × List ℕ = (y, b) in
    ap (λ (p : File × List ℕ). p.0) (same-ok p q e)

-- the file and what it gives, once the sum is known
given : Bool → Bool → Rows → Option (List ℕ) → Result (File × List ℕ) Refusal
given remote active records sum = do
  row ← ok_or sum GreatestReached
  Ok (record { remote = remote; active = active; contents = Cyclic (with_first records row) }, row)

given-kept : (remote active : Bool) (records : Rows) (by : ℕ) (sum : Option (List ℕ)) (after : File) (out : List ℕ) → sum ≡ sum_in (get_or records.rows 0 []) by → given remote active records sum ≡ Ok (after, out)
    → IsKept (record { remote = remote; active = active; contents = Cyclic records }) after
unfolding given
given-kept remote active records by (Some row) after out is e =
    let made : File = record { remote = remote; active = active; contents = Cyclic (with_first records row) } in
    let before : File = record { remote = remote; active = active; contents = Cyclic records } in
    let kept : IsKept before made = record {
      kind = refl;
      size = ap (λ n. records.width * n) (as-many records row);
      form = λ h. pushed-rows records row (summed (get_or records.rows 0 []) by row (sym is) ∙ h.alike 0 [] h.some) h;
    } in
    subst (IsKept before) (same-pair made after row out e) kept
given-kept remote active records by None after out is e = cc

-- only where the records may be increased, and used
counted-kept : (b remote active : Bool) (records : Rows) (by : ℕ) (after : File) (out : List ℕ)
    → ((only_if b WrongKind >> (only_if remote NotRemote >> only_if active ConditionsNotMet >> Ok records)) >>= (λ found. given remote active found (sum_in (get_or found.rows 0 []) by))) ≡ Ok (after, out)
    → IsKept (record { remote = remote; active = active; contents = Cyclic records }) after
counted-kept true true true records by after out e = given-kept true true records by (sum_in (get_or records.rows 0 []) by) after out refl e
counted-kept true true false records by after out e = cc
counted-kept true false active records by after out e = cc
counted-kept false remote active records by after out e = cc

counter-in : (remote active : Bool) (contents : Contents) (after : File) (out : List ℕ) (by : ℕ)
    → increased (record { remote = remote; active = active; contents = contents }) by ≡ Ok (after, out) → IsKept (record { remote = remote; active = active; contents = contents }) after
unfolding given
counter-in remote active (Cyclic records) after out by e = counted-kept (nat_le 3 records.width && nat_le records.width 16) remote active records by after out e
counter-in remote active Folder after out by e = cc
counter-in remote active (Transparent octets) after out by e = cc
counter-in remote active (Linear records) after out by e = cc

pub increased-kept : (by : ℕ) (before after : File) (out : List ℕ) → increased before by ≡ Ok (after, out) → IsKept before after
increased-kept by before after out e = counter-in before.remote before.active before.contents after out by e

marked-in : (becomes remote active : Bool) (contents : Contents) (after : File) → marked becomes (record { remote = remote; active = active; contents = contents }) ≡ Ok after → IsKept (record { remote = remote; active = active; contents = contents }) after
marked-in becomes remote active contents after e =
    kept-if_both remote (if becomes then not active else active) NotRemote ConditionsNotMet (record { remote = remote; active = active; contents = contents }) (record { remote = remote; active = becomes; contents = contents }) after
    (λ may. record { kind = refl; size = refl; form = λ h. h }) e

pub marked-kept : (becomes : Bool) (before after : File) → marked becomes before ≡ Ok after → IsKept before after
marked-kept becomes before after e = marked-in becomes before.remote before.active before.contents after e
