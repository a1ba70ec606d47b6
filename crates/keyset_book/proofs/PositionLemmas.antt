-- At which position of a history a counter is reserved.
use Rattle.std.proofs.Common.{◌≡◌, ℕ, suc, ◌+◌, ◌≤◌, Bool, true, false, List, [], ◌∷◌, ◌++◌, None, Some, length, reverse, min, refl, sym, ◌∙◌, arith}
use Rattle.std.specs.List.{list_any, position, position_or_len}
use Rattle.std.proofs.lemmas.List.{reverse-append, length-reverse, length-append}
use Rattle.std.proofs.lemmas.List.Folds.{position_or_len_push}
use Rattle.std.proofs.lemmas.List.Sorted.{list_any-IsPermutation, IsPermutation-reverse}
use Rattle.std.proofs.lemmas.Bool.{or_parts}
use Rattle.std.proofs.lemmas.Bool.Decides.{nat_tests}
use Rattle.ota_core.specs.Keyset.{Keyset}
use Rattle.ota_core.specs.Entry.{Reservation, is_reserve_of}
use Rattle.ota_core.specs.declared.jobs.JobId.{JobId}
use Rattle.ota_core.specs.declared.entries.Entry.{Entry}
use Rattle.ota_core.specs.declared.entries.Entry.TheVariants.{Reserve}
use Rattle.keyset_book.specs.Tables.{is_same_counter, FillsPosition, SamePositions}
use Rattle.keyset_book.specs.Book.{KnowsPositions}
use Rattle.keyset_book.specs.declared.books.Book.{Book}
use Rattle.keyset_book.proofs.PastLemmas.{by_cases, same_place}

-- where no element passes the test, there is no first one
pub position_or_len-none : {X : Type 0} (p : X → Bool) (xs : List X) → list_any p xs ≡ false → position_or_len p xs ≡ length xs
position_or_len-none p [] none = refl
position_or_len-none p (x ∷ xs) none =
    let parts = or_parts (p x) (list_any p xs) none in
    let later = position_or_len-none p xs parts.1 in
    rw (parts.0) (omega (arith, later))

pub position-none : {X : Type 0} (p : X → Bool) (xs : List X) → list_any p xs ≡ false → position p xs ≡ None
position-none p xs none = rw (position_or_len-none p xs none) (grind (arith, nat_tests))

-- where one passes, the first is among them
pub position_or_len-some : {X : Type 0} (p : X → Bool) (xs : List X) → list_any p xs ≡ true → position_or_len p xs + 1 ≤ length xs
position_or_len-some p [] some = cc
position_or_len-some p (x ∷ xs) some = by_cases (p x)
    (λ here. rw here (omega arith))
    (λ fails. let later = position_or_len-some p xs (rw fails at some) in rw fails (omega (arith, later)))

pub position-some : {X : Type 0} (p : X → Bool) (xs : List X) → list_any p xs ≡ true → position p xs ≡ Some (position_or_len p xs)
position-some p xs some = let below = position_or_len-some p xs some in grind (arith, nat_tests, below)

-- a last element that is the first to pass the test
pub position-last : {X : Type 0} (p : X → Bool) (xs : List X) (y : X) → list_any p xs ≡ false → p y ≡ true → position p (xs ++ y ∷ []) ≡ Some (length xs)
position-last p xs y none here =
    rw (position_or_len_push p xs y, position_or_len-none p xs none, here, length-append xs (y ∷ [])) (grind (arith, nat_tests))

-- a last element that doesn't pass it
pub position-before : {X : Type 0} (p : X → Bool) (xs : List X) (y : X) (place : ℕ) → p y ≡ false → position p (xs ++ y ∷ []) ≡ Some place → position p xs ≡ Some place
position-before p xs y place fails found = by_cases (list_any p xs)
    (λ some. let below = position_or_len-some p xs some in
    let pushed = position_or_len_push p xs y in
    let long = length-append xs (y ∷ []) in
    grind (arith, nat_tests, below, pushed, long, found))
    (λ none. let len = position_or_len-none p xs none in
    let pushed = position_or_len_push p xs y in
    let long = length-append xs (y ∷ []) in
    grind (arith, nat_tests, len, pushed, long, fails, found))

pub any-reverse : {X : Type 0} (p : X → Bool) (xs : List X) → list_any p (reverse xs) ≡ list_any p xs
any-reverse p xs = sym (list_any-IsPermutation p xs (reverse xs) (IsPermutation-reverse xs))

module _ (past : List Entry) (old new : Book) (knows : length past ≤ 0xFFFF_FFFF_FFFF_FFFF → KnowsPositions past old) (count : new.entries ≡ min (old.entries + 1) 0xFFFF_FFFF_FFFF_FFFF) where
  -- one entry more is counted
  counted : suc (length past) ≤ 0xFFFF_FFFF_FFFF_FFFF → new.entries ≡ suc (length past)
  counted short =
      let before = (knows (omega (arith, short))).count in
      count ∙ rw before (grind (arith, short))

  -- an entry that reserves nothing
  pub knows-more : (entry : Entry) → ((counter : Reservation) → is_reserve_of counter entry ≡ false) → SamePositions old.counters new.counters
      → length (entry ∷ past) ≤ 0xFFFF_FFFF_FFFF_FFFF → KnowsPositions (entry ∷ past) new
  knows-more entry frees same short = record {
    count = counted short;
    positions = λ counter place found. same counter ∙ (knows (omega (arith, short))).positions counter place
        (position-before (is_reserve_of counter) (reverse past) entry place (frees counter) (rw (reverse-append (entry ∷ []) past) at found));
  }

  -- the reservation of a counter that is free
  pub knows-reserved : (by moment : ℕ) (keyset : Keyset) (counter : ℕ) (job : JobId) (tar name body : List ℕ)
      → list_any (is_reserve_of (record { keyset = keyset; counter = counter })) past ≡ false
      → FillsPosition old.counters (record { keyset = keyset; counter = counter }) old.entries new.counters
      → length (Reserve by moment keyset counter job tar name body ∷ past) ≤ 0xFFFF_FFFF_FFFF_FFFF
      → KnowsPositions (Reserve by moment keyset counter job tar name body ∷ past) new
  knows-reserved by moment keyset counter job tar name body free fills short =
      let entry = Reserve by moment keyset counter job tar name body in record {
        count = counted short;
        positions = λ other place found. fills other ∙ by_cases (is_same_counter (record { keyset = keyset; counter = counter }) other)
            (λ same. rw same ((knows (omega (arith, short))).count ∙ here other place same (rw (reverse-append (entry ∷ []) past) at found)))
            (λ apart. rw apart ((knows (omega (arith, short))).positions other place
            (position-before (is_reserve_of other) (reverse past) entry place apart (rw (reverse-append (entry ∷ []) past) at found))));
      }
    where
      here : (other : Reservation) (place : ℕ) → is_same_counter (record { keyset = keyset; counter = counter }) other ≡ true
          → position (is_reserve_of other) (reverse past ++ Reserve by moment keyset counter job tar name body ∷ []) ≡ Some place → length past ≡ place
      here other place same found =
          let none : list_any (is_reserve_of other) (reverse past) ≡ false =
          any-reverse (is_reserve_of other) past ∙ (rw (same_place keyset counter other same) at free) in
          let is = position-last (is_reserve_of other) (reverse past) (Reserve by moment keyset counter job tar name body) none same in
          let long = length-reverse past in
          cc
