-- What is read through windows.
use Rattle.std.proofs.Common.{◌≡◌, ◌⊎◌, ℕ, ◌+◌, ◌-◌, ◌<◌, ◌≤◌, List, [], ◌++◌, length, take, drop, Ok, inl, inr, refl, sym, ◌∙◌, ap, subst, arith, append_assoc, length-append, length-take, length-drop, take-append-drop}
use Rattle.std.specs.Prelude.{min}
use Rattle.std.proofs.Math.Seq.{take-append-add}
use Rattle.std.proofs.lemmas.Bool.{cases_lt}
use Rattle.std.proofs.lemmas.List.{drop-drop, take-take, take-append-le, drop-append-le, drop_all, take_all, drop_at, append-nil, take_min}
use Rattle.disk_model.specs.Counts.{Counts}
use Rattle.disk_model.specs.Disk.{Meaning, Tells, Reads}
use Rattle.gate_log.specs.Windows.{WindowsState, rest_of, Looks, IsTaken, IsWithin}
use Rattle.gate_log.specs.ReadingLaws.{looks_none, looks_then, tells_on}

-- a window that is full of what a read gave, and what is behind it
pub filled : (text old new : List ℕ) (read count : ℕ) → Reads text read old new count → take count new ++ drop (read + count) text ≡ drop read text
filled text old new read count reads =
    ap (λ (l : List ℕ). l ++ drop (read + count) text) reads.front
    ∙ ap (λ (l : List ℕ). take count (drop read text) ++ l) (sym (drop-drop count read text))
    ∙ take-append-drop count (drop read text)

-- what stands in a window behind a read, of which so many octets count
pub front_of_window : (new rest : List ℕ) (count size : ℕ) → count ≤ size → count ≤ length new → take count (take size (new ++ rest)) ≡ take count new
front_of_window new rest count size within short = take-take count size (new ++ rest) within ∙ take-append-le count new rest short

-- ---- octets that are given from what is ahead

-- what is still wanted of a text, behind these octets
pub record IsSoFar (text before after : List ℕ) (count wanted : ℕ) (was is : WindowsState) : Type 0 where
  pub octets : after ++ take wanted (rest_of text is) ≡ before ++ take count (rest_of text was)
  pub rest : drop wanted (rest_of text is) ≡ drop count (rest_of text was)
  pub long : wanted + length (rest_of text was) ≡ count + length (rest_of text is)

take_past : (count : ℕ) (ahead behind : List ℕ) → take count (ahead ++ behind) ≡ take count ahead ++ take (count - length ahead) (drop count ahead ++ behind)
take_past count ahead behind = at (cases_lt count (length ahead))
  where
    at : (count < length ahead) ⊎ (length ahead ≤ count) → take count (ahead ++ behind) ≡ take count ahead ++ take (count - length ahead) (drop count ahead ++ behind)
    at (inl less) =
        let none : count - length ahead ≡ 0 = omega (arith, less) in
        take-append-le count ahead behind (omega (arith, less))
        ∙ sym (ap (λ (n : ℕ). take count ahead ++ take n (drop count ahead ++ behind)) none ∙ append-nil (take count ahead))
    at (inr more) =
        let over : drop count ahead ≡ [] = drop_all count ahead more in
        let size : length ahead + (count - length ahead) ≡ count = omega (arith, more) in
        ap (λ (n : ℕ). take n (ahead ++ behind)) (sym size)
        ∙ take_split ahead behind (count - length ahead)
        ∙ ap (λ (l : List ℕ). l ++ take (count - length ahead) behind) (sym (take_all count ahead more))
        ∙ ap (λ (l : List ℕ). take count ahead ++ take (count - length ahead) (l ++ behind)) (sym over)
      where
        take_split : (ahead behind : List ℕ) (n : ℕ) → take (length ahead + n) (ahead ++ behind) ≡ ahead ++ take n behind
        take_split ahead behind n = take-append-add ahead behind n

drop_past : (count : ℕ) (ahead behind : List ℕ) → drop count (ahead ++ behind) ≡ drop (count - length ahead) (drop count ahead ++ behind)
drop_past count ahead behind = at (cases_lt count (length ahead))
  where
    at : (count < length ahead) ⊎ (length ahead ≤ count) → drop count (ahead ++ behind) ≡ drop (count - length ahead) (drop count ahead ++ behind)
    at (inl less) =
        let none : count - length ahead ≡ 0 = omega (arith, less) in
        drop-append-le count ahead behind (omega (arith, less)) ∙ sym (ap (λ (n : ℕ). drop n (drop count ahead ++ behind)) none)
    at (inr more) =
        let over : drop count ahead ≡ [] = drop_all count ahead more in
        let size : length ahead + (count - length ahead) ≡ count = omega (arith, more) in
        ap (λ (n : ℕ). drop n (ahead ++ behind)) (sym size)
        ∙ sym (drop-drop (count - length ahead) (length ahead) (ahead ++ behind))
        ∙ ap (drop (count - length ahead)) (drop_at ahead behind (length ahead) refl)
        ∙ ap (λ (l : List ℕ). drop (count - length ahead) (l ++ behind)) (sym over)

module _ (text : List ℕ) where
  -- octets that are ahead are given
  pub given_ahead : (before after : List ℕ) (count : ℕ) (was is : WindowsState) → is.read ≡ was.read → is.ahead ≡ drop count was.ahead → after ≡ before ++ take count was.ahead
      → IsSoFar text before after count (count - length was.ahead) was is
  given_ahead before after count was is read ahead octets =
      let behind = drop was.read text in
      let rest : rest_of text is ≡ drop count was.ahead ++ behind = ap (λ (l : List ℕ). l ++ drop is.read text) ahead ∙ ap (λ (n : ℕ). drop count was.ahead ++ drop n text) read in
      let wanted = count - length was.ahead in
      record {
        octets = ap (λ (l : List ℕ). l ++ take wanted (rest_of text is)) octets
            ∙ append_assoc before (take count was.ahead) (take wanted (rest_of text is))
            ∙ ap (λ (l : List ℕ). before ++ (take count was.ahead ++ take wanted l)) rest
            ∙ ap (λ (l : List ℕ). before ++ l) (sym (take_past count was.ahead behind));
        rest = ap (drop wanted) rest ∙ sym (drop_past count was.ahead behind);
        long = omega (arith, ap length rest, length-append (drop count was.ahead) behind, length-append was.ahead behind, length-drop count was.ahead);
      }

  -- and then more
  pub then_given : (before mid after : List ℕ) (count wanted still : ℕ) (was is now : WindowsState) → IsSoFar text before mid count wanted was is → IsSoFar text mid after wanted still is now
      → IsSoFar text before after count still was now
  then_given before mid after count wanted still was is now first second = record {
    octets = second.octets ∙ first.octets;
    rest = second.rest ∙ first.rest;
    long = omega (arith, first.long, second.long);
  }

  -- a window more was read
  pub then_filled : (before after : List ℕ) (count wanted : ℕ) (was is now : WindowsState) → IsSoFar text before after count wanted was is → rest_of text now ≡ rest_of text is
      → IsSoFar text before after count wanted was now
  then_filled before after count wanted was is now first same = record {
    octets = ap (λ (l : List ℕ). after ++ take wanted l) same ∙ first.octets;
    rest = ap (drop wanted) same ∙ first.rest;
    long = omega (arith, first.long, ap length same);
  }

  -- nothing more is wanted
  pub all_taken : (before after : List ℕ) (count wanted : ℕ) (was is : WindowsState) → wanted ≡ 0 → IsSoFar text before after count wanted was is → IsTaken text count before after was is
  all_taken before after count wanted was is none so_far = record {
    octets = sym (ap (λ (n : ℕ). after ++ take n (rest_of text is)) none ∙ append-nil after) ∙ so_far.octets;
    rest = sym (ap (λ (n : ℕ). drop n (rest_of text is)) none) ∙ so_far.rest;
  }

  -- more is wanted than there is
  pub too_few : (before after : List ℕ) (count wanted : ℕ) (was is : WindowsState) → 0 < wanted → is.ahead ≡ [] → length text ≤ is.read → IsSoFar text before after count wanted was is
      → length (rest_of text was) < count
  too_few before after count wanted was is some none all so_far =
      let rest : rest_of text is ≡ [] = ap (λ (l : List ℕ). l ++ drop is.read text) none ∙ drop_all is.read text all in
      omega (arith, some, so_far.long, ap length rest)

-- ---- the loop that takes octets

module _ {D B C : Type 0} (told : Meaning D B C) (counts : D → Counts) where
  -- so many octets are still wanted
  pub record IsTaking (old now : D) (before after : List ℕ) (count wanted : ℕ) (was is : WindowsState) : Type 0 where
    pub looks : Looks told counts old now was is (Ok (tt {0}))
    pub size : length after + wanted ≡ length before + count
    pub place : is.read + length was.ahead + length before ≡ was.read + length is.ahead + length after
    pub within : IsWithin is
    pub over : 0 < wanted → is.ahead ≡ []
    pub text : Tells told old → was.long ≡ length (told.seen old) → IsSoFar (told.seen old) before after count wanted was is

  -- what is ahead is given first
  pub taking_began : (disk : D) (before after : List ℕ) (count wanted : ℕ) (was is : WindowsState) → wanted ≡ count - length was.ahead → after ≡ before ++ take count was.ahead
      → is ≡ record { ahead = drop count was.ahead; read = was.read; long = was.long } → IsWithin is → IsTaking disk disk before after count wanted was is
  taking_began disk before after count wanted was is still octets windows within =
      let read : is.read ≡ was.read = ap (λ (w : WindowsState). w.read) windows in
      let long : is.long ≡ was.long = ap (λ (w : WindowsState). w.long) windows in
      let ahead : is.ahead ≡ drop count was.ahead = ap (λ (w : WindowsState). w.ahead) windows in
      let size = ap length octets ∙ length-append before (take count was.ahead) in
      let taken = length-take count was.ahead in
      let left = ap length ahead ∙ length-drop count was.ahead in
      record {
        looks = looks_none told counts disk was is tt read long;
        size = omega (arith, still, size, taken);
        place = omega (arith, read, size, taken, left);
        within = within;
        over = λ some. ahead ∙ drop_all count was.ahead (omega (arith, some, still));
        text = λ tells is_long. subst (λ (n : ℕ). IsSoFar (told.seen disk) before after count n was is) (sym still) (given_ahead (told.seen disk) before after count was is read ahead octets);
      }

  -- a window is read, and what is ahead then is given
  pub taking_on : (old mid new : D) (before middle after : List ℕ) (count wanted still : ℕ) (was is between now : WindowsState)
      → IsTaking old mid before middle count wanted was is → 0 < wanted → Looks told counts mid new is between (Ok (tt {0}))
      → (Tells told mid → is.long ≡ length (told.seen mid) → rest_of (told.seen mid) between ≡ drop is.read (told.seen mid))
      → between.read ≡ is.read + length between.ahead
      → still ≡ wanted - length between.ahead → after ≡ middle ++ take wanted between.ahead
      → now ≡ record { ahead = drop wanted between.ahead; read = between.read; long = between.long } → IsWithin now
      → IsTaking old new before after count still was now
  taking_on old mid new before middle after count wanted still was is between now taking some looks rest place still_is octets windows within =
      let read : now.read ≡ between.read = ap (λ (w : WindowsState). w.read) windows in
      let long : now.long ≡ between.long = ap (λ (w : WindowsState). w.long) windows in
      let ahead : now.ahead ≡ drop wanted between.ahead = ap (λ (w : WindowsState). w.ahead) windows in
      let size = ap length octets ∙ length-append middle (take wanted between.ahead) in
      let taken = length-take wanted between.ahead in
      let left = ap length ahead ∙ length-drop wanted between.ahead in
      let none = ap length (taking.over some) in
      record {
        looks = looks_then told counts old new new was between now tt (Ok (tt {0})) (looks_then told counts old mid new was is between tt (Ok (tt {0})) taking.looks looks)
            (looks_none told counts new between now tt read long);
        size = omega (arith, taking.size, still_is, size, taken);
        place = omega (arith, taking.place, read, place, size, taken, left, none);
        within = within;
        over = λ more. ahead ∙ drop_all wanted between.ahead (omega (arith, more, still_is));
        text = λ tells is_long.
            let text = told.seen old in
            let same : told.seen mid ≡ text = taking.looks.content tells in
            let so_far = taking.text tells is_long in
            let mid_tells = tells_on told old mid taking.looks.tells tells in
            let mid_long : is.long ≡ length (told.seen mid) = taking.looks.long tells is_long ∙ is_long ∙ ap length (sym same) in
            let behind : rest_of text between ≡ rest_of text is =
            subst (λ (t : List ℕ). rest_of t between ≡ drop is.read t) same (rest mid_tells mid_long) ∙ sym (ap (λ (l : List ℕ). l ++ drop is.read text) (taking.over some)) in
            let given = given_ahead text middle after wanted between now read ahead octets in
            then_given text before middle after count wanted still was between now (then_filled text before middle count wanted was is between so_far behind)
            (subst (λ (n : ℕ). IsSoFar text middle after wanted n between now) (sym still_is) given);
      }

-- a window holds as much as there is, up to its size
pub window_is : (octets : List ℕ) (count : ℕ) → count ≡ min 65536 (length octets) → take count octets ≡ take 65536 octets
window_is octets count is = ap (λ (n : ℕ). take n octets) is ∙ take_min 65536 octets
