-- Rows of seats after a hold, and after they were joined.
use Rattle.std.proofs.Common.{◌≡◌, ◌⊎◌, inl, inr, ℕ, ◌+◌, ◌<◌, ◌≤◌, All, Option, Some, None, IsSomeAnd, List, [], ◌∷◌, ◌++◌, length, map, take, suc, slice_index_or, slice_set, refl, sym, ◌∙◌, ap, subst, arith, length-append, ⊎_elim}
use Rattle.std.proofs.Math.Seq.{get_or-append_seam, take-append_seam}
use Rattle.std.specs.Option.{option_or}
use Rattle.std.proofs.lemmas.List.{get_or-set_same, get_or-set_other}
use mathlib.Core.Logic.{dite}
use native.Mathlib.Decide.{ℕ_discrete}
use Rattle.lane_lock.specs.declared.seats.Seat.{Seat}
use Rattle.lane_lock.specs.Locks.{IsOf, view_of}
use Rattle.lane_lock.specs.Meaning.{IsNoEarlier}
use Rattle.lane_lock.specs.Numbers.{total, IsIn}
use Rattle.lane_lock.specs.Views.{joined, numbered}
use Rattle.lane_lock.proofs.Counting.{Each_append}
use Rattle.lane_engine.specs.LaneValue.{LaneValue}
use Rattle.lane_engine.specs.Opening.{Opening}
use Rattle.lane_engine.specs.Reserving.{IsJobOf}
use Rattle.lane_engine.specs.declared.answers.LaneErr.{LaneErr}
use Rattle.ota_core.specs.declared.entries.Entry.{Entry}
use Rattle.senders.specs.Desks.{AreJoined, Follows, IsDesk, IsFit, IsHeld, IsJoined, IsKnown, IsLockAt, IsRefusedAt, IsRow, IsRowHeld, IsSeatAt, IsSeated, LaneView, Lock, WasRefused, put_in}
use Rattle.senders.specs.Pieces.{IsPiece}
use Rattle.senders.specs.declared.pieces.Work.{Work}
use Rattle.senders.proofs.KnownLemmas.{in_either, in_left, in_right, known_beside, known_joined, numbered_joined, refused_later}
use Rattle.senders.proofs.RowLemmas.{any_default, at_map, at_put, same_at}

-- a piece of the session is fit for the lock of its lane
pub fit : {D : Type 0} (batch lanes : ℕ) (lock : Lock D) (work : Work) → batch ≤ 16 → IsPiece batch lanes work → IsLockAt lanes batch work.lane lock → IsFit lock work
fit batch lanes lock work most piece at = record {
  some = piece.some;
  few = let a = piece.few in omega (arith, most, a);
  pace = let a = piece.few in let b = at.2 in omega (arith, a, b);
  differ = piece.differ;
  of_lane = subst (λ (n : ℕ). All (IsJobOf n (put_in lock).journal.lanes) work.jobs) (sym at.0) (subst (λ (n : ℕ). All (IsJobOf work.lane n) work.jobs) (sym at.1) piece.of_lane);
}

-- ---- after a hold

module _ {D : Type 0} where
  -- the row has another seat at the piece's lane
  pub row_held : {g : _} (numbers : ℕ → ℕ) (had undone : List Work) (locks : List (Lock D)) (row : List (Option (Seat (LaneValue D) Opening Entry LaneErr g))) (work : Work) (lock : Lock D)
      (old new : Option (Seat (LaneValue D) Opening Entry LaneErr g)) (refused : Option LaneErr) → work.lane < length locks → lock ≡ slice_index_or locks work.lane lock → IsRow numbers had undone locks row
      → old ≡ slice_index_or row work.lane old → IsSomeAnd old (λ before. IsSomeAnd new (λ after. IsHeld numbers had undone lock work before after refused))
      → IsRowHeld numbers had undone locks work row (slice_set row work.lane new) refused
  row_held numbers had undone locks row work lock None new refused lt is rows here h = absurd h
  row_held numbers had undone locks row work lock (Some before) None refused lt is rows here h = absurd h
  row_held {g = g} numbers had undone locks row work lock (Some before) (Some after) refused lt is rows here h = record {
    after = h.after;
    follows = h.follows;
    known = at_put (λ place l (s : Seat (LaneValue D) Opening Entry LaneErr g). IsSeatAt numbers had undone place l s) (λ place l (s : Seat (LaneValue D) Opening Entry LaneErr g). IsSeatAt numbers (had ++ work ∷ []) h.after place l s)
        locks row work.lane lock (Some after) lt is rows h.known
        (λ place l y apart k. (k.0, k.1, known_beside (put_in l) place had undone h.after work (view_of y) (λ e. apart (sym e)) h.follows k.2));
    still = λ other was. (was.0, stays other was.1);
    refusal = λ error e.
        let r = h.refusal error e in
        let there : IsRefusedAt locks (slice_set row work.lane (Some after)) work = (
          lt,
          subst (λ (o : Option (Seat (LaneValue D) Opening Entry LaneErr g)). IsSomeAnd o (λ seat. (l : Lock D) → WasRefused (put_in (slice_index_or locks work.lane l)) (view_of seat) work)) (sym set_here)
              (λ l. subst (λ (x : Lock D). WasRefused (put_in x) (view_of after) work) (sym (same_at locks work.lane l lock lt is)) r.1),
        ) in
        (r.0, there);
  }
    where
      long : work.lane < length row
      long = let same = rows.0 in omega (arith, lt, same)

      set_here : slice_index_or (slice_set row work.lane (Some after)) work.lane None ≡ Some after
      set_here = get_or-set_same row work.lane (Some after) None long

      was_here : slice_index_or row work.lane None ≡ Some before
      was_here = any_default row work.lane None (Some before) long ∙ sym here

      Refused : Work → Option (Seat (LaneValue D) Opening Entry LaneErr g) → Type 0
      Refused other o = IsSomeAnd o (λ seat. (l : Lock D) → WasRefused (put_in (slice_index_or locks other.lane l)) (view_of seat) other)

      stays : (other : Work) → Refused other (slice_index_or row other.lane None) → Refused other (slice_index_or (slice_set row work.lane (Some after)) other.lane None)
      stays other was = dite (ℕ_discrete other.lane work.lane)
          (λ e.
          let own : Refused other (Some before) = subst (Refused other) (ap (λ (n : ℕ). slice_index_or row n None) e ∙ was_here) was in
          subst (Refused other) (sym (ap (λ (n : ℕ). slice_index_or (slice_set row work.lane (Some after)) n None) e ∙ set_here))
          (λ l. refused_later (put_in (slice_index_or locks other.lane l)) (view_of before) (view_of after) other h.later (own l)))
          (λ ne. subst (Refused other) (sym (get_or-set_other row work.lane other.lane (Some after) None ne)) was)

  -- what a desk knows after a hold
  pub desk_held : {g : _} (works : List Work) (numbers : ℕ → ℕ) (had : List Work) (locks : List (Lock D)) (row after : List (Option (Seat (LaneValue D) Opening Entry LaneErr g))) (work : Work)
      (old refused now : Option LaneErr) → IsIn work works → IsDesk works numbers had locks row old → ((undone : List Work) → IsRow numbers had undone locks row → IsRowHeld numbers had undone locks work row after refused)
      → now ≡ option_or old refused → IsDesk works numbers (had ++ work ∷ []) locks after now
  desk_held works numbers had locks row after work old refused now piece desk held is = record {
    undone = h.after;
    among = λ w there. amongst w there h.follows;
    given = Each_append (λ w. IsIn w works) had (work ∷ []) desk.given (piece, tt);
    seats = h.known;
    told = λ refusal e. by_old old refl refusal (sym is ∙ e);
  }
    where
      h : IsRowHeld numbers had desk.undone locks work row after refused
      h = held desk.undone desk.seats

      amongst : (w : Work) → IsIn w h.after → Follows desk.undone work h.after → IsIn w (had ++ work ∷ [])
      amongst w there (inl same) = in_left w had (work ∷ []) (desk.among w (subst (IsIn w) same there))
      amongst w there (inr more) = ⊎_elim (λ before. in_left w had (work ∷ []) (desk.among w before)) (λ one. in_right w had (work ∷ []) one) (in_either w desk.undone (work ∷ []) (subst (IsIn w) more there))

      stays : (w : Work) → IsIn w desk.undone → Follows desk.undone work h.after → IsIn w h.after
      stays w there (inl same) = subst (IsIn w) (sym same) there
      stays w there (inr more) = subst (IsIn w) (sym more) (in_left w desk.undone (work ∷ []) there)

      by_old : (o : Option LaneErr) → old ≡ o → (refusal : LaneErr) → option_or o refused ≡ Some refusal → (w : Work) × IsIn w h.after × IsRefusedAt locks after w
      by_old None same refusal e = let r = h.refusal refusal e in (work, r.0, r.1)
      by_old (Some first) same refusal e = let t = desk.told first same in (t.0, stays t.0 t.1 h.follows, h.still t.0 t.2)

  -- ---- of two seats one was made

  pub seat_joined : {g : _} (lock : Lock D) (o : Option (Seat (LaneValue D) Opening Entry LaneErr g)) (one other both : Seat (LaneValue D) Opening Entry LaneErr g) → o ≡ Some one → IsOf lock both
      → view_of both ≡ joined (view_of one) (view_of other) → IsNoEarlier (view_of one).seen (view_of both).seen → IsNoEarlier (view_of other).seen (view_of both).seen → IsJoined lock o (Some other) (Some both)
  seat_joined {g = g} lock o one other both is of e first second = subst (λ (x : Option (Seat (LaneValue D) Opening Entry LaneErr g)). IsJoined lock x (Some other) (Some both)) (sym is) (record {
    of = of;
    joined = λ place numbers others had undone other_had other_undone mine its. (
      of,
      (λ n.
          let a = ap (λ (w : LaneView D). numbered n w.parts) e in
          let b = numbered_joined n (view_of one) (view_of other) in
          let c = mine.1 n in
          let d = its.1 n in
          omega (arith, a, b, c, d)),
      subst (λ (w : LaneView D). IsKnown place (put_in lock) (had ++ other_had) (undone ++ other_undone) w) (sym e)
          (known_joined (put_in lock) place had other_had undone other_undone (view_of one) (view_of other) mine.2 its.2
          (subst (λ (w : LaneView D). IsNoEarlier (view_of one).seen w.seen) e first) (subst (λ (w : LaneView D). IsNoEarlier (view_of other).seen w.seen) e second)),
    );
    still = λ work why. ⊎_elim (λ a. refused_later (put_in lock) (view_of one) (view_of both) work first a) (λ b. refused_later (put_in lock) (view_of other) (view_of both) work second b) why;
  })

  -- of two rows one was made
  pub rows_joined : {g : _} (numbers others : ℕ → ℕ) (had undone other_had other_undone : List Work) (locks : List (Lock D)) (one other both : List (Option (Seat (LaneValue D) Opening Entry LaneErr g)))
      → IsRow numbers had undone locks one → IsRow others other_had other_undone locks other → AreJoined locks one other both
      → IsRow (λ n. numbers n + others n) (had ++ other_had) (undone ++ other_undone) locks both
  rows_joined numbers others had undone other_had other_undone locks one other both mine its joins = (
    joins.0 ∙ mine.0,
    λ place lock below. (joins.1 place lock below).joined place numbers others had undone other_had other_undone (mine.1 place lock below) (its.1 place lock below),
  )

  a_lock : (locks : List (Lock D)) (k : ℕ) → k < length locks → Lock D
  a_lock [] k lt = absurd (omega (arith, lt))
  a_lock (l ∷ ls) k lt = l

  at_lock : {g : _} (locks : List (Lock D)) (work : Work) (o : Option (Seat (LaneValue D) Opening Entry LaneErr g))
      → IsSomeAnd o (λ seat. (l : Lock D) → WasRefused (put_in (slice_index_or locks work.lane l)) (view_of seat) work) → (lock : Lock D)
      → IsSomeAnd o (λ seat. WasRefused (put_in (slice_index_or locks work.lane lock)) (view_of seat) work)
  at_lock locks work None h lock = h
  at_lock locks work (Some seat) h lock = h lock

  all_locks : {g : _} (locks : List (Lock D)) (work : Work) (o : Option (Seat (LaneValue D) Opening Entry LaneErr g)) → Lock D
      → ((lock : Lock D) → IsSomeAnd o (λ seat. WasRefused (put_in (slice_index_or locks work.lane lock)) (view_of seat) work))
      → IsSomeAnd o (λ seat. (l : Lock D) → WasRefused (put_in (slice_index_or locks work.lane l)) (view_of seat) work)
  all_locks locks work None lock h = h lock
  all_locks locks work (Some seat) lock h = h

  pub refused_joined : {g : _} (locks : List (Lock D)) (one other both : List (Option (Seat (LaneValue D) Opening Entry LaneErr g))) (work : Work) → AreJoined locks one other both
      → IsRefusedAt locks one work ⊎ IsRefusedAt locks other work → IsRefusedAt locks both work
  refused_joined locks one other both work joins (inl was) = (
    was.0,
    all_locks locks work (slice_index_or both work.lane None) (a_lock locks work.lane was.0)
        (λ lock. (joins.1 work.lane lock was.0).still work (inl (at_lock locks work (slice_index_or one work.lane None) was.1 lock))),
  )
  refused_joined locks one other both work joins (inr was) = (
    was.0,
    all_locks locks work (slice_index_or both work.lane None) (a_lock locks work.lane was.0)
        (λ lock. (joins.1 work.lane lock was.0).still work (inr (at_lock locks work (slice_index_or other work.lane None) was.1 lock))),
  )

  -- of two desks one was made
  pub desk_joined : {g : _} (works : List Work) (numbers others : ℕ → ℕ) (had other_had : List Work) (locks : List (Lock D)) (one other both : List (Option (Seat (LaneValue D) Opening Entry LaneErr g)))
      (old its now : Option LaneErr) → IsDesk works numbers had locks one old → IsDesk works others other_had locks other its → AreJoined locks one other both → now ≡ option_or old its
      → IsDesk works (λ n. numbers n + others n) (had ++ other_had) locks both now
  desk_joined works numbers others had other_had locks one other both old its now mine yours joins is = record {
    undone = mine.undone ++ yours.undone;
    among = λ w there. ⊎_elim (λ l. in_left w had other_had (mine.among w l)) (λ r. in_right w had other_had (yours.among w r)) (in_either w mine.undone yours.undone there);
    given = Each_append (λ w. IsIn w works) had other_had mine.given yours.given;
    seats = rows_joined numbers others had mine.undone other_had yours.undone locks one other both mine.seats yours.seats joins;
    told = λ refusal e. by_old old refl refusal (sym is ∙ e);
  }
    where
      by_old : (o : Option LaneErr) → old ≡ o → (refusal : LaneErr) → option_or o its ≡ Some refusal → (w : Work) × IsIn w (mine.undone ++ yours.undone) × IsRefusedAt locks both w
      by_old None same refusal e = let t = yours.told refusal e in (t.0, in_right t.0 mine.undone yours.undone t.1, refused_joined locks one other both t.0 joins (inr t.2))
      by_old (Some first) same refusal e = let t = mine.told first same in (t.0, in_left t.0 mine.undone yours.undone t.1, refused_joined locks one other both t.0 joins (inl t.2))

  -- a desk has these numbers, however they are counted
  pub desk_numbers : {g : _} (works : List Work) (numbers others : ℕ → ℕ) (had : List Work) (locks : List (Lock D)) (row : List (Option (Seat (LaneValue D) Opening Entry LaneErr g)))
      (refused : Option LaneErr) → ((n : ℕ) → numbers n ≡ others n) → IsDesk works numbers had locks row refused → IsDesk works others had locks row refused
  desk_numbers {g = g} works numbers others had locks row refused same desk = record {
    undone = desk.undone;
    among = desk.among;
    given = desk.given;
    seats = at_map (λ place l (s : Seat (LaneValue D) Opening Entry LaneErr g). IsSeatAt numbers had desk.undone place l s)
        (λ place l (s : Seat (LaneValue D) Opening Entry LaneErr g). IsSeatAt others had desk.undone place l s) locks row (λ place l s k. (k.0, (λ n. k.1 n ∙ same n), k.2)) desk.seats;
    told = desk.told;
  }

  -- the row of a desk has a seat of each lock
  pub desk_seated : {g : _} (works : List Work) (numbers : ℕ → ℕ) (had : List Work) (locks : List (Lock D)) (row : List (Option (Seat (LaneValue D) Opening Entry LaneErr g)))
      (refused : Option LaneErr) → IsDesk works numbers had locks row refused → IsSeated locks row
  desk_seated {g = g} works numbers had locks row refused desk =
      at_map (λ place l (s : Seat (LaneValue D) Opening Entry LaneErr g). IsSeatAt numbers had desk.undone place l s) (λ place l (s : Seat (LaneValue D) Opening Entry LaneErr g). IsOf l s) locks row
      (λ place l s k. k.0) desk.seats

  -- the joined row has one too
  pub seated_joined : {g : _} (locks : List (Lock D)) (one other both : List (Option (Seat (LaneValue D) Opening Entry LaneErr g))) → IsSeated locks one → AreJoined locks one other both → IsSeated locks both
  seated_joined locks one other both seated joins = (joins.0 ∙ seated.0, λ place lock below. (joins.1 place lock below).of)

-- ---- the numbers of desks that are joined one by one

total_last : {A : Type 0} (f : ℕ → ℕ) (number : A → ℕ) (rest : List A) (desk : A) → total f (map number (rest ++ desk ∷ [])) ≡ total f (map number rest) + f (number desk)
total_last f number [] desk = omega arith
total_last f number (x ∷ rest) desk = let a = total_last f number rest desk in omega (arith, a)

pub numbers_more : {A : Type 0} (f : ℕ → ℕ) (number : A → ℕ) (rest before : List A) (desk : A) (count whole : ℕ) → before ≡ rest ++ desk ∷ [] → count + total f (map number before) ≡ whole
    → (count + f (number desk)) + total f (map number rest) ≡ whole
numbers_more f number rest before desk count whole splits sum =
    let a = ap (λ l. total f (map number l)) splits in
    let b = total_last f number rest desk in
    omega (arith, a, b, sum)

-- the last element of a list, and the others
pub all_last : {A : Type 0} (P : A → Type 0) (rest before : List A) (last : A) → before ≡ rest ++ last ∷ [] → All P before → P last
all_last P rest before last splits all =
    subst P (ap (λ l. slice_index_or l (length rest) last) splits ∙ get_or-append_seam rest last [] last)
    (all (length rest) last (let a = ap length splits in let b = length-append rest (last ∷ []) in omega (arith, a, b)))

-- none is left
pub none_more : {A : Type 0} (count : ℕ) (f : ℕ → ℕ) (number : A → ℕ) (rest : List A) (whole other : ℕ) → length rest ≡ 0 → count + total f (map number rest) ≡ whole → whole ≡ other → count ≡ other
none_more count f number [] whole other none sum same = omega (arith, sum, same)
none_more count f number (x ∷ xs) whole other none sum same = absurd (omega (arith, none))

pub numbers_first : {A : Type 0} (f : ℕ → ℕ) (number : A → ℕ) (rest before : List A) (desk : A) (whole : ℕ) → before ≡ rest ++ desk ∷ [] → total f (map number before) ≡ whole
    → f (number desk) + total f (map number rest) ≡ whole
numbers_first f number rest before desk whole splits sum =
    let a = ap (λ l. total f (map number l)) splits in
    let b = total_last f number rest desk in
    omega (arith, a, b, sum)

-- what a slice of a vector was given is what the vector has
pub written : {A : Type 0} (len : ℕ) (new rest : List A) → length new ≡ len → take len (new ++ rest) ≡ new
written len new rest same = ap (λ (n : ℕ). take n (new ++ rest)) (sym same) ∙ take-append_seam new rest

pub map_same : {A B : Type 0} (f : A → B) (xs ys : List A) → length ys ≡ length xs → ((place : ℕ) (d : A) → place < length xs → f (slice_index_or ys place d) ≡ f (slice_index_or xs place d)) → map f ys ≡ map f xs
map_same f [] [] same each = refl
map_same f [] (y ∷ ys) same each = absurd (omega (arith, same))
map_same f (x ∷ xs) [] same each = absurd (omega (arith, same))
map_same f (x ∷ xs) (y ∷ ys) same each =
    ap (λ b. b ∷ map f ys) (each 0 x (omega arith)) ∙ ap (λ l. f x ∷ l) (map_same f xs ys (omega (arith, same)) (λ place d lt. each (suc place) d (omega (arith, lt))))
