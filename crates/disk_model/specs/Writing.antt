-- What a write leaves of the octets that were there.
use Rattle.std.specs.Prelude.{◌≡◌, ◌+◌, ◌≤◌, ℕ, max, List, ◌++◌, length, take, drop, refl}
use Rattle.std.proofs.Common.{arith, sym, ◌∙◌, ap, append_assoc, length-append, length-take, length-drop}
use Rattle.std.proofs.lemmas.List.{take-append-le, take_at, drop_at, take_all, take-take, take_min}
use Rattle.disk_model.specs.Disk.{overwritten, Torn, Cut}

module _ (old : List ℕ) (at : ℕ) (octets : List ℕ) (within : at ≤ length old) where
  front : length (take at old) ≡ at
  front = omega (arith, length-take at old)

  split : overwritten old at octets ≡ take at old ++ (octets ++ drop (at + length octets) old)
  split = append_assoc (take at old) octets (drop (at + length octets) old)

  pub length-overwritten : length (overwritten old at octets) ≡ max (length old) (at + length octets)
  length-overwritten = ap length split ∙ omega (arith, length-append (take at old) (octets ++ drop (at + length octets) old), length-append octets (drop (at + length octets) old), length-drop (at + length octets) old, front)

  pub take-overwritten : take at (overwritten old at octets) ≡ take at old
  take-overwritten = ap (take at) split ∙ take_at (take at old) (octets ++ drop (at + length octets) old) at front

  pub take-overwritten-le : (n : ℕ) → n ≤ at → take n (overwritten old at octets) ≡ take n old
  take-overwritten-le n le =
      ap (take n) split
      ∙ take-append-le n (take at old) (octets ++ drop (at + length octets) old) (omega (arith, front))
      ∙ take-take n at old le

  pub drop-overwritten : drop (at + length octets) (overwritten old at octets) ≡ drop (at + length octets) old
  drop-overwritten = drop_at (take at old ++ octets) (drop (at + length octets) old) (at + length octets) (omega (arith, length-append (take at old) octets, front))

  -- a write that is done is one that a stop may cut short
  pub torn-overwritten : Torn at (length octets) old (overwritten old at octets)
  torn-overwritten = record {
    before = take-overwritten;
    after = drop-overwritten;
    no_shorter = omega (arith, length-overwritten);
    no_longer = omega (arith, length-overwritten);
  }

-- nothing was done yet
pub torn-same : (at n : ℕ) (octets : List ℕ) → Torn at n octets octets
torn-same at n octets = record { before = refl; after = refl; no_shorter = omega arith; no_longer = omega arith }

pub cut-same : (n : ℕ) (octets : List ℕ) → Cut n octets octets
cut-same n octets = record { no_shorter = omega arith; front = sym (take_all (length octets) octets (omega arith)) }

pub cut-take : (n : ℕ) (octets : List ℕ) → Cut n octets (take n octets)
cut-take n octets = record { no_shorter = omega (arith, length-take n octets); front = sym (ap (λ k. take k octets) (length-take n octets) ∙ take_min n octets) }

-- what is the same up to a place is so up to an earlier one
pub same_before : (m n : ℕ) (one other : List ℕ) → m ≤ n → take n one ≡ take n other → take m one ≡ take m other
same_before m n one other le same = sym (take-take m n one le) ∙ ap (take m) same ∙ take-take m n other le
