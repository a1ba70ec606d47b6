-- What a disk tells: what a read gives, and which images a stop may leave at each moment.
use Rattle.std.specs.Prelude.{◌≡◌, ◌+◌, ◌≤◌, ℕ, Bool, false, IsTrue, min, max, List, [], ◌++◌, length, take, drop, Result, Ok, Err}
use Rattle.disk_model.specs.declared.faults.DiskFault.{DiskFault}
use Rattle.disk_model.specs.declared.faults.DiskFault.TheVariants.{Failed, Memory}

-- What is known of a disk of the type D. The moments are numbered by its clock, from 0 to now.
-- B is what stands beside the disk at a moment, C what may be chosen there; a disk alone has neither.
pub record Meaning (D B C : Type 0) : Type 1 where
  -- whether the other meanings are told at all
  pub tells : D → Bool
  -- the octets that a read gives now
  pub seen : D → List ℕ
  pub clock : D → ℕ
  -- a stop at that moment might leave these octets
  pub image_at : D → ℕ → List ℕ → Type 0
  pub beside_at : D → ℕ → B
  pub choice_at : D → ℕ → C → Type 0

module _ {D B C : Type 0} (told : Meaning D B C) where
  abbrev pub Tells : D → Type 0
  Tells disk = IsTrue (told.tells disk)

  -- a stop now may leave these octets
  abbrev pub image_now : D → List ℕ → Type 0
  image_now disk = told.image_at disk (told.clock disk)

  -- What stood at the moments up to a call, or up to the first of several, stands as it was.
  pub record PastStands (old new : D) : Type 0 where
    pub later : told.clock old ≤ told.clock new
    pub no_more : (k : ℕ) (image : List ℕ) → k ≤ told.clock old → told.image_at new k image → told.image_at old k image
    pub no_fewer : (k : ℕ) (image : List ℕ) → k ≤ told.clock old → told.image_at old k image → told.image_at new k image
    pub beside : (k : ℕ) → k ≤ told.clock old → told.beside_at new k ≡ told.beside_at old k
    pub no_more_choices : (k : ℕ) (choice : C) → k ≤ told.clock old → told.choice_at new k choice → told.choice_at old k choice
    pub no_fewer_choices : (k : ℕ) (choice : C) → k ≤ told.clock old → told.choice_at old k choice → told.choice_at new k choice

  -- At each moment of the call, its start and its end among them, an image has P, and what is beside the disk and what
  -- may be chosen there stand as they were at the start.
  pub record DiskRun (old new : D) (P : List ℕ → Type 0) : Type 0 where
    pub past : PastStands old new
    pub each : (k : ℕ) (image : List ℕ) → told.clock old ≤ k → k ≤ told.clock new → told.image_at new k image → P image
    pub stands : (k : ℕ) → told.clock old ≤ k → k ≤ told.clock new → told.beside_at new k ≡ told.beside_at old (told.clock old)
    pub choices_stand : (k : ℕ) (choice : C) → told.clock old ≤ k → k ≤ told.clock new → told.choice_at new k choice → told.choice_at old (told.clock old) choice
    pub choices_stay : (k : ℕ) (choice : C) → told.clock old ≤ k → k ≤ told.clock new → told.choice_at old (told.clock old) choice → told.choice_at new k choice

-- a disk that tells nothing, and has nothing beside it
abbrev pub untold : {D : Type 0} → Meaning D (Unit {0}) (Unit {0})
untold = record {
  tells = λ _. false;
  seen = λ _. [];
  clock = λ _. 0;
  image_at = λ _ _ _. Unit {0};
  beside_at = λ _ _. tt;
  choice_at = λ _ _ _. Unit {0};
}

-- a call is one moment; where it finds no memory it is none
abbrev pub Ticks : {T : Type 0} → ℕ → ℕ → Result T DiskFault → Type 0
Ticks before now (Ok _) = now ≡ before + 1
Ticks before now (Err Failed) = now ≡ before + 1
Ticks before now (Err Memory) = now ≡ before

-- What a read gives is changed to next at Ok, and as it was where there is no memory. After a device fault it
-- is one of the images at that moment, as always.
abbrev pub Changes : {T : Type 0} → List ℕ → List ℕ → Result T DiskFault → List ℕ → Type 0
Changes old new (Ok _) next = new ≡ next
Changes old new (Err Failed) next = Unit {0}
Changes old new (Err Memory) next = new ≡ old

-- these octets in the place of those at that offset, and past the end
abbrev pub overwritten : List ℕ → ℕ → List ℕ → List ℕ
overwritten old at octets = take at old ++ octets ++ drop (at + length octets) old

-- after a write of n octets that a stop cuts short: any octets in the range and past the old end, the same elsewhere
pub record Torn (at n : ℕ) (old new : List ℕ) : Type 0 where
  pub before : take at new ≡ take at old
  pub after : drop (at + n) new ≡ drop (at + n) old
  pub no_shorter : length old ≤ length new
  pub no_longer : length new ≤ max (length old) (at + n)

-- after a cut to n octets that a stop cuts short: some length between
pub record Cut (n : ℕ) (old new : List ℕ) : Type 0 where
  pub no_shorter : min n (length old) ≤ length new
  pub front : new ≡ take (length new) old

-- an image after a step from one of these
abbrev pub Follows : (List ℕ → List ℕ → Type 0) → (List ℕ → Type 0) → List ℕ → Type 0
Follows step images new = (old : List ℕ) × images old × step old new

-- a stop leaves this and nothing else
abbrev pub Only : List ℕ → (List ℕ → Type 0) → Type 0
Only octets images = (image : List ℕ) → images image → image ≡ octets

-- The octets from that offset to the end, at most as many as there is room for, lie at the front of the room.
pub record Reads (octets : List ℕ) (at : ℕ) (old new : List ℕ) (count : ℕ) : Type 0 where
  pub number : count ≡ min (length old) (length (drop at octets))
  pub front : take count new ≡ take count (drop at octets)
  pub rest : drop count new ≡ drop count old
