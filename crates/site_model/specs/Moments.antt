-- The moments of a bare site: the time of its disk and that of its port, on one clock.
use Rattle.std.specs.Prelude.{◌≡◌, ◌≤◌, ℕ, ◌+◌, ◌-◌, List, [], ◌∷◌, ◌++◌, length, take, drop, Result, Ok, Err, refl}
use Rattle.std.proofs.Common.{arith, ◌∙◌, ap, length-append}
use Rattle.std.proofs.lemmas.List.{take-append-le, drop-append-le, drop_all}
use Rattle.disk_model.specs.declared.faults.DiskFault.{DiskFault}
use Rattle.disk_model.specs.declared.faults.DiskFault.TheVariants.{Failed, Memory}
use Rattle.disk_model.specs.Disk.{Meaning}
use Rattle.site_model.specs.declared.departures.Departure.{Departure}
use Rattle.site_model.specs.declared.moments.Moment.{Moment}
use Rattle.site_model.specs.declared.moments.Moment.TheVariants.{Disk, Sent, Gave, Polled}
use Rattle.ota_core.specs.declared.cards.CardId.{CardId}
use Rattle.site_model.specs.Port.{PortState}

-- how many moments were the port's, and how many the disk's
abbrev pub ports : List Moment → ℕ
ports [] = 0
ports (Disk ∷ moments) = ports moments
ports (Sent departure ∷ moments) = ports moments + 1
ports (Gave given ∷ moments) = ports moments + 1
ports (Polled ∷ moments) = ports moments + 1

abbrev pub disks : List Moment → ℕ
disks [] = 0
disks (Disk ∷ moments) = disks moments + 1
disks (Sent departure ∷ moments) = disks moments
disks (Gave given ∷ moments) = disks moments
disks (Polled ∷ moments) = disks moments

-- what was sent, what was given, and how often the port was asked
abbrev pub sent_in : List Moment → List Departure
sent_in [] = []
sent_in (Disk ∷ moments) = sent_in moments
sent_in (Sent departure ∷ moments) = departure ∷ sent_in moments
sent_in (Gave given ∷ moments) = sent_in moments
sent_in (Polled ∷ moments) = sent_in moments

abbrev pub given_in : List Moment → List (CardId × List ℕ)
given_in [] = []
given_in (Disk ∷ moments) = given_in moments
given_in (Sent departure ∷ moments) = given_in moments
given_in (Gave given ∷ moments) = (given.card, given.message) ∷ given_in moments
given_in (Polled ∷ moments) = given_in moments

abbrev pub polls_in : List Moment → ℕ
polls_in [] = 0
polls_in (Disk ∷ moments) = polls_in moments
polls_in (Sent departure ∷ moments) = polls_in moments
polls_in (Gave given ∷ moments) = polls_in moments + 1
polls_in (Polled ∷ moments) = polls_in moments + 1

-- a port without cards after these moments
abbrev pub port_after : List Moment → PortState
port_after moments = record { sent = sent_in moments; given = given_in moments; facts = []; made = []; polls = polls_in moments }

-- where the disk's clock is at c now: how many moments ago the moment k was
abbrev pub ago : ℕ → List Moment → ℕ → ℕ
ago c moments k = c + ports moments - k

-- how many moments were past at the moment k
abbrev pub past_by : ℕ → List Moment → ℕ → ℕ
past_by c moments k = length moments - ago c moments k

-- the disk's own moment at the moment k
abbrev pub disk_moment : ℕ → List Moment → ℕ → ℕ
disk_moment c moments k = c - (disks (drop (past_by c moments k) moments) + (ago c moments k - length moments))

-- what a bare site tells, by its disk and its moments
abbrev pub bare_told : {E B C S : Type 0} → Meaning E B C → (S → E) → (S → List Moment) → Meaning S PortState (Unit {0})
bare_told told disk moments = record {
  tells = λ site. told.tells (disk site);
  seen = λ site. told.seen (disk site);
  clock = λ site. told.clock (disk site) + ports (moments site);
  image_at = λ site k. told.image_at (disk site) (disk_moment (told.clock (disk site)) (moments site) k);
  beside_at = λ site k. port_after (take (past_by (told.clock (disk site)) (moments site) k) (moments site));
  choice_at = λ site k choice. Unit {0};
}

-- the moments after a call of the disk: one more, unless it found no memory
abbrev pub moments_after : {T : Type 0} → Result T DiskFault → List Moment → List Moment
moments_after (Ok value) moments = moments ++ Disk ∷ []
moments_after (Err Failed) moments = moments ++ Disk ∷ []
moments_after (Err Memory) moments = moments

-- ---- laws

pub disks-append : (one other : List Moment) → disks (one ++ other) ≡ disks one + disks other
disks-append [] other = omega arith
disks-append (Disk ∷ one) other = omega (arith, disks-append one other)
disks-append (Sent departure ∷ one) other = disks-append one other
disks-append (Gave given ∷ one) other = disks-append one other
disks-append (Polled ∷ one) other = disks-append one other

pub ports-append : (one other : List Moment) → ports (one ++ other) ≡ ports one + ports other
ports-append [] other = omega arith
ports-append (Disk ∷ one) other = ports-append one other
ports-append (Sent departure ∷ one) other = omega (arith, ports-append one other)
ports-append (Gave given ∷ one) other = omega (arith, ports-append one other)
ports-append (Polled ∷ one) other = omega (arith, ports-append one other)

pub sent_in-append : (one other : List Moment) → sent_in (one ++ other) ≡ sent_in one ++ sent_in other
sent_in-append [] other = refl
sent_in-append (Disk ∷ one) other = sent_in-append one other
sent_in-append (Sent departure ∷ one) other = ap (λ (l : List Departure). departure ∷ l) (sent_in-append one other)
sent_in-append (Gave given ∷ one) other = sent_in-append one other
sent_in-append (Polled ∷ one) other = sent_in-append one other

pub given_in-append : (one other : List Moment) → given_in (one ++ other) ≡ given_in one ++ given_in other
given_in-append [] other = refl
given_in-append (Disk ∷ one) other = given_in-append one other
given_in-append (Sent departure ∷ one) other = given_in-append one other
given_in-append (Gave given ∷ one) other = ap (λ (l : List (CardId × List ℕ)). (given.card, given.message) ∷ l) (given_in-append one other)
given_in-append (Polled ∷ one) other = given_in-append one other

pub polls_in-append : (one other : List Moment) → polls_in (one ++ other) ≡ polls_in one + polls_in other
polls_in-append [] other = omega arith
polls_in-append (Disk ∷ one) other = polls_in-append one other
polls_in-append (Sent departure ∷ one) other = polls_in-append one other
polls_in-append (Gave given ∷ one) other = omega (arith, polls_in-append one other)
polls_in-append (Polled ∷ one) other = omega (arith, polls_in-append one other)

-- a moment is the disk's or the port's
pub one_moment : (moment : Moment) → ports (moment ∷ []) + disks (moment ∷ []) ≡ 1
one_moment Disk = refl
one_moment (Sent departure) = refl
one_moment (Gave given) = refl
one_moment Polled = refl

-- now
pub all_past : (c : ℕ) (moments : List Moment) → past_by c moments (c + ports moments) ≡ length moments
all_past c moments = omega arith

pub moment_now : (c : ℕ) (moments : List Moment) → disk_moment c moments (c + ports moments) ≡ c
moment_now c moments =
    let none : drop (past_by c moments (c + ports moments)) moments ≡ [] = drop_all (past_by c moments (c + ports moments)) moments (omega (arith, all_past c moments)) in
    let zero_left : disks (drop (past_by c moments (c + ports moments)) moments) ≡ 0 = ap disks none in
    omega (arith, zero_left)

-- one more moment, which takes the disk's clock to c'
module _ (c c' : ℕ) (moments : List Moment) (moment : Moment) (ticks : c' ≡ c + disks (moment ∷ [])) (k : ℕ) (le : k ≤ c + ports moments) where
  abbrev more : List Moment
  more = moments ++ moment ∷ []

  clock_more : c' + ports more ≡ c + ports moments + 1
  clock_more = omega (arith, ticks, ports-append moments (moment ∷ []), one_moment moment)

  same_past : past_by c' more k ≡ past_by c moments k
  same_past = omega (arith, clock_more, length-append moments (moment ∷ []), le)

  pub past_done : take (past_by c' (moments ++ moment ∷ []) k) (moments ++ moment ∷ []) ≡ take (past_by c moments k) moments
  past_done = ap (λ (n : ℕ). take n more) same_past ∙ take-append-le (past_by c moments k) moments (moment ∷ []) (omega arith)

  pub past_moment : disk_moment c' (moments ++ moment ∷ []) k ≡ disk_moment c moments k
  past_moment =
      let left : drop (past_by c' more k) more ≡ drop (past_by c moments k) moments ++ moment ∷ [] =
      ap (λ (n : ℕ). drop n more) same_past ∙ drop-append-le (past_by c moments k) moments (moment ∷ []) (omega arith) in
      let counted : disks (drop (past_by c' more k) more) ≡ disks (drop (past_by c moments k) moments) + disks (moment ∷ []) =
      ap disks left ∙ disks-append (drop (past_by c moments k) moments) (moment ∷ []) in
      omega (arith, counted, ticks, clock_more, length-append moments (moment ∷ []), le)
