-- The runs of a bare site, by those of its disk.
use Rattle.std.specs.Prelude.{◌≡◌, ◌⊎◌, ◌≤◌, ℕ, ◌+◌, List, [], ◌∷◌, ◌++◌, length, take, Result, Ok, Err}
use Rattle.std.proofs.Common.{inl, inr, ⊎_elim, arith, sym, ◌∙◌, ap, subst}
use Rattle.std.proofs.lemmas.Bool.{cases_lt}
use Rattle.std.proofs.lemmas.List.{take_all, append-nil}
use Rattle.disk_model.specs.declared.faults.DiskFault.{DiskFault}
use Rattle.disk_model.specs.declared.faults.DiskFault.TheVariants.{Failed, Memory}
use Rattle.disk_model.specs.Disk.{Meaning, DiskRun, Ticks, image_now}
use Rattle.ota_core.specs.declared.cards.CardId.{CardId}
use Rattle.site_model.specs.declared.departures.Departure.{Departure}
use Rattle.site_model.specs.declared.moments.Moment.{Moment}
use Rattle.site_model.specs.declared.moments.Moment.TheVariants.{Disk}
use Rattle.site_model.specs.Port.{PortState}
use Rattle.site_model.specs.Runs.{PortRun}
use Rattle.site_model.specs.Moments.{ports, disks, sent_in, given_in, polls_in, port_after, past_by, disk_moment, bare_told, moments_after, ports-append, sent_in-append, given_in-append, polls_in-append, one_moment, all_past, moment_now, past_done, past_moment}

-- a disk and its moments
abbrev pub on_pairs : {E B C : Type 0} → Meaning E B C → Meaning (E × List Moment) PortState (Unit {0})
on_pairs told = bare_told told (λ pair. pair.0) (λ pair. pair.1)

-- a call of the disk leaves the port as it is
disk_only : (moments : List Moment) → port_after (moments ++ Disk ∷ []) ≡ port_after moments
disk_only moments =
    let sent : sent_in (moments ++ Disk ∷ []) ≡ sent_in moments = sent_in-append moments (Disk ∷ []) ∙ append-nil (sent_in moments) in
    let given : given_in (moments ++ Disk ∷ []) ≡ given_in moments = given_in-append moments (Disk ∷ []) ∙ append-nil (given_in moments) in
    let polls : polls_in (moments ++ Disk ∷ []) ≡ polls_in moments = omega (arith, polls_in-append moments (Disk ∷ [])) in
    ap (λ (l : List Departure). record { sent = l; given = given_in (moments ++ Disk ∷ []); facts = []; made = []; polls = polls_in (moments ++ Disk ∷ []) }) sent
    ∙ ap (λ (l : List (CardId × List ℕ)). record { sent = sent_in moments; given = l; facts = []; made = []; polls = polls_in (moments ++ Disk ∷ []) }) given
    ∙ ap (λ (n : ℕ). record { sent = sent_in moments; given = given_in moments; facts = []; made = []; polls = n }) polls

module _ {E B C : Type 0} (told : Meaning E B C) where
  -- what a stop may leave now
  pub pair_now : (disk : E) (moments : List Moment) (image : List ℕ) → image_now (on_pairs told) (disk, moments) image → image_now told disk image
  pair_now disk moments image now = subst (λ (k : ℕ). told.image_at disk k image) (moment_now (told.clock disk) moments) now

  pub now_pair : (disk : E) (moments : List Moment) (image : List ℕ) → image_now told disk image → image_now (on_pairs told) (disk, moments) image
  now_pair disk moments image now = subst (λ (k : ℕ). told.image_at disk k image) (sym (moment_now (told.clock disk) moments)) now

  -- what the port is now
  pub port_of_pair : (disk : E) (moments : List Moment) → (on_pairs told).beside_at (disk, moments) ((on_pairs told).clock (disk, moments)) ≡ port_after moments
  port_of_pair disk moments =
      ap (λ (n : ℕ). port_after (take n moments)) (all_past (told.clock disk) moments)
      ∙ ap port_after (take_all (length moments) moments (omega arith))

  module _ (old new : E) (moments : List Moment) (ticks : told.clock new ≡ told.clock old + 1) (P : List ℕ → Type 0) (run : DiskRun told old new P) where
    abbrev c : ℕ
    c = told.clock old

    abbrev c' : ℕ
    c' = told.clock new

    abbrev more : List Moment
    more = moments ++ Disk ∷ []

    clock_is : c' + ports more ≡ c + ports moments + 1
    clock_is = omega (arith, ticks, ports-append moments (Disk ∷ []))

    at_past : (k : ℕ) → k ≤ c + ports moments → disk_moment c' more k ≡ disk_moment c moments k
    at_past k le = past_moment c c' moments Disk ticks k le

    each_early : (k : ℕ) (image : List ℕ) → k ≡ c + ports moments → told.image_at new (disk_moment c' more k) image → P image
    each_early k image is at =
        let place : disk_moment c' more k ≡ c = at_past k (omega (arith, is)) ∙ ap (disk_moment c moments) is ∙ moment_now c moments in
        run.each c image (omega arith) run.past.later (subst (λ (m : ℕ). told.image_at new m image) place at)

    each_late : (k : ℕ) (image : List ℕ) → k ≡ c' + ports more → told.image_at new (disk_moment c' more k) image → P image
    each_late k image is at =
        let place : disk_moment c' more k ≡ c' = ap (disk_moment c' more) is ∙ moment_now c' more in
        run.each c' image run.past.later (omega arith) (subst (λ (m : ℕ). told.image_at new m image) place at)

    early_or_late : (k : ℕ) → c + ports moments ≤ k → k ≤ c' + ports more → (k ≡ c + ports moments) ⊎ (k ≡ c' + ports more)
    early_or_late k low high = ⊎_elim (λ early. inl (omega (arith, early, low, clock_is))) (λ late. inr (omega (arith, late, high, clock_is))) (cases_lt k (c' + ports more))

    stands_early : (k : ℕ) → k ≡ c + ports moments → port_after (take (past_by c' more k) more) ≡ (on_pairs told).beside_at (old, moments) (c + ports moments)
    stands_early k is = ap port_after (past_done c c' moments Disk ticks k (omega (arith, is))) ∙ ap (λ (m : ℕ). port_after (take (past_by c moments m) moments)) is

    stands_late : (k : ℕ) → k ≡ c' + ports more → port_after (take (past_by c' more k) more) ≡ (on_pairs told).beside_at (old, moments) (c + ports moments)
    stands_late k is =
        ap (λ (m : ℕ). port_after (take (past_by c' more m) more)) is ∙ port_of_pair new more ∙ disk_only moments ∙ sym (port_of_pair old moments)

    -- a call of the disk is a moment
    pub ticked : DiskRun (on_pairs told) (old, moments) (new, more) P
    ticked = record {
      past = record {
        later = omega (arith, clock_is);
        no_more = λ k image le at.
            run.past.no_more (disk_moment c moments k) image (omega arith) (subst (λ (m : ℕ). told.image_at new m image) (at_past k le) at);
        no_fewer = λ k image le at.
            subst (λ (m : ℕ). told.image_at new m image) (sym (at_past k le)) (run.past.no_fewer (disk_moment c moments k) image (omega arith) at);
        beside = λ k le. ap port_after (past_done c c' moments Disk ticks k le);
        no_more_choices = λ k choice le at. tt;
        no_fewer_choices = λ k choice le at. tt;
      };
      each = λ k image low high at. ⊎_elim (λ early. each_early k image early at) (λ late. each_late k image late at) (early_or_late k low high);
      stands = λ k low high. ⊎_elim (λ early. stands_early k early) (λ late. stands_late k late) (early_or_late k low high);
      choices_stand = λ k choice low high at. tt;
      choices_stay = λ k choice low high at. tt;
    }

  module _ (old new : E) (moments : List Moment) (ticks : told.clock new ≡ told.clock old) (P : List ℕ → Type 0) (run : DiskRun told old new P) where
    same_moment : (k : ℕ) → disk_moment (told.clock new) moments k ≡ disk_moment (told.clock old) moments k
    same_moment k = ap (λ (n : ℕ). disk_moment n moments k) ticks

    -- a call that found no memory is none
    pub unticked : DiskRun (on_pairs told) (old, moments) (new, moments) P
    unticked = record {
      past = record {
        later = omega (arith, ticks);
        no_more = λ k image le at.
            run.past.no_more (disk_moment (told.clock old) moments k) image (omega arith) (subst (λ (m : ℕ). told.image_at new m image) (same_moment k) at);
        no_fewer = λ k image le at.
            subst (λ (m : ℕ). told.image_at new m image) (sym (same_moment k)) (run.past.no_fewer (disk_moment (told.clock old) moments k) image (omega arith) at);
        beside = λ k le. ap (λ (n : ℕ). port_after (take (past_by n moments k) moments)) ticks;
        no_more_choices = λ k choice le at. tt;
        no_fewer_choices = λ k choice le at. tt;
      };
      each = λ k image low high at.
          let is : k ≡ told.clock new + ports moments = omega (arith, ticks, low, high) in
          let place : disk_moment (told.clock new) moments k ≡ told.clock new = ap (disk_moment (told.clock new) moments) is ∙ moment_now (told.clock new) moments in
          run.each (told.clock new) image run.past.later (omega arith) (subst (λ (m : ℕ). told.image_at new m image) place at);
      stands = λ k low high.
          let is : k ≡ told.clock old + ports moments = omega (arith, ticks, low, high) in
          ap (λ (n : ℕ). port_after (take (past_by n moments k) moments)) ticks ∙ ap (λ (m : ℕ). port_after (take (past_by (told.clock old) moments m) moments)) is;
      choices_stand = λ k choice low high at. tt;
      choices_stay = λ k choice low high at. tt;
    }

  -- each call of the disk
  pub disk_call : {T : Type 0} (old new : E) (moments : List Moment) (res : Result T DiskFault) (P : List ℕ → Type 0) → Ticks (told.clock old) (told.clock new) res
      → DiskRun told old new P → DiskRun (on_pairs told) (old, moments) (new, moments_after res moments) P
  disk_call old new moments (Ok value) P ticks run = ticked old new moments ticks P run
  disk_call old new moments (Err Failed) P ticks run = ticked old new moments ticks P run
  disk_call old new moments (Err Memory) P ticks run = unticked old new moments ticks P run

  -- a moment of the port
  module _ (disk : E) (moments : List Moment) (moment : Moment) (no_call : disks (moment ∷ []) ≡ 0) where
    abbrev d : ℕ
    d = told.clock disk

    abbrev then_more : List Moment
    then_more = moments ++ moment ∷ []

    still : d ≡ d + disks (moment ∷ [])
    still = omega (arith, no_call)

    port_clock : d + ports then_more ≡ d + ports moments + 1
    port_clock = omega (arith, no_call, one_moment moment, ports-append moments (moment ∷ []))

    at_start : (k : ℕ) → k ≤ d + ports moments → disk_moment d then_more k ≡ disk_moment d moments k
    at_start k le = past_moment d d moments moment still k le

    first_or_last : (k : ℕ) → d + ports moments ≤ k → k ≤ d + ports then_more → (k ≡ d + ports moments) ⊎ (k ≡ d + ports then_more)
    first_or_last k low high = ⊎_elim (λ early. inl (omega (arith, early, low, port_clock))) (λ late. inr (omega (arith, late, high, port_clock))) (cases_lt k (d + ports then_more))

    pub beside_first : (k : ℕ) → k ≡ d + ports moments → (on_pairs told).beside_at (disk, then_more) k ≡ port_after moments
    beside_first k is =
        ap port_after (past_done d d moments moment still k (omega (arith, is))) ∙ ap (λ (m : ℕ). port_after (take (past_by d moments m) moments)) is ∙ port_of_pair disk moments

    pub beside_last : (k : ℕ) → k ≡ d + ports then_more → (on_pairs told).beside_at (disk, then_more) k ≡ port_after then_more
    beside_last k is = ap (λ (m : ℕ). port_after (take (past_by d then_more m) then_more)) is ∙ port_of_pair disk then_more

    -- the images stand, and the port is as it was or as it is afterwards
    pub ported : (Q : PortState → Type 0) → Q (port_after moments) → Q (port_after then_more) → PortRun (on_pairs told) (disk, moments) (disk, then_more) Q
    ported Q before after = record {
      past = record {
        later = omega (arith, port_clock);
        no_more = λ k image le at. subst (λ (m : ℕ). told.image_at disk m image) (at_start k le) at;
        no_fewer = λ k image le at. subst (λ (m : ℕ). told.image_at disk m image) (sym (at_start k le)) at;
        beside = λ k le. ap port_after (past_done d d moments moment still k le);
        no_more_choices = λ k choice le at. tt;
        no_fewer_choices = λ k choice le at. tt;
      };
      images_stand = λ k image low high at. ⊎_elim
          (λ early. subst (λ (m : ℕ). told.image_at disk m image) (place_first k early) at)
          (λ late. subst (λ (m : ℕ). told.image_at disk m image) (place_last k late) at)
          (first_or_last k low high);
      images_stay = λ k image low high at. ⊎_elim
          (λ early. subst (λ (m : ℕ). told.image_at disk m image) (sym (place_first k early)) at)
          (λ late. subst (λ (m : ℕ). told.image_at disk m image) (sym (place_last k late)) at)
          (first_or_last k low high);
      each = λ k low high. ⊎_elim
          (λ early. subst Q (sym (beside_first k early)) before)
          (λ late. subst Q (sym (beside_last k late)) after)
          (first_or_last k low high);
    }
      where
        -- the disk's own moment at the start
        at_now : ℕ
        at_now = disk_moment d moments (d + ports moments)

        place_first : (k : ℕ) → k ≡ d + ports moments → disk_moment d then_more k ≡ at_now
        place_first k early = at_start k (omega (arith, early)) ∙ ap (disk_moment d moments) early

        place_last : (k : ℕ) → k ≡ d + ports then_more → disk_moment d then_more k ≡ at_now
        place_last k late = ap (disk_moment d then_more) late ∙ moment_now d then_more ∙ sym (moment_now d moments)
