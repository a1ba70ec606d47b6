-- How runs of disk calls go on, one after the other.
use Rattle.std.specs.Prelude.{◌≡◌, ◌⊎◌, ◌≤◌, ℕ, List, refl}
use Rattle.std.proofs.Common.{inl, inr, ⊎_elim, arith, sym, ◌∙◌, ap, subst}
use Rattle.std.proofs.lemmas.Bool.{cases_lt}
use Rattle.disk_model.specs.Disk.{Meaning, PastStands, DiskRun, image_now}

module _ {D B C : Type 0} (told : Meaning D B C) where
  -- before the first call
  pub past_at_once : (disk : D) → PastStands told disk disk
  past_at_once disk = record {
    later = omega arith;
    no_more = λ k image le at. at;
    no_fewer = λ k image le at. at;
    beside = λ k le. refl;
    no_more_choices = λ k choice le at. at;
    no_fewer_choices = λ k choice le at. at;
  }

  -- before the first call
  pub at_once : (disk : D) (P : List ℕ → Type 0) → ((image : List ℕ) → image_now told disk image → P image) → DiskRun told disk disk P
  at_once disk P now = record {
    past = past_at_once disk;
    each = λ k image low high at. now image (subst (λ n. told.image_at disk n image) (same k low high) at);
    stands = λ k low high. ap (λ n. told.beside_at disk n) (same k low high);
    choices_stand = λ k choice low high at. subst (λ n. told.choice_at disk n choice) (same k low high) at;
    choices_stay = λ k choice low high at. subst (λ n. told.choice_at disk n choice) (sym (same k low high)) at;
  }
    where
      same : (k : ℕ) → told.clock disk ≤ k → k ≤ told.clock disk → k ≡ told.clock disk
      same k low high = omega arith

  -- what follows from P holds too
  pub weaker : (old new : D) (P Q : List ℕ → Type 0) → DiskRun told old new P → ((image : List ℕ) → P image → Q image) → DiskRun told old new Q
  weaker old new P Q run then_q = record {
    past = run.past;
    each = λ k image low high at. then_q image (run.each k image low high at);
    stands = run.stands;
    choices_stand = run.choices_stand;
    choices_stay = run.choices_stay;
  }

  -- the images now are among those of the run
  pub left_now : (old new : D) (P : List ℕ → Type 0) → DiskRun told old new P → (image : List ℕ) → image_now told new image → P image
  left_now old new P run image now = run.each (told.clock new) image run.past.later (omega arith) now

  -- what stood before one call and before the next
  pub past_joined : (old mid new : D) → PastStands told old mid → PastStands told mid new → PastStands told old new
  past_joined old mid new first second = record {
    later = omega (arith, first.later, second.later);
    no_more = λ k image le at. first.no_more k image le (second.no_more k image (omega (arith, first.later)) at);
    no_fewer = λ k image le at. second.no_fewer k image (omega (arith, first.later)) (first.no_fewer k image le at);
    beside = λ k le. second.beside k (omega (arith, first.later)) ∙ first.beside k le;
    no_more_choices = λ k choice le at. first.no_more_choices k choice le (second.no_more_choices k choice (omega (arith, first.later)) at);
    no_fewer_choices = λ k choice le at. second.no_fewer_choices k choice (omega (arith, first.later)) (first.no_fewer_choices k choice le at);
  }

  -- one run after another
  pub joined : (old mid new : D) (P : List ℕ → Type 0) → DiskRun told old mid P → DiskRun told mid new P → DiskRun told old new P
  joined old mid new P first second = record {
    past = past_joined old mid new first.past second.past;
    each = λ k image low high at. ⊎_elim
        (λ early. first.each k image low early (second.past.no_more k image early at))
        (λ late. second.each k image late high at) (before_or_after k);
    stands = λ k low high. ⊎_elim
        (λ early. second.past.beside k early ∙ first.stands k low early)
        (λ late. second.stands k late high ∙ first.stands (told.clock mid) first.past.later (omega arith)) (before_or_after k);
    choices_stand = λ k choice low high at. ⊎_elim
        (λ early. first.choices_stand k choice low early (second.past.no_more_choices k choice early at))
        (λ late. first.choices_stand (told.clock mid) choice first.past.later (omega arith) (second.choices_stand k choice late high at)) (before_or_after k);
    choices_stay = λ k choice low high at. ⊎_elim
        (λ early. second.past.no_fewer_choices k choice early (first.choices_stay k choice low early at))
        (λ late. second.choices_stay k choice late high (first.choices_stay (told.clock mid) choice first.past.later (omega arith) at)) (before_or_after k);
  }
    where
      before_or_after : (k : ℕ) → (k ≤ told.clock mid) ⊎ (told.clock mid ≤ k)
      before_or_after k = ⊎_elim (λ early. inl (omega arith)) (λ late. inr late) (cases_lt k (told.clock mid))
