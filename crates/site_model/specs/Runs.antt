-- The moments of a port's call, and of what a site does in several calls.
use Rattle.std.specs.Prelude.{◌⊎◌, ◌≤◌, ℕ, List}
use Rattle.std.proofs.Common.{inl, inr, ⊎_elim, arith, sym, subst}
use Rattle.std.proofs.lemmas.Bool.{cases_lt}
use Rattle.disk_model.specs.Disk.{Meaning, PastStands, DiskRun, image_now}
use Rattle.disk_model.specs.Runs.{past_joined}

module _ {D B C : Type 0} (told : Meaning D B C) where
  -- What stood at the moments up to the call stands as it was. At each moment of the call, its start and its end among
  -- them, what is beside the disk has Q, and a stop leaves just what it might have left at the start.
  pub record PortRun (old new : D) (Q : B → Type 0) : Type 0 where
    pub past : PastStands told old new
    pub images_stand : (k : ℕ) (image : List ℕ) → told.clock old ≤ k → k ≤ told.clock new → told.image_at new k image → image_now told old image
    pub images_stay : (k : ℕ) (image : List ℕ) → told.clock old ≤ k → k ≤ told.clock new → image_now told old image → told.image_at new k image
    pub each : (k : ℕ) → told.clock old ≤ k → k ≤ told.clock new → Q (told.beside_at new k)

  -- The same for calls of both kinds: at each moment, an image and what is beside the disk, with each choice, have R.
  pub record SiteRun (old new : D) (R : List ℕ → B → C → Type 0) : Type 0 where
    pub past : PastStands told old new
    pub each : (k : ℕ) (image : List ℕ) (choice : C) → told.clock old ≤ k → k ≤ told.clock new → told.image_at new k image → told.choice_at new k choice
        → R image (told.beside_at new k) choice

  -- a disk's run is one of the site
  pub of_disk : (old new : D) (P : List ℕ → Type 0) (R : List ℕ → B → C → Type 0) → DiskRun told old new P
      → ((image : List ℕ) (choice : C) → P image → told.choice_at old (told.clock old) choice → R image (told.beside_at old (told.clock old)) choice)
      → SiteRun old new R
  of_disk old new P R run holds = record {
    past = run.past;
    each = λ k image choice low high at chosen.
        subst (λ (b : B). R image b choice) (sym (run.stands k low high))
        (holds image choice (run.each k image low high at) (run.choices_stand k choice low high chosen));
  }

  -- a port's run is one of the site
  pub of_port : (old new : D) (Q : B → Type 0) (R : List ℕ → B → C → Type 0) → PortRun old new Q
      → ((k : ℕ) (image : List ℕ) (choice : C) → told.clock old ≤ k → k ≤ told.clock new → image_now told old image → Q (told.beside_at new k) → told.choice_at new k choice → R image (told.beside_at new k) choice)
      → SiteRun old new R
  of_port old new Q R run holds = record {
    past = run.past;
    each = λ k image choice low high at chosen. holds k image choice low high (run.images_stand k image low high at) (run.each k low high) chosen;
  }

  -- what follows from R holds too
  pub weaker_site : (old new : D) (R S : List ℕ → B → C → Type 0) → SiteRun old new R → ((image : List ℕ) (beside : B) (choice : C) → R image beside choice → S image beside choice) → SiteRun old new S
  weaker_site old new R S run then_s = record {
    past = run.past;
    each = λ k image choice low high at chosen. then_s image (told.beside_at new k) choice (run.each k image choice low high at chosen);
  }

  -- at the end of a run
  pub at_end : (old new : D) (R : List ℕ → B → C → Type 0) → SiteRun old new R → (image : List ℕ) (choice : C) → image_now told new image
      → told.choice_at new (told.clock new) choice → R image (told.beside_at new (told.clock new)) choice
  at_end old new R run image choice now chosen = run.each (told.clock new) image choice run.past.later (omega arith) now chosen

  -- one run after another
  pub joined_site : (old mid new : D) (R : List ℕ → B → C → Type 0) → SiteRun old mid R → SiteRun mid new R → SiteRun old new R
  joined_site old mid new R first second = record {
    past = past_joined told old mid new first.past second.past;
    each = λ k image choice low high at chosen. ⊎_elim
        (λ early. subst (λ (b : B). R image b choice) (sym (second.past.beside k early))
        (first.each k image choice low early (second.past.no_more k image early at) (second.past.no_more_choices k choice early chosen)))
        (λ late. second.each k image choice late high at chosen) (before_or_after k);
  }
    where
      before_or_after : (k : ℕ) → (k ≤ told.clock mid) ⊎ (told.clock mid ≤ k)
      before_or_after k = ⊎_elim (λ early. inl (omega arith)) (λ late. inr late) (cases_lt k (told.clock mid))
