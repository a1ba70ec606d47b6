-- What a call of a disk in memory does to what the disk tells.
use Rattle.std.proofs.Common.{◌≡◌, ⊎_elim, ℕ, ◌+◌, ◌≤◌, ◌<◌, List, [], ◌∷◌, ◌++◌, length, take, refl, sym, ◌∙◌, ap, subst, arith, length-append, Result, Ok, Err}
use Rattle.std.specs.Prelude.{Option, Some, None, OnOk}
use Rattle.std.specs.Option.{option_map_or}
use Rattle.std.proofs.lemmas.List.{take-append-le, take_all}
use Rattle.std.proofs.lemmas.Bool.{cases_lt}
use Rattle.disk_model.specs.Disk.{DiskRun, Ticks, Changes, Torn, Cut, Follows, Only, image_now}
use Rattle.disk_model.specs.Writing.{torn-same, cut-same}
use Rattle.disk_model.specs.Effects.{Effect, Nothing, Writes, Cuts, Settles, place_in, changed, images_after, IsImage}
use Rattle.disk_model.specs.EffectLaws.{are_images, image-is_image, contents_after_more, IsImage_more}
use Rattle.disk_model.specs.ArmedCalls.{armed_at}
use Rattle.disk_model.specs.MemDisk.{MemState, contents, next_call, failure_at, Steps, mem_told}
use Rattle.disk_model.specs.declared.faults.DiskFault.{DiskFault}
use Rattle.disk_model.specs.declared.faults.DiskFault.TheVariants.{Failed, Memory}
use Rattle.disk_model.specs.declared.call_kinds.Call.{Call}
use Rattle.disk_model.specs.declared.images.Image.{Image}
use Rattle.disk_model.specs.declared.images.Image.TheVariants.{New}

abbrev Images : Type 1
Images = List ℕ → Type 0

-- the images of all the effects
all_effects : (first : List ℕ) (effects : List Effect) → IsImage first (take (length effects) effects) ≡ IsImage first effects
all_effects first effects = ap (λ (es : List Effect). IsImage first es) (take_all (length effects) effects (omega arith))

module _ (old new : MemState) (P : Images) (first : new.first ≡ old.first)
    (start : (image : List ℕ) → IsImage old.first old.effects image → P image) where
  -- no effect
  pub none_more : new.effects ≡ old.effects → DiskRun mem_told old new P
  none_more effects = record {
    past = record {
      later = omega (arith, long);
      no_more = λ k image le at. subst (λ (Q : Images). Q image) (same k) at;
      no_fewer = λ k image le at. subst (λ (Q : Images). Q image) (sym (same k)) at;
      beside = λ k le. refl;
      no_more_choices = λ k choice le at. at;
      no_fewer_choices = λ k choice le at. at;
    };
    each = λ k image low high at. start image (subst (λ (Q : Images). Q image) (same k ∙ ap (λ (n : ℕ). IsImage old.first (take n old.effects)) (end k low high) ∙ all_effects old.first old.effects) at);
    stands = λ k low high. refl;
    choices_stand = λ k choice low high at. at;
    choices_stay = λ k choice low high at. at;
  }
    where
      long : length new.effects ≡ length old.effects
      long = ap length effects

      same : (k : ℕ) → IsImage new.first (take k new.effects) ≡ IsImage old.first (take k old.effects)
      same k = ap (λ (f : List ℕ). IsImage f (take k new.effects)) first ∙ ap (λ (es : List Effect). IsImage old.first (take k es)) effects

      end : (k : ℕ) → length old.effects ≤ k → k ≤ length new.effects → k ≡ length old.effects
      end k low high = omega (arith, long)

  -- one effect
  pub one_more : (effect : Effect) → new.effects ≡ old.effects ++ effect ∷ []
      → ((image : List ℕ) → images_after (contents old) (IsImage old.first old.effects) effect image → P image) → DiskRun mem_told old new P
  one_more effect effects after = record {
    past = record {
      later = omega (arith, long);
      no_more = λ k image le at. subst (λ (Q : Images). Q image) (before k le) at;
      no_fewer = λ k image le at. subst (λ (Q : Images). Q image) (sym (before k le)) at;
      beside = λ k le. refl;
      no_more_choices = λ k choice le at. at;
      no_fewer_choices = λ k choice le at. at;
    };
    each = λ k image low high at. ⊎_elim
        (λ early. start image (subst (λ (Q : Images). Q image) (before k (omega arith) ∙ ap (λ (n : ℕ). IsImage old.first (take n old.effects)) (at_start k low early) ∙ all_effects old.first old.effects) at))
        (λ late. after image (subst (λ (Q : Images). Q image) (same k ∙ ap (λ (n : ℕ). IsImage old.first (take n longer)) (at_end k late high) ∙ all_effects old.first longer ∙ IsImage_more old.first old.effects effect) at))
        (cases_lt k (length old.effects + 1));
    stands = λ k low high. refl;
    choices_stand = λ k choice low high at. at;
    choices_stay = λ k choice low high at. at;
  }
    where
      longer : List Effect
      longer = old.effects ++ effect ∷ []

      long : length new.effects ≡ length old.effects + 1
      long = ap length effects ∙ length-append old.effects (effect ∷ [])

      long_longer : length longer ≡ length old.effects + 1
      long_longer = length-append old.effects (effect ∷ [])

      same : (k : ℕ) → IsImage new.first (take k new.effects) ≡ IsImage old.first (take k longer)
      same k = ap (λ (f : List ℕ). IsImage f (take k new.effects)) first ∙ ap (λ (es : List Effect). IsImage old.first (take k es)) effects

      before : (k : ℕ) → k ≤ length old.effects → IsImage new.first (take k new.effects) ≡ IsImage old.first (take k old.effects)
      before k le = same k ∙ ap (λ (es : List Effect). IsImage old.first es) (take-append-le k old.effects (effect ∷ []) le)

      at_start : (k : ℕ) → length old.effects ≤ k → k < length old.effects + 1 → k ≡ length old.effects
      at_start k low early = omega arith

      at_end : (k : ℕ) → length old.effects + 1 ≤ k → k ≤ length new.effects → k ≡ length longer
      at_end k late high = omega (arith, long, long_longer)

-- a failing call leaves one of the images that there were
failure_is_image : (old : MemState) (failing_image : Option Image) (image : List ℕ)
    → images_after (contents old) (IsImage old.first old.effects) (option_map_or Settles failing_image Nothing) image → IsImage old.first old.effects image
failure_is_image old None image is = is
failure_is_image old (Some kind) image is =
    subst (IsImage old.first old.effects) (sym is) (image-is_image (contents old) (IsImage old.first old.effects) (are_images old.first old.effects) kind)

module _ {T : Type 0} (old new : MemState) (call : Call) (effect : Effect) where
  pub run_of : (result : Result T DiskFault) (P : Images) → Steps old new result call effect
      → ((image : List ℕ) → IsImage old.first old.effects image → P image)
      → ((image : List ℕ) → images_after (contents old) (IsImage old.first old.effects) effect image → P image) → DiskRun mem_told old new P
  run_of (Ok _) P steps start after = one_more old new P (ap (λ (s : MemState). s.first) steps.2) start effect (ap (λ (s : MemState). s.effects) steps.2) after
  run_of (Err Failed) P steps start after =
      one_more old new P (ap (λ (s : MemState). s.first) steps.2) start (failure_at old.armed (next_call old)) (ap (λ (s : MemState). s.effects) steps.2)
      (λ image is. start image (failure_is_image old (armed_at old.armed (next_call old)) image is))
  run_of (Err Memory) P steps start after = none_more old new P (ap (λ (s : MemState). s.first) steps) start (ap (λ (s : MemState). s.effects) steps)

  pub ticks_of : (result : Result T DiskFault) → Steps old new result call effect → Ticks (length old.effects) (length new.effects) result
  ticks_of (Ok _) steps = ap (λ (s : MemState). length s.effects) steps.2 ∙ length-append old.effects (effect ∷ [])
  ticks_of (Err Failed) steps = ap (λ (s : MemState). length s.effects) steps.2 ∙ length-append old.effects (failure_at old.armed (next_call old) ∷ [])
  ticks_of (Err Memory) steps = ap (λ (s : MemState). length s.effects) steps

  pub changes_of : (result : Result T DiskFault) → Steps old new result call effect → Changes (contents old).seen (contents new).seen result (changed (contents old) effect).seen
  changes_of (Ok _) steps = ap (λ (s : MemState). (contents s).seen) steps.2 ∙ ap (λ c. c.seen) (contents_after_more old.first old.effects effect)
  changes_of (Err Failed) steps = tt
  changes_of (Err Memory) steps = ap (λ (s : MemState). (contents s).seen) steps

-- an image of all the effects is one now
now : (disk : MemState) (image : List ℕ) → IsImage disk.first disk.effects image → image_now mem_told disk image
now disk image is = subst (λ (Q : Images). Q image) (sym (all_effects disk.first disk.effects)) is

module _ {T : Type 0} (old new : MemState) (call : Call) (result : Result T DiskFault) where
  -- a call without effect
  pub quiet_run : Steps old new result call Nothing → DiskRun mem_told old new (image_now mem_told old)
  quiet_run steps = run_of old new call Nothing result (image_now mem_told old) steps (now old) (now old)

  pub sync_run : Steps old new result call (Settles New) → DiskRun mem_told old new (image_now mem_told old)
  sync_run steps = run_of old new call (Settles New) result (image_now mem_told old) steps (now old)
      (λ image is. now old image (subst (IsImage old.first old.effects) (sym is) (are_images old.first old.effects).seen))

  pub write_run : (at : ℕ) (octets : List ℕ) → at ≤ length (contents old).seen → Steps old new result call (Writes at octets)
      → DiskRun mem_told old new (Follows (Torn at (length octets)) (image_now mem_told old))
  write_run at octets within steps = run_of old new call (Writes at octets) result (Follows (Torn at (length octets)) (image_now mem_told old)) steps
      (λ image is. (image, now old image is, torn-same at (length octets) image))
      (λ image torn. (torn.0, now old torn.0 torn.1, subst (λ (place : ℕ). Torn place (length octets) torn.0 image) at_place torn.2))
    where
      at_place : place_in (contents old) at ≡ at
      at_place = omega arith

  pub cut_run : (len : ℕ) → Steps old new result call (Cuts len) → DiskRun mem_told old new (Follows (Cut len) (image_now mem_told old))
  cut_run len steps = run_of old new call (Cuts len) result (Follows (Cut len) (image_now mem_told old)) steps
      (λ image is. (image, now old image is, cut-same len image))
      (λ image cut. (cut.0, now old cut.0 cut.1, cut.2))

-- after a sync a stop leaves what a read gives
pub synced : {T : Type 0} (old new : MemState) (call : Call) (result : Result T DiskFault) → Steps old new result call (Settles New)
    → OnOk result (Only (contents old).seen (image_now mem_told new))
synced old new call (Ok _) steps = λ image is. subst (λ (Q : Images). Q image)
    (all_effects new.first new.effects ∙ ap (λ (s : MemState). IsImage s.first s.effects) steps.2 ∙ IsImage_more old.first old.effects (Settles New)) is
synced old new call (Err _) steps = tt
