-- Laws of the images: each of the three contents is one of them, and what one more effect adds.
use Rattle.std.specs.Prelude.{◌≡◌, ◌≤◌, ℕ, List, [], ◌∷◌, ◌++◌, length, replicate, fold, refl}
use Rattle.std.proofs.Common.{arith, subst, length-take}
use Rattle.std.proofs.lemmas.List.{length-replicate}
use Rattle.std.proofs.lemmas.List.Sums.{fold-append}
use Rattle.disk_model.specs.Disk.{overwritten, Torn}
use Rattle.disk_model.specs.Contents.{Contents, image_of, settled}
use Rattle.disk_model.specs.Effects.{Effect, Nothing, Writes, Cuts, Settles, place_in, changed, contents_after, images_after, images_from, IsImage}
use Rattle.disk_model.specs.Writing.{length-overwritten, torn-overwritten, torn-same, cut-same, cut-take}
use Rattle.disk_model.specs.declared.images.Image.{Image}
use Rattle.disk_model.specs.declared.images.Image.TheVariants.{Old, New, Torn as TornImage}

-- each of the three contents is an image, and the torn one is as long as what a read gives
pub record AreImages (contents : Contents) (images : List ℕ → Type 0) : Type 0 where
  pub durable : images contents.durable
  pub seen : images contents.seen
  pub torn : images contents.torn
  pub as_long : length contents.torn ≡ length contents.seen

pub image-is_image : (contents : Contents) (images : List ℕ → Type 0) → AreImages contents images → (image : Image) → images (image_of contents image)
image-is_image contents images are Old = are.durable
image-is_image contents images are New = are.seen
image-is_image contents images are TornImage = are.torn

-- so it stays after each effect
after_effect : (contents : Contents) (images : List ℕ → Type 0) (effect : Effect) → AreImages contents images → AreImages (changed contents effect) (images_after contents images effect)
after_effect contents images Nothing are = are
after_effect contents images (Writes at octets) are = record {
  durable = (contents.durable, are.durable, torn-same place (length octets) contents.durable);
  seen = (contents.seen, are.seen, torn-overwritten contents.seen place octets within);
  torn = (contents.torn, are.torn, subst (λ n. Torn place n contents.torn (overwritten contents.torn place erased)) size (torn-overwritten contents.torn place erased within_torn));
  as_long = omega (arith, size, are.as_long, length-overwritten contents.seen place octets within, length-overwritten contents.torn place erased within_torn);
}
  where
    place : ℕ
    place = place_in contents at

    erased : List ℕ
    erased = replicate (length octets) 255

    size : length erased ≡ length octets
    size = length-replicate (length octets) 255

    within : place ≤ length contents.seen
    within = omega arith

    within_torn : place ≤ length contents.torn
    within_torn = omega (arith, are.as_long)
after_effect contents images (Cuts len) are = record {
  durable = (contents.durable, are.durable, cut-same len contents.durable);
  seen = (contents.seen, are.seen, cut-take len contents.seen);
  torn = (contents.torn, are.torn, cut-take len contents.torn);
  as_long = omega (arith, are.as_long, length-take len contents.seen, length-take len contents.torn);
}
after_effect contents images (Settles image) are = record { durable = refl; seen = refl; torn = refl; as_long = refl }

after_effects : (contents : Contents) (images : List ℕ → Type 0) (effects : List Effect) → AreImages contents images → AreImages (fold changed contents effects) (images_from contents images effects)
after_effects contents images [] are = are
after_effects contents images (effect ∷ effects) are = after_effects (changed contents effect) (images_after contents images effect) effects (after_effect contents images effect are)

pub are_images : (first : List ℕ) (effects : List Effect) → AreImages (contents_after first effects) (IsImage first effects)
are_images first effects = after_effects (settled first) (λ octets. octets ≡ first) effects (record { durable = refl; seen = refl; torn = refl; as_long = refl })

-- one effect more
images_from_more : (contents : Contents) (images : List ℕ → Type 0) (effects : List Effect) (effect : Effect)
    → images_from contents images (effects ++ effect ∷ []) ≡ images_after (fold changed contents effects) (images_from contents images effects) effect
images_from_more contents images [] effect = refl
images_from_more contents images (first ∷ effects) effect = images_from_more (changed contents first) (images_after contents images first) effects effect

pub contents_after_more : (first : List ℕ) (effects : List Effect) (effect : Effect) → contents_after first (effects ++ effect ∷ []) ≡ changed (contents_after first effects) effect
contents_after_more first effects effect = fold-append changed (settled first) effects (effect ∷ [])

pub IsImage_more : (first : List ℕ) (effects : List Effect) (effect : Effect) → IsImage first (effects ++ effect ∷ []) ≡ images_after (contents_after first effects) (IsImage first effects) effect
IsImage_more first effects effect = images_from_more (settled first) (λ octets. octets ≡ first) effects effect
