-- What the calls of a disk in memory did, and which images a stop may leave after them. Both are functions of
-- what it held at first and of the list of effects, so that each moment stays what it was.
use Rattle.std.specs.Prelude.{◌≡◌, ℕ, min, List, [], ◌∷◌, length, fold}
use Rattle.disk_model.specs.Disk.{Torn, Cut, Follows}
use Rattle.disk_model.specs.Contents.{Contents, image_of, settled, written, cut_to}
use Rattle.disk_model.specs.declared.images.Image.{Image}

pub data Effect : Type 0 where
  Nothing : Effect
  Writes : ℕ → List ℕ → Effect
  Cuts : ℕ → Effect
  -- all is on the disk, as this image of it
  Settles : Image → Effect

-- a place within the content
abbrev pub place_in : Contents → ℕ → ℕ
place_in contents at = min at (length contents.seen)

abbrev pub changed : Contents → Effect → Contents
changed contents Nothing = contents
changed contents (Writes at octets) = written contents (place_in contents at) octets
changed contents (Cuts len) = cut_to contents len
changed contents (Settles image) = settled (image_of contents image)

abbrev pub contents_after : List ℕ → List Effect → Contents
contents_after first effects = fold changed (settled first) effects

-- the images after an effect, from those before it
abbrev pub images_after : Contents → (List ℕ → Type 0) → Effect → List ℕ → Type 0
images_after contents images Nothing = images
images_after contents images (Writes at octets) = Follows (Torn (place_in contents at) (length octets)) images
images_after contents images (Cuts len) = Follows (Cut len) images
images_after contents images (Settles image) = λ octets. octets ≡ image_of contents image

abbrev pub images_from : Contents → (List ℕ → Type 0) → List Effect → List ℕ → Type 0
images_from contents images [] = images
images_from contents images (effect ∷ effects) = images_from (changed contents effect) (images_after contents images effect) effects

-- the images that a stop may leave after these effects
abbrev pub IsImage : List ℕ → List Effect → List ℕ → Type 0
IsImage first effects = images_from (settled first) (λ octets. octets ≡ first) effects
