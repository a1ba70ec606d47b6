-- What a disk in memory holds, in the three forms that a stop may leave.
use Rattle.std.specs.Prelude.{ℕ, List, length, take, replicate}
use Rattle.disk_model.specs.Disk.{overwritten}
use Rattle.disk_model.specs.declared.images.Image.{Image}
use Rattle.disk_model.specs.declared.images.Image.TheVariants.{Old, New, Torn}

pub record Contents : Type 0 where
  -- what unsynced writes and cuts were made on
  pub durable : List ℕ
  -- what a read gives
  pub seen : List ℕ
  -- the same with FF in the place of each octet that was written and not synced
  pub torn : List ℕ

abbrev pub image_of : Contents → Image → List ℕ
image_of contents Old = contents.durable
image_of contents New = contents.seen
image_of contents Torn = contents.torn

-- all three are these octets
abbrev pub settled : List ℕ → Contents
settled octets = record { durable = octets; seen = octets; torn = octets }

abbrev pub written : Contents → ℕ → List ℕ → Contents
written contents at octets = record {
  durable = contents.durable;
  seen = overwritten contents.seen at octets;
  torn = overwritten contents.torn at (replicate (length octets) 255);
}

abbrev pub cut_to : Contents → ℕ → Contents
cut_to contents len = record { durable = contents.durable; seen = take len contents.seen; torn = take len contents.torn }
