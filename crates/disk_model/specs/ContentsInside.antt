-- What the fields of a disk's contents stand for, and what holds of them.
use Rattle.std.specs.Prelude.{◌≡◌, ◌≤◌, take, vec_len, vec_capacity}
use Rattle.disk_model.specs.Contents.{Contents}
use Rattle.disk_model.specs.declared.disk_contents.DiskContents.TheInside.{Inside}

abbrev pub contents_of : Inside → Contents
contents_of inside = record { durable = inside.durable.items; seen = inside.seen.items; torn = inside.torn.items }

-- The three are the same up to a place, and each has room for the others.
pub record IsInOrder (inside : Inside) : Type 0 where
  pub within : inside.same ≤ vec_len inside.seen
  pub durable_within : inside.same ≤ vec_len inside.durable
  pub durable : take inside.same inside.durable.items ≡ take inside.same inside.seen.items
  pub torn : take inside.same inside.torn.items ≡ take inside.same inside.seen.items
  pub as_long : vec_len inside.torn ≡ vec_len inside.seen
  pub durable_room : vec_len inside.seen ≤ vec_capacity inside.durable
  pub seen_room : vec_len inside.durable ≤ vec_capacity inside.seen
  pub torn_room : vec_len inside.durable ≤ vec_capacity inside.torn
  pub torn_room_seen : vec_len inside.seen ≤ vec_capacity inside.torn
