-- The calls that were armed.
use Rattle.std.specs.Prelude.{◌==◌, ℕ, List, reverse, Option, option_map, find}
use Rattle.disk_model.specs.declared.armed_calls.ArmedCall.{ArmedCall}
use Rattle.disk_model.specs.declared.images.Image.{Image}

-- the image of the call with this number, the one armed last
abbrev pub armed_at : List ArmedCall → ℕ → Option Image
armed_at armed call = option_map (λ one. one.image) (find (λ one. one.call == call) (reverse armed))
