-- Nothing is taken from a source that is left as it was.
use Rattle.std.proofs.Common.{ℕ, List, [], refl, arith}
use Rattle.ota_io.specs.Octets.{TakesAtMost}

pub takes_nothing : (octets : List ℕ) → TakesAtMost 8388609 octets octets
takes_nothing octets = record { taken = []; front = refl; no_more = omega arith }
