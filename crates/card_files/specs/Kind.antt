-- New files. ETSI TS 102 222, 6.3.
use Rattle.std.specs.Prelude.{ℕ, ◌<◌, ◌≤◌}
use Rattle.card_files.specs.declared.kind.Kind.{Kind}
use Rattle.card_files.specs.declared.kind.Kind.TheVariants.{Folder, Transparent, Linear, Cyclic}

-- an EF has an octet at least, and a record EF 1 to 254 records of 1 to 255 octets
abbrev pub IsSized : Kind → Type 0
IsSized Folder = Unit {0}
IsSized (Transparent size) = 0 < size
IsSized (Linear width count) = (0 < width) × (width < 256) × (0 < count) × (count ≤ 254)
IsSized (Cyclic width count) = (0 < width) × (width < 256) × (0 < count) × (count ≤ 254)

-- how deep below the MF the folder of such a file may lie: fewer levels than these
abbrev pub deepest : Kind → ℕ
deepest Folder = 3
deepest _ = 4
