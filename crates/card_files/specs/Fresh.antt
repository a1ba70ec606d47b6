-- The files of a new card. Which they are is this card's own; ETSI TS 102 221, 13 and 3GPP TS 31.102, 4
-- have their meanings.
use Rattle.std.specs.Prelude.{ℕ, Bool, true, false, None, List, [], ◌∷◌, replicate}
use Rattle.std.specs.FinMap as map
use Rattle.file_records.specs.declared.contents.Contents.{Contents}
use Rattle.file_records.specs.declared.contents.Contents.TheVariants.{Folder, Transparent, Linear, Cyclic}
use Rattle.file_records.specs.declared.file.File.{File}
use Rattle.file_records.specs.Rows.{Rows}
use Rattle.card_files.specs.State.{Tree, State}

-- the files with one more: an active one with these contents
unfoldable pub with_new : Tree → List ℕ → Bool → Contents → Tree
with_new files path remote contents =
    let file : File = record { remote = remote; active = true; contents = contents } in
    map.insert files path file

-- records of one length, each octet the same
unfoldable pub rows_with : ℕ → ℕ → ℕ → Rows
rows_with width count octet = record { width = width; rows = replicate count (replicate width octet) }

-- the octets of a new transparent EF
unfoldable pub octets_with : ℕ → List ℕ
octets_with size = replicate size 255

-- the MF; EF ICCID, which may not be managed remotely; a transparent and a cyclic EF; DF TELECOM with EF
-- ADN and EF SMSP
abbrev pub fresh_files : Tree
fresh_files =
    let mf : Tree = with_new map.empty [] true Folder in
    let iccid : Tree = with_new mf (0x2FE2 ∷ []) false (Transparent (octets_with 10)) in
    let octets : Tree = with_new iccid (0x6FA1 ∷ []) true (Transparent (octets_with 64)) in
    let counter : Tree = with_new octets (0x6FA0 ∷ []) true (Cyclic (rows_with 3 3 0)) in
    let telecom : Tree = with_new counter (0x7F10 ∷ []) true Folder in
    let adn : Tree = with_new telecom (0x7F10 ∷ 0x6F3A ∷ []) true (Linear (rows_with 28 10 255)) in
    with_new adn (0x7F10 ∷ 0x6F42 ∷ []) true (Linear (rows_with 40 2 255))

-- the MF is selected
abbrev pub fresh_state : State
fresh_state = record { files = fresh_files; folder = []; ef = None }
