use Rattle.std.proofs.Common.{◌≡◌, ◌-◌, ◌≤◌, List, length}
use Rattle.std.specs.List.{range_with_len}
use Rattle.ota_core.specs.History.{first_some}
use Rattle.ota_core.specs.declared.entries.Entry.{Entry}
use Rattle.keyset_book.specs.Book.{StandsFor}
use Rattle.lane_engine.specs.Receipts.{response_at, response_of}
use Rattle.lane_engine.proofs.responses.response_of.Given as goal

-- the packet opens under none of the keysets before this one
abbrev pub invariant-loop-kvn : goal.invariant-loop-kvn
invariant-loop-kvn l =
    (1 ≤ l.kvn) × (l.kvn ≤ 16) × (length l.packet ≤ length l.work)
    × ((history : List Entry) → StandsFor l.book history → first_some (response_at history l.card l.packet) (range_with_len l.kvn (16 - l.kvn)) ≡ response_of history l.card l.packet)

abbrev pub decreases-loop-kvn : goal.decreases-loop-kvn
decreases-loop-kvn l = 16 - l.kvn
