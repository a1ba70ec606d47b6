use Rattle.std.proofs.Common.{◌≡◌, ℕ, List, reverse}
use Rattle.ota_core.specs.declared.entries.Entry.{Entry}
use Rattle.keyset_book.specs.Book.{StandsFor}
use Rattle.lane_engine.specs.Reserving.{jobs_refusal}
use Rattle.lane_engine.proofs.ReservingLemmas.{refusal_from}
use Rattle.lane_engine.proofs.reserving.may_reserve_all.Given as goal

abbrev pub invariant-loop-count : goal.invariant-loop-count
invariant-loop-count l = (history : List Entry) → StandsFor l.book history → (by moment : ℕ) (name : List ℕ) → jobs_refusal by moment name (reverse history) l.jobs ≡ refusal_from by moment name (reverse history) l.jobs l.count
