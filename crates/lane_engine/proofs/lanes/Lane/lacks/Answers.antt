use Rattle.std.proofs.Common.{◌≡◌, true, false, not, reverse, sym, ◌∙◌, subst}
use Rattle.std.specs.List.{list_any}
use Rattle.ota_core.specs.Entry.{is_open_of}
use Rattle.keyset_book.specs.Book.{StandsFor}
use Rattle.keyset_book.specs.declared.books.Book.{Book}
use Rattle.lane_engine.specs.LaneValue.{LaneValue}
use Rattle.lane_engine.proofs.KeysetLemmas.{new_lacks, other_has}
use Rattle.lane_engine.proofs.lanes.Lane.lacks.Goals as goal

-- src/keysets.rt:86:5
pub returns-in-New : goal.returns-in-New
returns-in-New g c =
    subst (λ (v : LaneValue g.row.T.Denot). true ≡ not (list_any (is_open_of c.args.keyset) (reverse v.journal.entries))) c.self.view_is
    (new_lacks c.args.keyset (reverse c.self.inside.journal.entries)
    (sym (c.keyset_state.ensures c.self.inside.journal.entries (subst (λ (b : Book). StandsFor b c.self.inside.journal.entries) (sym c.book.ensures.book) c.book.ensures.stands)) ∙ c.in-New.is))

-- src/keysets.rt:86:5
pub returns-in_default : goal.returns-in_default
returns-in_default g c =
    subst (λ (v : LaneValue g.row.T.Denot). false ≡ not (list_any (is_open_of c.args.keyset) (reverse v.journal.entries))) c.self.view_is
    (other_has c.args.keyset (reverse c.self.inside.journal.entries)
    (λ is. c.in_default.not-New (c.keyset_state.ensures c.self.inside.journal.entries (subst (λ (b : Book). StandsFor b c.self.inside.journal.entries) (sym c.book.ensures.book) c.book.ensures.stands) ∙ is)))
