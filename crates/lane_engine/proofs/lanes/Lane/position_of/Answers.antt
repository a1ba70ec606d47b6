use Rattle.std.proofs.Common.{◌≡◌, ◌≤◌, List, length, sym, ◌∙◌, ap, subst, arith}
use Rattle.std.specs.List.{position_or_len}
use Rattle.ota_core.specs.Entry.{is_reserve_of}
use Rattle.ota_core.specs.declared.entries.Entry.{Entry}
use Rattle.keyset_book.specs.Book.{StandsFor}
use Rattle.keyset_book.specs.declared.books.Book.{Book}
use Rattle.lane_engine.specs.LaneValue.{LaneValue}
use Rattle.lane_engine.proofs.UnderLemmas.{position_none, position_some}
use Rattle.lane_engine.proofs.lanes.Lane.position_of.Goals as goal

pub returns-in-Some : goal.returns-in-Some
returns-in-Some g c =
    let fits = c.entries-count.type_inv.0 in
    let few : length c.self.inside.journal.entries ≤ 0xFFFF_FFFF_FFFF_FFFF = subst (λ (l : List Entry). length l ≤ 0xFFFF_FFFF_FFFF_FFFF) (c.entries-count.ensures.entries ∙ c.history.ensures.entries) (omega (arith, fits)) in
    subst (λ (v : LaneValue g.row.T.Denot). c.in-Some.position ≡ position_or_len (is_reserve_of c.args.place) v.journal.entries) c.self.view_is
    (position_some c.self.inside.journal.entries c.args.place c.in-Some.position
    (sym c.in-Some.is ∙ c.position.ensures c.self.inside.journal.entries (subst (λ (b : Book). StandsFor b c.self.inside.journal.entries) (sym c.book.ensures.book) c.book.ensures.stands) few))

pub returns-in-None : goal.returns-in-None
returns-in-None g c =
    let fits = c.entries-count.type_inv.0 in
    let few : length c.self.inside.journal.entries ≤ 0xFFFF_FFFF_FFFF_FFFF = subst (λ (l : List Entry). length l ≤ 0xFFFF_FFFF_FFFF_FFFF) (c.entries-count.ensures.entries ∙ c.history.ensures.entries) (omega (arith, fits)) in
    ap (λ (l : List Entry). length l) (c.entries-count.ensures.entries ∙ c.history.ensures.entries)
    ∙ subst (λ (v : LaneValue g.row.T.Denot). length c.self.inside.journal.entries ≡ position_or_len (is_reserve_of c.args.place) v.journal.entries) c.self.view_is
    (position_none c.self.inside.journal.entries c.args.place
    (sym c.in-None.is ∙ c.position.ensures c.self.inside.journal.entries (subst (λ (b : Book). StandsFor b c.self.inside.journal.entries) (sym c.book.ensures.book) c.book.ensures.stands) few))
