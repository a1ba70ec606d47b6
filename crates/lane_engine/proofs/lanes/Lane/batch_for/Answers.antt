use Rattle.std.proofs.Common.{◌≡◌, Some, reverse, sym, subst}
use Rattle.std.proofs.lemmas.Result.{err_from_is_err_and}
use Rattle.keyset_book.specs.Book.{StandsFor}
use Rattle.keyset_book.specs.declared.books.Book.{Book}
use Rattle.lane_engine.specs.Adding.{moment_for}
use Rattle.lane_engine.specs.LaneValue.{LaneValue}
use Rattle.lane_engine.specs.Reserving.{jobs_refusal, reserves_of}
use Rattle.lane_engine.proofs.RefusalLemmas.{jobs_refused, refused_answer, refuses_no_fault}
use Rattle.lane_engine.proofs.lanes.Lane.batch_for.Goals as goal

pub returns-in_err-may_reserve_all-clause-refused : goal.returns-in_err-may_reserve_all-clause-refused
returns-in_err-may_reserve_all-clause-refused g c =
    let p = err_from_is_err_and c.from_residual.result c.from_residual.ensures.1 in
    let refused : jobs_refusal c.args.by (moment_for c.args.self.now) c.args.self.now.name (reverse c.args.self.now.journal.entries) c.args.jobs.now ≡ Some c.in_err-may_reserve_all.field-0.0 =
    subst (λ (v : LaneValue g.row.T.Denot). jobs_refusal c.args.by (moment_for c.args.self.now) c.args.self.now.name (reverse v.journal.entries) c.args.jobs.now ≡ Some c.in_err-may_reserve_all.field-0.0) c.self.view_is
    (sym (c.in_err-may_reserve_all.ensures c.self.inside.journal.entries (subst (λ (b : Book). StandsFor b c.self.inside.journal.entries) (sym c.book.ensures.book) c.book.ensures.stands) c.args.by (moment_for c.args.self.now) c.args.self.now.name)) in
    let is = jobs_refused c.args.by (moment_for c.args.self.now) c.args.self.now.name (reverse c.args.self.now.journal.entries) c.args.jobs.now c.in_err-may_reserve_all.field-0.0 refused in
    rw (p.1, p.2) (
      refuses_no_fault c.in_err-may_reserve_all.field-0.0 is,
      refused_answer c.args.self.now (jobs_refusal c.args.by (moment_for c.args.self.now) c.args.self.now.name (reverse c.args.self.now.journal.entries) c.args.jobs.now)
          (reserves_of c.args.by (moment_for c.args.self.now) c.args.self.now.name (reverse c.args.self.now.journal.entries) c.args.jobs.now) c.in_err-may_reserve_all.field-0.0
          is c.requires.live refused,
    )
