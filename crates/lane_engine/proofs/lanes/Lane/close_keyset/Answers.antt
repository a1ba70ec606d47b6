use Rattle.std.proofs.Common.{◌≡◌, ◌≤◌, ◌%◌, false, length, arith, List, [], None, Err, All, reverse, refl, sym, ◌∙◌, subst}
use Rattle.std.proofs.Math.Nat.{le-max_right}
use Rattle.std.specs.List.{list_any}
use Rattle.std.proofs.lemmas.Result.{err_from_is_err_and}
use Rattle.ota_core.specs.History.{broken_batch}
use Rattle.ota_core.specs.Questions.{state_of, last_moment}
use Rattle.ota_core.specs.declared.entries.Entry.{Entry}
use Rattle.ota_core.specs.declared.entries.Entry.TheVariants.{Close}
use Rattle.ota_core.specs.declared.questions.KeysetState.TheVariants as state
use Rattle.counter_journal.specs.EntryRanges.{IsOfLane}
use Rattle.keyset_book.specs.Book.{StandsFor}
use Rattle.keyset_book.specs.declared.books.Book.{Book}
use Rattle.lane_engine.specs.Adding.{is_settlement, moment_for}
use Rattle.lane_engine.specs.Course.{AddingCourse}
use Rattle.lane_engine.specs.LaneValue.{LaneValue, IsLane}
use Rattle.lane_engine.specs.Reserving.{close_of}
use Rattle.lane_engine.specs.declared.answers.LaneErr.TheVariants as lane_err
use Rattle.lane_engine.proofs.LedLemmas.{added_course, none_course}
use Rattle.lane_engine.proofs.KeysetLemmas.{refused_run, wanting_run, close_legal, close_of_lane, open_of_lane}
use Rattle.lane_engine.proofs.lanes.Lane.close_keyset.Goals as goal

-- src/keysets.rt:58:33
pub returns-in-New-clause-run : goal.returns-in-New-clause-run
returns-in-New-clause-run g c = λ tells.
    refused_run g.T.DiskCalls.told g.T.SiteCalls.port g.T.SiteCalls.lines c.args.self.now (close_of c.args.by (moment_for c.args.self.now) c.args.keyset) (Err lane_err.UnknownKeyset)
    (subst (λ (v : LaneValue g.row.T.Denot). IsLane g.T.DiskCalls.told v) c.self.view_is c.self.invariant) tells refl refl

-- src/keysets.rt:59:36
pub returns-in-Closed-clause-run : goal.returns-in-Closed-clause-run
returns-in-Closed-clause-run g c = λ tells.
    refused_run g.T.DiskCalls.told g.T.SiteCalls.port g.T.SiteCalls.lines c.args.self.now (close_of c.args.by (moment_for c.args.self.now) c.args.keyset) (Err lane_err.Closed)
    (subst (λ (v : LaneValue g.row.T.Denot). IsLane g.T.DiskCalls.told v) c.self.view_is c.self.invariant) tells refl refl

-- src/keysets.rt:62:21
pub returns-in_err-close-clause-run : goal.returns-in_err-close-clause-run
returns-in_err-close-clause-run g c = λ tells.
    wanting_run g.T.DiskCalls.told g.T.SiteCalls.port g.T.SiteCalls.lines c.args.self.now (Close c.args.by (moment_for c.args.self.now) c.args.keyset) [] c.from_residual.result
    (subst (λ (v : LaneValue g.row.T.Denot). IsLane g.T.DiskCalls.told v) c.self.view_is c.self.invariant) tells c.from_residual.ensures.0 c.from_residual.ensures.1

-- src/keysets.rt:63:9
pub append-requires-clause-of_lane : goal.append-requires-clause-of_lane
append-requires-clause-of_lane g c =
    subst (λ (l : List Entry). All (IsOfLane c.args.self.now.journal.lane c.args.self.now.journal.lanes) l) (sym c.in_ok-close.ensures)
    (close_of_lane c.args.self.now.journal.lane c.args.self.now.journal.lanes c.args.by (moment_for c.args.self.now) c.args.keyset
    (subst (λ (v : LaneValue g.row.T.Denot). c.args.keyset.card.0 % v.journal.lanes ≡ v.journal.lane) c.self.view_is
    (open_of_lane c.self.inside.journal.lane c.self.inside.journal.lanes c.args.keyset c.self.inside.journal.entries c.self.invariant.history
    (sym (c.keyset_state.ensures c.self.inside.journal.entries (subst (λ (b : Book). StandsFor b c.self.inside.journal.entries) (sym c.book.ensures.book) c.book.ensures.stands)) ∙ c.in-Open.is))))

-- src/keysets.rt:63:9
pub append-requires-clause-legal : goal.append-requires-clause-legal
append-requires-clause-legal g c =
    subst (λ (l : List Entry). broken_batch (reverse c.args.self.now.journal.entries) l ≡ None) (sym c.in_ok-close.ensures)
    (close_legal c.args.by (moment_for c.args.self.now) c.args.keyset (reverse c.args.self.now.journal.entries)
    (subst (λ (v : LaneValue g.row.T.Denot). state_of c.args.keyset (reverse v.journal.entries) ≡ state.Open) c.self.view_is
    (sym (c.keyset_state.ensures c.self.inside.journal.entries (subst (λ (b : Book). StandsFor b c.self.inside.journal.entries) (sym c.book.ensures.book) c.book.ensures.stands)) ∙ c.in-Open.is))
    (le-max_right c.args.self.now.moment (last_moment (reverse c.args.self.now.journal.entries))))

pub returns-in_err-close-clause-course : goal.returns-in_err-close-clause-course
returns-in_err-close-clause-course g c = λ tells.
    let p = err_from_is_err_and c.from_residual.result c.from_residual.ensures.1 in
    rw (p.1, p.2) (none_course g.T.DiskCalls.told g.T.SiteCalls.port g.T.SiteCalls.lines c.args.self.now (close_of c.args.by (moment_for c.args.self.now) c.args.keyset) lane_err.Memory tt)

pub returns-clause-course : goal.returns-clause-course
returns-clause-course g c = λ tells.
    subst (λ (b : List Entry). AddingCourse g.T.DiskCalls.told g.T.SiteCalls.port g.T.SiteCalls.lines c.args.self.now c.append.new.self b c.append.result) c.in_ok-close.ensures
    (added_course g.T.DiskCalls.told g.T.SiteCalls.port g.T.SiteCalls.lines c.args.self.now c.append.new.self c.in_ok-close.close.items c.append.result
    (subst (λ (l : List Entry). 1 ≤ length l) (sym c.in_ok-close.ensures) (omega arith))
    (subst (λ (v : LaneValue g.row.T.Denot). IsLane g.T.DiskCalls.told v) c.self.view_is c.self.invariant) (subst (λ (v : LaneValue g.row.T.Denot). v.is_stale ≡ false) c.self.view_is c.if-self.false)
    (subst (λ (l : List Entry). list_any is_settlement l ≡ false) (sym c.in_ok-close.ensures) refl)
    c.append.ensures.added (c.append.ensures.run tells))

pub returns-then-self-clause-course : goal.returns-then-self-clause-course
returns-then-self-clause-course g c = λ tells.
    none_course g.T.DiskCalls.told g.T.SiteCalls.port g.T.SiteCalls.lines c.args.self.now (close_of c.args.by (moment_for c.args.self.now) c.args.keyset) lane_err.Stale tt

pub returns-in-New-clause-course : goal.returns-in-New-clause-course
returns-in-New-clause-course g c = λ tells.
    none_course g.T.DiskCalls.told g.T.SiteCalls.port g.T.SiteCalls.lines c.args.self.now (close_of c.args.by (moment_for c.args.self.now) c.args.keyset) lane_err.UnknownKeyset tt

pub returns-in-Closed-clause-course : goal.returns-in-Closed-clause-course
returns-in-Closed-clause-course g c = λ tells.
    none_course g.T.DiskCalls.told g.T.SiteCalls.port g.T.SiteCalls.lines c.args.self.now (close_of c.args.by (moment_for c.args.self.now) c.args.keyset) lane_err.Closed tt
