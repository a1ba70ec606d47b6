use Rattle.std.proofs.Common.{◌≡◌, ◌≤◌, List, None, false, All, length, reverse, sym, subst, arith}
use Rattle.std.proofs.Math.Nat.{le-max_right}
use Rattle.std.proofs.lemmas.Result.{err_from_is_err_and}
use Rattle.std.specs.List.{list_any}
use Rattle.ota_core.specs.History.{broken_batch}
use Rattle.ota_core.specs.Questions.{last_moment}
use Rattle.ota_core.specs.declared.entries.Entry.{Entry}
use Rattle.counter_journal.specs.EntryRanges.{IsSized, IsOfLane}
use Rattle.lane_engine.specs.Adding.{moment_for, is_settlement}
use Rattle.lane_engine.specs.Course.{AddingCourse}
use Rattle.lane_engine.specs.LaneValue.{LaneValue, IsLane}
use Rattle.lane_engine.specs.Reserving.{reserves_of}
use Rattle.lane_engine.specs.declared.answers.LaneErr.TheVariants as lane_err
use Rattle.lane_engine.proofs.LedLemmas.{added_course, none_course}
use Rattle.lane_engine.proofs.RefusalLemmas.{none_added, none_cause, none_run}
use Rattle.lane_engine.proofs.ReservingLemmas.{reserves_legal, reserves_length, reserves_of_lane, reserves_settle_none, reserves_sized}
use Rattle.lane_engine.proofs.lanes.Lane.reserve.Goals as goal

pub returns-in_err-batch-clause-answer : goal.returns-in_err-batch-clause-answer
returns-in_err-batch-clause-answer g c =
    let p = err_from_is_err_and c.from_residual.result c.from_residual.ensures.1 in
    rw (p.1, p.2) c.in_err-batch.ensures.refused.1

pub returns-in_err-batch-clause-added : goal.returns-in_err-batch-clause-added
returns-in_err-batch-clause-added g c =
    let p = err_from_is_err_and c.from_residual.result c.from_residual.ensures.1 in
    rw (p.1, p.2)
    (none_added c.args.self.now (reserves_of c.args.by (moment_for c.args.self.now) c.args.self.now.name (reverse c.args.self.now.journal.entries) c.args.jobs.now) c.in_err-batch.field-0.0
    c.in_err-batch.ensures.refused.0)

pub returns-in_err-batch-clause-run : goal.returns-in_err-batch-clause-run
returns-in_err-batch-clause-run g c = λ tells.
    let p = err_from_is_err_and c.from_residual.result c.from_residual.ensures.1 in
    rw (p.1, p.2)
    (none_run g.T.DiskCalls.told g.T.DiskCalls.counts g.T.SiteCalls.port g.T.SiteCalls.lines c.args.self.now
    (reserves_of c.args.by (moment_for c.args.self.now) c.args.self.now.name (reverse c.args.self.now.journal.entries) c.args.jobs.now) c.in_err-batch.field-0.0
    c.in_err-batch.ensures.refused.0 (subst (λ (v : LaneValue g.row.T.Denot). IsLane g.T.DiskCalls.told v) c.self.view_is c.self.invariant) tells)

pub returns-in_err-batch-clause-cause : goal.returns-in_err-batch-clause-cause
returns-in_err-batch-clause-cause g c =
    let p = err_from_is_err_and c.from_residual.result c.from_residual.ensures.1 in
    rw (p.1, p.2) (none_cause (g.T.DiskCalls.counts c.args.self.now.site) c.in_err-batch.field-0.0 c.in_err-batch.ensures.refused.0)

pub append-requires-clause-some : goal.append-requires-clause-some
append-requires-clause-some g c =
    let long = reserves_length c.args.by (moment_for c.args.self.now) c.args.self.now.name (reverse c.args.self.now.journal.entries) c.args.jobs.now in
    let some = c.requires.some in
    subst (λ (l : List Entry). 1 ≤ length l) (sym c.in_ok-batch.ensures.batch) (omega (arith, long, some))

pub append-requires-clause-few : goal.append-requires-clause-few
append-requires-clause-few g c =
    let long = reserves_length c.args.by (moment_for c.args.self.now) c.args.self.now.name (reverse c.args.self.now.journal.entries) c.args.jobs.now in
    let few = c.requires.few in
    subst (λ (l : List Entry). length l ≤ 16) (sym c.in_ok-batch.ensures.batch) (omega (arith, long, few))

pub append-requires-clause-sized : goal.append-requires-clause-sized
append-requires-clause-sized g c =
    subst (λ (l : List Entry). All IsSized l) (sym c.in_ok-batch.ensures.batch)
    (reserves_sized c.args.by (moment_for c.args.self.now) c.args.self.now.name c.args.self.now.journal.lane c.args.self.now.journal.lanes (reverse c.args.self.now.journal.entries) c.args.jobs.now
    (subst (λ (v : LaneValue g.row.T.Denot). length v.name ≤ 32) c.self.view_is c.self.invariant.short) c.requires.of_lane)

pub append-requires-clause-of_lane : goal.append-requires-clause-of_lane
append-requires-clause-of_lane g c =
    subst (λ (l : List Entry). All (IsOfLane c.args.self.now.journal.lane c.args.self.now.journal.lanes) l) (sym c.in_ok-batch.ensures.batch)
    (reserves_of_lane c.args.by (moment_for c.args.self.now) c.args.self.now.name c.args.self.now.journal.lane c.args.self.now.journal.lanes (reverse c.args.self.now.journal.entries) c.args.jobs.now
    c.requires.of_lane)

pub append-requires-clause-legal : goal.append-requires-clause-legal
append-requires-clause-legal g c =
    subst (λ (l : List Entry). broken_batch (reverse c.args.self.now.journal.entries) l ≡ None) (sym c.in_ok-batch.ensures.batch)
    (reserves_legal c.args.by (moment_for c.args.self.now) c.args.self.now.name (reverse c.args.self.now.journal.entries) c.args.jobs.now c.in_ok-batch.ensures.free
    (le-max_right c.args.self.now.moment (last_moment (reverse c.args.self.now.journal.entries))))

pub returns-clause-kept : goal.returns-clause-kept
returns-clause-kept g c =
    c.append.ensures.kept
    (subst (λ (l : List Entry). list_any is_settlement l ≡ false) (sym c.in_ok-batch.ensures.batch)
    (reserves_settle_none c.args.by (moment_for c.args.self.now) c.args.self.now.name (reverse c.args.self.now.journal.entries) c.args.jobs.now))

pub returns-then-self-clause-course : goal.returns-then-self-clause-course
returns-then-self-clause-course g c = λ tells.
    none_course g.T.DiskCalls.told g.T.SiteCalls.port g.T.SiteCalls.lines c.args.self.now (reserves_of c.args.by (moment_for c.args.self.now) c.args.self.now.name (reverse c.args.self.now.journal.entries) c.args.jobs.now) lane_err.Stale tt

pub returns-in_err-batch-clause-course : goal.returns-in_err-batch-clause-course
returns-in_err-batch-clause-course g c = λ tells.
    let p = err_from_is_err_and c.from_residual.result c.from_residual.ensures.1 in
    rw (p.1, p.2) (none_course g.T.DiskCalls.told g.T.SiteCalls.port g.T.SiteCalls.lines c.args.self.now (reserves_of c.args.by (moment_for c.args.self.now) c.args.self.now.name (reverse c.args.self.now.journal.entries) c.args.jobs.now) c.in_err-batch.field-0.0 c.in_err-batch.ensures.refused.0)

pub returns-clause-course : goal.returns-clause-course
returns-clause-course g c = λ tells.
    subst (λ (b : List Entry). AddingCourse g.T.DiskCalls.told g.T.SiteCalls.port g.T.SiteCalls.lines c.args.self.now c.append.new.self b c.append.result) c.in_ok-batch.ensures.batch
    (added_course g.T.DiskCalls.told g.T.SiteCalls.port g.T.SiteCalls.lines c.args.self.now c.append.new.self c.in_ok-batch.batch.items c.append.result
    (let long = reserves_length c.args.by (moment_for c.args.self.now) c.args.self.now.name (reverse c.args.self.now.journal.entries) c.args.jobs.now in let some = c.requires.some in subst (λ (l : List Entry). 1 ≤ length l) (sym c.in_ok-batch.ensures.batch) (omega (arith, long, some)))
    (subst (λ (v : LaneValue g.row.T.Denot). IsLane g.T.DiskCalls.told v) c.self.view_is c.self.invariant) (subst (λ (v : LaneValue g.row.T.Denot). v.is_stale ≡ false) c.self.view_is c.if-self.false)
    (subst (λ (l : List Entry). list_any is_settlement l ≡ false) (sym c.in_ok-batch.ensures.batch) (reserves_settle_none c.args.by (moment_for c.args.self.now) c.args.self.now.name (reverse c.args.self.now.journal.entries) c.args.jobs.now))
    c.append.ensures.added (c.append.ensures.run tells))
