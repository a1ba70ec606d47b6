use Rattle.std.proofs.Common.{◌≡◌, ◌≤◌, List, [], None, Ok, false, All, length, reverse, refl, sym, ◌∙◌, subst, arith}
use Rattle.std.proofs.lemmas.Result.{err_from_is_err_and}
use Rattle.std.proofs.Math.Nat.{le-max_right}
use Rattle.std.specs.List.{list_any}
use Rattle.ota_core.specs.History.{broken_batch}
use Rattle.ota_core.specs.Questions.{last_moment}
use Rattle.ota_core.specs.declared.entries.Entry.{Entry}
use Rattle.counter_journal.specs.EntryRanges.{IsSized, IsOfLane}
use Rattle.lane_engine.specs.Adding.{IsAddingRun, moment_for, is_settlement}
use Rattle.lane_engine.specs.Course.{AddingCourse}
use Rattle.lane_engine.specs.LaneValue.{LaneValue, IsLane}
use Rattle.lane_engine.specs.Reserving.{opens_of}
use Rattle.lane_engine.specs.declared.answers.LaneErr.TheVariants as lane_err
use Rattle.lane_engine.proofs.KeysetLemmas.{refused_run}
use Rattle.lane_engine.proofs.LedLemmas.{added_course, none_course, refused_course, some_entries}
use Rattle.lane_engine.proofs.RefusalLemmas.{none_run}
use Rattle.lane_engine.proofs.OpenLemmas.{opens_few, opens_sized, opens_of_lane, opens_legal, opens_settle_none}
use Rattle.std.specs.Vec.{vec_len}
use Rattle.lane_engine.proofs.OpenLemmas.{no_items, some_items}
use Rattle.lane_engine.proofs.lanes.Lane.open_keysets.Goals as goal

-- src/keysets.rt:42:9
pub append-requires-clause-few : goal.append-requires-clause-few
append-requires-clause-few g c =
    let few = opens_few c.args.by (moment_for c.args.self.now) (reverse c.args.self.now.journal.entries) c.args.keysets.now in
    let most = c.requires.few in
    subst (λ (l : List Entry). length l ≤ 16) (sym c.in_ok-opens.ensures) (omega (arith, few, most))

-- src/keysets.rt:42:9
pub append-requires-clause-sized : goal.append-requires-clause-sized
append-requires-clause-sized g c =
    subst (λ (l : List Entry). All IsSized l) (sym c.in_ok-opens.ensures) (opens_sized c.args.by (moment_for c.args.self.now) (reverse c.args.self.now.journal.entries) c.args.keysets.now)

-- src/keysets.rt:42:9
pub append-requires-clause-of_lane : goal.append-requires-clause-of_lane
append-requires-clause-of_lane g c =
    subst (λ (l : List Entry). All (IsOfLane c.args.self.now.journal.lane c.args.self.now.journal.lanes) l) (sym c.in_ok-opens.ensures)
    (opens_of_lane c.args.by (moment_for c.args.self.now) (reverse c.args.self.now.journal.entries) c.args.self.now.journal.lane c.args.self.now.journal.lanes c.args.keysets.now c.requires.of_lane)

-- src/keysets.rt:42:9
pub append-requires-clause-legal : goal.append-requires-clause-legal
append-requires-clause-legal g c =
    subst (λ (l : List Entry). broken_batch (reverse c.args.self.now.journal.entries) l ≡ None) (sym c.in_ok-opens.ensures)
    (opens_legal c.args.by (moment_for c.args.self.now) (reverse c.args.self.now.journal.entries) c.args.keysets.now c.requires.differ
    (le-max_right c.args.self.now.moment (last_moment (reverse c.args.self.now.journal.entries))))

-- src/keysets.rt:20:5
pub returns-clause-kept : goal.returns-clause-kept
returns-clause-kept g c =
    c.append.ensures.kept
    (subst (λ (l : List Entry). list_any is_settlement l ≡ false) (sym c.in_ok-opens.ensures)
    (opens_settle_none c.args.by (moment_for c.args.self.now) (reverse c.args.self.now.journal.entries) c.args.keysets.now))

-- src/keysets.rt:38:21
pub returns-in_err-opens-clause-run : goal.returns-in_err-opens-clause-run
returns-in_err-opens-clause-run g c = λ tells.
    let p = err_from_is_err_and c.from_residual.result c.from_residual.ensures.1 in
    rw (p.1, p.2)
    (none_run g.T.DiskCalls.told g.T.DiskCalls.counts g.T.SiteCalls.port g.T.SiteCalls.lines c.args.self.now (opens_of c.args.by (moment_for c.args.self.now) (reverse c.args.self.now.journal.entries) c.args.keysets.now)
    lane_err.Memory tt (subst (λ (v : LaneValue g.row.T.Denot). IsLane g.T.DiskCalls.told v) c.self.view_is c.self.invariant) tells)

-- src/keysets.rt:40:13
pub returns-then-is_empty-clause-run : goal.returns-then-is_empty-clause-run
returns-then-is_empty-clause-run g c = λ tells.
    let none : c.in_ok-opens.opens.items ≡ [] = no_items c.in_ok-opens.opens.items (vec_len c.in_ok-opens.opens) (sym c.in_ok-opens.opens.ok.0) c.if-is_empty.ensures in
    subst (λ (b : List Entry). IsAddingRun g.T.DiskCalls.told g.T.SiteCalls.port g.T.SiteCalls.lines c.args.self.now c.args.self.now b (Ok tt)) (sym none ∙ c.in_ok-opens.ensures)
    (refused_run g.T.DiskCalls.told g.T.SiteCalls.port g.T.SiteCalls.lines c.args.self.now [] (Ok tt)
    (subst (λ (v : LaneValue g.row.T.Denot). IsLane g.T.DiskCalls.told v) c.self.view_is c.self.invariant) tells refl refl)

pub returns-clause-idle : goal.returns-clause-idle
returns-clause-idle g c = λ none.
    absurd (some_items c.in_ok-opens.opens.items (vec_len c.in_ok-opens.opens) (sym c.in_ok-opens.opens.ok.0) c.if-is_empty.ensures (c.in_ok-opens.ensures ∙ none))

pub returns-then-self-clause-course : goal.returns-then-self-clause-course
returns-then-self-clause-course g c = λ tells.
    none_course g.T.DiskCalls.told g.T.SiteCalls.port g.T.SiteCalls.lines c.args.self.now (opens_of c.args.by (moment_for c.args.self.now) (reverse c.args.self.now.journal.entries) c.args.keysets.now) lane_err.Stale tt

pub returns-in_err-opens-clause-course : goal.returns-in_err-opens-clause-course
returns-in_err-opens-clause-course g c = λ tells.
    let p = err_from_is_err_and c.from_residual.result c.from_residual.ensures.1 in
    rw (p.1, p.2) (none_course g.T.DiskCalls.told g.T.SiteCalls.port g.T.SiteCalls.lines c.args.self.now (opens_of c.args.by (moment_for c.args.self.now) (reverse c.args.self.now.journal.entries) c.args.keysets.now) lane_err.Memory tt)

pub returns-then-is_empty-clause-course : goal.returns-then-is_empty-clause-course
returns-then-is_empty-clause-course g c = λ tells.
    let none : c.in_ok-opens.opens.items ≡ [] = no_items c.in_ok-opens.opens.items (vec_len c.in_ok-opens.opens) (sym c.in_ok-opens.opens.ok.0) c.if-is_empty.ensures in
    subst (λ (b : List Entry). AddingCourse g.T.DiskCalls.told g.T.SiteCalls.port g.T.SiteCalls.lines c.args.self.now c.args.self.now b (Ok tt)) (sym none ∙ c.in_ok-opens.ensures)
    (refused_course g.T.DiskCalls.told g.T.SiteCalls.port g.T.SiteCalls.lines c.args.self.now [] (Ok tt) refl)

pub returns-clause-course : goal.returns-clause-course
returns-clause-course g c = λ tells.
    subst (λ (b : List Entry). AddingCourse g.T.DiskCalls.told g.T.SiteCalls.port g.T.SiteCalls.lines c.args.self.now c.append.new.self b c.append.result) c.in_ok-opens.ensures
    (added_course g.T.DiskCalls.told g.T.SiteCalls.port g.T.SiteCalls.lines c.args.self.now c.append.new.self c.in_ok-opens.opens.items c.append.result
    (some_entries c.in_ok-opens.opens.items (λ none. some_items c.in_ok-opens.opens.items (vec_len c.in_ok-opens.opens) (sym c.in_ok-opens.opens.ok.0) c.if-is_empty.ensures none))
    (subst (λ (v : LaneValue g.row.T.Denot). IsLane g.T.DiskCalls.told v) c.self.view_is c.self.invariant) (subst (λ (v : LaneValue g.row.T.Denot). v.is_stale ≡ false) c.self.view_is c.if-self.false)
    (subst (λ (l : List Entry). list_any is_settlement l ≡ false) (sym c.in_ok-opens.ensures) (opens_settle_none c.args.by (moment_for c.args.self.now) (reverse c.args.self.now.journal.entries) c.args.keysets.now))
    c.append.ensures.added (c.append.ensures.run tells))
