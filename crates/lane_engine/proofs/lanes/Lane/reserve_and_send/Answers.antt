use Rattle.std.proofs.Common.{◌≡◌, ◌≤◌, ◌++◌, ◌-◌, IsTrue, drop, ℕ, List, None, Ok, Err, false, All, length, reverse, refl, sym, ◌∙◌, ap, subst, arith}
use Rattle.std.proofs.Math.Nat.{le-max_right}
use Rattle.std.proofs.lemmas.Result.{err_from_is_err_and}
use Rattle.std.specs.List.{list_any}
use Rattle.disk_model.specs.Disk.{Tells}
use Rattle.ota_core.specs.History.{broken_batch}
use Rattle.ota_core.specs.Questions.{last_moment}
use Rattle.ota_core.specs.declared.entries.Entry.{Entry}
use Rattle.counter_journal.specs.EntryRanges.{IsSized, IsOfLane}
use Rattle.site_model.specs.Port.{PortState}
use Rattle.site_model.specs.Cards.{port_now}
use Rattle.lane_engine.specs.Course.{PiecesCourse}
use Rattle.lane_engine.specs.Departing.{pieces_from}
use Rattle.lane_engine.specs.declared.answers.LaneErr.TheVariants as lane_err
use Rattle.lane_engine.proofs.LedLemmas.{added_course, failed_course, none_sending_course, sending_course}
use Rattle.lane_engine.specs.Sending.{HandsOverBuilt}
use Rattle.lane_engine.specs.Adding.{AddingAnswer, IsAdded, IsAddition, IsAddingRun, moment_for, is_settlement}
use Rattle.lane_engine.specs.LaneValue.{LaneValue, IsLane}
use Rattle.lane_engine.specs.Packets.{departures_for}
use Rattle.lane_engine.specs.Reserving.{jobs_refusal, reserves_of}
use Rattle.lane_engine.proofs.RefusalLemmas.{none_asked, none_cause, none_handed, none_sending, none_sending_events}
use Rattle.lane_engine.proofs.ReservingLemmas.{reserves_legal, reserves_length, reserves_of_lane, reserves_settle_none, reserves_sized}
use Rattle.lane_engine.specs.KeepingLaws.{is_later_chain}
use Rattle.lane_engine.proofs.CourseLemmas.{added_whole, adding_gone_on, cause_then, journal_of, course_added, course_answer, course_events, course_gone_on, course_only_added, course_sent, course_whole, course_unasked, failed_events, failed_sending, idle_whole, refused_gone_on}
use Rattle.lane_engine.proofs.lanes.Lane.reserve_and_send.Goals as goal

pub returns-then-self-clause-went_on : goal.returns-then-self-clause-went_on
returns-then-self-clause-went_on g c = λ opening tells kept fair.
    refused_gone_on g.T.DiskCalls.told g.T.DiskCalls.counts g.T.SiteCalls.port g.T.SiteCalls.lines opening c.args.self.now kept tells (g.met.T.DiskCalls.seen_is_image c.args.self.now.site tells) fair

pub returns-in_err-batch-clause-answer : goal.returns-in_err-batch-clause-answer
returns-in_err-batch-clause-answer g c =
    let p = err_from_is_err_and c.from_residual.result c.from_residual.ensures.1 in
    rw (p.1, p.2) c.in_err-batch.ensures.refused.1

pub returns-in_err-batch-clause-added : goal.returns-in_err-batch-clause-added
returns-in_err-batch-clause-added g c =
    let p = err_from_is_err_and c.from_residual.result c.from_residual.ensures.1 in
    rw (p.1, p.2) (none_sending c.args.self.now (reserves_of c.args.by (moment_for c.args.self.now) c.args.self.now.name (reverse c.args.self.now.journal.entries) c.args.jobs.now) c.in_err-batch.field-0.0 c.in_err-batch.ensures.refused.0)

pub returns-in_err-batch-clause-sent : goal.returns-in_err-batch-clause-sent
returns-in_err-batch-clause-sent g c = λ tells.
    let p = err_from_is_err_and c.from_residual.result c.from_residual.ensures.1 in
    rw (p.1, p.2) (none_handed (departures_for (c.args.self.now.journal.entries ++ reserves_of c.args.by (moment_for c.args.self.now) c.args.self.now.name (reverse c.args.self.now.journal.entries) c.args.jobs.now) (reserves_of c.args.by (moment_for c.args.self.now) c.args.self.now.name (reverse c.args.self.now.journal.entries) c.args.jobs.now)) (port_now g.T.DiskCalls.told g.T.SiteCalls.port g.T.SiteCalls.lines c.args.self.now.site) (port_now g.T.DiskCalls.told g.T.SiteCalls.port g.T.SiteCalls.lines c.args.self.now.site) c.in_err-batch.field-0.0 refl)

pub returns-in_err-batch-clause-events : goal.returns-in_err-batch-clause-events
returns-in_err-batch-clause-events g c = λ tells.
    let p = err_from_is_err_and c.from_residual.result c.from_residual.ensures.1 in
    rw (p.1, p.2) (none_sending_events g.T.DiskCalls.told g.T.DiskCalls.counts g.T.SiteCalls.port g.T.SiteCalls.lines c.args.self.now (reserves_of c.args.by (moment_for c.args.self.now) c.args.self.now.name (reverse c.args.self.now.journal.entries) c.args.jobs.now) c.in_err-batch.field-0.0 c.in_err-batch.ensures.refused.0)

pub returns-in_err-batch-clause-went_on : goal.returns-in_err-batch-clause-went_on
returns-in_err-batch-clause-went_on g c = λ opening tells kept fair.
    refused_gone_on g.T.DiskCalls.told g.T.DiskCalls.counts g.T.SiteCalls.port g.T.SiteCalls.lines opening c.args.self.now kept tells
    (g.met.T.DiskCalls.seen_is_image c.args.self.now.site tells) fair

pub returns-in_err-batch-clause-cause : goal.returns-in_err-batch-clause-cause
returns-in_err-batch-clause-cause g c =
    let p = err_from_is_err_and c.from_residual.result c.from_residual.ensures.1 in
    rw (p.1, p.2) (none_cause (g.T.DiskCalls.counts c.args.self.now.site) c.in_err-batch.field-0.0 c.in_err-batch.ensures.refused.0)

pub append-requires-clause-some : goal.append-requires-clause-some
append-requires-clause-some g c =
    let long = reserves_length c.args.by (moment_for c.args.self.now) c.args.self.now.name (reverse c.args.self.now.journal.entries) c.args.jobs.now in
    let some = c.requires.some in
    subst (λ (l : List Entry). 1 ≤ length l) (sym c.in_ok-batch.ensures.batch) (omega (arith, long, some))

pub append-requires-clause-few : goal.append-requires-clause-few
append-requires-clause-few g c =
    let long = reserves_length c.args.by (moment_for c.args.self.now) c.args.self.now.name (reverse c.args.self.now.journal.entries) c.args.jobs.now in
    let few = c.requires.few in
    subst (λ (l : List Entry). length l ≤ 16) (sym c.in_ok-batch.ensures.batch) (omega (arith, long, few))

pub append-requires-clause-sized : goal.append-requires-clause-sized
append-requires-clause-sized g c =
    subst (λ (l : List Entry). All IsSized l) (sym c.in_ok-batch.ensures.batch)
    (reserves_sized c.args.by (moment_for c.args.self.now) c.args.self.now.name c.args.self.now.journal.lane c.args.self.now.journal.lanes (reverse c.args.self.now.journal.entries) c.args.jobs.now
    (subst (λ (v : LaneValue g.row.T.Denot). length v.name ≤ 32) c.self.view_is c.self.invariant.short) c.requires.of_lane)

pub append-requires-clause-of_lane : goal.append-requires-clause-of_lane
append-requires-clause-of_lane g c =
    subst (λ (l : List Entry). All (IsOfLane c.args.self.now.journal.lane c.args.self.now.journal.lanes) l) (sym c.in_ok-batch.ensures.batch)
    (reserves_of_lane c.args.by (moment_for c.args.self.now) c.args.self.now.name c.args.self.now.journal.lane c.args.self.now.journal.lanes (reverse c.args.self.now.journal.entries) c.args.jobs.now
    c.requires.of_lane)

pub append-requires-clause-legal : goal.append-requires-clause-legal
append-requires-clause-legal g c =
    subst (λ (l : List Entry). broken_batch (reverse c.args.self.now.journal.entries) l ≡ None) (sym c.in_ok-batch.ensures.batch)
    (reserves_legal c.args.by (moment_for c.args.self.now) c.args.self.now.name (reverse c.args.self.now.journal.entries) c.args.jobs.now c.in_ok-batch.ensures.free
    (le-max_right c.args.self.now.moment (last_moment (reverse c.args.self.now.journal.entries))))

pub returns-in_err-append-clause-answer : goal.returns-in_err-append-clause-answer
returns-in_err-append-clause-answer g c =
    let p = err_from_is_err_and c.from_residual-in_err-append.result c.from_residual-in_err-append.ensures.1 in
    rw (p.1, p.2)
    (subst (λ (o : _). AddingAnswer c.args.self.now o (reserves_of c.args.by (moment_for c.args.self.now) c.args.self.now.name (reverse c.args.self.now.journal.entries) c.args.jobs.now) (Err c.in_err-append.field-0.0)) (sym c.in_ok-batch.ensures.free)
    (subst (λ (b : List Entry). AddingAnswer c.args.self.now None b (Err c.in_err-append.field-0.0)) c.in_ok-batch.ensures.batch c.in_err-append.ensures.answer))

pub returns-in_err-append-clause-added : goal.returns-in_err-append-clause-added
returns-in_err-append-clause-added g c =
    let p = err_from_is_err_and c.from_residual-in_err-append.result c.from_residual-in_err-append.ensures.1 in
    rw (p.1, p.2)
    (failed_sending g.T.DiskCalls.told g.T.DiskCalls.counts g.T.SiteCalls.port g.T.SiteCalls.lines c.args.self.now c.append.new.self (reserves_of c.args.by (moment_for c.args.self.now) c.args.self.now.name (reverse c.args.self.now.journal.entries) c.args.jobs.now) c.in_err-append.field-0.0
    (subst (λ (b : List Entry). IsAddition c.args.self.now c.append.new.self b (Err c.in_err-append.field-0.0)) c.in_ok-batch.ensures.batch c.in_err-append.ensures.added))

pub returns-in_err-append-clause-sent : goal.returns-in_err-append-clause-sent
returns-in_err-append-clause-sent g c = λ tells.
    let p = err_from_is_err_and c.from_residual-in_err-append.result c.from_residual-in_err-append.ensures.1 in
    rw (p.1, p.2)
    (none_handed (departures_for (c.args.self.now.journal.entries ++ reserves_of c.args.by (moment_for c.args.self.now) c.args.self.now.name (reverse c.args.self.now.journal.entries) c.args.jobs.now) (reserves_of c.args.by (moment_for c.args.self.now) c.args.self.now.name (reverse c.args.self.now.journal.entries) c.args.jobs.now)) (port_now g.T.DiskCalls.told g.T.SiteCalls.port g.T.SiteCalls.lines c.args.self.now.site) (port_now g.T.DiskCalls.told g.T.SiteCalls.port g.T.SiteCalls.lines c.append.new.self.site) c.in_err-append.field-0.0 (ap (λ (p : PortState). p.sent) (c.in_err-append.ensures.run tells).port_stands))

pub returns-in_err-append-clause-only_added : goal.returns-in_err-append-clause-only_added
returns-in_err-append-clause-only_added g c = λ tells same.
    ap (λ (p : PortState). p.sent) (c.in_err-append.ensures.run tells).port_stands

pub returns-in_err-append-clause-unasked : goal.returns-in_err-append-clause-unasked
returns-in_err-append-clause-unasked g c = λ tells.
    none_asked (port_now g.T.DiskCalls.told g.T.SiteCalls.port g.T.SiteCalls.lines c.args.self.now.site) (port_now g.T.DiskCalls.told g.T.SiteCalls.port g.T.SiteCalls.lines c.append.new.self.site) (c.in_err-append.ensures.run tells).port_stands

pub returns-in_err-append-clause-events : goal.returns-in_err-append-clause-events
returns-in_err-append-clause-events g c = λ tells.
    let p = err_from_is_err_and c.from_residual-in_err-append.result c.from_residual-in_err-append.ensures.1 in
    rw (p.1, p.2)
    (failed_events g.T.DiskCalls.told g.T.DiskCalls.counts g.T.SiteCalls.port g.T.SiteCalls.lines c.args.self.now c.append.new.self (reserves_of c.args.by (moment_for c.args.self.now) c.args.self.now.name (reverse c.args.self.now.journal.entries) c.args.jobs.now) c.in_err-append.field-0.0
    (subst (λ (b : List Entry). IsAddition c.args.self.now c.append.new.self b (Err c.in_err-append.field-0.0)) c.in_ok-batch.ensures.batch c.in_err-append.ensures.added)
    (subst (λ (b : List Entry). IsAddingRun g.T.DiskCalls.told g.T.SiteCalls.port g.T.SiteCalls.lines c.args.self.now c.append.new.self b (Err c.in_err-append.field-0.0)) c.in_ok-batch.ensures.batch (c.in_err-append.ensures.run tells)))

pub returns-in_err-append-clause-went_on : goal.returns-in_err-append-clause-went_on
returns-in_err-append-clause-went_on g c = λ opening tells kept fair.
    adding_gone_on g.T.DiskCalls.told g.T.DiskCalls.counts g.T.SiteCalls.port g.T.SiteCalls.lines opening c.args.self.now kept tells
    (g.met.T.DiskCalls.seen_is_image c.args.self.now.site tells)
    c.append.new.self (reserves_of c.args.by (moment_for c.args.self.now) c.args.self.now.name (reverse c.args.self.now.journal.entries) c.args.jobs.now) (Err c.in_err-append.field-0.0)
    (subst (λ (b : List Entry). IsAddingRun g.T.DiskCalls.told g.T.SiteCalls.port g.T.SiteCalls.lines c.args.self.now c.append.new.self b (Err c.in_err-append.field-0.0)) c.in_ok-batch.ensures.batch (c.in_err-append.ensures.run tells))
    (subst (λ (v : LaneValue g.row.T.Denot). v.is_stale ≡ false) c.self.view_is c.if-self.false) fair

pub returns-in_err-append-clause-cause : goal.returns-in_err-append-clause-cause
returns-in_err-append-clause-cause g c =
    let p = err_from_is_err_and c.from_residual-in_err-append.result c.from_residual-in_err-append.ensures.1 in
    rw (p.1, p.2) c.in_err-append.ensures.cause

pub returns-in_err-append-clause-kept : goal.returns-in_err-append-clause-kept
returns-in_err-append-clause-kept g c =
    c.append.ensures.kept
    (subst (λ (l : List Entry). list_any is_settlement l ≡ false) (sym c.in_ok-batch.ensures.batch) (reserves_settle_none c.args.by (moment_for c.args.self.now) c.args.self.now.name (reverse c.args.self.now.journal.entries) c.args.jobs.now))

pub returns-clause-answer : goal.returns-clause-answer
returns-clause-answer g c =
    course_answer g.T.DiskCalls.told g.T.DiskCalls.counts g.T.SiteCalls.port g.T.SiteCalls.lines c.args.self.now c.append.new.self c.send_from.new.self
    (reserves_of c.args.by (moment_for c.args.self.now) c.args.self.now.name (reverse c.args.self.now.journal.entries) c.args.jobs.now) c.send_from.result
    (let long = reserves_length c.args.by (moment_for c.args.self.now) c.args.self.now.name (reverse c.args.self.now.journal.entries) c.args.jobs.now in let some = c.requires.some in omega (arith, long, some))
    (reserves_legal c.args.by (moment_for c.args.self.now) c.args.self.now.name (reverse c.args.self.now.journal.entries) c.args.jobs.now c.in_ok-batch.ensures.free (le-max_right c.args.self.now.moment (last_moment (reverse c.args.self.now.journal.entries))))
    (reserves_settle_none c.args.by (moment_for c.args.self.now) c.args.self.now.name (reverse c.args.self.now.journal.entries) c.args.jobs.now)
    (subst (λ (v : LaneValue g.row.T.Denot). v.is_stale ≡ false) c.self.view_is c.if-self.false)
    (subst (λ (b : List Entry). IsAdded c.args.self.now c.append.new.self b) c.in_ok-batch.ensures.batch c.in_ok-append.ensures.added)
    (λ tells. subst (λ (b : List Entry). IsAddingRun g.T.DiskCalls.told g.T.SiteCalls.port g.T.SiteCalls.lines c.args.self.now c.append.new.self b (Ok tt)) c.in_ok-batch.ensures.batch (c.in_ok-append.ensures.run tells))
    c.append.ensures.later.tells c.send_from.ensures.answer c.send_from.ensures.resent
    (subst (λ (n : ℕ). Tells g.T.DiskCalls.told c.append.new.self.site → HandsOverBuilt g.T.DiskCalls.told g.T.SiteCalls.port g.T.SiteCalls.lines c.append.new.self.journal.entries c.append.new.self.site c.send_from.new.self.site (departures_for c.append.new.self.journal.entries (drop n c.append.new.self.journal.entries)) (pieces_from c.append.new.self.journal.entries n (length c.append.new.self.journal.entries - n)) c.send_from.result)
    (ap (λ (l : List Entry). length l) (c.entries-first.ensures.entries ∙ c.history.ensures.entries ∙ ap (λ (v : LaneValue g.row.T.Denot). v.journal.entries) c.self.view_is)) c.send_from.ensures.hands)
    (jobs_refusal c.args.by (moment_for c.args.self.now) c.args.self.now.name (reverse c.args.self.now.journal.entries) c.args.jobs.now) c.in_ok-batch.ensures.free
    (subst (λ (b : List Entry). AddingAnswer c.args.self.now None b (Ok tt)) c.in_ok-batch.ensures.batch c.in_ok-append.ensures.answer)

pub returns-clause-added : goal.returns-clause-added
returns-clause-added g c =
    course_added g.T.DiskCalls.told g.T.DiskCalls.counts g.T.SiteCalls.port g.T.SiteCalls.lines c.args.self.now c.append.new.self c.send_from.new.self
    (reserves_of c.args.by (moment_for c.args.self.now) c.args.self.now.name (reverse c.args.self.now.journal.entries) c.args.jobs.now) c.send_from.result
    (let long = reserves_length c.args.by (moment_for c.args.self.now) c.args.self.now.name (reverse c.args.self.now.journal.entries) c.args.jobs.now in let some = c.requires.some in omega (arith, long, some))
    (reserves_legal c.args.by (moment_for c.args.self.now) c.args.self.now.name (reverse c.args.self.now.journal.entries) c.args.jobs.now c.in_ok-batch.ensures.free (le-max_right c.args.self.now.moment (last_moment (reverse c.args.self.now.journal.entries))))
    (reserves_settle_none c.args.by (moment_for c.args.self.now) c.args.self.now.name (reverse c.args.self.now.journal.entries) c.args.jobs.now)
    (subst (λ (v : LaneValue g.row.T.Denot). v.is_stale ≡ false) c.self.view_is c.if-self.false)
    (subst (λ (b : List Entry). IsAdded c.args.self.now c.append.new.self b) c.in_ok-batch.ensures.batch c.in_ok-append.ensures.added)
    (λ tells. subst (λ (b : List Entry). IsAddingRun g.T.DiskCalls.told g.T.SiteCalls.port g.T.SiteCalls.lines c.args.self.now c.append.new.self b (Ok tt)) c.in_ok-batch.ensures.batch (c.in_ok-append.ensures.run tells))
    c.append.ensures.later.tells c.send_from.ensures.answer c.send_from.ensures.resent
    (subst (λ (n : ℕ). Tells g.T.DiskCalls.told c.append.new.self.site → HandsOverBuilt g.T.DiskCalls.told g.T.SiteCalls.port g.T.SiteCalls.lines c.append.new.self.journal.entries c.append.new.self.site c.send_from.new.self.site (departures_for c.append.new.self.journal.entries (drop n c.append.new.self.journal.entries)) (pieces_from c.append.new.self.journal.entries n (length c.append.new.self.journal.entries - n)) c.send_from.result)
    (ap (λ (l : List Entry). length l) (c.entries-first.ensures.entries ∙ c.history.ensures.entries ∙ ap (λ (v : LaneValue g.row.T.Denot). v.journal.entries) c.self.view_is)) c.send_from.ensures.hands)

pub returns-clause-sent : goal.returns-clause-sent
returns-clause-sent g c = λ tells.
    course_sent g.T.DiskCalls.told g.T.DiskCalls.counts g.T.SiteCalls.port g.T.SiteCalls.lines c.args.self.now c.append.new.self c.send_from.new.self
    (reserves_of c.args.by (moment_for c.args.self.now) c.args.self.now.name (reverse c.args.self.now.journal.entries) c.args.jobs.now) c.send_from.result
    (let long = reserves_length c.args.by (moment_for c.args.self.now) c.args.self.now.name (reverse c.args.self.now.journal.entries) c.args.jobs.now in let some = c.requires.some in omega (arith, long, some))
    (reserves_legal c.args.by (moment_for c.args.self.now) c.args.self.now.name (reverse c.args.self.now.journal.entries) c.args.jobs.now c.in_ok-batch.ensures.free (le-max_right c.args.self.now.moment (last_moment (reverse c.args.self.now.journal.entries))))
    (reserves_settle_none c.args.by (moment_for c.args.self.now) c.args.self.now.name (reverse c.args.self.now.journal.entries) c.args.jobs.now)
    (subst (λ (v : LaneValue g.row.T.Denot). v.is_stale ≡ false) c.self.view_is c.if-self.false)
    (subst (λ (b : List Entry). IsAdded c.args.self.now c.append.new.self b) c.in_ok-batch.ensures.batch c.in_ok-append.ensures.added)
    (λ tells. subst (λ (b : List Entry). IsAddingRun g.T.DiskCalls.told g.T.SiteCalls.port g.T.SiteCalls.lines c.args.self.now c.append.new.self b (Ok tt)) c.in_ok-batch.ensures.batch (c.in_ok-append.ensures.run tells))
    c.append.ensures.later.tells c.send_from.ensures.answer c.send_from.ensures.resent
    (subst (λ (n : ℕ). Tells g.T.DiskCalls.told c.append.new.self.site → HandsOverBuilt g.T.DiskCalls.told g.T.SiteCalls.port g.T.SiteCalls.lines c.append.new.self.journal.entries c.append.new.self.site c.send_from.new.self.site (departures_for c.append.new.self.journal.entries (drop n c.append.new.self.journal.entries)) (pieces_from c.append.new.self.journal.entries n (length c.append.new.self.journal.entries - n)) c.send_from.result)
    (ap (λ (l : List Entry). length l) (c.entries-first.ensures.entries ∙ c.history.ensures.entries ∙ ap (λ (v : LaneValue g.row.T.Denot). v.journal.entries) c.self.view_is)) c.send_from.ensures.hands)
    tells

pub returns-clause-only_added : goal.returns-clause-only_added
returns-clause-only_added g c = λ tells.
    course_only_added g.T.DiskCalls.told g.T.DiskCalls.counts g.T.SiteCalls.port g.T.SiteCalls.lines c.args.self.now c.append.new.self c.send_from.new.self
    (reserves_of c.args.by (moment_for c.args.self.now) c.args.self.now.name (reverse c.args.self.now.journal.entries) c.args.jobs.now) c.send_from.result
    (let long = reserves_length c.args.by (moment_for c.args.self.now) c.args.self.now.name (reverse c.args.self.now.journal.entries) c.args.jobs.now in let some = c.requires.some in omega (arith, long, some))
    (reserves_legal c.args.by (moment_for c.args.self.now) c.args.self.now.name (reverse c.args.self.now.journal.entries) c.args.jobs.now c.in_ok-batch.ensures.free (le-max_right c.args.self.now.moment (last_moment (reverse c.args.self.now.journal.entries))))
    (reserves_settle_none c.args.by (moment_for c.args.self.now) c.args.self.now.name (reverse c.args.self.now.journal.entries) c.args.jobs.now)
    (subst (λ (v : LaneValue g.row.T.Denot). v.is_stale ≡ false) c.self.view_is c.if-self.false)
    (subst (λ (b : List Entry). IsAdded c.args.self.now c.append.new.self b) c.in_ok-batch.ensures.batch c.in_ok-append.ensures.added)
    (λ tells. subst (λ (b : List Entry). IsAddingRun g.T.DiskCalls.told g.T.SiteCalls.port g.T.SiteCalls.lines c.args.self.now c.append.new.self b (Ok tt)) c.in_ok-batch.ensures.batch (c.in_ok-append.ensures.run tells))
    c.append.ensures.later.tells c.send_from.ensures.answer c.send_from.ensures.resent
    (subst (λ (n : ℕ). Tells g.T.DiskCalls.told c.append.new.self.site → HandsOverBuilt g.T.DiskCalls.told g.T.SiteCalls.port g.T.SiteCalls.lines c.append.new.self.journal.entries c.append.new.self.site c.send_from.new.self.site (departures_for c.append.new.self.journal.entries (drop n c.append.new.self.journal.entries)) (pieces_from c.append.new.self.journal.entries n (length c.append.new.self.journal.entries - n)) c.send_from.result)
    (ap (λ (l : List Entry). length l) (c.entries-first.ensures.entries ∙ c.history.ensures.entries ∙ ap (λ (v : LaneValue g.row.T.Denot). v.journal.entries) c.self.view_is)) c.send_from.ensures.hands)

pub returns-clause-unasked : goal.returns-clause-unasked
returns-clause-unasked g c = λ tells.
    course_unasked g.T.DiskCalls.told g.T.DiskCalls.counts g.T.SiteCalls.port g.T.SiteCalls.lines c.args.self.now c.append.new.self c.send_from.new.self
    (reserves_of c.args.by (moment_for c.args.self.now) c.args.self.now.name (reverse c.args.self.now.journal.entries) c.args.jobs.now) c.send_from.result
    (let long = reserves_length c.args.by (moment_for c.args.self.now) c.args.self.now.name (reverse c.args.self.now.journal.entries) c.args.jobs.now in let some = c.requires.some in omega (arith, long, some))
    (reserves_legal c.args.by (moment_for c.args.self.now) c.args.self.now.name (reverse c.args.self.now.journal.entries) c.args.jobs.now c.in_ok-batch.ensures.free (le-max_right c.args.self.now.moment (last_moment (reverse c.args.self.now.journal.entries))))
    (reserves_settle_none c.args.by (moment_for c.args.self.now) c.args.self.now.name (reverse c.args.self.now.journal.entries) c.args.jobs.now)
    (subst (λ (v : LaneValue g.row.T.Denot). v.is_stale ≡ false) c.self.view_is c.if-self.false)
    (subst (λ (b : List Entry). IsAdded c.args.self.now c.append.new.self b) c.in_ok-batch.ensures.batch c.in_ok-append.ensures.added)
    (λ tells. subst (λ (b : List Entry). IsAddingRun g.T.DiskCalls.told g.T.SiteCalls.port g.T.SiteCalls.lines c.args.self.now c.append.new.self b (Ok tt)) c.in_ok-batch.ensures.batch (c.in_ok-append.ensures.run tells))
    c.append.ensures.later.tells c.send_from.ensures.answer c.send_from.ensures.resent
    (subst (λ (n : ℕ). Tells g.T.DiskCalls.told c.append.new.self.site → HandsOverBuilt g.T.DiskCalls.told g.T.SiteCalls.port g.T.SiteCalls.lines c.append.new.self.journal.entries c.append.new.self.site c.send_from.new.self.site (departures_for c.append.new.self.journal.entries (drop n c.append.new.self.journal.entries)) (pieces_from c.append.new.self.journal.entries n (length c.append.new.self.journal.entries - n)) c.send_from.result)
    (ap (λ (l : List Entry). length l) (c.entries-first.ensures.entries ∙ c.history.ensures.entries ∙ ap (λ (v : LaneValue g.row.T.Denot). v.journal.entries) c.self.view_is)) c.send_from.ensures.hands)
    tells

pub returns-clause-events : goal.returns-clause-events
returns-clause-events g c = λ tells.
    course_events g.T.DiskCalls.told g.T.DiskCalls.counts g.T.SiteCalls.port g.T.SiteCalls.lines c.args.self.now c.append.new.self c.send_from.new.self
    (reserves_of c.args.by (moment_for c.args.self.now) c.args.self.now.name (reverse c.args.self.now.journal.entries) c.args.jobs.now) c.send_from.result
    (let long = reserves_length c.args.by (moment_for c.args.self.now) c.args.self.now.name (reverse c.args.self.now.journal.entries) c.args.jobs.now in let some = c.requires.some in omega (arith, long, some))
    (reserves_legal c.args.by (moment_for c.args.self.now) c.args.self.now.name (reverse c.args.self.now.journal.entries) c.args.jobs.now c.in_ok-batch.ensures.free (le-max_right c.args.self.now.moment (last_moment (reverse c.args.self.now.journal.entries))))
    (reserves_settle_none c.args.by (moment_for c.args.self.now) c.args.self.now.name (reverse c.args.self.now.journal.entries) c.args.jobs.now)
    (subst (λ (v : LaneValue g.row.T.Denot). v.is_stale ≡ false) c.self.view_is c.if-self.false)
    (subst (λ (b : List Entry). IsAdded c.args.self.now c.append.new.self b) c.in_ok-batch.ensures.batch c.in_ok-append.ensures.added)
    (λ tells. subst (λ (b : List Entry). IsAddingRun g.T.DiskCalls.told g.T.SiteCalls.port g.T.SiteCalls.lines c.args.self.now c.append.new.self b (Ok tt)) c.in_ok-batch.ensures.batch (c.in_ok-append.ensures.run tells))
    c.append.ensures.later.tells c.send_from.ensures.answer c.send_from.ensures.resent
    (subst (λ (n : ℕ). Tells g.T.DiskCalls.told c.append.new.self.site → HandsOverBuilt g.T.DiskCalls.told g.T.SiteCalls.port g.T.SiteCalls.lines c.append.new.self.journal.entries c.append.new.self.site c.send_from.new.self.site (departures_for c.append.new.self.journal.entries (drop n c.append.new.self.journal.entries)) (pieces_from c.append.new.self.journal.entries n (length c.append.new.self.journal.entries - n)) c.send_from.result)
    (ap (λ (l : List Entry). length l) (c.entries-first.ensures.entries ∙ c.history.ensures.entries ∙ ap (λ (v : LaneValue g.row.T.Denot). v.journal.entries) c.self.view_is)) c.send_from.ensures.hands)
    tells

pub returns-clause-went_on : goal.returns-clause-went_on
returns-clause-went_on g c = λ opening tells kept fair.
    course_gone_on g.T.DiskCalls.told g.T.DiskCalls.counts g.T.SiteCalls.port g.T.SiteCalls.lines c.args.self.now c.append.new.self c.send_from.new.self
    (reserves_of c.args.by (moment_for c.args.self.now) c.args.self.now.name (reverse c.args.self.now.journal.entries) c.args.jobs.now) c.send_from.result
    (let long = reserves_length c.args.by (moment_for c.args.self.now) c.args.self.now.name (reverse c.args.self.now.journal.entries) c.args.jobs.now in let some = c.requires.some in omega (arith, long, some))
    (reserves_legal c.args.by (moment_for c.args.self.now) c.args.self.now.name (reverse c.args.self.now.journal.entries) c.args.jobs.now c.in_ok-batch.ensures.free (le-max_right c.args.self.now.moment (last_moment (reverse c.args.self.now.journal.entries))))
    (reserves_settle_none c.args.by (moment_for c.args.self.now) c.args.self.now.name (reverse c.args.self.now.journal.entries) c.args.jobs.now)
    (subst (λ (v : LaneValue g.row.T.Denot). v.is_stale ≡ false) c.self.view_is c.if-self.false)
    (subst (λ (b : List Entry). IsAdded c.args.self.now c.append.new.self b) c.in_ok-batch.ensures.batch c.in_ok-append.ensures.added)
    (λ tells. subst (λ (b : List Entry). IsAddingRun g.T.DiskCalls.told g.T.SiteCalls.port g.T.SiteCalls.lines c.args.self.now c.append.new.self b (Ok tt)) c.in_ok-batch.ensures.batch (c.in_ok-append.ensures.run tells))
    c.append.ensures.later.tells c.send_from.ensures.answer c.send_from.ensures.resent
    (subst (λ (n : ℕ). Tells g.T.DiskCalls.told c.append.new.self.site → HandsOverBuilt g.T.DiskCalls.told g.T.SiteCalls.port g.T.SiteCalls.lines c.append.new.self.journal.entries c.append.new.self.site c.send_from.new.self.site (departures_for c.append.new.self.journal.entries (drop n c.append.new.self.journal.entries)) (pieces_from c.append.new.self.journal.entries n (length c.append.new.self.journal.entries - n)) c.send_from.result)
    (ap (λ (l : List Entry). length l) (c.entries-first.ensures.entries ∙ c.history.ensures.entries ∙ ap (λ (v : LaneValue g.row.T.Denot). v.journal.entries) c.self.view_is)) c.send_from.ensures.hands)
    tells (c.send_from.ensures.went_on opening (subst IsTrue (sym c.append.ensures.later.tells) tells) (c.append.ensures.kept (subst (λ (l : List Entry). list_any is_settlement l ≡ false) (sym c.in_ok-batch.ensures.batch) (reserves_settle_none c.args.by (moment_for c.args.self.now) c.args.self.now.name (reverse c.args.self.now.journal.entries) c.args.jobs.now)) opening kept) fair)

pub returns-clause-cause : goal.returns-clause-cause
returns-clause-cause g c =
    cause_then (g.T.DiskCalls.counts c.args.self.now.site) (g.T.DiskCalls.counts c.append.new.self.site) (g.T.DiskCalls.counts c.send_from.new.self.site) c.send_from.result c.send_from.ensures.answer c.in_ok-append.ensures.cause c.send_from.ensures.cause

pub returns-clause-later : goal.returns-clause-later
returns-clause-later g c =
    is_later_chain g.T.DiskCalls.told g.T.DiskCalls.counts g.T.SiteCalls.port g.T.SiteCalls.lines c.args.self.now c.append.new.self c.send_from.new.self c.append.ensures.later c.send_from.ensures.later

pub returns-clause-kept : goal.returns-clause-kept
returns-clause-kept g c = λ opening kept.
    c.send_from.ensures.kept opening (c.append.ensures.kept (subst (λ (l : List Entry). list_any is_settlement l ≡ false) (sym c.in_ok-batch.ensures.batch) (reserves_settle_none c.args.by (moment_for c.args.self.now) c.args.self.now.name (reverse c.args.self.now.journal.entries) c.args.jobs.now)) opening kept)

pub returns-then-self-clause-moments : goal.returns-then-self-clause-moments
returns-then-self-clause-moments g c = λ tells live.
    idle_whole g.T.DiskCalls.told g.T.SiteCalls.port g.T.SiteCalls.lines c.args.self.now (reserves_of c.args.by (moment_for c.args.self.now) c.args.self.now.name (reverse c.args.self.now.journal.entries) c.args.jobs.now) (subst (λ (v : LaneValue g.row.T.Denot). IsLane g.T.DiskCalls.told v) c.self.view_is c.self.invariant) live tells

pub returns-in_err-batch-clause-moments : goal.returns-in_err-batch-clause-moments
returns-in_err-batch-clause-moments g c = λ tells live.
    idle_whole g.T.DiskCalls.told g.T.SiteCalls.port g.T.SiteCalls.lines c.args.self.now (reserves_of c.args.by (moment_for c.args.self.now) c.args.self.now.name (reverse c.args.self.now.journal.entries) c.args.jobs.now) (subst (λ (v : LaneValue g.row.T.Denot). IsLane g.T.DiskCalls.told v) c.self.view_is c.self.invariant) live tells

pub returns-in_err-append-clause-moments : goal.returns-in_err-append-clause-moments
returns-in_err-append-clause-moments g c = λ tells live.
    added_whole g.T.DiskCalls.told g.T.SiteCalls.port g.T.SiteCalls.lines c.args.self.now c.append.new.self (reserves_of c.args.by (moment_for c.args.self.now) c.args.self.now.name (reverse c.args.self.now.journal.entries) c.args.jobs.now) (Err c.in_err-append.field-0.0)
    (subst (λ (b : List Entry). IsAddingRun g.T.DiskCalls.told g.T.SiteCalls.port g.T.SiteCalls.lines c.args.self.now c.append.new.self b (Err c.in_err-append.field-0.0)) c.in_ok-batch.ensures.batch (c.in_err-append.ensures.run tells)) live

pub returns-clause-moments : goal.returns-clause-moments
returns-clause-moments g c = λ tells live.
    course_whole g.T.DiskCalls.told g.T.DiskCalls.counts g.T.SiteCalls.port g.T.SiteCalls.lines c.args.self.now c.append.new.self c.send_from.new.self
    (reserves_of c.args.by (moment_for c.args.self.now) c.args.self.now.name (reverse c.args.self.now.journal.entries) c.args.jobs.now) c.send_from.result
    (let long = reserves_length c.args.by (moment_for c.args.self.now) c.args.self.now.name (reverse c.args.self.now.journal.entries) c.args.jobs.now in let some = c.requires.some in omega (arith, long, some))
    (reserves_legal c.args.by (moment_for c.args.self.now) c.args.self.now.name (reverse c.args.self.now.journal.entries) c.args.jobs.now c.in_ok-batch.ensures.free (le-max_right c.args.self.now.moment (last_moment (reverse c.args.self.now.journal.entries))))
    (reserves_settle_none c.args.by (moment_for c.args.self.now) c.args.self.now.name (reverse c.args.self.now.journal.entries) c.args.jobs.now)
    (subst (λ (v : LaneValue g.row.T.Denot). v.is_stale ≡ false) c.self.view_is c.if-self.false)
    (subst (λ (b : List Entry). IsAdded c.args.self.now c.append.new.self b) c.in_ok-batch.ensures.batch c.in_ok-append.ensures.added)
    (λ tells. subst (λ (b : List Entry). IsAddingRun g.T.DiskCalls.told g.T.SiteCalls.port g.T.SiteCalls.lines c.args.self.now c.append.new.self b (Ok tt)) c.in_ok-batch.ensures.batch (c.in_ok-append.ensures.run tells))
    c.append.ensures.later.tells c.send_from.ensures.answer c.send_from.ensures.resent
    (subst (λ (n : ℕ). Tells g.T.DiskCalls.told c.append.new.self.site → HandsOverBuilt g.T.DiskCalls.told g.T.SiteCalls.port g.T.SiteCalls.lines c.append.new.self.journal.entries c.append.new.self.site c.send_from.new.self.site (departures_for c.append.new.self.journal.entries (drop n c.append.new.self.journal.entries)) (pieces_from c.append.new.self.journal.entries n (length c.append.new.self.journal.entries - n)) c.send_from.result)
    (ap (λ (l : List Entry). length l) (c.entries-first.ensures.entries ∙ c.history.ensures.entries ∙ ap (λ (v : LaneValue g.row.T.Denot). v.journal.entries) c.self.view_is)) c.send_from.ensures.hands)
    tells

pub returns-then-self-clause-course : goal.returns-then-self-clause-course
returns-then-self-clause-course g c = λ tells acts.
    none_sending_course g.T.DiskCalls.told g.T.SiteCalls.port g.T.SiteCalls.lines c.args.self.now (reserves_of c.args.by (moment_for c.args.self.now) c.args.self.now.name (reverse c.args.self.now.journal.entries) c.args.jobs.now) lane_err.Stale tt

pub returns-in_err-batch-clause-course : goal.returns-in_err-batch-clause-course
returns-in_err-batch-clause-course g c = λ tells acts.
    let p = err_from_is_err_and c.from_residual.result c.from_residual.ensures.1 in
    rw (p.1, p.2) (none_sending_course g.T.DiskCalls.told g.T.SiteCalls.port g.T.SiteCalls.lines c.args.self.now (reserves_of c.args.by (moment_for c.args.self.now) c.args.self.now.name (reverse c.args.self.now.journal.entries) c.args.jobs.now) c.in_err-batch.field-0.0 c.in_err-batch.ensures.refused.0)

pub returns-in_err-append-clause-course : goal.returns-in_err-append-clause-course
returns-in_err-append-clause-course g c = λ tells acts.
    let p = err_from_is_err_and c.from_residual-in_err-append.result c.from_residual-in_err-append.ensures.1 in
    let added : IsAddition c.args.self.now c.append.new.self (reserves_of c.args.by (moment_for c.args.self.now) c.args.self.now.name (reverse c.args.self.now.journal.entries) c.args.jobs.now) (Err c.in_err-append.field-0.0) =
    subst (λ (b : List Entry). IsAddition c.args.self.now c.append.new.self b (Err c.in_err-append.field-0.0)) c.in_ok-batch.ensures.batch c.in_err-append.ensures.added in
    rw (p.1, p.2)
    (failed_course g.T.DiskCalls.told g.T.SiteCalls.port g.T.SiteCalls.lines c.args.self.now c.append.new.self (reserves_of c.args.by (moment_for c.args.self.now) c.args.self.now.name (reverse c.args.self.now.journal.entries) c.args.jobs.now) c.in_err-append.field-0.0 added
    (added_course g.T.DiskCalls.told g.T.SiteCalls.port g.T.SiteCalls.lines c.args.self.now c.append.new.self (reserves_of c.args.by (moment_for c.args.self.now) c.args.self.now.name (reverse c.args.self.now.journal.entries) c.args.jobs.now) (Err c.in_err-append.field-0.0)
    (let long = reserves_length c.args.by (moment_for c.args.self.now) c.args.self.now.name (reverse c.args.self.now.journal.entries) c.args.jobs.now in let some = c.requires.some in omega (arith, long, some))
    (subst (λ (v : LaneValue g.row.T.Denot). IsLane g.T.DiskCalls.told v) c.self.view_is c.self.invariant) (subst (λ (v : LaneValue g.row.T.Denot). v.is_stale ≡ false) c.self.view_is c.if-self.false) (reserves_settle_none c.args.by (moment_for c.args.self.now) c.args.self.now.name (reverse c.args.self.now.journal.entries) c.args.jobs.now) added
    (subst (λ (b : List Entry). IsAddingRun g.T.DiskCalls.told g.T.SiteCalls.port g.T.SiteCalls.lines c.args.self.now c.append.new.self b (Err c.in_err-append.field-0.0)) c.in_ok-batch.ensures.batch (c.in_err-append.ensures.run tells))))

pub returns-clause-course : goal.returns-clause-course
returns-clause-course g c = λ tells acts.
    sending_course g.T.DiskCalls.told g.T.SiteCalls.port g.T.SiteCalls.lines c.args.self.now c.append.new.self c.send_from.new.self (reserves_of c.args.by (moment_for c.args.self.now) c.args.self.now.name (reverse c.args.self.now.journal.entries) c.args.jobs.now) c.send_from.result
    (reserves_legal c.args.by (moment_for c.args.self.now) c.args.self.now.name (reverse c.args.self.now.journal.entries) c.args.jobs.now c.in_ok-batch.ensures.free (le-max_right c.args.self.now.moment (last_moment (reverse c.args.self.now.journal.entries))))
    (reserves_settle_none c.args.by (moment_for c.args.self.now) c.args.self.now.name (reverse c.args.self.now.journal.entries) c.args.jobs.now) (subst (λ (v : LaneValue g.row.T.Denot). v.is_stale ≡ false) c.self.view_is c.if-self.false) ((subst (λ (v : LaneValue g.row.T.Denot). IsLane g.T.DiskCalls.told v) c.self.view_is c.self.invariant).whole (subst (λ (v : LaneValue g.row.T.Denot). v.is_stale ≡ false) c.self.view_is c.if-self.false))
    (subst (λ (b : List Entry). IsAdded c.args.self.now c.append.new.self b) c.in_ok-batch.ensures.batch c.in_ok-append.ensures.added)
    (subst (λ (b : List Entry). IsAddingRun g.T.DiskCalls.told g.T.SiteCalls.port g.T.SiteCalls.lines c.args.self.now c.append.new.self b (Ok tt)) c.in_ok-batch.ensures.batch (c.in_ok-append.ensures.run tells))
    (journal_of c.append.new.self c.send_from.new.self c.send_from.result c.send_from.ensures.answer c.send_from.ensures.resent)
    c.send_from.ensures.answer
    (λ acts_mid. subst (λ (n : ℕ). PiecesCourse g.T.DiskCalls.told g.T.SiteCalls.port g.T.SiteCalls.lines c.append.new.self c.send_from.new.self (pieces_from c.append.new.self.journal.entries n (length c.append.new.self.journal.entries - n)) c.send_from.result)
    (ap (λ (l : List Entry). length l) (c.entries-first.ensures.entries ∙ c.history.ensures.entries ∙ ap (λ (v : LaneValue g.row.T.Denot). v.journal.entries) c.self.view_is))
    (c.send_from.ensures.course (subst (λ b. IsTrue b) (sym c.append.ensures.later.tells) tells) acts_mid)) acts
