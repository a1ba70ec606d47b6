use Rattle.std.proofs.Common.{◌<◌, ◌≤◌, ◌-◌, ℕ, Ok, Err, List, drop, length, refl, ◌∙◌, ap, subst, arith}
use Rattle.std.proofs.lemmas.Result.{err_from_is_err_and}
use Rattle.ota_core.specs.declared.entries.Entry.{Entry}
use Rattle.counter_journal.specs.JournalReading.{JournalValue}
use Rattle.world_core.specs.Packet.{packet_at}
use Rattle.lane_engine.specs.Departing.{pieces_at, pieces_from}
use Rattle.lane_engine.specs.LaneValue.{LaneValue, IsLane}
use Rattle.lane_engine.specs.Packets.{departures_for, departures_if}
use Rattle.lane_engine.specs.Sending.{HandsOverBuilt}
use Rattle.lane_engine.proofs.CourseLemmas.{hearing_of, journal_of, lost_of, same_then}
use Rattle.lane_engine.proofs.FromLemmas.{built_all, built_more, built_none, built_stopped}
use Rattle.lane_engine.proofs.LeavingLemmas.{from_reserved}
use Rattle.lane_engine.proofs.LedLemmas.{pieces_course}
use Rattle.lane_engine.proofs.SentLemmas.{sent_gone_on, sent_kept, sent_later}
use Rattle.lane_engine.proofs.RefusalLemmas.{same_lane}
use Rattle.lane_engine.proofs.lanes.Lane.send_from.Goals as goal

pub loop-position-init : goal.loop-position-init
loop-position-init g c =
    (refl, c.requires.live, (same_lane c.args.self.now).rest, built_none g.T.DiskCalls.told g.T.DiskCalls.counts g.T.SiteCalls.port g.T.SiteCalls.lines c.args.self.now.journal.entries c.args.self.now.site c.args.first, refl)

pub returns-in_err-send_at-clause-hands : goal.returns-in_err-send_at-clause-hands
returns-in_err-send_at-clause-hands g c = λ tells.
    let p = err_from_is_err_and c.from_residual.result c.from_residual.ensures.1 in
    let below : c.loop-position.position < length c.args.self.now.journal.entries =
    subst (λ (n : ℕ). c.loop-position.position < n) (ap (λ (l : List Entry). length l) (c.entries-count.ensures.entries ∙ c.history.ensures.entries ∙ ap (λ (v : LaneValue g.row.T.Denot). v.journal.entries) c.self.view_is)) c.loop-position-test.true in
    rw (p.1, p.2)
    (built_stopped g.T.DiskCalls.told g.T.DiskCalls.counts g.T.SiteCalls.port g.T.SiteCalls.lines c.args.self.now.journal.entries c.args.self.now.site c.args.first c.loop-position.self.site c.send_at.new.self.site
    c.loop-position.position c.loop-position.invariant.3 below c.in_err-send_at.field-0.0
    (λ then. subst (λ (j : JournalValue). HandsOverBuilt g.T.DiskCalls.told g.T.SiteCalls.port g.T.SiteCalls.lines j.entries c.loop-position.self.site c.send_at.new.self.site
    (departures_if (packet_at j.entries c.loop-position.position)) (pieces_at j.entries c.loop-position.position) (Err c.in_err-send_at.field-0.0)) c.loop-position.invariant.0 (c.in_err-send_at.ensures.hands then)) tells)

pub loop-position-preserved : goal.loop-position-preserved
loop-position-preserved g c =
    let below : c.loop-position.position < length c.args.self.now.journal.entries =
    subst (λ (n : ℕ). c.loop-position.position < n) (ap (λ (l : List Entry). length l) (c.entries-count.ensures.entries ∙ c.history.ensures.entries ∙ ap (λ (v : LaneValue g.row.T.Denot). v.journal.entries) c.self.view_is)) c.loop-position-test.true in (
      c.in_ok-send_at.ensures.resent.0 ∙ c.loop-position.invariant.0,
      c.in_ok-send_at.ensures.resent.1,
      same_then c.args.self.now c.loop-position.self c.send_at.new.self c.loop-position.invariant.2 c.in_ok-send_at.ensures.resent.2,
      built_more g.T.DiskCalls.told g.T.DiskCalls.counts g.T.SiteCalls.port g.T.SiteCalls.lines c.args.self.now.journal.entries c.args.self.now.site c.args.first c.loop-position.self.site c.send_at.new.self.site
          c.loop-position.position c.loop-position.invariant.3 below c.in_ok-send_at.ensures.tells c.in_ok-send_at.ensures.cause.answer.0 c.in_ok-send_at.ensures.cause.answer.1
          (λ then. subst (λ (j : JournalValue). HandsOverBuilt g.T.DiskCalls.told g.T.SiteCalls.port g.T.SiteCalls.lines j.entries c.loop-position.self.site c.send_at.new.self.site
          (departures_if (packet_at j.entries c.loop-position.position)) (pieces_at j.entries c.loop-position.position) (Ok tt)) c.loop-position.invariant.0 (c.in_ok-send_at.ensures.hands then)),
      c.in_ok-send_at.ensures.resent.3 ∙ c.loop-position.invariant.4,
    )

pub returns-in_err-send_at-clause-went_on : goal.returns-in_err-send_at-clause-went_on
returns-in_err-send_at-clause-went_on g c = λ opening tells kept fair.
    let below : c.loop-position.position < length c.args.self.now.journal.entries =
    subst (λ (n : ℕ). c.loop-position.position < n) (ap (λ (l : List Entry). length l) (c.entries-count.ensures.entries ∙ c.history.ensures.entries ∙ ap (λ (v : LaneValue g.row.T.Denot). v.journal.entries) c.self.view_is)) c.loop-position-test.true in
    sent_gone_on g.T.DiskCalls.told g.T.DiskCalls.counts g.T.SiteCalls.port g.T.SiteCalls.lines c.args.self.now c.send_at.new.self (departures_for c.args.self.now.journal.entries (drop c.args.first c.args.self.now.journal.entries)) (pieces_from c.args.self.now.journal.entries c.args.first (length c.args.self.now.journal.entries - c.args.first)) (Err c.in_err-send_at.field-0.0)
    (subst (λ (v : LaneValue g.row.T.Denot). IsLane g.T.DiskCalls.told v) c.self.view_is c.self.invariant) c.requires.live (λ told_so. g.met.T.DiskCalls.seen_is_image c.args.self.now.site told_so)
    (journal_of c.loop-position.self c.send_at.new.self (Err c.in_err-send_at.field-0.0) c.in_err-send_at.ensures.answer c.in_err-send_at.ensures.resent ∙ c.loop-position.invariant.0)
    (lost_of c.loop-position.self c.send_at.new.self (Err c.in_err-send_at.field-0.0) c.in_err-send_at.ensures.answer c.in_err-send_at.ensures.resent ∙ c.loop-position.invariant.4)
    (same_then c.args.self.now c.loop-position.self c.send_at.new.self c.loop-position.invariant.2 (hearing_of c.loop-position.self c.send_at.new.self (Err c.in_err-send_at.field-0.0) c.in_err-send_at.ensures.answer c.in_err-send_at.ensures.resent))
    (c.in_err-send_at.ensures.tells ∙ c.loop-position.invariant.3.tells)
    (let one = c.in_err-send_at.ensures.cause.faults in let two = c.loop-position.invariant.3.faults in omega (arith, one, two))
    (let one = c.in_err-send_at.ensures.cause.wants in let two = c.loop-position.invariant.3.wants in omega (arith, one, two))
    (λ told_so.
    built_stopped g.T.DiskCalls.told g.T.DiskCalls.counts g.T.SiteCalls.port g.T.SiteCalls.lines c.args.self.now.journal.entries c.args.self.now.site c.args.first c.loop-position.self.site c.send_at.new.self.site c.loop-position.position c.loop-position.invariant.3 below c.in_err-send_at.field-0.0
    (λ then. subst (λ (j : JournalValue). HandsOverBuilt g.T.DiskCalls.told g.T.SiteCalls.port g.T.SiteCalls.lines j.entries c.loop-position.self.site c.send_at.new.self.site
    (departures_if (packet_at j.entries c.loop-position.position)) (pieces_at j.entries c.loop-position.position) (Err c.in_err-send_at.field-0.0)) c.loop-position.invariant.0 (c.in_err-send_at.ensures.hands then)) told_so)
    (from_reserved c.args.self.now.journal.entries c.args.first (length c.args.self.now.journal.entries - c.args.first)) opening kept tells fair

pub returns-in_err-send_at-clause-later : goal.returns-in_err-send_at-clause-later
returns-in_err-send_at-clause-later g c =
    let below : c.loop-position.position < length c.args.self.now.journal.entries =
    subst (λ (n : ℕ). c.loop-position.position < n) (ap (λ (l : List Entry). length l) (c.entries-count.ensures.entries ∙ c.history.ensures.entries ∙ ap (λ (v : LaneValue g.row.T.Denot). v.journal.entries) c.self.view_is)) c.loop-position-test.true in
    sent_later g.T.DiskCalls.told g.T.DiskCalls.counts g.T.SiteCalls.port g.T.SiteCalls.lines c.args.self.now c.send_at.new.self (departures_for c.args.self.now.journal.entries (drop c.args.first c.args.self.now.journal.entries)) (pieces_from c.args.self.now.journal.entries c.args.first (length c.args.self.now.journal.entries - c.args.first)) (Err c.in_err-send_at.field-0.0)
    (subst (λ (v : LaneValue g.row.T.Denot). IsLane g.T.DiskCalls.told v) c.self.view_is c.self.invariant) c.requires.live (λ told_so. g.met.T.DiskCalls.seen_is_image c.args.self.now.site told_so)
    (journal_of c.loop-position.self c.send_at.new.self (Err c.in_err-send_at.field-0.0) c.in_err-send_at.ensures.answer c.in_err-send_at.ensures.resent ∙ c.loop-position.invariant.0)
    (lost_of c.loop-position.self c.send_at.new.self (Err c.in_err-send_at.field-0.0) c.in_err-send_at.ensures.answer c.in_err-send_at.ensures.resent ∙ c.loop-position.invariant.4)
    (same_then c.args.self.now c.loop-position.self c.send_at.new.self c.loop-position.invariant.2 (hearing_of c.loop-position.self c.send_at.new.self (Err c.in_err-send_at.field-0.0) c.in_err-send_at.ensures.answer c.in_err-send_at.ensures.resent))
    (c.in_err-send_at.ensures.tells ∙ c.loop-position.invariant.3.tells)
    (let one = c.in_err-send_at.ensures.cause.faults in let two = c.loop-position.invariant.3.faults in omega (arith, one, two))
    (let one = c.in_err-send_at.ensures.cause.wants in let two = c.loop-position.invariant.3.wants in omega (arith, one, two))
    (λ told_so.
    built_stopped g.T.DiskCalls.told g.T.DiskCalls.counts g.T.SiteCalls.port g.T.SiteCalls.lines c.args.self.now.journal.entries c.args.self.now.site c.args.first c.loop-position.self.site c.send_at.new.self.site c.loop-position.position c.loop-position.invariant.3 below c.in_err-send_at.field-0.0
    (λ then. subst (λ (j : JournalValue). HandsOverBuilt g.T.DiskCalls.told g.T.SiteCalls.port g.T.SiteCalls.lines j.entries c.loop-position.self.site c.send_at.new.self.site
    (departures_if (packet_at j.entries c.loop-position.position)) (pieces_at j.entries c.loop-position.position) (Err c.in_err-send_at.field-0.0)) c.loop-position.invariant.0 (c.in_err-send_at.ensures.hands then)) told_so)
    (from_reserved c.args.self.now.journal.entries c.args.first (length c.args.self.now.journal.entries - c.args.first))

pub returns-in_err-send_at-clause-kept : goal.returns-in_err-send_at-clause-kept
returns-in_err-send_at-clause-kept g c = λ opening kept.
    let below : c.loop-position.position < length c.args.self.now.journal.entries =
    subst (λ (n : ℕ). c.loop-position.position < n) (ap (λ (l : List Entry). length l) (c.entries-count.ensures.entries ∙ c.history.ensures.entries ∙ ap (λ (v : LaneValue g.row.T.Denot). v.journal.entries) c.self.view_is)) c.loop-position-test.true in
    sent_kept g.T.DiskCalls.told g.T.DiskCalls.counts g.T.SiteCalls.port g.T.SiteCalls.lines c.args.self.now c.send_at.new.self (departures_for c.args.self.now.journal.entries (drop c.args.first c.args.self.now.journal.entries)) (pieces_from c.args.self.now.journal.entries c.args.first (length c.args.self.now.journal.entries - c.args.first)) (Err c.in_err-send_at.field-0.0)
    (subst (λ (v : LaneValue g.row.T.Denot). IsLane g.T.DiskCalls.told v) c.self.view_is c.self.invariant) c.requires.live (λ told_so. g.met.T.DiskCalls.seen_is_image c.args.self.now.site told_so)
    (journal_of c.loop-position.self c.send_at.new.self (Err c.in_err-send_at.field-0.0) c.in_err-send_at.ensures.answer c.in_err-send_at.ensures.resent ∙ c.loop-position.invariant.0)
    (lost_of c.loop-position.self c.send_at.new.self (Err c.in_err-send_at.field-0.0) c.in_err-send_at.ensures.answer c.in_err-send_at.ensures.resent ∙ c.loop-position.invariant.4)
    (same_then c.args.self.now c.loop-position.self c.send_at.new.self c.loop-position.invariant.2 (hearing_of c.loop-position.self c.send_at.new.self (Err c.in_err-send_at.field-0.0) c.in_err-send_at.ensures.answer c.in_err-send_at.ensures.resent))
    (c.in_err-send_at.ensures.tells ∙ c.loop-position.invariant.3.tells)
    (let one = c.in_err-send_at.ensures.cause.faults in let two = c.loop-position.invariant.3.faults in omega (arith, one, two))
    (let one = c.in_err-send_at.ensures.cause.wants in let two = c.loop-position.invariant.3.wants in omega (arith, one, two))
    (λ told_so.
    built_stopped g.T.DiskCalls.told g.T.DiskCalls.counts g.T.SiteCalls.port g.T.SiteCalls.lines c.args.self.now.journal.entries c.args.self.now.site c.args.first c.loop-position.self.site c.send_at.new.self.site c.loop-position.position c.loop-position.invariant.3 below c.in_err-send_at.field-0.0
    (λ then. subst (λ (j : JournalValue). HandsOverBuilt g.T.DiskCalls.told g.T.SiteCalls.port g.T.SiteCalls.lines j.entries c.loop-position.self.site c.send_at.new.self.site
    (departures_if (packet_at j.entries c.loop-position.position)) (pieces_at j.entries c.loop-position.position) (Err c.in_err-send_at.field-0.0)) c.loop-position.invariant.0 (c.in_err-send_at.ensures.hands then)) told_so)
    (from_reserved c.args.self.now.journal.entries c.args.first (length c.args.self.now.journal.entries - c.args.first)) opening kept

pub returns-clause-hands : goal.returns-clause-hands
returns-clause-hands g c = λ tells.
    let past : length c.args.self.now.journal.entries ≤ c.loop-position.position = subst (λ (n : ℕ). n ≤ c.loop-position.position) (ap (λ (l : List Entry). length l) (c.entries-count.ensures.entries ∙ c.history.ensures.entries ∙ ap (λ (v : LaneValue g.row.T.Denot). v.journal.entries) c.self.view_is)) c.loop-position-test.false in
    built_all g.T.DiskCalls.told g.T.DiskCalls.counts g.T.SiteCalls.port g.T.SiteCalls.lines c.args.self.now.journal.entries c.args.self.now.site c.args.first c.loop-position.self.site c.loop-position.position c.loop-position.invariant.3 past tells

pub returns-clause-went_on : goal.returns-clause-went_on
returns-clause-went_on g c = λ opening tells kept fair.
    let past : length c.args.self.now.journal.entries ≤ c.loop-position.position = subst (λ (n : ℕ). n ≤ c.loop-position.position) (ap (λ (l : List Entry). length l) (c.entries-count.ensures.entries ∙ c.history.ensures.entries ∙ ap (λ (v : LaneValue g.row.T.Denot). v.journal.entries) c.self.view_is)) c.loop-position-test.false in
    sent_gone_on g.T.DiskCalls.told g.T.DiskCalls.counts g.T.SiteCalls.port g.T.SiteCalls.lines c.args.self.now c.loop-position.self (departures_for c.args.self.now.journal.entries (drop c.args.first c.args.self.now.journal.entries)) (pieces_from c.args.self.now.journal.entries c.args.first (length c.args.self.now.journal.entries - c.args.first)) (Ok tt)
    (subst (λ (v : LaneValue g.row.T.Denot). IsLane g.T.DiskCalls.told v) c.self.view_is c.self.invariant) c.requires.live (λ told_so. g.met.T.DiskCalls.seen_is_image c.args.self.now.site told_so) c.loop-position.invariant.0 c.loop-position.invariant.4 c.loop-position.invariant.2 c.loop-position.invariant.3.tells
    (let two = c.loop-position.invariant.3.faults in omega (arith, two))
    (let two = c.loop-position.invariant.3.wants in omega (arith, two))
    (λ told_so. built_all g.T.DiskCalls.told g.T.DiskCalls.counts g.T.SiteCalls.port g.T.SiteCalls.lines c.args.self.now.journal.entries c.args.self.now.site c.args.first c.loop-position.self.site c.loop-position.position c.loop-position.invariant.3 past told_so)
    (from_reserved c.args.self.now.journal.entries c.args.first (length c.args.self.now.journal.entries - c.args.first)) opening kept tells fair

pub returns-clause-later : goal.returns-clause-later
returns-clause-later g c =
    let past : length c.args.self.now.journal.entries ≤ c.loop-position.position = subst (λ (n : ℕ). n ≤ c.loop-position.position) (ap (λ (l : List Entry). length l) (c.entries-count.ensures.entries ∙ c.history.ensures.entries ∙ ap (λ (v : LaneValue g.row.T.Denot). v.journal.entries) c.self.view_is)) c.loop-position-test.false in
    sent_later g.T.DiskCalls.told g.T.DiskCalls.counts g.T.SiteCalls.port g.T.SiteCalls.lines c.args.self.now c.loop-position.self (departures_for c.args.self.now.journal.entries (drop c.args.first c.args.self.now.journal.entries)) (pieces_from c.args.self.now.journal.entries c.args.first (length c.args.self.now.journal.entries - c.args.first)) (Ok tt)
    (subst (λ (v : LaneValue g.row.T.Denot). IsLane g.T.DiskCalls.told v) c.self.view_is c.self.invariant) c.requires.live (λ told_so. g.met.T.DiskCalls.seen_is_image c.args.self.now.site told_so) c.loop-position.invariant.0 c.loop-position.invariant.4 c.loop-position.invariant.2 c.loop-position.invariant.3.tells
    (let two = c.loop-position.invariant.3.faults in omega (arith, two))
    (let two = c.loop-position.invariant.3.wants in omega (arith, two))
    (λ told_so. built_all g.T.DiskCalls.told g.T.DiskCalls.counts g.T.SiteCalls.port g.T.SiteCalls.lines c.args.self.now.journal.entries c.args.self.now.site c.args.first c.loop-position.self.site c.loop-position.position c.loop-position.invariant.3 past told_so)
    (from_reserved c.args.self.now.journal.entries c.args.first (length c.args.self.now.journal.entries - c.args.first))

pub returns-clause-kept : goal.returns-clause-kept
returns-clause-kept g c = λ opening kept.
    let past : length c.args.self.now.journal.entries ≤ c.loop-position.position = subst (λ (n : ℕ). n ≤ c.loop-position.position) (ap (λ (l : List Entry). length l) (c.entries-count.ensures.entries ∙ c.history.ensures.entries ∙ ap (λ (v : LaneValue g.row.T.Denot). v.journal.entries) c.self.view_is)) c.loop-position-test.false in
    sent_kept g.T.DiskCalls.told g.T.DiskCalls.counts g.T.SiteCalls.port g.T.SiteCalls.lines c.args.self.now c.loop-position.self (departures_for c.args.self.now.journal.entries (drop c.args.first c.args.self.now.journal.entries)) (pieces_from c.args.self.now.journal.entries c.args.first (length c.args.self.now.journal.entries - c.args.first)) (Ok tt)
    (subst (λ (v : LaneValue g.row.T.Denot). IsLane g.T.DiskCalls.told v) c.self.view_is c.self.invariant) c.requires.live (λ told_so. g.met.T.DiskCalls.seen_is_image c.args.self.now.site told_so) c.loop-position.invariant.0 c.loop-position.invariant.4 c.loop-position.invariant.2 c.loop-position.invariant.3.tells
    (let two = c.loop-position.invariant.3.faults in omega (arith, two))
    (let two = c.loop-position.invariant.3.wants in omega (arith, two))
    (λ told_so. built_all g.T.DiskCalls.told g.T.DiskCalls.counts g.T.SiteCalls.port g.T.SiteCalls.lines c.args.self.now.journal.entries c.args.self.now.site c.args.first c.loop-position.self.site c.loop-position.position c.loop-position.invariant.3 past told_so)
    (from_reserved c.args.self.now.journal.entries c.args.first (length c.args.self.now.journal.entries - c.args.first)) opening kept

pub returns-in_err-send_at-clause-course : goal.returns-in_err-send_at-clause-course
returns-in_err-send_at-clause-course g c = λ tells acts.
    let p = err_from_is_err_and c.from_residual.result c.from_residual.ensures.1 in
    let below : c.loop-position.position < length c.args.self.now.journal.entries =
    subst (λ (n : ℕ). c.loop-position.position < n) (ap (λ (l : List Entry). length l) (c.entries-count.ensures.entries ∙ c.history.ensures.entries ∙ ap (λ (v : LaneValue g.row.T.Denot). v.journal.entries) c.self.view_is)) c.loop-position-test.true in
    rw (p.1, p.2)
    (pieces_course g.T.DiskCalls.told g.T.SiteCalls.port g.T.SiteCalls.lines c.args.self.now c.send_at.new.self (departures_for c.args.self.now.journal.entries (drop c.args.first c.args.self.now.journal.entries)) (pieces_from c.args.self.now.journal.entries c.args.first (length c.args.self.now.journal.entries - c.args.first)) (Err c.in_err-send_at.field-0.0)
    (subst (λ (v : LaneValue g.row.T.Denot). IsLane g.T.DiskCalls.told v) c.self.view_is c.self.invariant) c.requires.live (λ told_so. g.met.T.DiskCalls.seen_is_image c.args.self.now.site told_so)
    (journal_of c.loop-position.self c.send_at.new.self (Err c.in_err-send_at.field-0.0) c.in_err-send_at.ensures.answer c.in_err-send_at.ensures.resent ∙ c.loop-position.invariant.0)
    (lost_of c.loop-position.self c.send_at.new.self (Err c.in_err-send_at.field-0.0) c.in_err-send_at.ensures.answer c.in_err-send_at.ensures.resent ∙ c.loop-position.invariant.4)
    (λ told_so.
    built_stopped g.T.DiskCalls.told g.T.DiskCalls.counts g.T.SiteCalls.port g.T.SiteCalls.lines c.args.self.now.journal.entries c.args.self.now.site c.args.first c.loop-position.self.site c.send_at.new.self.site c.loop-position.position c.loop-position.invariant.3 below c.in_err-send_at.field-0.0
    (λ then. subst (λ (j : JournalValue). HandsOverBuilt g.T.DiskCalls.told g.T.SiteCalls.port g.T.SiteCalls.lines j.entries c.loop-position.self.site c.send_at.new.self.site
    (departures_if (packet_at j.entries c.loop-position.position)) (pieces_at j.entries c.loop-position.position) (Err c.in_err-send_at.field-0.0)) c.loop-position.invariant.0 (c.in_err-send_at.ensures.hands then)) told_so)
    (from_reserved c.args.self.now.journal.entries c.args.first (length c.args.self.now.journal.entries - c.args.first)) tells acts c.in_err-send_at.ensures.answer)

pub returns-clause-course : goal.returns-clause-course
returns-clause-course g c = λ tells acts.
    let past : length c.args.self.now.journal.entries ≤ c.loop-position.position = subst (λ (n : ℕ). n ≤ c.loop-position.position) (ap (λ (l : List Entry). length l) (c.entries-count.ensures.entries ∙ c.history.ensures.entries ∙ ap (λ (v : LaneValue g.row.T.Denot). v.journal.entries) c.self.view_is)) c.loop-position-test.false in
    pieces_course g.T.DiskCalls.told g.T.SiteCalls.port g.T.SiteCalls.lines c.args.self.now c.loop-position.self (departures_for c.args.self.now.journal.entries (drop c.args.first c.args.self.now.journal.entries)) (pieces_from c.args.self.now.journal.entries c.args.first (length c.args.self.now.journal.entries - c.args.first)) (Ok tt)
    (subst (λ (v : LaneValue g.row.T.Denot). IsLane g.T.DiskCalls.told v) c.self.view_is c.self.invariant) c.requires.live (λ told_so. g.met.T.DiskCalls.seen_is_image c.args.self.now.site told_so) c.loop-position.invariant.0 c.loop-position.invariant.4
    (λ told_so. built_all g.T.DiskCalls.told g.T.DiskCalls.counts g.T.SiteCalls.port g.T.SiteCalls.lines c.args.self.now.journal.entries c.args.self.now.site c.args.first c.loop-position.self.site c.loop-position.position c.loop-position.invariant.3 past told_so)
    (from_reserved c.args.self.now.journal.entries c.args.first (length c.args.self.now.journal.entries - c.args.first)) tells acts tt
