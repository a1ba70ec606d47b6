use Rattle.std.proofs.Common.{subst, sym, ap, All, Err, refl}
use Rattle.disk_model.specs.Disk.{Tells}
use Rattle.gate_log.specs.declared.log_errors.LogErr.{LogErr}
use Rattle.counter_journal.specs.EntryRanges.{IsEntry}
use Rattle.counter_journal.specs.JournalReading.{AddAnswer, UnlessWanting}
use Rattle.lane_engine.proofs.AppendLemmas.{append_ok, append_err, append_run, fits_of, full_of}
use Rattle.lane_engine.specs.Adding.{Fits, IsFull, need_for}
use Rattle.lane_engine.specs.LaneValue.{LaneValue}
use Rattle.lane_engine.proofs.lanes.Lane.append.Goals as goal

-- src/adding.rt:23:5
pub returns-in-Ok-clause-kept : goal.returns-in-Ok-clause-kept
returns-in-Ok-clause-kept g c = λ none opening kept.
    append_ok g.T.DiskCalls.told g.T.DiskCalls.counts g.T.SiteCalls.port g.T.SiteCalls.lines
    c.self.inside.site c.add.new.disk c.self.inside.journal c.add.new.self c.self.inside.is_stale c.self.inside.assembler c.self.inside.moment c.self.inside.name.items c.self.inside.end c.self.inside.opened c.self.inside.lost.value.items c.args.self.now c.args.entries.items c.self.view_is c.self.invariant c.requires.live
    (λ tells. g.met.T.DiskCalls.seen_is_image c.self.inside.site tells) c.requires.few c.requires.legal c.in-Ok.ensures.fit c.requires.of_lane
    c.add.ensures.tells c.add.ensures.cause.faults c.add.ensures.cause.wants (λ tells. c.add.ensures.moments tells) c.add.ensures.lane none opening c.in-Ok.ensures.added kept

-- src/adding.rt:23:5
pub returns-in-Err-DiskFault-clause-kept : goal.returns-in-Err-DiskFault-clause-kept
returns-in-Err-DiskFault-clause-kept g c = λ none opening kept.
    append_err g.T.DiskCalls.told g.T.DiskCalls.counts g.T.SiteCalls.port g.T.SiteCalls.lines
    c.self.inside.site c.add.new.disk c.self.inside.journal c.add.new.self c.self.inside.is_stale c.self.inside.assembler c.self.inside.moment c.self.inside.name.items c.self.inside.end c.self.inside.opened c.self.inside.lost.value.items c.args.self.now c.args.entries.items c.self.view_is c.self.invariant c.requires.live
    (λ tells. g.met.T.DiskCalls.seen_is_image c.self.inside.site tells) c.requires.few c.requires.legal (subst (λ (e : LogErr). UnlessWanting (Err e) (All IsEntry c.args.entries.items)) c.in-Err-DiskFault.field-0-is c.in-Err-DiskFault.ensures.fit) c.requires.of_lane
    c.add.ensures.tells c.add.ensures.cause.faults c.add.ensures.cause.wants (λ tells. c.add.ensures.moments tells) c.add.ensures.lane none opening c.of-batch.result.value.items (ap (λ v. v.items) c.of-batch.ensures) c.in-Err-DiskFault.ensures.err kept

-- src/adding.rt:23:5
pub returns-in-Ok-clause-answer : goal.returns-in-Ok-clause-answer
returns-in-Ok-clause-answer g c =
    (c.requires.live, refl, subst (λ (v : LaneValue g.row.T.Denot). Fits v.journal c.args.entries.items) c.self.view_is (fits_of c.self.inside.journal c.args.entries.items c.in-Ok.ensures.answer))

-- src/adding.rt:23:5
pub returns-in-Ok-clause-run : goal.returns-in-Ok-clause-run
returns-in-Ok-clause-run g c = λ tells.
    append_run g.T.DiskCalls.told g.T.SiteCalls.port g.T.SiteCalls.lines c.self.inside.site c.add.new.disk c.self.inside.journal c.add.new.self c.self.inside.is_stale c.self.inside.assembler c.self.inside.moment c.self.inside.name.items c.self.inside.end c.self.inside.opened c.self.inside.lost.value.items c.args.self.now c.args.entries.items c.self.view_is
    (c.add.ensures.moments (subst (λ (v : LaneValue g.row.T.Denot). Tells g.T.DiskCalls.told v.site) (sym c.self.view_is) tells)) c.requires.legal c.in-Ok.ensures.added c.requires.some

pub returns-in-Err-Full-clause-answer : goal.returns-in-Err-Full-clause-answer
returns-in-Err-Full-clause-answer g c = (
  c.requires.live,
  refl,
  subst (λ (v : LaneValue g.row.T.Denot). IsFull v.journal c.args.entries.items c.in-Err-Full.length c.in-Err-Full.need) c.self.view_is
      (full_of c.self.inside.journal c.args.entries.items c.in-Err-Full.length c.in-Err-Full.need
      (subst (λ (e : LogErr). AddAnswer c.self.inside.journal c.args.entries.items (need_for c.args.entries.items) (Err e)) c.in-Err-Full.field-0-is c.in-Err-Full.ensures.answer) c.requires.some
      (subst (λ (e : LogErr). UnlessWanting (Err e) (All IsEntry c.args.entries.items)) c.in-Err-Full.field-0-is c.in-Err-Full.ensures.fit)),
)
