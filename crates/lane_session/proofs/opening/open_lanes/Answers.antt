use Rattle.std.proofs.Common.{rules, ◌≡◌, ◌⊎◌, [], ◌∷◌, ◌++◌, None, length, get_or, refl, sym, arith, ◌∙◌}
use Rattle.disk_model.specs.Disk.{Tells, DiskRun, image_now}
use Rattle.gate_log.specs.Reading.{parts_of}
use Rattle.counter_journal.specs.JournalOpening.{IsBeforeOrOpened}
use Rattle.counter_journal.specs.Journal.{journal_head}
use Rattle.counter_journal.specs.JournalReading.{JournalRefuses}
use Rattle.lane_session.specs.Run.{IsLaneReady}
use Rattle.lane_session.specs.Opening.{IsOpenedSite}
use Rattle.lane_session.specs.declared.lanes.Lane.{Lane}
use Rattle.lane_session.proofs.OpeningLaws.{all_opened, one_more, refused_here, wanting_here}
use Rattle.lane_session.proofs.opening.open_lanes.Goals as goal

pub returns-in-Err-clause-refused : goal.returns-in-Err-clause-refused
returns-in-Err-clause-refused g c =
    let told = g.T.DiskCalls.told in
    let counts = g.T.DiskCalls.counts in
    let n = length c.args.sites.now in
    let old = get_or c.loop-number.sites c.loop-number.number c.index-sites-number.result in
    let moments : Tells told old → DiskRun told old c.open.new.disk (IsBeforeOrOpened told old c.loop-number.number n) = search (rules, c.in-Err.ensures.moments) in
    let refuses : Tells told old → JournalRefuses c.loop-number.number n (parts_of (journal_head c.loop-number.number n) (told.seen old)) c.in-Err.error = search (rules, c.in-Err.ensures.answer) in
    refused_here told counts c.args.sites.now c.loop-number.sites c.loop-number.lanes.items c.loop-number.number c.loop-number.invariant c.loop-number-test.true c.open.new.disk c.index-sites-number.result
    (record { tells = c.in-Err.ensures.tells; moments = moments }) c.in-Err.error refuses c.in-Err.ensures.cause.answer c.in-Err.ensures.not_full

pub returns-then-is_err-clause-refused : goal.returns-then-is_err-clause-refused
returns-then-is_err-clause-refused g c =
    let told = g.T.DiskCalls.told in
    let counts = g.T.DiskCalls.counts in
    let n = length c.args.sites.now in
    let old = get_or c.loop-number.sites c.loop-number.number c.index-sites-number.result in
    let moments : Tells told old → DiskRun told old c.open.new.disk (IsBeforeOrOpened told old c.loop-number.number n) = c.in-Ok.ensures.moments in
    wanting_here told counts c.args.sites.now c.loop-number.sites c.loop-number.lanes.items c.loop-number.number c.loop-number.invariant c.loop-number-test.true c.open.new.disk c.index-sites-number.result
    (record { tells = c.in-Ok.ensures.tells; moments = moments }) c.in-Ok.ensures.cause.answer

pub loop-number-preserved : goal.loop-number-preserved
loop-number-preserved g c =
    let told = g.T.DiskCalls.told in
    let counts = g.T.DiskCalls.counts in
    let n = length c.args.sites.now in
    let old = get_or c.loop-number.sites c.loop-number.number c.index-sites-number.result in
    let new = c.open.new.disk in
    let lane : Lane = record { journal = c.in-Ok.journal; end = None } in
    let moments : Tells told old → DiskRun told old new (IsBeforeOrOpened told old c.loop-number.number n) = c.in-Ok.ensures.moments in
    let tells : Tells told new → Tells told old = λ tells. sym c.in-Ok.ensures.tells ∙ tells in
    let ready : IsLaneReady told counts c.loop-number.number n new lane = record { lane_is = c.in-Ok.ensures.lane.0; lanes_are = c.in-Ok.ensures.lane.1; ready = λ now. c.in-Ok.ensures.ready (tells now) } in
    let now : IsOpenedSite told counts c.loop-number.number n old new lane = record {
      goes_on = refl;
      ready = ready;
      holds = c.in-Ok.ensures.answer;
      looked = record { tells = c.in-Ok.ensures.tells; moments = moments };
      counted = c.in-Ok.ensures.cause.answer;
    } in
    let lanes : c.push.new.self.items ≡ c.loop-number.lanes.items ++ lane ∷ [] = search (rules, c.push.ensures.items, c.if-is_err.false, c.is_err.ensures.negation) in
    rw lanes (one_more told counts c.args.sites.now c.loop-number.sites c.loop-number.lanes.items c.loop-number.number c.loop-number.invariant c.loop-number-test.true new c.index-sites-number.result lane now)

pub returns-clause-ready : goal.returns-clause-ready
returns-clause-ready g c = all_opened g.T.DiskCalls.told g.T.DiskCalls.counts c.args.sites.now c.loop-number.sites c.loop-number.lanes.items c.loop-number.number c.loop-number.invariant c.requires.some (omega (arith, c.loop-number-test.false)) (omega (arith, c.loop-number.auto.number-end))
