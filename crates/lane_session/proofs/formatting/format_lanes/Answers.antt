use Rattle.std.proofs.Common.{rules, length, get_or, Err}
use Rattle.disk_model.specs.Disk.{Tells, DiskRun}
use Rattle.gate_log.specs.Formatting.{FormatAnswer}
use Rattle.counter_journal.specs.Journal.{journal_head}
use Rattle.counter_journal.specs.JournalMaking.{IsBeforeOrNewJournal}
use Rattle.lane_session.specs.Formatting.{IsFormattedSite}
use Rattle.lane_session.proofs.FormattingLaws.{formatted_more, format_refused}
use Rattle.lane_session.proofs.formatting.format_lanes.Goals as goal

pub returns-in-Err-clause-refused : goal.returns-in-Err-clause-refused
returns-in-Err-clause-refused g c =
    let told = g.T.DiskCalls.told in
    let n = length c.args.sites.now in
    let old = get_or c.loop-number.sites c.loop-number.number c.index-sites-number.result in
    let moments : Tells told old → DiskRun told old c.format.new.disk (IsBeforeOrNewJournal told old c.loop-number.number n) = search (rules, c.in-Err.ensures.moments) in
    let answer : Tells told old → FormatAnswer (journal_head c.loop-number.number n) (told.seen old) (told.seen c.format.new.disk) (Err c.in-Err.error) = search (rules, c.in-Err.ensures.answer) in
    format_refused told g.T.DiskCalls.counts c.args.sites.now c.loop-number.sites c.loop-number.number c.loop-number.invariant c.loop-number-test.true c.format.new.disk c.index-sites-number.result
    c.in-Err.error c.in-Err.ensures.tells moments answer c.in-Err.ensures.err c.in-Err.ensures.cause.answer

pub loop-number-preserved : goal.loop-number-preserved
loop-number-preserved g c =
    let told = g.T.DiskCalls.told in
    let counts = g.T.DiskCalls.counts in
    let n = length c.args.sites.now in
    let old = get_or c.loop-number.sites c.loop-number.number c.index-sites-number.result in
    let new = c.format.new.disk in
    let now : IsFormattedSite told counts c.loop-number.number n old new = record {
      tells = c.in_default.ensures.tells;
      made = c.in_default.ensures.made;
      only = c.in_default.ensures.durable;
      moments = c.in_default.ensures.moments;
      counted = c.in_default.ensures.cause.answer;
    } in
    formatted_more told counts c.args.sites.now c.loop-number.sites c.loop-number.number c.loop-number.invariant c.loop-number-test.true new c.index-sites-number.result now
