use denote.Param.{param}
use Rattle.std.proofs.Common.{◌≡◌, ◌∙◌, length, arith}
use Rattle.senders.proofs.CrossingLemmas.{sends, syncs}
use Rattle.senders.proofs.LockingLemmas.{made_count, row_dealt}
use Rattle.senders.proofs.PlaceLemmas.{some_of}
use Rattle.senders.proofs.locking.lock_one.Goals as goal

pub new-requires-send-L : goal.new-requires-send-L
new-requires-send-L g c = λ κs lives. sends (param 0 g.row.T) (param 1 g.row.T-Beside) (param 2 g.row.T-Choice) g.T.SiteCalls g.T.DiskCalls _ c.type_bounds.send-T

pub new-requires-sync-L : goal.new-requires-sync-L
new-requires-sync-L g c = λ κs lives. syncs (param 0 g.row.T) (param 1 g.row.T-Beside) (param 2 g.row.T-Choice) g.T.SiteCalls g.T.DiskCalls _ c.type_bounds.sync-T

pub deal-requires-clause-seats : goal.deal-requires-clause-seats
deal-requires-clause-seats g c = λ κs lives. c.in-Ok.seats.ok.0 ∙ made_count _ c.in-Ok.seats.items _ c.in-Ok.ensures.numbers

pub returns-in-Ok-clause-rows : goal.returns-in-Ok-clause-rows
returns-in-Ok-clause-rows g c = λ place row lt.
    let count : length c.in-Ok.seats.items ≡ length c.args.rows.now = made_count _ c.in-Ok.seats.items _ c.in-Ok.ensures.numbers in
    let seat = some_of c.in-Ok.seats.items place (omega (arith, count, lt)) in
    let dealt = c.deal.ensures.dealt place row seat lt in (
      dealt.0,
      λ before. row_dealt g.T.DiskCalls.told g.T.DiskCalls.counts g.T.SiteCalls.port g.T.SiteCalls.lines c.args.locks.now.items _ c.in-Ok.lock c.in-Ok.seats.items _ place _ _ seat
          c.push_reserved.ensures.items c.in-Ok.ensures.fresh c.in-Ok.ensures.numbers lt dealt.1 before,
    )
