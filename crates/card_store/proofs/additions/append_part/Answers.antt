use Rattle.card_store.proofs.StoreLaws.{appended_run, appended_kept}
use Rattle.card_store.proofs.additions.append_part.Goals as goal

pub returns-in_err-append-clause-moments : goal.returns-in_err-append-clause-moments
returns-in_err-append-clause-moments g c = λ tells facts content next part is kept after.
    appended_run g.D.DiskCalls.told c.args.disk.now c.append.new.disk facts content next c.args.log.now c.args.batch.now.parts part is kept after (c.append.ensures.moments tells)

pub returns-clause-moments : goal.returns-clause-moments
returns-clause-moments g c = λ tells facts content next part is kept after.
    appended_run g.D.DiskCalls.told c.args.disk.now c.append.new.disk facts content next c.args.log.now c.args.batch.now.parts part is kept after (c.append.ensures.moments tells)

pub returns-clause-kept : goal.returns-clause-kept
returns-clause-kept g c = λ tells facts content next part is kept after.
    appended_kept g.D.DiskCalls.told c.args.disk.now c.append.new.disk facts content next c.args.log.now c.args.batch.now.parts part is kept after
    c.append.new.self (c.in_ok-append.ensures.settled tells) (c.in_ok-append.ensures.appended tells)
