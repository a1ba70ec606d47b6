use Rattle.std.proofs.Common.{sym}
use Rattle.plan_reader.proofs.DocumentLemmas.{other_name-any}
use Rattle.plan_reader.proofs.documents.has_other_name.Goals as goal

pub loop-name-init : goal.loop-name-init
loop-name-init c =
    rw (c.into_iter-name-iterator.ensures.into_iter_gives, c.keys-name-items.ensures.rest) (sym (other_name-any c.args.names.now c.args.entry.now.entries))
