use Rattle.senders.proofs.HeldLemmas.{desk_seated}
use Rattle.senders.proofs.sharing.fn.run.part.Goals as goal

pub serve_all-requires-clause-seated : goal.serve_all-requires-clause-seated
serve_all-requires-clause-seated g c = λ κs lives. desk_seated _ _ _ _ _ _ c.requires.4.2
