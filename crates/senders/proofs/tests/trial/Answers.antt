use Rattle.std.proofs.Common.{◌∙◌, ℕ, sym, subst}
use Rattle.disk_model.specs.Disk.{untold}
use Rattle.senders.specs.Trials.{AreTrialPieces}
use Rattle.senders.specs.contracts.held_site.HeldSiteDiskCalls.TheImpl as held
use Rattle.senders.specs.contracts.held_site.HeldSiteSiteCalls.TheImpl as port
use Rattle.senders.specs.declared.held_site.HeldSite.{HeldSite}
use Rattle.senders.proofs.TrialLemmas.{all_pieces, may_work, nothing_told, pieces_differ}
use Rattle.senders.proofs.tests.trial.Goals as goal

pub work-requires-clause-lanes : goal.work-requires-clause-lanes
work-requires-clause-lanes g c = λ κs lives. may_work (untold {D = HeldSite}) held.counts-value.it port.port-value.it port.lines-value.it nothing_told c.args.settings.now.batch c.args.lanes c.in_ok-begun.begun.len
    c.in_ok-works.works.items (sym c.in_ok-begun.ensures.1)
    (subst (λ (n : ℕ). AreTrialPieces c.args.settings.now.batch n 1 c.in_ok-works.works.items) c.from.ensures c.in_ok-works.ensures.pieces) c.in_ok-works.ensures.few 0 c.in_ok-begun.begun.items c.in_ok-begun.ensures.0

pub work-requires-clause-pieces : goal.work-requires-clause-pieces
work-requires-clause-pieces g c = λ κs lives. all_pieces c.args.settings.now.batch c.in_ok-begun.begun.len 1 c.in_ok-works.works.items
    (subst (λ (n : ℕ). AreTrialPieces c.args.settings.now.batch n 1 c.in_ok-works.works.items) (c.from.ensures ∙ sym c.in_ok-begun.ensures.1) c.in_ok-works.ensures.pieces)

pub work-requires-clause-differ : goal.work-requires-clause-differ
work-requires-clause-differ g c = λ κs lives. pieces_differ c.args.settings.now.batch c.from.result 1 c.in_ok-works.works.items c.in_ok-works.ensures.pieces
