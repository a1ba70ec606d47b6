use Rattle.std.proofs.Common.{◌≡◌, subst}
use Rattle.card_store.specs.Store.{StandsFor}
use Rattle.card_store.proofs.stores.CardStore.lines.Goals as goal

pub returns-clause-stands : goal.returns-clause-stands
returns-clause-stands g c = (c.self.invariant.1, subst (λ s. StandsFor g.D.DiskCalls.told s c.self.invariant.1) c.self.view_is c.self.invariant.2)
