use Rattle.std.proofs.Common.{◌≡◌, true, is_some, Option, Some, refl, subst}
use Rattle.ota_core.specs.KeysetList.{IsKeysetList}
use Rattle.ota_core.specs.declared.keysets.KeysetFacts.{KeysetFacts}
use Rattle.card_store.specs.Store.{Shown}
use Rattle.card_store.proofs.Keysets.{found_range, either_range}
use Rattle.card_store.proofs.kept.Kept.keyset.Goals as goal

pub returns-in-Some-clause-range : goal.returns-in-Some-clause-range
returns-in-Some-clause-range c = λ found.
    found_range c.args.kvn c.args.facts.now.keysets c.keyset.ensures.distinct (subst (λ (f : Option KeysetFacts). is_some f ≡ true) c.in-Some.ensures.keyset refl)

pub returns-in-None-clause-range : goal.returns-in-None-clause-range
returns-in-None-clause-range c = λ found.
    either_range c.args.kvn c.args.facts.now.keysets c.args.self.now.card.registry.put c.keyset.ensures.distinct
    (subst (λ (s : Shown). IsKeysetList s.card.registry.put) c.self.view_is c.put_keyset.ensures.sound.put) found
