use Rattle.std.proofs.Common.{◌≡◌, ◌∙◌, sym, ap, map}
use Rattle.ota_core.specs.Keyset.{Keyset}
use Rattle.plan_reader.specs.CardPlaces.{with_more}
use Rattle.plan_reader.proofs.PlaceLemmas.{placed-more, found-within, kvn-new, more-found, more-missing}
use Rattle.plan_reader.proofs.card_table.CardTable.with_keyset.Goals as goal
use Rattle.plan_reader.proofs.card_table.CardTable.with_keyset.Goals.{in-Some+in_ok-push, in_default}

pub index_mut-requires : goal.index_mut-requires
index_mut-requires c =
    rw c.self.inside.cards.ok.0
    (found-within c.self.inside.places c.self.inside.cards.items c.keyset.inside.card.0 c.in-Some.place.now c.self.invariant (sym c.in-Some.ensures.value))

pub push-requires-clause-new : goal.push-requires-clause-new
push-requires-clause-new c =
    let keyset : Keyset = record { card = c.keyset.inside.card; kvn = c.keyset.inside.kvn } in
    kvn-new c.self.inside.places c.self.inside.cards.items keyset c.in-Some.place.now c.index_mut.result.now c.self.invariant
    (sym c.in-Some.ensures.value) c.index_mut.ensures.value (rw (← c.keyset.view_is, ← c.self.view_is) at c.requires.new)

changed : (c : goal.Joined-get) → c.match-get.cards.items ≡ map (with_more c.args.keyset c.args.facts) c.self.inside.cards.items
changed c =
    let keyset : Keyset = record { card = c.keyset.inside.card; kvn = c.keyset.inside.kvn } in
    rw (← c.keyset.view_is)
    (elim c.match-get.branch [
      | in-Some+in_ok-push w ↦
          rw (w.cards-is, w.in_ok-push.ensures.ok)
          (more-found c.self.inside.places c.self.inside.cards.items keyset c.args.facts w.in-Some.place.now w.index_mut.result.now c.self.invariant
          (sym w.in-Some.ensures.value) w.index_mut.ensures.value)
      | in_default w ↦
          rw w.cards-is (more-missing c.self.inside.places c.self.inside.cards.items keyset c.args.facts c.self.invariant (sym w.in_default.ensures.value))
    ])

pub invariant_of-result : goal.invariant_of-result
invariant_of-result c = rw (changed c) (placed-more c.self.inside.places c.self.inside.cards.items c.args.keyset c.args.facts c.self.invariant)

pub returns : goal.returns
returns c = changed c ∙ ap (map (with_more c.args.keyset c.args.facts)) c.self.view_is
