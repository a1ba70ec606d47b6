use Rattle.std.proofs.Common.{◌∙◌}
use Rattle.plan_reader.proofs.PlaceLemmas.{listed-push}
use Rattle.plan_reader.proofs.keyset_table.KeysetTable.with_keyset.Goals as goal

pub invariant_of-result : goal.invariant_of-result
invariant_of-result c =
    let kid = c.in_ok-from_slice.field-0 in
    rw c.in_ok-push.ensures.items
    (listed-push c.self.inside.ids c.insert.new.self c.self.inside.kids c.insert-2.new.self c.self.inside.listings.items c.args.listing kid c.in_ok-insert-2.field-0
    c.self.invariant (rw (← c.self.view_is) at c.requires.new) (c.in_ok-from_slice.ensures.items ∙ c.as_slice.ensures.octets)
    (rw c.pair_of.ensures at c.in_ok-insert.ensures.updates.0) c.in_ok-insert-2.ensures.added c.in_ok-insert-2.ensures.keys)
