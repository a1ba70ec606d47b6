use Rattle.std.proofs.Common.{ℕ, List, ◌≤◌, ◌≡◌, arith, ap, sym, ◌∙◌, length, take, min}
use Rattle.std.proofs.lemmas.List.{length-replicate}
use Rattle.disk_model.specs.Disk.{overwritten}
use Rattle.disk_model.specs.Writing.{take-overwritten-le, same_before}
use Rattle.disk_model.proofs.disk_contents.DiskContents.write.Goals as goal

-- a write behind what is the same leaves it so
still_same : (same at n : ℕ) (one other octets : List ℕ) → n ≡ min same at → at ≤ length other → take same one ≡ take same other → take n one ≡ take n (overwritten other at octets)
still_same same at n one other octets is within front =
    same_before n same one other (omega arith) front ∙ sym (take-overwritten-le other at octets within n (omega arith))

pub invariant_of-self-2 : goal.invariant_of-self-2
invariant_of-self-2 c = record {
  within = grind arith;
  durable_within = grind arith;
  durable =
      ap (take c.min-self-inside.result) c.reserve_up_to.ensures.items
      ∙ still_same c.self.inside.same c.args.at c.min-self-inside.result c.self.inside.durable.items c.self.inside.seen.items c.args.octets.now c.min-self-inside.ensures (grind arith) c.self.invariant.durable
      ∙ ap (take c.min-self-inside.result) (sym (c.overwrite.ensures.items ∙ ap (λ (held : List ℕ). overwritten held c.args.at c.args.octets.now) c.reserve_up_to-2.ensures.items));
  torn =
      ap (take c.min-self-inside.result) (c.overwrite-2.ensures.items ∙ ap (λ (held : List ℕ). overwritten held c.args.at c.deref.result.now) c.reserve_up_to-3.ensures.items)
      ∙ take-overwritten-le c.self.inside.torn.items c.args.at c.deref.result.now (grind arith) c.min-self-inside.result (grind arith)
      ∙ still_same c.self.inside.same c.args.at c.min-self-inside.result c.self.inside.torn.items c.self.inside.seen.items c.args.octets.now c.min-self-inside.ensures (grind arith) c.self.invariant.torn
      ∙ ap (take c.min-self-inside.result) (sym (c.overwrite.ensures.items ∙ ap (λ (held : List ℕ). overwritten held c.args.at c.args.octets.now) c.reserve_up_to-2.ensures.items));
  as_long = grind (arith, length-replicate);
  durable_room = grind arith;
  seen_room = grind arith;
  torn_room = grind arith;
  torn_room_seen = grind arith;
}
