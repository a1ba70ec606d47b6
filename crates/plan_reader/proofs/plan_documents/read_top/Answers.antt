use Rattle.std.proofs.Common.{[]}
use Rattle.plan_reader.proofs.PlanTableLemmas.{bare-cards}
use Rattle.plan_reader.proofs.LaterLemmas.{entries-right}
use Rattle.plan_reader.specs.TableList.{tables_pointed}
use Rattle.plan_reader.proofs.plan_documents.read_top.Goals as goal

pub make_plan-requires : goal.make_plan-requires
make_plan-requires c = record {
  bare = rw c.in_ok-cards.ensures.cards (bare-cards (tables_pointed c.as_slice.result.now));
  few = c.in_ok-cards.ensures.few;
  right = rw c.in_ok-keysets.ensures.keysets (entries-right _ [] _ c.in_ok-keysets.ensures.right);
}
