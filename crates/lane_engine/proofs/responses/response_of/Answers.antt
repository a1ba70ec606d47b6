use Rattle.std.proofs.Common.{sym, ◌∙◌, arith}
use Rattle.lane_engine.specs.Receipts.{response_at}
use Rattle.lane_engine.specs.Responses.{response_in_octets}
use Rattle.lane_engine.proofs.ResponseLemmas.{tried_all, try_failed, try_opened, opens_none, opens_some}
use Rattle.lane_engine.proofs.responses.response_of.Goals as goal

-- src/responses.rt:47:13
pub returns-in-Some-clause-says : goal.returns-in-Some-clause-says
returns-in-Some-clause-says c = λ history stands.
    try_opened (response_at history c.args.card c.args.packet.now) c.loop-kvn.kvn (response_in_octets c.in-Some.response c.response_under.new.work) c.loop-kvn-test.true
    (sym (c.response_under.ensures.says history stands) ∙ opens_some c.response_under.result c.in-Some.response c.response_under.new.work c.in-Some.is)
    ∙ c.loop-kvn.invariant.3 history stands

-- src/responses.rt:44:5
pub loop-kvn-preserved : goal.loop-kvn-preserved
loop-kvn-preserved c = (
  omega arith,
  (let test = c.loop-kvn-test.true in omega (arith, test)),
  (let long = c.loop-kvn.invariant.2 in let same = c.response_under.auto.work in omega (arith, long, same)),
  λ history stands.
      try_failed (response_at history c.args.card c.args.packet.now) c.loop-kvn.kvn c.loop-kvn-test.true
      (sym (c.response_under.ensures.says history stands) ∙ opens_none c.response_under.result c.response_under.new.work c.in_default.is)
      ∙ c.loop-kvn.invariant.3 history stands,
)

-- src/responses.rt:33:1
pub returns-clause-says : goal.returns-clause-says
returns-clause-says c = λ history stands.
    sym (tried_all (response_at history c.args.card c.args.packet.now) c.loop-kvn.kvn (let test = c.loop-kvn-test.false in omega (arith, test))) ∙ c.loop-kvn.invariant.3 history stands
