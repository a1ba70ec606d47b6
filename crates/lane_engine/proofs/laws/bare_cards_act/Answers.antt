use Rattle.lane_engine.proofs.BareLemmas.{bare_acts}
use Rattle.lane_engine.proofs.laws.bare_cards_act.Goals as goal

pub returns : goal.returns
returns g c = λ lane lanes from. bare_acts g.D.DiskCalls.told c.args._site.now lane lanes from
