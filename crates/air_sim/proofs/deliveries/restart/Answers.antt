use Rattle.air_sim.proofs.MeetLemmas.{restart_growth}
use Rattle.air_sim.proofs.RestartLemmas.{restart_refused}
use Rattle.air_sim.proofs.deliveries.restart.Goals as goal

pub returns-in-Ok-clause-restarts : goal.returns-in-Ok-clause-restarts
returns-in-Ok-clause-restarts g c = (c.in-Ok.ensures.off, c.in-Ok.ensures.opened, c.in-Ok.ensures.begins)

pub returns-in-Ok-clause-grows : goal.returns-in-Ok-clause-grows
returns-in-Ok-clause-grows g c = λ tells. restart_growth g.D.DiskCalls.told g.met.D.DiskCalls.seen_is_image c.args.card.now c.restart.new.self tells c.restart.ensures.facts (c.restart.ensures.moments tells)

pub returns-in-Err-clause-grows : goal.returns-in-Err-clause-grows
returns-in-Err-clause-grows g c = λ tells. restart_growth g.D.DiskCalls.told g.met.D.DiskCalls.seen_is_image c.args.card.now c.restart.new.self tells c.restart.ensures.facts (c.restart.ensures.moments tells)

pub returns-in-Err-clause-restarts : goal.returns-in-Err-clause-restarts
returns-in-Err-clause-restarts g c = restart_refused g.D.DiskCalls.told c.args.card.now c.restart.new.self c.in-Err.error c.refused.result c.in-Err.ensures.off c.in-Err.ensures.lent c.refused.ensures
