use Rattle.ota_commands.proofs.Causes.{course_causes}
use Rattle.ota_commands.proofs.Complete.{is_complete}
use Rattle.ota_commands.proofs.Sound.{course_sound, course_open}
use Rattle.ota_commands.proofs.plain.carry_out.Goals as goal

pub returns-clause-sound : goal.returns-clause-sound
returns-clause-sound g c = λ sound.
    course_sound g.T.DiskCalls.told g.T.DiskCalls.counts g.met.T.DiskCalls.seen_is_image c.args.sites.now c.run.new.sites sound g.K.Sink.tells g.K.Sink.written g.K.Sink.faults
    g.S.Source.tells g.S.Source.left g.S.Source.faults c.args.command c.args.plan.now c.run.new.plan c.args.jobs.now c.run.new.jobs c.args.out.now c.run.new.out c.run.result c.run.new.ends c.run.ensures.course

pub returns-clause-formatted : goal.returns-clause-formatted
returns-clause-formatted g c = λ sound is none.
    course_open g.T.DiskCalls.told g.T.DiskCalls.counts g.met.T.DiskCalls.seen_is_image c.args.sites.now c.run.new.sites sound g.K.Sink.tells g.K.Sink.written g.K.Sink.faults
    g.S.Source.tells g.S.Source.left g.S.Source.faults c.args.command c.args.plan.now c.run.new.plan c.args.jobs.now c.run.new.jobs c.args.out.now c.run.new.out c.run.result c.run.new.ends c.run.ensures.course is none

pub returns-clause-cause : goal.returns-clause-cause
returns-clause-cause g c =
    course_causes g.T.DiskCalls.told g.T.DiskCalls.counts g.K.Sink.tells g.K.Sink.written g.K.Sink.faults g.S.Source.tells g.S.Source.left g.S.Source.faults
    c.args.command c.args.sites.now c.run.new.sites c.args.plan.now c.run.new.plan c.args.jobs.now c.run.new.jobs c.args.out.now c.run.new.out c.run.result c.run.new.ends c.run.ensures.course

pub returns-clause-complete : goal.returns-clause-complete
returns-clause-complete g c = is_complete g.T.DiskCalls.told g.T.DiskCalls.counts _ c.run.result (returns-clause-cause g c)
