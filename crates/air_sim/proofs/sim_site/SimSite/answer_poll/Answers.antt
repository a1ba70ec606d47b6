use Rattle.std.proofs.Common.{◌≡◌, ◌<◌, ◌∙◌, Err, Ok, ap, length, refl, subst, sym}
use Rattle.std.specs.Prelude.{IfOk, IfSome}
use Rattle.disk_model.specs.Counts.{HasRisen}
use Rattle.site_model.specs.Causes.{CountsEmpty, HasSiteCause}
use Rattle.air_sim.specs.Polls.{AnswersPoll}
use Rattle.air_sim.specs.Told.{sim_counts}
use Rattle.air_sim.specs.Working.{PollRuns}
use Rattle.air_sim.proofs.AnswerLemmas.{answers_given, answers_none, answers_want, run_given, run_none, run_want}
use Rattle.air_sim.proofs.SendLemmas.{ok_cause, want_cause}
use Rattle.air_sim.proofs.sim_site.SimSite.answer_poll.Goals as goal

pub give-requires : goal.give-requires
give-requires g c = record { there = (subst (λ result. IfOk result (λ next. IfSome next (λ position. position < length c.next.new.self.parts.messages.items))) (c.in-Ok-Some.is ∙ ap Ok c.in-Ok-Some.field-0-is) c.next.ensures.there) }

pub returns-in-Ok-Some-clause-runs : goal.returns-in-Ok-Some-clause-runs
returns-in-Ok-Some-clause-runs g c =
    run_given g.D.DiskCalls.told g.D.DiskCalls.counts c.args.self.now c.next.new.self c.give.new.self c.next.result c.next.ensures.same c.next.ensures.goes c.in-Ok-Some.position c.give.result (c.in-Ok-Some.is ∙ ap Ok c.in-Ok-Some.field-0-is) c.give.ensures.same c.give.ensures.message (subst (λ result. IfOk result (λ next. IfSome next (λ position. position < length c.next.new.self.parts.messages.items))) (c.in-Ok-Some.is ∙ ap Ok c.in-Ok-Some.field-0-is) c.next.ensures.there)
    c.next.ensures.works c.give.ensures.past

pub returns-in-Ok-Some-clause-answers : goal.returns-in-Ok-Some-clause-answers
returns-in-Ok-Some-clause-answers g c =
    answers_given g.D.DiskCalls.told g.D.DiskCalls.counts c.args.self.now c.next.new.self c.give.new.self c.next.result c.next.ensures.same c.next.ensures.goes c.in-Ok-Some.position c.give.result (c.in-Ok-Some.is ∙ ap Ok c.in-Ok-Some.field-0-is) c.give.ensures.same c.give.ensures.message (subst (λ result. IfOk result (λ next. IfSome next (λ position. position < length c.next.new.self.parts.messages.items))) (c.in-Ok-Some.is ∙ ap Ok c.in-Ok-Some.field-0-is) c.next.ensures.there)

pub returns-in-Ok-Some-clause-cause : goal.returns-in-Ok-Some-clause-cause
returns-in-Ok-Some-clause-cause g c =
    ok_cause g.D.DiskCalls.counts c.args.self.now c.give.new.self (ap (λ s. s.parts.journal) c.give.ensures.same ∙ c.next.ensures.works.journal) _
    (ap (λ s. s.faults) c.give.ensures.same ∙ ap (λ s. s.faults) c.next.ensures.same) (ap (λ s. s.wants) c.give.ensures.same ∙ ap (λ s. s.wants) c.next.ensures.same)

pub returns-in-Ok-None-clause-runs : goal.returns-in-Ok-None-clause-runs
returns-in-Ok-None-clause-runs g c =
    run_none g.D.DiskCalls.told g.D.DiskCalls.counts c.args.self.now c.next.new.self c.give_none.new.self c.next.result c.next.ensures.same c.next.ensures.goes (c.in-Ok-None.is ∙ ap Ok c.in-Ok-None.field-0-is) c.give_none.ensures.same
    c.next.ensures.works c.give_none.ensures.past

pub returns-in-Ok-None-clause-answers : goal.returns-in-Ok-None-clause-answers
returns-in-Ok-None-clause-answers g c =
    answers_none g.D.DiskCalls.told g.D.DiskCalls.counts c.args.self.now c.next.new.self c.give_none.new.self c.next.result c.next.ensures.same c.next.ensures.goes (c.in-Ok-None.is ∙ ap Ok c.in-Ok-None.field-0-is) c.give_none.ensures.same

pub returns-in-Ok-None-clause-cause : goal.returns-in-Ok-None-clause-cause
returns-in-Ok-None-clause-cause g c =
    ok_cause g.D.DiskCalls.counts c.args.self.now c.give_none.new.self (ap (λ s. s.parts.journal) c.give_none.ensures.same ∙ c.next.ensures.works.journal) _
    (ap (λ s. s.faults) c.give_none.ensures.same ∙ ap (λ s. s.faults) c.next.ensures.same) (ap (λ s. s.wants) c.give_none.ensures.same ∙ ap (λ s. s.wants) c.next.ensures.same)

pub returns-in-Ok-None-clause-empty : goal.returns-in-Ok-None-clause-empty
returns-in-Ok-None-clause-empty g c = subst (λ count. HasRisen count c.give_none.new.self.empty_polls) (ap (λ s. s.empty_polls) c.next.ensures.same) c.give_none.ensures.rises

pub returns-in-Err-clause-runs : goal.returns-in-Err-clause-runs
returns-in-Err-clause-runs g c =
    subst (λ fault. PollRuns g.D.DiskCalls.told c.args.self.now c.want.new.self (Err fault)) (sym c.want.ensures.fault)
    (run_want g.D.DiskCalls.told g.D.DiskCalls.counts c.args.self.now c.next.new.self c.want.new.self c.next.result c.next.ensures.same c.next.ensures.goes c.in-Err.field-0 c.in-Err.is c.want.ensures.counted
    c.next.ensures.works)

pub returns-in-Err-clause-answers : goal.returns-in-Err-clause-answers
returns-in-Err-clause-answers g c =
    subst (λ fault. AnswersPoll g.D.DiskCalls.told g.D.DiskCalls.counts c.args.self.now c.want.new.self (Err fault)) (sym c.want.ensures.fault)
    (answers_want g.D.DiskCalls.told g.D.DiskCalls.counts c.args.self.now c.next.new.self c.want.new.self c.next.result c.next.ensures.same c.next.ensures.goes c.in-Err.field-0 c.in-Err.is c.want.ensures.counted)

pub returns-in-Err-clause-cause : goal.returns-in-Err-clause-cause
returns-in-Err-clause-cause g c =
    subst (λ fault. HasSiteCause (sim_counts g.D.DiskCalls.counts c.args.self.now) (sim_counts g.D.DiskCalls.counts c.want.new.self) (Err fault)) (sym c.want.ensures.fault)
    (want_cause g.D.DiskCalls.counts c.args.self.now c.want.new.self (ap (λ s. s.parts.journal) c.want.ensures.counted ∙ c.next.ensures.works.journal)
    (subst (λ count. HasRisen count c.want.new.self.wants) (ap (λ s. s.wants) c.next.ensures.same) c.want.ensures.rises) (ap (λ s. s.faults) c.want.ensures.counted ∙ ap (λ s. s.faults) c.next.ensures.same))
