use Rattle.std.proofs.Common.{◌∙◌, Err, ap, refl, subst, sym}
use Rattle.site_model.specs.Causes.{CountsEmpty, HasSiteCause}
use Rattle.air_sim.specs.Polls.{PollsAsScheduled}
use Rattle.air_sim.specs.PortCalls.{counted}
use Rattle.air_sim.specs.Told.{port_of, sim_counts}
use Rattle.air_sim.proofs.AnswerLemmas.{begun_works, failed_scheduled, failed_works, given_of, nothing_of, scheduled}
use Rattle.air_sim.proofs.SendLemmas.{begun_failed, failed_cause, handed_on}
use Rattle.air_sim.proofs.WorkingLemmas.{runs_behind, runs_failed}
use Rattle.air_sim.proofs.sim_site.SimSiteSiteCalls.poll.Goals as goal

pub returns-in_err-begin_call-clause-moments : goal.returns-in_err-begin_call-clause-moments
returns-in_err-begin_call-clause-moments g c =
    λ tells.
    let old = c.args.self.now in
    let new = c.begin_call.new.self in
    let fault = c.in_err-begin_call.field-0.0 in
    (runs_failed g.D.DiskCalls.told old new fault (failed_works g.D.DiskCalls.told old new fault c.in_err-begin_call.ensures)).port

pub returns-in_err-begin_call-clause-keeps : goal.returns-in_err-begin_call-clause-keeps
returns-in_err-begin_call-clause-keeps g c = λ tells. (failed_works g.D.DiskCalls.told c.args.self.now c.begin_call.new.self c.in_err-begin_call.field-0.0 c.in_err-begin_call.ensures).keeps

pub returns-in_err-begin_call-clause-content : goal.returns-in_err-begin_call-clause-content
returns-in_err-begin_call-clause-content g c =
    λ tells. ap g.D.DiskCalls.told.seen (failed_works g.D.DiskCalls.told c.args.self.now c.begin_call.new.self c.in_err-begin_call.field-0.0 c.in_err-begin_call.ensures).journal

pub returns-in_err-begin_call-clause-tells : goal.returns-in_err-begin_call-clause-tells
returns-in_err-begin_call-clause-tells g c = ap g.D.DiskCalls.told.tells (failed_works g.D.DiskCalls.told c.args.self.now c.begin_call.new.self c.in_err-begin_call.field-0.0 c.in_err-begin_call.ensures).journal

pub returns-in_err-begin_call-clause-empty : goal.returns-in_err-begin_call-clause-empty
returns-in_err-begin_call-clause-empty g c =
    let old = c.args.self.now in
    let new = c.begin_call.new.self in
    let fault = c.in_err-begin_call.field-0.0 in
    subst (λ result. CountsEmpty (sim_counts g.D.DiskCalls.counts old) (sim_counts g.D.DiskCalls.counts new) result) (sym (handed_on c.from_residual.result fault c.from_residual.ensures.1))
    (ap (λ s. s.empty_polls) (begun_failed old new fault c.in_err-begin_call.ensures).1)

pub returns-in_err-begin_call-clause-cause : goal.returns-in_err-begin_call-clause-cause
returns-in_err-begin_call-clause-cause g c =
    let old = c.args.self.now in
    let new = c.begin_call.new.self in
    let begun = begun_failed old new c.in_err-begin_call.field-0.0 c.in_err-begin_call.ensures in
    subst (λ result. HasSiteCause (sim_counts g.D.DiskCalls.counts old) (sim_counts g.D.DiskCalls.counts new) result) (sym (handed_on c.from_residual.result c.in_err-begin_call.field-0.0 c.from_residual.ensures.1 ∙ ap Err begun.0))
    (failed_cause g.D.DiskCalls.counts old new (ap (λ s. s.parts.journal) begun.1) begun.2 (ap (λ s. s.wants) begun.1))

pub returns-in_err-begin_call-clause-schedule : goal.returns-in_err-begin_call-clause-schedule
returns-in_err-begin_call-clause-schedule g c =
    let old = c.args.self.now in
    let new = c.begin_call.new.self in
    let fault = c.in_err-begin_call.field-0.0 in
    subst (λ result. PollsAsScheduled g.D.DiskCalls.told g.D.DiskCalls.counts old new result) (sym (handed_on c.from_residual.result fault c.from_residual.ensures.1))
    (failed_scheduled g.D.DiskCalls.told g.D.DiskCalls.counts old new fault c.in_err-begin_call.ensures)

pub returns-clause-given : goal.returns-clause-given
returns-clause-given g c = λ tells. given_of (port_of g.D.DiskCalls.told c.args.self.now) (port_of g.D.DiskCalls.told c.answer_poll.new.self) c.answer_poll.result (runs_behind g.D.DiskCalls.told c.args.self.now c.begin_call.new.self c.answer_poll.new.self c.answer_poll.result (begun_works g.D.DiskCalls.told g.D.DiskCalls.counts c.args.self.now c.begin_call.new.self c.answer_poll.new.self (counted c.args.self.now.calls) c.in_ok-begin_call.ensures.1) c.answer_poll.ensures.runs).given

pub returns-clause-nothing : goal.returns-clause-nothing
returns-clause-nothing g c = λ tells. nothing_of (port_of g.D.DiskCalls.told c.args.self.now) (port_of g.D.DiskCalls.told c.answer_poll.new.self) c.answer_poll.result (runs_behind g.D.DiskCalls.told c.args.self.now c.begin_call.new.self c.answer_poll.new.self c.answer_poll.result (begun_works g.D.DiskCalls.told g.D.DiskCalls.counts c.args.self.now c.begin_call.new.self c.answer_poll.new.self (counted c.args.self.now.calls) c.in_ok-begin_call.ensures.1) c.answer_poll.ensures.runs).given

pub returns-clause-polled : goal.returns-clause-polled
returns-clause-polled g c = λ tells. (runs_behind g.D.DiskCalls.told c.args.self.now c.begin_call.new.self c.answer_poll.new.self c.answer_poll.result (begun_works g.D.DiskCalls.told g.D.DiskCalls.counts c.args.self.now c.begin_call.new.self c.answer_poll.new.self (counted c.args.self.now.calls) c.in_ok-begin_call.ensures.1) c.answer_poll.ensures.runs).polls

pub returns-clause-moments : goal.returns-clause-moments
returns-clause-moments g c = λ tells. (runs_behind g.D.DiskCalls.told c.args.self.now c.begin_call.new.self c.answer_poll.new.self c.answer_poll.result (begun_works g.D.DiskCalls.told g.D.DiskCalls.counts c.args.self.now c.begin_call.new.self c.answer_poll.new.self (counted c.args.self.now.calls) c.in_ok-begin_call.ensures.1) c.answer_poll.ensures.runs).port

pub returns-clause-keeps : goal.returns-clause-keeps
returns-clause-keeps g c = λ tells. (runs_behind g.D.DiskCalls.told c.args.self.now c.begin_call.new.self c.answer_poll.new.self c.answer_poll.result (begun_works g.D.DiskCalls.told g.D.DiskCalls.counts c.args.self.now c.begin_call.new.self c.answer_poll.new.self (counted c.args.self.now.calls) c.in_ok-begin_call.ensures.1) c.answer_poll.ensures.runs).keeps

pub returns-clause-content : goal.returns-clause-content
returns-clause-content g c = λ tells. ap g.D.DiskCalls.told.seen (runs_behind g.D.DiskCalls.told c.args.self.now c.begin_call.new.self c.answer_poll.new.self c.answer_poll.result (begun_works g.D.DiskCalls.told g.D.DiskCalls.counts c.args.self.now c.begin_call.new.self c.answer_poll.new.self (counted c.args.self.now.calls) c.in_ok-begin_call.ensures.1) c.answer_poll.ensures.runs).journal

pub returns-clause-tells : goal.returns-clause-tells
returns-clause-tells g c = ap g.D.DiskCalls.told.tells (runs_behind g.D.DiskCalls.told c.args.self.now c.begin_call.new.self c.answer_poll.new.self c.answer_poll.result (begun_works g.D.DiskCalls.told g.D.DiskCalls.counts c.args.self.now c.begin_call.new.self c.answer_poll.new.self (counted c.args.self.now.calls) c.in_ok-begin_call.ensures.1) c.answer_poll.ensures.runs).journal

pub returns-clause-empty : goal.returns-clause-empty
returns-clause-empty g c =
    subst (λ s. CountsEmpty (sim_counts g.D.DiskCalls.counts s) (sim_counts g.D.DiskCalls.counts c.answer_poll.new.self) c.answer_poll.result) c.in_ok-begin_call.ensures.1 c.answer_poll.ensures.empty

pub returns-clause-cause : goal.returns-clause-cause
returns-clause-cause g c =
    subst (λ s. HasSiteCause (sim_counts g.D.DiskCalls.counts s) (sim_counts g.D.DiskCalls.counts c.answer_poll.new.self) c.answer_poll.result) c.in_ok-begin_call.ensures.1 c.answer_poll.ensures.cause

pub returns-clause-schedule : goal.returns-clause-schedule
returns-clause-schedule g c =
    scheduled g.D.DiskCalls.told g.D.DiskCalls.counts c.args.self.now c.begin_call.new.self c.answer_poll.new.self (counted c.args.self.now.calls) c.in_ok-begin_call.ensures.1 c.in_ok-begin_call.ensures.0
    c.answer_poll.result c.answer_poll.ensures.answers c.answer_poll.ensures.calls c.answer_poll.ensures.faults refl
