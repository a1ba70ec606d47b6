use Rattle.std.proofs.Common.{◌≡◌, ◌∙◌, ◌++◌, ◌∷◌, [], ap, sym, subst, refl, List}
use Rattle.std.specs.Prelude.{Err}
use Rattle.disk_model.specs.Counts.{HasRisen}
use Rattle.site_model.specs.Causes.{HasSiteCause}
use Rattle.site_model.specs.declared.site_faults.SiteFault.{SiteFault}
use Rattle.air_sim.specs.declared.notes.Note.{Note}
use Rattle.air_sim.specs.declared.notes.Note.TheVariants.{Quiet}
use Rattle.air_sim.specs.PortCalls.{SendsPiece, counted}
use Rattle.air_sim.specs.Told.{sim_counts}
use Rattle.air_sim.proofs.PortLemmas.{send_keeps, send_port, send_sent}
use Rattle.air_sim.proofs.SendLemmas.{Stays, begun_failed, failed_cause, failed_sends, handed_on, kept_cards, kept_faults, kept_journal, kept_past, kept_wants, stays_keeps, sent_same, want_cause, wanted_same, wanted_stays, stays_port}
use Rattle.air_sim.proofs.sim_site.SimSiteSiteCalls.send.Goals as goal

pub returns-in_err-begin_call-clause-keeps : goal.returns-in_err-begin_call-clause-keeps
returns-in_err-begin_call-clause-keeps g c =
    λ tells.
    let old = c.args.self.now in
    let new = c.begin_call.new.self in
    let is = (begun_failed old new c.in_err-begin_call.field-0.0 c.in_err-begin_call.ensures).1 in
    stays_keeps g.D.DiskCalls.told old new (record { past = ap (λ s. s.past.items) is; journal = ap (λ s. s.parts.journal) is; cards = ap (λ s. s.parts.cards.items) is; sent = ap (λ s. s.parts.sent.items) is })

pub returns-in_err-begin_call-clause-cause : goal.returns-in_err-begin_call-clause-cause
returns-in_err-begin_call-clause-cause g c =
    let old = c.args.self.now in
    let new = c.begin_call.new.self in
    let begun = begun_failed old new c.in_err-begin_call.field-0.0 c.in_err-begin_call.ensures in
    subst (λ result. HasSiteCause (sim_counts g.D.DiskCalls.counts old) (sim_counts g.D.DiskCalls.counts new) result) (sym (handed_on c.from_residual.result c.in_err-begin_call.field-0.0 c.from_residual.ensures.1 ∙ ap Err begun.0))
    (failed_cause g.D.DiskCalls.counts old new (ap (λ s. s.parts.journal) begun.1) begun.2 (ap (λ s. s.wants) begun.1))

pub returns-in-Ok-clause-sent : goal.returns-in-Ok-clause-sent
returns-in-Ok-clause-sent g c =
    λ tells.
    let old = c.args.self.now in
    let begun = c.begin_call.new.self in
    let kept = c.keep_piece.new.self in
    let begun_is = c.in_ok-begin_call.ensures.1 in
    let kept_is = c.in-Ok.ensures.0 in
    send_sent g.D.DiskCalls.told old (record kept { past = c.and-past.result }) (record { card = c.args.card; packet = c.args.packet.now; reference = c.args.reference; place = c.args.place })
    (c.and-past.ensures ∙ ap (λ s. s.past.items ++ (s.parts, Quiet) ∷ []) begun_is)
    (kept_cards old begun (counted old.calls) begun_is kept kept_is) (kept_journal old begun (counted old.calls) begun_is kept kept_is)
    (c.in-Ok.ensures.1 ∙ ap (λ s. s.parts.sent.items ++ (record { card = c.args.card; packet = c.args.packet.now; reference = c.args.reference; place = c.args.place }) ∷ []) begun_is)

pub returns-in-Ok-clause-moments : goal.returns-in-Ok-clause-moments
returns-in-Ok-clause-moments g c =
    λ tells.
    let old = c.args.self.now in
    let begun = c.begin_call.new.self in
    let kept = c.keep_piece.new.self in
    let begun_is = c.in_ok-begin_call.ensures.1 in
    let kept_is = c.in-Ok.ensures.0 in
    send_port g.D.DiskCalls.told old (record kept { past = c.and-past.result }) (record { card = c.args.card; packet = c.args.packet.now; reference = c.args.reference; place = c.args.place })
    (c.and-past.ensures ∙ ap (λ s. s.past.items ++ (s.parts, Quiet) ∷ []) begun_is)
    (kept_cards old begun (counted old.calls) begun_is kept kept_is) (kept_journal old begun (counted old.calls) begun_is kept kept_is)
    (c.in-Ok.ensures.1 ∙ ap (λ s. s.parts.sent.items ++ (record { card = c.args.card; packet = c.args.packet.now; reference = c.args.reference; place = c.args.place }) ∷ []) begun_is)

pub returns-in-Ok-clause-keeps : goal.returns-in-Ok-clause-keeps
returns-in-Ok-clause-keeps g c =
    λ tells.
    let old = c.args.self.now in
    let begun = c.begin_call.new.self in
    let kept = c.keep_piece.new.self in
    let begun_is = c.in_ok-begin_call.ensures.1 in
    let kept_is = c.in-Ok.ensures.0 in
    send_keeps g.D.DiskCalls.told old (record kept { past = c.and-past.result }) (record { card = c.args.card; packet = c.args.packet.now; reference = c.args.reference; place = c.args.place })
    (c.and-past.ensures ∙ ap (λ s. s.past.items ++ (s.parts, Quiet) ∷ []) begun_is)
    (kept_cards old begun (counted old.calls) begun_is kept kept_is) (kept_journal old begun (counted old.calls) begun_is kept kept_is)
    (c.in-Ok.ensures.1 ∙ ap (λ s. s.parts.sent.items ++ (record { card = c.args.card; packet = c.args.packet.now; reference = c.args.reference; place = c.args.place }) ∷ []) begun_is)

pub returns-in-Err-clause-moments : goal.returns-in-Err-clause-moments
returns-in-Err-clause-moments g c =
    λ tells.
    let old = c.args.self.now in
    stays_port g.D.DiskCalls.told old c.want.new.self
    (wanted_stays old c.begin_call.new.self (counted old.calls) c.in_ok-begin_call.ensures.1 c.keep_piece.new.self c.in-Err.ensures.0 c.want.new.self c.want.ensures.counted c.in-Err.ensures.1) (record { card = c.args.card; packet = c.args.packet.now; reference = c.args.reference; place = c.args.place })

pub returns-in-Err-clause-keeps : goal.returns-in-Err-clause-keeps
returns-in-Err-clause-keeps g c =
    λ tells.
    let old = c.args.self.now in
    stays_keeps g.D.DiskCalls.told old c.want.new.self
    (wanted_stays old c.begin_call.new.self (counted old.calls) c.in_ok-begin_call.ensures.1 c.keep_piece.new.self c.in-Err.ensures.0 c.want.new.self c.want.ensures.counted c.in-Err.ensures.1)

pub returns-in-Err-clause-cause : goal.returns-in-Err-clause-cause
returns-in-Err-clause-cause g c =
    let old = c.args.self.now in
    let begun = c.begin_call.new.self in
    let kept = c.keep_piece.new.self in
    let begun_is = c.in_ok-begin_call.ensures.1 in
    let kept_is = c.in-Err.ensures.0 in
    let stays = wanted_stays old begun (counted old.calls) begun_is kept kept_is c.want.new.self c.want.ensures.counted c.in-Err.ensures.1 in
    subst (λ fault. HasSiteCause (sim_counts g.D.DiskCalls.counts old) (sim_counts g.D.DiskCalls.counts c.want.new.self) (Err fault)) (sym c.want.ensures.fault)
    (want_cause g.D.DiskCalls.counts old c.want.new.self stays.journal
    (subst (λ w. HasRisen w c.want.new.self.wants) (kept_wants old begun (counted old.calls) begun_is kept kept_is) c.want.ensures.rises)
    (ap (λ s. s.faults) c.want.ensures.counted ∙ kept_faults old begun (counted old.calls) begun_is kept kept_is))

pub returns-in_err-begin_call-clause-sends : goal.returns-in_err-begin_call-clause-sends
returns-in_err-begin_call-clause-sends g c =
    let old = c.args.self.now in
    let new = c.begin_call.new.self in
    let fault = c.in_err-begin_call.field-0.0 in
    subst (λ result. SendsPiece old new (record { card = c.args.card; packet = c.args.packet.now; reference = c.args.reference; place = c.args.place }) result) (sym (handed_on c.from_residual.result fault c.from_residual.ensures.1))
    (failed_sends old new (record { card = c.args.card; packet = c.args.packet.now; reference = c.args.reference; place = c.args.place }) fault c.in_err-begin_call.ensures)

pub returns-in-Ok-clause-sends : goal.returns-in-Ok-clause-sends
returns-in-Ok-clause-sends g c = (
  c.in_ok-begin_call.ensures.0,
  c.in-Ok.ensures.1 ∙ ap (λ s. s.parts.sent.items ++ (record { card = c.args.card; packet = c.args.packet.now; reference = c.args.reference; place = c.args.place }) ∷ []) c.in_ok-begin_call.ensures.1,
  c.and-past.ensures ∙ ap (λ s. s.past.items ++ (s.parts, Quiet) ∷ []) c.in_ok-begin_call.ensures.1,
  sent_same c.args.self.now c.begin_call.new.self c.keep_piece.new.self (counted c.args.self.now.calls) c.in_ok-begin_call.ensures.1 c.in-Ok.ensures.0 c.and-past.result,
)

pub returns-in-Err-clause-sends : goal.returns-in-Err-clause-sends
returns-in-Err-clause-sends g c =
    let old = c.args.self.now in
    let begun = c.begin_call.new.self in
    let kept = c.keep_piece.new.self in
    let stays = wanted_stays old begun (counted old.calls) c.in_ok-begin_call.ensures.1 kept c.in-Err.ensures.0 c.want.new.self c.want.ensures.counted c.in-Err.ensures.1 in
    subst (λ fault. SendsPiece old c.want.new.self (record { card = c.args.card; packet = c.args.packet.now; reference = c.args.reference; place = c.args.place }) (Err fault)) (sym c.want.ensures.fault) (
      c.in_ok-begin_call.ensures.0,
      stays.sent,
      wanted_same old begun kept (counted old.calls) c.in_ok-begin_call.ensures.1 c.in-Err.ensures.0 c.want.new.self c.want.ensures.counted,
    )
