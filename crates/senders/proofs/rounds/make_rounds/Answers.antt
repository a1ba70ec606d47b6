use Rattle.std.proofs.Common.{Some, ap, subst, sym, ◌∙◌}
use Rattle.std.specs.Option.{option_or}
use Rattle.senders.specs.Alone.{IsAlone, IsWorkedAlone}
use Rattle.senders.specs.Rounds.{AllRounds}
use Rattle.senders.proofs.StepLemmas.{worked_all, worked_ended, worked_stopped}
use Rattle.senders.proofs.rounds.make_rounds.Goals as goal

pub returns-in-Some : goal.returns-in-Some
returns-in-Some g c = worked_ended g.T.DiskCalls.told g.T.DiskCalls.counts g.T.SiteCalls.port g.T.SiteCalls.lines c.args.settings.now c.args.place c.args.watch.now c.args.lane.now c.in-Some.field-0 (sym c.end.ensures.end ∙ c.in-Some.is)

pub returns-in-Err : goal.returns-in-Err
returns-in-Err g c =
    let none = sym c.end.ensures.end ∙ c.in-None.is in
    let alone = c.try_rounds.ensures.alone in
    subst (λ l. IsWorkedAlone g.T.DiskCalls.told g.T.DiskCalls.counts g.T.SiteCalls.port g.T.SiteCalls.lines c.args.settings.now c.args.place c.args.watch.now c.args.lane.now l)
    (sym (c.set_end.ensures ∙ ap (λ o. record c.try_rounds.new.lane { end = option_or o (Some c.in-Err.error) }) (alone.end ∙ none)))
    (worked_stopped g.T.DiskCalls.told g.T.DiskCalls.counts g.T.SiteCalls.port g.T.SiteCalls.lines c.args.settings.now c.args.place c.args.watch.now c.args.lane.now c.try_rounds.new.lane c.in-Err.error none (subst (λ n. IsAlone g.T.DiskCalls.told g.T.DiskCalls.counts g.T.SiteCalls.port g.T.SiteCalls.lines n c.args.place c.args.watch.now c.args.lane.now c.try_rounds.new.lane) c.requires.by alone) c.in-Err.ensures.stops)

pub returns-in_default : goal.returns-in_default
returns-in_default g c =
    let none = sym c.end.ensures.end ∙ c.in-None.is in
    let all = c.in_default.ensures.rounds in
    worked_all g.T.DiskCalls.told g.T.DiskCalls.counts g.T.SiteCalls.port g.T.SiteCalls.lines c.args.settings.now c.args.place c.args.watch.now c.args.lane.now c.try_rounds.new.lane none (subst (λ n. IsAlone g.T.DiskCalls.told g.T.DiskCalls.counts g.T.SiteCalls.port g.T.SiteCalls.lines n c.args.place c.args.watch.now c.args.lane.now c.try_rounds.new.lane) c.requires.by c.try_rounds.ensures.alone) all.0 all.1
    (λ tells. subst (λ n. AllRounds g.T.DiskCalls.told g.T.SiteCalls.port g.T.SiteCalls.lines c.args.place n c.args.watch.now c.args.settings.now.polls c.args.settings.now.resends c.args.lane.now c.try_rounds.new.lane) c.requires.by
    (all.2 tells))
