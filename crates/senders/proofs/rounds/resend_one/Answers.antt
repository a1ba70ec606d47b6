use Rattle.std.proofs.Common.{Some, ap, sym, ◌∙◌}
use Rattle.senders.proofs.StepLemmas.{once_none, once_sent}
use Rattle.senders.proofs.rounds.resend_one.Goals as goal

pub returns-in-Some-clause-alone : goal.returns-in-Some-clause-alone
returns-in-Some-clause-alone g c =
    (once_sent g.T.DiskCalls.told g.T.DiskCalls.counts g.T.SiteCalls.port g.T.SiteCalls.lines c.args.by c.args.place c.args.watched.now c.args.lane.now c.resend.new.self (record { keyset = c.due.inside.keyset; counter = c.due.inside.counter }) c.resend.result (sym c.due_of.ensures ∙ (c.in-Some.is ∙ ap Some (sym c.due.view_is)))
    c.requires.may.0 (c.requires.may.0.live c.requires.may.1) c.requires.may.2 c.resend.ensures.later c.resend.ensures.kept c.resend.ensures.answer c.resend.ensures.resent c.resend.ensures.sent
    c.resend.ensures.unasked c.resend.ensures.cause).alone

pub returns-in-Some-clause-entries : goal.returns-in-Some-clause-entries
returns-in-Some-clause-entries g c =
    (once_sent g.T.DiskCalls.told g.T.DiskCalls.counts g.T.SiteCalls.port g.T.SiteCalls.lines c.args.by c.args.place c.args.watched.now c.args.lane.now c.resend.new.self (record { keyset = c.due.inside.keyset; counter = c.due.inside.counter }) c.resend.result (sym c.due_of.ensures ∙ (c.in-Some.is ∙ ap Some (sym c.due.view_is)))
    c.requires.may.0 (c.requires.may.0.live c.requires.may.1) c.requires.may.2 c.resend.ensures.later c.resend.ensures.kept c.resend.ensures.answer c.resend.ensures.resent c.resend.ensures.sent
    c.resend.ensures.unasked c.resend.ensures.cause).entries

pub returns-in-Some-clause-sent : goal.returns-in-Some-clause-sent
returns-in-Some-clause-sent g c =
    (once_sent g.T.DiskCalls.told g.T.DiskCalls.counts g.T.SiteCalls.port g.T.SiteCalls.lines c.args.by c.args.place c.args.watched.now c.args.lane.now c.resend.new.self (record { keyset = c.due.inside.keyset; counter = c.due.inside.counter }) c.resend.result (sym c.due_of.ensures ∙ (c.in-Some.is ∙ ap Some (sym c.due.view_is)))
    c.requires.may.0 (c.requires.may.0.live c.requires.may.1) c.requires.may.2 c.resend.ensures.later c.resend.ensures.kept c.resend.ensures.answer c.resend.ensures.resent c.resend.ensures.sent
    c.resend.ensures.unasked c.resend.ensures.cause).sent

pub returns-in-Some-clause-stops : goal.returns-in-Some-clause-stops
returns-in-Some-clause-stops g c =
    (once_sent g.T.DiskCalls.told g.T.DiskCalls.counts g.T.SiteCalls.port g.T.SiteCalls.lines c.args.by c.args.place c.args.watched.now c.args.lane.now c.resend.new.self (record { keyset = c.due.inside.keyset; counter = c.due.inside.counter }) c.resend.result (sym c.due_of.ensures ∙ (c.in-Some.is ∙ ap Some (sym c.due.view_is)))
    c.requires.may.0 (c.requires.may.0.live c.requires.may.1) c.requires.may.2 c.resend.ensures.later c.resend.ensures.kept c.resend.ensures.answer c.resend.ensures.resent c.resend.ensures.sent
    c.resend.ensures.unasked c.resend.ensures.cause).stops

pub returns-in-None-clause-alone : goal.returns-in-None-clause-alone
returns-in-None-clause-alone g c = (once_none g.T.DiskCalls.told g.T.DiskCalls.counts g.T.SiteCalls.port g.T.SiteCalls.lines c.args.by c.args.place c.args.watched.now c.args.lane.now (c.requires.may.0.live c.requires.may.1) c.requires.may.2 (sym c.due_of.ensures ∙ c.in-None.is)).alone

pub returns-in-None-clause-sent : goal.returns-in-None-clause-sent
returns-in-None-clause-sent g c = (once_none g.T.DiskCalls.told g.T.DiskCalls.counts g.T.SiteCalls.port g.T.SiteCalls.lines c.args.by c.args.place c.args.watched.now c.args.lane.now (c.requires.may.0.live c.requires.may.1) c.requires.may.2 (sym c.due_of.ensures ∙ c.in-None.is)).sent
