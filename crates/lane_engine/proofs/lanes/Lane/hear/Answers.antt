use Rattle.std.proofs.Common.{refl, sym, ap, ◌∙◌}
use Rattle.sms_segments.specs.declared.assembling.Push.TheVariants as push
use Rattle.lane_engine.specs.declared.answers.Poll.TheVariants as poll
use Rattle.lane_engine.proofs.TakenLemmas.{heard_idle, heard_whole}
use Rattle.lane_engine.proofs.lanes.Lane.hear.Goals as goal

-- src/polling.rt:124:5
pub returns-in-Ok-Whole-clause-heard : goal.returns-in-Ok-Whole-clause-heard
returns-in-Ok-Whole-clause-heard g c =
    heard_whole g.T.DiskCalls.told c.self.inside.site c.self.inside.journal c.self.inside.is_stale c.self.inside.assembler c.push.new.self c.self.inside.moment c.self.inside.name.items c.self.inside.end c.self.inside.opened c.self.inside.lost.value.items c.args.self.now c.self.view_is c.self.invariant c.requires.live c.args.by (c.args.card, c.args.message.now)
    (push.Whole c.in-Ok-Whole.packet) c.push.ensures.element (λ past keeps. sym c.in-Ok-Whole.field-0-is ∙ c.in-Ok-Whole.ensures.answer past keeps) (λ past keeps. c.in-Ok-Whole.ensures.keeps past keeps)
    c.read.new.self c.as_slice.result.now c.read.result (ap (λ l. push.Whole l) (sym c.as_slice.ensures)) c.read.ensures.taken c.read.ensures.run

-- src/polling.rt:124:5
pub returns-in-Ok-More-clause-heard : goal.returns-in-Ok-More-clause-heard
returns-in-Ok-More-clause-heard g c =
    heard_idle g.T.DiskCalls.told c.self.inside.site c.self.inside.journal c.self.inside.is_stale c.self.inside.assembler c.push.new.self c.self.inside.moment c.self.inside.name.items c.self.inside.end c.self.inside.opened c.self.inside.lost.value.items c.args.self.now c.self.view_is c.self.invariant c.requires.live c.args.by (c.args.card, c.args.message.now)
    push.More c.push.ensures.element (λ past keeps. sym c.in-Ok-More.field-0-is ∙ c.in-Ok-More.ensures.answer past keeps) (λ past keeps. c.in-Ok-More.ensures.keeps past keeps) poll.More refl refl

-- src/polling.rt:124:5
pub returns-in-Ok-NotOurs-clause-heard : goal.returns-in-Ok-NotOurs-clause-heard
returns-in-Ok-NotOurs-clause-heard g c =
    heard_idle g.T.DiskCalls.told c.self.inside.site c.self.inside.journal c.self.inside.is_stale c.self.inside.assembler c.push.new.self c.self.inside.moment c.self.inside.name.items c.self.inside.end c.self.inside.opened c.self.inside.lost.value.items c.args.self.now c.self.view_is c.self.invariant c.requires.live c.args.by (c.args.card, c.args.message.now)
    push.NotOurs c.push.ensures.element (λ past keeps. sym c.in-Ok-NotOurs.field-0-is ∙ c.in-Ok-NotOurs.ensures.answer past keeps) (λ past keeps. c.in-Ok-NotOurs.ensures.keeps past keeps) poll.NotOurs refl refl
