use Rattle.std.proofs.Common.{◌≡◌, ◌∙◌, ◌∷◌, true, false, is_some, sym, ap, subst}
use Rattle.disk_model.specs.Disk.{DiskRun}
use Rattle.sms_segments.specs.Assembled.{OfCard}
use Rattle.sms_segments.specs.Kept.{Kept, Keeps}
use Rattle.sms_segments.specs.declared.assembling.Push.{Push}
use Rattle.receiving_entity.specs.Card.{CardValue, packet_of}
use Rattle.receiving_entity.specs.Receiving.{IsOnTheWay, reaction}
use Rattle.receiving_entity.proofs.CardLemmas.{keeps_whole, stays}
use Rattle.receiving_entity.proofs.cards.Card.take_message.Goals as goal

pub returns-in-Ok-Whole-clause-keeps : goal.returns-in-Ok-Whole-clause-keeps
returns-in-Ok-Whole-clause-keeps g c = λ content past is.
    let card = c.args.self.now in
    let inside = c.self.inside in
    let e = c.in-Ok-Whole.ensures in
    let same : card.store.facts ≡ inside.facts = ap (λ (v : CardValue g.row.D.Denot). v.store.facts) (sym c.self.view_is) ∙ c.self.invariant.0 in
    let kept : Keeps 0x70 past inside.assembler.pieces = subst (λ (v : CardValue g.row.D.Denot). Keeps 0x70 past v.kept.pieces) (sym c.self.view_is) is.kept in
    keeps_whole card.store.facts past c.args.message.now c.requires.taken inside.facts same inside.assembler.element c.self.invariant.1 inside.assembler.pieces c.push.new.self.pieces kept
    c.in-Ok-Whole.field-0 (e.answer past) (e.keeps past) c.take_packet.new.self c.take_packet.result (ap (λ (k : Kept). k.pieces) c.take_packet.ensures.kept) (ap (λ (p : Push). is_some (packet_of p)) c.in-Ok-Whole.field-0-is)

pub returns-in-Err-clause-moments : goal.returns-in-Err-clause-moments
returns-in-Err-clause-moments g c = λ tells content past is.
    let card = c.args.self.now in
    let told = g.D.DiskCalls.told in
    let off : c.self.inside.off ≡ false = ap (λ (v : CardValue g.row.D.Denot). v.off) c.self.view_is ∙ is.on in
    let ready : card.store.ready ≡ true = subst (λ (v : CardValue g.row.D.Denot). v.store.ready ≡ true) c.self.view_is (c.self.invariant.2 off) in
    let does = reaction card.store.facts content past c.args.message.now in
    subst (λ (v : CardValue g.row.D.Denot). DiskRun told card.store.disk v.store.disk (IsOnTheWay card.store.facts content does)) (sym c.self.view_is)
    (stays told card.store content is.store ready tells does)

pub returns-in-Ok-More-clause-moments : goal.returns-in-Ok-More-clause-moments
returns-in-Ok-More-clause-moments g c = λ tells content past is.
    let card = c.args.self.now in
    let told = g.D.DiskCalls.told in
    let off : c.self.inside.off ≡ false = ap (λ (v : CardValue g.row.D.Denot). v.off) c.self.view_is ∙ is.on in
    let ready : card.store.ready ≡ true = subst (λ (v : CardValue g.row.D.Denot). v.store.ready ≡ true) c.self.view_is (c.self.invariant.2 off) in
    let does = reaction card.store.facts content past c.args.message.now in
    subst (λ (v : CardValue g.row.D.Denot). DiskRun told card.store.disk v.store.disk (IsOnTheWay card.store.facts content does)) (sym c.self.view_is)
    (stays told card.store content is.store ready tells does)

pub invariant_of-self : goal.invariant_of-self
invariant_of-self g c =
    let inside = c.self.inside in
    let inv = c.self.invariant in
    let e = c.in-Ok-Whole.ensures in
    let message : OfCard = record { card = inside.facts.card; octets = c.args.message.now } in
    let before : Keeps inside.assembler.element inv.3 inside.assembler.pieces = subst (λ el. Keeps el inv.3 inside.assembler.pieces) (sym inv.1) inv.4 in
    (inv.0, e.element ∙ inv.1, inv.2, message ∷ inv.3, subst (λ el. Keeps el (message ∷ inv.3) c.push.new.self.pieces) inv.1 (e.keeps inv.3 before))

pub invariant_of-self-in-Ok-More : goal.invariant_of-self-in-Ok-More
invariant_of-self-in-Ok-More g c =
    let inside = c.self.inside in
    let inv = c.self.invariant in
    let e = c.in-Ok-More.ensures in
    let message : OfCard = record { card = inside.facts.card; octets = c.args.message.now } in
    let before : Keeps inside.assembler.element inv.3 inside.assembler.pieces = subst (λ el. Keeps el inv.3 inside.assembler.pieces) (sym inv.1) inv.4 in
    (inv.0, e.element ∙ inv.1, inv.2, message ∷ inv.3, subst (λ el. Keeps el (message ∷ inv.3) c.push.new.self.pieces) inv.1 (e.keeps inv.3 before))
