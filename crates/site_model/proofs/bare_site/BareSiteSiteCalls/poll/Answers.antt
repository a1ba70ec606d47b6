use Rattle.std.proofs.Common.{◌≡◌, ◌∙◌, ◌++◌, ◌∷◌, [], List, ap, subst}
use Rattle.std.specs.Prelude.{Option, Some, None, Ok, ℕ}
use Rattle.arrayvec.specs.ArrayVec.{ArrayVec}
use Rattle.ota_core.specs.declared.cards.CardId.{CardId}
use Rattle.site_model.specs.declared.bare_site.BareSite.{BareSite}
use Rattle.site_model.specs.declared.moments.Moment.{Moment}
use Rattle.site_model.specs.Giving.{TakesNext}
use Rattle.site_model.specs.declared.moments.Moment.TheVariants.{Gave, Polled}
use Rattle.site_model.proofs.Calls.{keeps, poll_run, give_run, polled_now, none_given_now, gave_polled_now, given_now}
use Rattle.site_model.proofs.bare_site.BareSiteSiteCalls.poll.Goals as goal

-- the moments after a message was taken, and after there was none
module _ {D : Type 0} (old new : BareSite D) (next : Option (CardId × ArrayVec ℕ)) (taken : TakesNext old new (Ok next)) where
  gave : (message : CardId × ArrayVec ℕ) → next ≡ Some message → new.moments.items ≡ old.moments.items ++ Gave (record { card = message.0; message = message.1.items }) ∷ []
  gave message is = (subst (λ (m : Option (CardId × ArrayVec ℕ)). TakesNext old new (Ok m)) is taken).1

  gave_none : next ≡ None → new.moments.items ≡ old.moments.items
  gave_none is = (subst (λ (m : Option (CardId × ArrayVec ℕ)). TakesNext old new (Ok m)) is taken).2

pub returns-in-Err-clause-keeps : goal.returns-in-Err-clause-keeps
returns-in-Err-clause-keeps g c = λ tells. keeps g.D.DiskCalls.told c.args.self.now _

-- ---- a message was given

pub returns-in-Ok-Some-clause-keeps : goal.returns-in-Ok-Some-clause-keeps
returns-in-Ok-Some-clause-keeps g c = λ tells. keeps g.D.DiskCalls.told c.args.self.now _

pub returns-in-Ok-Some-clause-moments : goal.returns-in-Ok-Some-clause-moments
returns-in-Ok-Some-clause-moments g c = λ tells. give_run g.D.DiskCalls.told c.args.self.now _ _ c.take_next.ensures.disk (gave c.args.self.now c.take_next.new.self _ c.in-Ok-Some.ensures.next c.in-Ok-Some.message c.in-Ok-Some.field-0-is)

pub returns-in-Ok-Some-clause-given : goal.returns-in-Ok-Some-clause-given
returns-in-Ok-Some-clause-given g c =
    λ tells. given_now (g.D.DiskCalls.told.clock c.args.self.now.disk) (g.D.DiskCalls.told.clock c.take_next.new.self.disk) c.args.self.now.moments.items c.take_next.new.self.moments.items _
    (gave c.args.self.now c.take_next.new.self _ c.in-Ok-Some.ensures.next c.in-Ok-Some.message c.in-Ok-Some.field-0-is)

pub returns-in-Ok-Some-clause-polled : goal.returns-in-Ok-Some-clause-polled
returns-in-Ok-Some-clause-polled g c =
    λ tells. gave_polled_now (g.D.DiskCalls.told.clock c.args.self.now.disk) (g.D.DiskCalls.told.clock c.take_next.new.self.disk) c.args.self.now.moments.items c.take_next.new.self.moments.items _
    (gave c.args.self.now c.take_next.new.self _ c.in-Ok-Some.ensures.next c.in-Ok-Some.message c.in-Ok-Some.field-0-is)

-- ---- there was none

pub returns-in-Ok-None-clause-keeps : goal.returns-in-Ok-None-clause-keeps
returns-in-Ok-None-clause-keeps g c = λ tells. keeps g.D.DiskCalls.told c.args.self.now _

pub returns-in-Ok-None-clause-moments : goal.returns-in-Ok-None-clause-moments
returns-in-Ok-None-clause-moments g c =
    λ tells. poll_run g.D.DiskCalls.told c.args.self.now _ c.take_next.ensures.disk
    (c.add.ensures ∙ ap (λ (l : List Moment). l ++ Polled ∷ []) (gave_none c.args.self.now c.take_next.new.self _ c.in-Ok-None.ensures.next c.in-Ok-None.field-0-is))

pub returns-in-Ok-None-clause-nothing : goal.returns-in-Ok-None-clause-nothing
returns-in-Ok-None-clause-nothing g c =
    λ tells. none_given_now (g.D.DiskCalls.told.clock c.args.self.now.disk) (g.D.DiskCalls.told.clock c.take_next.new.self.disk) c.args.self.now.moments.items c.add.new.moments.items
    (c.add.ensures ∙ ap (λ (l : List Moment). l ++ Polled ∷ []) (gave_none c.args.self.now c.take_next.new.self _ c.in-Ok-None.ensures.next c.in-Ok-None.field-0-is))

pub returns-in-Ok-None-clause-polled : goal.returns-in-Ok-None-clause-polled
returns-in-Ok-None-clause-polled g c =
    λ tells. polled_now (g.D.DiskCalls.told.clock c.args.self.now.disk) (g.D.DiskCalls.told.clock c.take_next.new.self.disk) c.args.self.now.moments.items c.add.new.moments.items
    (c.add.ensures ∙ ap (λ (l : List Moment). l ++ Polled ∷ []) (gave_none c.args.self.now c.take_next.new.self _ c.in-Ok-None.ensures.next c.in-Ok-None.field-0-is))
