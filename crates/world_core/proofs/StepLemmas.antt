-- What an event answers and leaves, whatever it is.
use Rattle.std.proofs.Common.{◌≡◌, ℕ, List, ◌++◌, ◌∷◌, [], take, Option, Some, None, true, Result, Ok, Err, IfErr, OnOk, inl, inr, sym, ◌∙◌, subst}
use Rattle.world_core.specs.WorldState.{WorldState}
use Rattle.world_core.specs.Condition.{IsAllowed, refusal_of, may_want_memory}
use Rattle.world_core.specs.Effect.{world_step}
use Rattle.world_core.specs.Run.{Answers, IsRefusalOf, Runs, StopsAt, IsLater, Continues}
use Rattle.world_core.specs.Settling.{BeginsSettlement}
use Rattle.world_core.specs.Delivery.{DeliversWhole, DeliversNoWhole}
use Rattle.world_core.specs.Sound.{IsSound}
use Rattle.world_core.specs.WorldLaws.{IsLater-same, IsLater-step, IsLater-runs, Runs-append, receipt_settles}
use Rattle.world_core.specs.declared.events.Event.{Event}
use Rattle.world_core.specs.declared.refusals.NotAllowed.{NotAllowed}
use Rattle.world_core.specs.declared.refusals.NotAllowed.TheVariants as refusal
use Rattle.world_core.proofs.WholePackets.{delivers-whole, delivers-no_whole}

abbrev pub StepAnswers : WorldState → WorldState → Event → Result (Unit {0}) NotAllowed → Type 0
StepAnswers w v happening result = Answers (refusal_of w happening) (may_want_memory happening) (world_step w happening) w v result

pub later_after : (w v : WorldState) (happening : Event) (result : Result (Unit {0}) NotAllowed) → StepAnswers w v happening result → IsLater w v
later_after w v happening (Ok done) h = subst (λ (x : WorldState). IsLater w x) (sym h.1) (IsLater-step w happening)
later_after w v happening (Err named) h = subst (λ (x : WorldState). IsLater w x) (sym h.1) (IsLater-same w)

pub whole_after : (w v : WorldState) (happening : Event) (result : Result (Unit {0}) NotAllowed) → StepAnswers w v happening result
    → OnOk result (DeliversWhole w happening)
whole_after w v happening (Ok done) h = delivers-whole w happening h.0
whole_after w v happening (Err named) h = tt

pub not_whole_after : (w v : WorldState) (happening : Event) (result : Result (Unit {0}) NotAllowed) → StepAnswers w v happening result
    → IfErr result (λ named. named ≡ refusal.NotWhole → DeliversNoWhole w happening)
not_whole_after w v happening (Ok done) h = tt
not_whole_after w v happening (Err named) h = λ is. delivers-no_whole w happening named h.0 is

pub settles_after : (w v : WorldState) (happening : Event) (result : Result (Unit {0}) NotAllowed) → IsSound w → StepAnswers w v happening result
    → IfErr result (λ named. BeginsSettlement w happening → named ≡ refusal.Memory)
settles_after w v happening (Ok done) sound h = tt
settles_after w v happening (Err named) sound h = λ begins. elim h.0 [
  | inl broken ↦ absurd (none_named (sym (allowed begins) ∙ broken))
  | inr memory ↦ memory.1
]
  where
    allowed : BeginsSettlement w happening → IsAllowed w happening
    allowed begins = subst (λ (e : Event). IsAllowed w e) (sym begins.is) (receipt_settles w begins.entry sound begins.up begins.none begins.settles)

    none_named : None ≡ Some named → ⊥
    none_named e = cc

pub continues_after : (w v : WorldState) (events : List Event) (result : Result (Unit {0}) (ℕ × NotAllowed)) → OnOk result (Runs w events v) → OnOk result (Continues w events v)
continues_after w v events (Ok done) run = λ first earlier led. Runs-append first w v earlier events led run
continues_after w v events (Err stop) run = tt

pub later_run : (w v : WorldState) (events : List Event) (result : Result (Unit {0}) (ℕ × NotAllowed)) → OnOk result (Runs w events v) → IfErr result (StopsAt w events v)
    → IsLater w v
later_run w v events (Ok done) ran stopped = IsLater-runs w v events ran
later_run w v events (Err stop) ran stopped = IsLater-runs w v (take stop.0 events) stopped.0
