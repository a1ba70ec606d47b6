-- Events one after the other.
use Rattle.std.proofs.Common.{◌≡◌, ℕ, ◌+◌, ◌<◌, List, [], ◌∷◌, ◌++◌, length, get_or, take, sym, ◌∙◌, ap, subst}
use Rattle.std.proofs.lemmas.Grind.{take_at_read}
use Rattle.world_core.specs.WorldState.{WorldState}
use Rattle.world_core.specs.Condition.{IsAllowed}
use Rattle.world_core.specs.Effect.{world_step}
use Rattle.world_core.specs.Run.{Runs}
use Rattle.world_core.specs.Sound.{IsSound}
use Rattle.world_core.specs.declared.events.Event.{Event}
use Rattle.world_core.proofs.SoundLemmas.{IsSound-step}

runs_push : (w v u : WorldState) (events : List Event) (event : Event) → Runs w events v → IsAllowed v event → u ≡ world_step v event → Runs w (events ++ event ∷ []) u
runs_push w v u [] event run allowed is =
    (subst (λ (x : WorldState). IsAllowed x event) run allowed, is ∙ ap (λ (x : WorldState). world_step x event) run)
runs_push w v u (first ∷ events) event run allowed is = (run.0, runs_push (world_step w first) v u events event run.1 allowed is)

-- one more event
pub runs_more : (w v u : WorldState) (events : List Event) (i : ℕ) (event : Event) → i < length events → event ≡ get_or events i event
    → Runs w (take i events) v → IsAllowed v event → u ≡ world_step v event → Runs w (take (i + 1) events) u
runs_more w v u events i event within is run allowed next =
    let read : take (i + 1) events ≡ take i events ++ event ∷ [] =
    (take_at_read events i event within).1 ∙ ap (λ (e : Event). take i events ++ e ∷ []) (sym is) in
    subst (λ (es : List Event). Runs w es u) (sym read) (runs_push w v u (take i events) event run allowed next)

-- a run from a sound world ends in a sound one
pub IsSound-runs : (w v : WorldState) (events : List Event) → IsSound w → Runs w events v → IsSound v
IsSound-runs w v [] sound run = subst (λ (x : WorldState). IsSound x) (sym run) sound
IsSound-runs w v (happening ∷ events) sound run = IsSound-runs (world_step w happening) v events (IsSound-step w happening sound run.0) run.1
