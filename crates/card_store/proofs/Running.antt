-- A script of which a command is left, and the card behind its next command.
use Rattle.std.proofs.Common.{◌≡◌, ℕ, ◌+◌, ◌-◌, ◌^◌, ◌<◌, ◌≤◌, Bool, true, false, not, is_some, is_none, option_map, Option, Some, None, List, [], ◌∷◌, ◌++◌, map, length, refl, sym, ap, ◌∙◌, subst, arith}
use Rattle.std.specs.Prelude.{IfSome}
use Rattle.apdu_codec.specs.Reply.{Answer}
use Rattle.script_engine.specs.Step.{script_step}
use Rattle.script_engine.specs.declared.card.CardState.{CardState}
use Rattle.world_core.specs.declared.lines.Line.{Line}
use Rattle.card_store.specs.Content.{Content, left_of, with_last, executed_one, ran_on, after_command}
use Rattle.card_store.specs.Kept.{IsLastWithin, IsWithin, IsRunning, HasAdvanced, one_more}
use Rattle.card_store.specs.Store.{Shown, Shows, card_line}
use Rattle.card_store.specs.declared.card_lines.CardLine.{CardLine}
use Rattle.card_store.specs.declared.scripts.Script.{Script}
use Rattle.card_store.proofs.Lines.{last_less, last_more, last_added, map-with_last}

-- a script that begins
pub begun_running : (lines : List CardLine) (line : CardLine) (script : Option Script) → line.executed ≡ 0 → IfSome script (λ s. (s.next ≡ 0) × (0 < length s.body) × (length s.body < 2 ^ 32))
    → IsRunning (lines ++ line ∷ []) script
begun_running lines line None none begins = tt
begun_running lines line (Some script) none begins = record {
  begins = omega (arith, begins.0, begins.1);
  fits = begins.2;
  last = last_less line.executed script.next (lines ++ line ∷ []) (omega (arith, none)) (last_added line lines);
}

-- a script of which a command is left is within its octets
pub running_within : (lines : List CardLine) (script : Option Script) (left : Script) → script ≡ Some left → IsRunning lines script → IsWithin lines left
running_within lines script left is running = subst (IsRunning lines) is running

pub within_last : (lines : List CardLine) (script : Script) → IsWithin lines script → IsLastWithin (2 ^ 32 - 2) lines
within_last lines script within = last_less script.next (2 ^ 32 - 2) lines (omega (arith, within.begins, within.fits)) within.last

-- behind a command
pub running_on : (lines new : List CardLine) (script : Script) (ended : Bool) (next : Option ℕ) → IsWithin lines script → IfSome next (λ at. (script.next < at) × (at < length script.body))
    → new ≡ with_last (one_more ended) lines → IsRunning new (left_of script.part script.body next)
running_on lines new script ended None within goes is = tt
running_on lines new script ended (Some at) within goes is = record {
  begins = goes.1;
  fits = within.fits;
  last = subst (IsLastWithin at) (sym is) (last_less (script.next + 1) at (with_last (one_more ended) lines) (omega (arith, goes.0)) (last_more script.next ended lines within.last));
}

-- whether there is none
pub none_is : {X : Type 0} (o : Option X) (b : Bool) → is_some o ≡ not b → b ≡ is_none o
none_is None true e = refl
none_is None false e = cc
none_is (Some x) true e = cc
none_is (Some x) false e = refl

-- the card behind a command is the one that is lent
pub advanced_shows : (content : Content) (old new : Shown) (script : Script) (step : Answer CardState × Option ℕ) → Shows content old → old.script ≡ Some script
    → step ≡ script_step old.card script.part script.body script.next → new.lines ≡ with_last (one_more (is_none step.1)) old.lines → new.card ≡ step.0.after
    → new.script ≡ left_of script.part script.body step.1 → HasAdvanced content new
advanced_shows content old new script step shows left stepped lines card goes =
    let made = script_step content.card script.part script.body script.next in
    let same : step ≡ made = stepped ∙ ap (λ (c : CardState). script_step c script.part script.body script.next) shows.card in (
      ran_on content script made,
      ap (λ (s : Option Script). option_map (λ script. ran_on content script (script_step content.card script.part script.body script.next)) s) (sym shows.script ∙ left),
      record {
        lines = lines ∙ ap (λ (l : List CardLine). with_last (one_more (is_none step.1)) l) shows.lines
            ∙ ap (λ (s : Answer CardState × Option ℕ). with_last (one_more (is_none s.1)) (map card_line content.log)) same
            ∙ sym (map-with_last card_line (executed_one made.0 made.1) (one_more (is_none made.1)) content.log (λ (line : Line). refl));
        card = card ∙ ap (λ (s : Answer CardState × Option ℕ). s.0.after) same;
        script = goes ∙ ap (λ (s : Answer CardState × Option ℕ). left_of script.part script.body s.1) same;
      },
    )
