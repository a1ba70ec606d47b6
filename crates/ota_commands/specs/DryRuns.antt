-- The dry run of a script on a new card: what the card answers, what is written, and when it ends how.
use Rattle.std.specs.Prelude.{◌≡◌, ◌⊎◌, ℕ, true, false, Option, Some, None, Result, Ok, Err, List, [], ◌∷◌, ◌++◌}
use Rattle.hex.specs.Hex.{encode_lower}
use Rattle.apdu_codec.specs.Compact.{compact_response_of}
use Rattle.apdu_codec.specs.Reply.{Answer}
use Rattle.script_engine.specs.declared.card.CardState.{CardState}
use Rattle.script_engine.specs.Run.{fresh_card, with_mf_selected, HasRun}
use Rattle.expanded_scripts.specs.Answers.{answers, response_of}
use Rattle.expanded_scripts.specs.Refused.{IsRefused}
use Rattle.expanded_scripts.specs.Template.{IsTemplate}
use Rattle.expanded_scripts.specs.declared.reading.TemplateErr.{TemplateErr}
use Rattle.expanded_scripts.specs.declared.reading.TemplateErr.TheVariants as template_err
use Rattle.ota_io.specs.Calls.{HasRisen}
use Rattle.ota_io.specs.Octets.{AddsPart}
use Rattle.ota_commands.specs.Trials.{is_expanded}
use Rattle.ota_commands.specs.declared.faults.Fault.{Fault}
use Rattle.ota_commands.specs.declared.faults.Fault.TheVariants.{Usage, ScriptRefused, SinkFault, Memory}
use Rattle.ota_commands.specs.declared.trials.Trial.{Trial}

-- a new card's response to a script: the compact one (ETSI TS 102 226, 5.2.1.2), or the expanded one (5.2.2)
pub data Responds (trial : Trial) (response : List ℕ) : Type 0 where
  compact : (count : ℕ) (last : Answer CardState) → is_expanded trial.script ≡ false → HasRun fresh_card trial.part trial.script count last
      → response ≡ compact_response_of count last.sw last.out → Responds trial response
  expanded : (commands : List (List ℕ)) → is_expanded trial.script ≡ true → IsTemplate trial.script commands
      → response ≡ response_of (answers (with_mf_selected fresh_card) trial.part commands) → Responds trial response

-- the script is an expanded one that is refused so
pub record IsRefusedScript (trial : Trial) (error : TemplateErr) : Type 0 where
  pub expanded : is_expanded trial.script ≡ true
  pub refused : IsRefused trial.script error
  pub not_memory : error ≡ template_err.Memory → ⊥

-- the response in hexadecimal digits, and the end of a line
unfoldable pub response_text : List ℕ → List ℕ
response_text response = encode_lower response ++ 10 ∷ []

-- the words ask for a script to which a new card has this response
pub record IsAnswered (trial : Option Trial) (response : List ℕ) : Type 0 where
  pub asked : Trial
  pub words : trial ≡ Some asked
  pub responds : Responds asked response

-- what stands in a sink that tells: the response, a part of it where the sink failed, or else nothing more
abbrev pub Writes : Option Trial → List ℕ → List ℕ → Option Fault → Type 0
Writes trial old new None = (response : List ℕ) × IsAnswered trial response × (new ≡ old ++ response_text response)
Writes trial old new (Some SinkFault) = (response : List ℕ) × IsAnswered trial response × AddsPart (response_text response) old new
Writes trial old new (Some _) = new ≡ old

-- it ends so: with none where there is a response, and with a fault by its cause
abbrev pub EndsBy : Option Trial → ℕ → ℕ → Option Fault → Type 0
EndsBy trial before now None = (response : List ℕ) × IsAnswered trial response
EndsBy trial before now (Some Usage) = trial ≡ None
EndsBy trial before now (Some (ScriptRefused error)) = (asked : Trial) × (trial ≡ Some asked) × IsRefusedScript asked error
EndsBy trial before now (Some SinkFault) = ((response : List ℕ) × IsAnswered trial response) × HasRisen before now
EndsBy trial before now (Some Memory) = Unit {0}
EndsBy trial before now (Some _) = ⊥

-- it ends so, or memory was wanting
abbrev pub EndsSo : Option Fault → Option Fault → Type 0
EndsSo wanted fault = (fault ≡ wanted) ⊎ (fault ≡ Some Memory)

-- and each cause has its end
pub record HasEachCause (trial : Option Trial) (before now : ℕ) (fault : Option Fault) : Type 0 where
  pub usage : trial ≡ None → EndsSo (Some Usage) fault
  pub refused : (asked : Trial) (error : TemplateErr) → trial ≡ Some asked → IsRefusedScript asked error → EndsSo (Some (ScriptRefused error)) fault
  pub done : (response : List ℕ) → IsAnswered trial response → (HasRisen before now → ⊥) → EndsSo None fault
