-- A whole script on a card. ETSI TS 102 226, 5.2.1.
use Rattle.std.specs.Prelude.{◌≡◌, ℕ, true, zero, suc, ◌==◌, if◌then◌else◌, Option, Some, None, List, [], length}
use Rattle.apdu_codec.specs.Reply.{Answer}
use Rattle.card_files.specs.Fresh as files
use Rattle.applet_registry.specs.Commands as registry
use Rattle.script_engine.specs.declared.card.CardState.{CardState}
use Rattle.script_engine.specs.declared.part.Part.{Part}
use Rattle.script_engine.specs.Step.{script_step}
use Rattle.script_engine.specs.Wants.{step_wants}

-- a new card: the files of a new card, and a registry that holds nothing and knows the numbers of the keysets
-- with which the card was issued
abbrev pub issued_card : List ℕ → CardState
issued_card kvns = record { files = files.fresh_state; registry = registry.issued_state kvns }

abbrev pub fresh_card : CardState
fresh_card = issued_card []

-- the card at the start of a script: the MF is selected, and no EF; the registry is as it was, with the load
-- under way
abbrev pub with_mf_selected : CardState → CardState
with_mf_selected card = record card { files = record card.files { folder = []; ef = None } }

-- how far a script has come: how many commands were executed, where the next one begins (none, where the
-- script has ended), and the last answer with the card after it
pub record Progress : Type 0 where
  pub count : ℕ
  pub next : Option ℕ
  pub last : Answer CardState

-- nothing was executed yet; a script without commands is answered 9000
abbrev pub start : CardState → List ℕ → Progress
start card script = record {
  count = 0;
  next = if length script == 0 then None else Some 0;
  last = record { after = with_mf_selected card; sw = 0x9000; out = [] };
}

-- one command more, where the script hasn't ended
abbrev pub advanced_from : Part → List ℕ → Progress → Option ℕ → Progress
advanced_from part script progress None = progress
advanced_from part script progress (Some at) =
    let step = script_step progress.last.after part script at in
    record { count = suc progress.count; next = step.1; last = step.0 }

abbrev pub advanced : Part → List ℕ → Progress → Progress
advanced part script progress = advanced_from part script progress progress.next

-- the first commands of a script one after the other, as many as are said, or all
abbrev pub runs : CardState → Part → List ℕ → ℕ → Progress
runs card part script zero = start card script
runs card part script (suc count) = advanced part script (runs card part script count)

-- a script was run to its end: so many commands were executed, and this is the last answer
abbrev pub HasRun : CardState → Part → List ℕ → ℕ → Answer CardState → Type 0
HasRun card part script count last = runs card part script count ≡ record { count = count; next = None; last = last }

-- some first commands of a script were run, and left the card so; the next one may want memory
abbrev pub HasBegun : CardState → Part → List ℕ → CardState → Type 0
HasBegun card part script after =
    (count at : ℕ) × ((runs card part script count).last.after ≡ after) × ((runs card part script count).next ≡ Some at)
    × (step_wants part script at ≡ true)
