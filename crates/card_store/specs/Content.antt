-- What a card has: its log, its files and registry, and how far the script that it stored last has come.
-- ETSI TS 102 225, 5.1.1 has the counters, ETSI TS 102 226, 5.2.1 the scripts.
use Rattle.std.specs.Prelude.{ℕ, suc, ◌+◌, Bool, true, ◌&&◌, nat_le, nat_lt, if◌then◌else◌, Option, Some, None, is_some, is_none, option_map, List, [], ◌∷◌, ◌++◌, length, map}
use Rattle.std.specs.Option.{option_or}
use Rattle.apdu_codec.specs.Compact.{compact_response_of}
use Rattle.apdu_codec.specs.Reply.{Answer}
use Rattle.applet_registry.specs.State.{put_of}
use Rattle.ota_core.specs.Keyset.{Keyset}
use Rattle.ota_core.specs.declared.cards.CardFacts.{CardFacts}
use Rattle.ota_core.specs.declared.keysets.KeysetFacts.{KeysetFacts}
use Rattle.script_engine.specs.Part.{part_of}
use Rattle.script_engine.specs.Run.{issued_card, Progress, runs}
use Rattle.script_engine.specs.Step.{script_step}
use Rattle.script_engine.specs.declared.card.CardState.{CardState}
use Rattle.script_engine.specs.declared.part.Part.{Part}
use Rattle.world_core.specs.Card.{facts_under, base_of, stored_counter, line_status}
use Rattle.world_core.specs.declared.lines.Line.{Line}
use Rattle.card_store.specs.declared.scripts.Script.{Script}

pub record Content : Type 0 where
  -- oldest first
  pub log : List Line
  pub card : CardState
  -- the script that was stored last, where a command of it is left
  pub script : Option Script

-- a card as it was issued
abbrev pub issued : CardFacts → Content
issued facts = record { log = []; card = issued_card (map (λ keyset. keyset.0) facts.keysets); script = None }

-- the keyset of the card with this key version number
abbrev pub keyset_named : CardFacts → ℕ → Keyset
keyset_named facts kvn = record { card = facts.card; kvn = kvn }

-- its facts: the keyset is one of those with which the card was issued, or one that was put
abbrev pub keyset_of : CardFacts → CardState → ℕ → Option KeysetFacts
keyset_of facts card kvn = option_or (facts_under kvn facts.keysets) (put_of card.registry kvn)

-- the counter that is stored for it: that of its last line, or its base, which is 0 for a keyset that was put
abbrev pub stored : CardFacts → Content → ℕ → ℕ
stored facts content kvn = stored_counter (base_of facts (keyset_named facts kvn)) (keyset_named facts kvn) content.log

-- the same, where the card has the keyset
abbrev pub counter_if : CardFacts → Content → ℕ → Option ℕ
counter_if facts content kvn = if is_some (keyset_of facts content.card kvn) then Some (stored facts content kvn) else None

-- the card may store this counter: it has the keyset, and the counter is higher than the one that is stored
abbrev pub may_store : CardFacts → Content → ℕ → ℕ → Bool
may_store facts content kvn counter = is_some (keyset_of facts content.card kvn) && nat_lt (stored facts content kvn) counter

-- the part of the card that a script is for; none, where no application of the card has its TAR, or where it is longer
-- than the card's buffer: such a script isn't run
abbrev pub script_part : CardFacts → List ℕ → List ℕ → Option Part
script_part facts tar body = if nat_le (length body) facts.buffer then part_of tar facts.rfm facts.ram else None

-- the compact response of a script that has ended
abbrev pub response_if_ended : Option ℕ → ℕ → Answer CardState → List ℕ
response_if_ended next count last = if is_none next then compact_response_of count last.sw last.out else []

-- the line of a script that isn't run
abbrev pub unrun_line : CardFacts → ℕ → ℕ → List ℕ → List ℕ → Line
unrun_line facts kvn counter tar body = record {
  keyset = keyset_named facts kvn;
  counter = counter;
  tar = tar;
  body = body;
  executed = 0;
  finished = true;
  status = line_status facts tar body;
  answer = [];
}

-- the line of a script that has come so far
abbrev pub ran_line : CardFacts → ℕ → ℕ → List ℕ → List ℕ → Progress → Line
ran_line facts kvn counter tar body run = record {
  keyset = keyset_named facts kvn;
  counter = counter;
  tar = tar;
  body = body;
  executed = run.count;
  finished = is_none run.next;
  status = line_status facts tar body;
  answer = response_if_ended run.next run.count run.last;
}

-- the script goes on at this place
abbrev pub left_of : Part → List ℕ → Option ℕ → Option Script
left_of part body next = option_map (λ at. record { part = part; body = body; next = at }) next

abbrev pub took_for : CardFacts → Content → ℕ → ℕ → List ℕ → List ℕ → ℕ → Option Part → Content
took_for facts content kvn counter tar body count None =
    record { log = content.log ++ unrun_line facts kvn counter tar body ∷ []; card = content.card; script = None }
took_for facts content kvn counter tar body count (Some part) =
    let run = runs content.card part body count in record {
      log = content.log ++ ran_line facts kvn counter tar body run ∷ [];
      card = run.last.after;
      script = left_of part body run.next;
    }

-- the card has stored this counter of the keyset, with TAR and script, and has run the first commands of the script, as
-- many as are said, or all
abbrev pub took : CardFacts → Content → ℕ → ℕ → List ℕ → List ℕ → ℕ → Content
took facts content kvn counter tar body count = took_for facts content kvn counter tar body count (script_part facts tar body)

-- the last of these is another
abbrev pub with_last : {X : Type 0} → (X → X) → List X → List X
with_last f [] = []
with_last f (x ∷ []) = f x ∷ []
with_last f (x ∷ y ∷ ys) = x ∷ with_last f (y ∷ ys)

-- one command more was executed: this is its answer, and the script goes on at this place, or has ended
abbrev pub executed_one : Answer CardState → Option ℕ → Line → Line
executed_one last next line = record line {
  executed = line.executed + 1;
  finished = is_none next;
  answer = response_if_ended next (line.executed + 1) last;
}

abbrev pub ran_on : Content → Script → Answer CardState × Option ℕ → Content
ran_on content script step = record {
  log = with_last (executed_one step.0 step.1) content.log;
  card = step.0.after;
  script = left_of script.part script.body step.1;
}

-- the next command of the script that was stored last was run; None, where no command is left
abbrev pub after_command : Content → Option Content
after_command content =
    option_map (λ script. ran_on content script (script_step content.card script.part script.body script.next)) content.script
