-- How a card takes a command: it stores the counter, then runs the script command by command, each durable before the next.
use Rattle.std.specs.Prelude.{◌≡◌, ◌⊎◌, ℕ, zero, suc, ◌+◌, ◌*◌, ◌<◌, ◌≤◌, true, Option, Some, None, is_some, List, length}
use Rattle.aes_modes.specs.KeyPair.{KeyPair}
use Rattle.card_store.specs.Content.{Content, keyset_of, stored, took, script_part, unrun_line, ran_line}
use Rattle.card_store.specs.Replay.{Holds}
use Rattle.card_store.specs.Store.{Shows, StoreValue, StandsFor, Fits, NeedsFor}
use Rattle.command_packet.specs.declared.opening.Command.{Command}
use Rattle.disk_model.specs.Disk.{Meaning, Tells, image_now}
use Rattle.gate_log.specs.Opening.{LIMIT}
use Rattle.ota_core.specs.declared.cards.CardFacts.{CardFacts}
use Rattle.script_engine.specs.Run.{runs}
use Rattle.script_engine.specs.declared.card.CardState.{CardState}
use Rattle.script_engine.specs.declared.part.Part.{Part}
use Rattle.world_core.specs.declared.lines.Line.{Line}
use Rattle.receiving_entity.specs.Answer.{secured_answer}
use Rattle.receiving_entity.specs.declared.card_errors.CardErr.{CardErr}
use Rattle.receiving_entity.specs.declared.card_errors.CardErr.TheVariants as card_err
use Rattle.receiving_entity.specs.declared.verdicts.Verdict.{Verdict}
use Rattle.receiving_entity.specs.declared.verdicts.Verdict.TheVariants.{Takes}

-- the card has stored the counter of this command, and has run the first commands of its script, as many as are said, or all
abbrev pub taken : CardFacts → Content → Command → ℕ → Content
taken facts content command count = took facts content command.kvn command.counter command.tar command.body count

-- the line that this adds to its log
abbrev pub line_by : CardFacts → CardState → Command → ℕ → Option Part → Line
line_by facts card command count None = unrun_line facts command.kvn command.counter command.tar command.body
line_by facts card command count (Some part) =
    ran_line facts command.kvn command.counter command.tar command.body (runs card part command.body count)

abbrev pub line_of : CardFacts → Content → Command → ℕ → Line
line_of facts content command count = line_by facts content.card command count (script_part facts command.tar command.body)

-- the card between two steps: before the counter is stored, with it and nothing run, with the first command run, ..
abbrev pub at_step : CardFacts → Content → Command → ℕ → Content
at_step facts content command zero = content
at_step facts content command (suc count) = taken facts content command count

-- the counter is stored, and the script has come to its end with so many commands executed; a script that isn't run is at
-- its end with none
pub record HasTaken (facts : CardFacts) (content : Content) (command : Command) (executed : ℕ) (after : Content) : Type 0 where
  pub is : after ≡ taken facts content command executed
  pub ended : after.script ≡ None
  pub count : (line_of facts content command executed).executed ≡ executed

-- A command was stopped in a step of its own: within its counter, or within a command of its script. Memory may also be
-- wanting behind the last, for the answer.
abbrev pub IsStepOf : CardFacts → Content → Command → ℕ → CardErr → Type 0
IsStepOf facts content command zero error = Unit {0}
IsStepOf facts content command (suc count) card_err.PowerCut = (line_of facts content command (suc count)).executed ≡ suc count
IsStepOf facts content command (suc count) error = (line_of facts content command count).executed ≡ count

-- how far a stopped step has taken the clock since the moment it began: a fault of the disk is a device call
abbrev pub StopTicks : ℕ → ℕ → CardErr → Type 0
StopTicks began now card_err.PowerCut = (began < now) × (now ≤ began + 4)
StopTicks began now error = (began ≤ now) × (now < began + 4)

module _ {D B C : Type 0} (told : Meaning D B C) (old new : StoreValue D) (content : Content) (command : Command) where
  -- The command was taken and answered: by 00 and the compact response of its script, or by 07 or 09 without data, as its
  -- line says. There was room for the counter and all commands. Four device calls stored the counter, four each command,
  -- and there was no other. Whatever a stop leaves from now on holds the finished line.
  pub record HasAnswered (keys : KeyPair) (made : List (List ℕ)) : Type 0 where
    pub fits : Fits old.length command.body
    pub executed : ℕ
    pub after : Content
    pub has_taken : HasTaken old.facts content command executed after
    pub stands : StandsFor told new after
    pub durable : Tells told old.disk → (image : List ℕ) → image_now told new.disk image → Holds old.facts after image
    pub clock : Tells told old.disk → told.clock new.disk ≡ told.clock old.disk + 4 * (1 + executed)
    pub size : new.length ≡ old.length + 19 + length command.body + 10 * executed
    pub answer : made ≡ secured_answer keys command (line_of old.facts content command executed).status (line_of old.facts content command executed).answer

  -- The card was stopped within a step, or for want of memory behind the last: so many steps of four device calls each were
  -- made whole, and each image that the disk may be left with, and what a read gives, holds the card before the next step or
  -- behind it.
  pub record HasStopped (error : CardErr) : Type 0 where
    pub fits : Fits old.length command.body
    pub steps : ℕ
    pub within : IsStepOf old.facts content command steps error
    pub clock : Tells told old.disk → StopTicks (told.clock old.disk + 4 * steps) (told.clock new.disk) error
    pub left : Tells told old.disk → (image : List ℕ) → image_now told new.disk image
        → Holds old.facts (at_step old.facts content command steps) image ⊎ Holds old.facts (at_step old.facts content command (suc steps)) image

  -- the store has no room for the counter and all commands of the script
  pub record HasNoRoom (at need : ℕ) : Type 0 where
    pub needs : NeedsFor command.body need
    pub above : LIMIT < old.length + need
    pub length : at ≡ old.length

-- the store may store the counter of this command: it has the keyset, the counter is above the one that is stored, and the
-- script isn't too long
pub record IsStorable {D : Type 0} (store : StoreValue D) (command : Command) : Type 0 where
  pub known : is_some (keyset_of store.facts store.shown.card command.kvn) ≡ true
  pub above : (content : Content) → Shows content store.shown → stored store.facts content command.kvn < command.counter
  pub fits : length command.body ≤ 34168

-- the command is one that the card takes
abbrev pub IfTakes : Verdict → (Command → Type 0) → Type 0
IfTakes (Takes keys command) P = P command
IfTakes found P = Unit {0}
