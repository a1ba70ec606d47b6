-- How the script of a command runs, whose counter is stored.
use Rattle.std.specs.Prelude.{◌≡◌, ◌⊎◌, ℕ, suc, ◌+◌, ◌*◌, ◌-◌, ◌<◌, ◌==◌, if◌then◌else◌, IfSome, List, [], length, slice_get}
use Rattle.std.specs.Option.{option_map_or}
use Rattle.aes_modes.specs.KeyPair.{KeyPair}
use Rattle.apdu_codec.specs.Compact.{compact_response_of}
use Rattle.card_store.specs.Content.{Content}
use Rattle.card_store.specs.Replay.{Holds}
use Rattle.card_store.specs.Store.{Shown, StoreValue, StandsFor}
use Rattle.card_store.specs.declared.card_lines.CardLine.{CardLine}
use Rattle.command_packet.specs.declared.opening.Command.{Command}
use Rattle.disk_model.specs.Disk.{Meaning, Tells, image_now}
use Rattle.script_engine.specs.declared.ran.Ran.{Ran}
use Rattle.receiving_entity.specs.Answer.{secured_answer}
use Rattle.receiving_entity.specs.Taking.{HasTaken, IsStepOf, StopTicks, line_of, taken}
use Rattle.receiving_entity.specs.declared.card_errors.CardErr.{CardErr}
use Rattle.receiving_entity.specs.declared.card_errors.CardErr.TheVariants as card_err

-- a command of the script begins where the script goes on
abbrev pub BeginsWithin : Shown → Type 0
BeginsWithin shown = IfSome shown.script (λ script. script.next < length script.body)

-- an image holds the card with the first commands of the script
abbrev pub HoldsSome : {D : Type 0} → StoreValue D → Content → Command → List ℕ → Type 0
HoldsSome store content command image = (count : ℕ) × Holds store.facts (taken store.facts content command count) image

module _ {D B C : Type 0} (told : Meaning D B C) (old new : StoreValue D) (content : Content) (command : Command) where
  -- the script came to its end: four device calls for each command, and this compact response
  pub record HasRun (ran : Ran) : Type 0 where
    pub after : Content
    pub has_taken : HasTaken old.facts content command ran.count after
    pub stands : StandsFor told new after
    pub clock : Tells told old.disk → told.clock new.disk ≡ told.clock old.disk + 4 * ran.count
    pub size : new.length ≡ old.length + 10 * ran.count
    pub response : (line_of old.facts content command ran.count).status ≡ 0x00
        → (line_of old.facts content command ran.count).answer ≡ compact_response_of ran.count ran.reply.sw ran.reply.out.items

  -- it was stopped behind so many commands, within the next one or behind the last
  pub record HasHalted (error : CardErr) : Type 0 where
    pub count : ℕ
    pub within : IsStepOf old.facts content command (suc count) error
    pub clock : Tells told old.disk → StopTicks (told.clock old.disk + 4 * count) (told.clock new.disk) error
    pub left : Tells told old.disk → (image : List ℕ) → image_now told new.disk image
        → Holds old.facts (taken old.facts content command count) image ⊎ Holds old.facts (taken old.facts content command (suc count)) image

  -- the script came to its end, and was answered
  pub record HasFinished (keys : KeyPair) (made : List (List ℕ)) : Type 0 where
    pub executed : ℕ
    pub after : Content
    pub has_taken : HasTaken old.facts content command executed after
    pub stands : StandsFor told new after
    pub durable : Tells told old.disk → (image : List ℕ) → image_now told new.disk image → Holds old.facts after image
    pub clock : Tells told old.disk → told.clock new.disk ≡ told.clock old.disk + 4 * executed
    pub size : new.length ≡ old.length + 10 * executed
    pub answer : made ≡ secured_answer keys command (line_of old.facts content command executed).status (line_of old.facts content command executed).answer

-- want of memory, or a cut
abbrev pub IsWantOrCut : CardErr → Type 0
IsWantOrCut card_err.Memory = Unit {0}
IsWantOrCut card_err.PowerCut = Unit {0}
IsWantOrCut error = ⊥

-- ---- the answer

-- the status of the last line
abbrev pub last_status_of : List CardLine → ℕ
last_status_of lines = option_map_or (λ line. line.status) (slice_get lines (length lines - 1)) 0

-- the data of the answer with this status: the compact response of a script that was run, and else none
abbrev pub response_to : ℕ → Ran → List ℕ
response_to status ran = if status == 0x00 then compact_response_of ran.count ran.reply.sw ran.reply.out.items else []
