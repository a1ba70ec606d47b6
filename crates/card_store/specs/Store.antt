-- What contracts see of a card's store, and what its calls answer.
use Rattle.std.specs.Prelude.{◌≡◌, ◌⊎◌, ℕ, ◌+◌, ◌*◌, ◌^◌, ◌<◌, ◌≤◌, Bool, true, is_none, is_some, IfSome, Option, Some, None, List, [], ◌∷◌, ◌++◌, length, map, Result, Ok, Err, refl}
use Rattle.std.specs.Coded.{Coded, code_by, coded×, coded_ℕ, coded_bool, coded_list, coded_option}
use Rattle.apdu_codec.specs.Script.{HasCommands}
use Rattle.disk_model.specs.Counts.{Counts, HasRisen}
use Rattle.disk_model.specs.Disk.{Meaning, Tells, image_now}
use Rattle.disk_model.specs.declared.faults.DiskFault.TheVariants as fault
use Rattle.gate_log.specs.Log.{log_octets}
use Rattle.gate_log.specs.Making.{IsNew}
use Rattle.gate_log.specs.Opening.{OpensAlike, IsOpened, IsOpenLog, LIMIT}
use Rattle.gate_log.specs.Reading.{Reading, parts_of}
use Rattle.gate_log.specs.Reading.Reading.{Unformatted, NotALog, OtherHead, Opened}
use Rattle.ota_core.specs.declared.cards.CardFacts.{CardFacts}
use Rattle.script_engine.specs.declared.card.CardState.{CardState}
use Rattle.world_core.specs.declared.lines.Line.{Line}
use Rattle.card_store.specs.Content.{Content}
use Rattle.card_store.specs.Parts.{store_head}
use Rattle.card_store.specs.Replay.{replayed, Holds, IsContentOf, IsDamagedAt}
use Rattle.card_store.specs.declared.card_lines.CardLine.{CardLine}
use Rattle.card_store.specs.declared.scripts.Script.{Script}
use Rattle.card_store.specs.declared.store_errors.StoreErr.{StoreErr}
use Rattle.card_store.specs.declared.store_errors.StoreErr.TheVariants as store_err

-- what a store lends: the lines of the card, its files and registry, and the script of which a command is left
pub record Shown : Type 0 where
  pub lines : List CardLine
  pub card : CardState
  pub script : Option Script

-- what is lent is stored as the tuple of its parts
abbrev pub shown_code : Coded CardLine → Coded CardState → Coded Script → Coded Shown
shown_code line card script =
    code_by (List CardLine × (CardState × Option Script)) (coded× (coded_list line) (coded× card (coded_option script)))
    (λ s. (s.lines, (s.card, s.script))) (λ p. record { lines = p.0; card = p.1.0; script = p.1.1 }) (λ _. refl)

-- a line without TAR, script and answer
abbrev pub card_line : Line → CardLine
card_line line = record { keyset = line.keyset; counter = line.counter; executed = line.executed; finished = line.finished; status = line.status }

-- what is lent is that of this card
pub record Shows (content : Content) (shown : Shown) : Type 0 where
  pub lines : shown.lines ≡ map card_line content.log
  pub card : shown.card ≡ content.card
  pub script : shown.script ≡ content.script

-- what contracts see of a store: its disk, the facts with which the card was issued, what it lends, the length of its log
-- in octets, and whether it may be written to: a fault of the disk ends that until the store is opened again
pub record StoreValue (D : Type 0) : Type 0 where
  pub disk : D
  pub facts : CardFacts
  pub shown : Shown
  pub length : ℕ
  pub ready : Bool

-- a store is stored as the tuple of its parts
abbrev pub store_code : {D : Type 0} → Coded D → Coded CardFacts → Coded Shown → Coded (StoreValue D)
store_code {D = D} disk facts shown =
    code_by (D × (CardFacts × (Shown × (ℕ × Bool)))) (coded× disk (coded× facts (coded× shown (coded× coded_ℕ coded_bool))))
    (λ s. (s.disk, (s.facts, (s.shown, (s.length, s.ready))))) (λ p. record { disk = p.0; facts = p.1.0; shown = p.1.1.0; length = p.1.1.1.0; ready = p.1.1.1.1 }) (λ _. refl)

-- the disk holds a log of this length whose parts are those of this card, with nothing behind it, and a stop leaves just that
pub record IsKeptOn {D B C : Type 0} (told : Meaning D B C) (disk : D) (facts : CardFacts) (length : ℕ) (content : Content) : Type 0 where
  pub open_log : IsOpenLog told disk length
  pub parts : List (List ℕ)
  pub opens : parts_of store_head (told.seen disk) ≡ Opened parts []
  pub replays : replayed facts parts ≡ Some content

-- the store stands for this card: it lends what is the card's, and its disk, where it tells and the store is ready, holds it
pub record StandsFor {D B C : Type 0} (told : Meaning D B C) (store : StoreValue D) (content : Content) : Type 0 where
  pub shows : Shows content store.shown
  pub kept : store.ready ≡ true → Tells told store.disk → IsKeptOn told store.disk store.facts store.length content

-- ---- openings

-- the octets that an opening leaves: an empty log where none was made, and else the log without what lay behind its gate
abbrev pub IsLeft : List ℕ → List ℕ → ℕ → Type 0
IsLeft old new len = ((parts_of store_head old ≡ Unformatted) × (new ≡ log_octets store_head []) × (len ≡ 11)) ⊎ IsOpened store_head old new len

-- a refusal leaves all octets, or what an opening leaves
abbrev pub IsLeftByRefusal : List ℕ → List ℕ → Type 0
IsLeftByRefusal old new = (new ≡ old) ⊎ ((len : ℕ) × IsLeft old new len)

-- At a moment of an opening: what stood before; or, where no log was made, none or one without parts; or what opens to the
-- parts that are read.
abbrev pub IsBeforeOrOpened : {D B C : Type 0} (told : Meaning D B C) → D → List ℕ → Type 0
IsBeforeOrOpened told old image =
    image_now told old image ⊎ ((parts_of store_head (told.seen old) ≡ Unformatted) × IsNew store_head image) ⊎ OpensAlike store_head (told.seen old) image

-- the opened store stands for the card that the octets stood for
pub record IsOpenedStore {D B C : Type 0} (told : Meaning D B C) (octets : List ℕ) (store : StoreValue D) : Type 0 where
  pub content : Content
  pub stands : StandsFor told store content
  pub was : IsContentOf store.facts (parts_of store_head octets) content
  pub left : IsLeft octets (told.seen store.disk) store.length

-- what a refusal says of the octets. Want of memory and faults of the disk say nothing of them
abbrev pub StoreRefuses : CardFacts → Reading → StoreErr → Type 0
StoreRefuses facts read store_err.Memory = Unit {0}
StoreRefuses facts read (store_err.DiskFault fault) = Unit {0}
StoreRefuses facts read store_err.NotALog = read ≡ NotALog
StoreRefuses facts read (store_err.OtherHead rest) = read ≡ OtherHead rest
StoreRefuses facts read (store_err.Damaged number) = IsDamagedAt facts read number
StoreRefuses facts read (store_err.Full length need) = ⊥

-- the disk of an opened store, or the one that a refusal hands back
abbrev pub disk_in : {D : Type 0} → Result (StoreValue D) (D × StoreErr) → D
disk_in (Ok store) = store.disk
disk_in (Err refusal) = refusal.0

abbrev pub error_in : {D : Type 0} → Result (StoreValue D) (D × StoreErr) → Result (StoreValue D) StoreErr
error_in (Ok store) = Ok store
error_in (Err refusal) = Err refusal.1

-- a store wasn't refused for want of room
abbrev pub IsNotFull : StoreErr → Type 0
IsNotFull (store_err.Full length need) = ⊥
IsNotFull error = Unit {0}

-- ---- additions

-- the octets that a counter with its TAR and this script needs, and the commands of the script: for the first 19 and the
-- script, for each command 10
abbrev pub NeedsFor : List ℕ → ℕ → Type 0
NeedsFor body need = (count : ℕ) × HasCommands body 0 count × (need ≡ 19 + length body + 10 * count)

abbrev pub Fits : ℕ → List ℕ → Type 0
Fits len body = (need : ℕ) × NeedsFor body need × (len + need ≤ LIMIT)

-- a counter is refused for want of room exactly where its own part and those of all commands of its script have none
abbrev pub CounterAnswer : ℕ → List ℕ → Result (Unit {0}) StoreErr → Type 0
CounterAnswer len body (Ok done) = Fits len body
CounterAnswer len body (Err store_err.Memory) = Unit {0}
CounterAnswer len body (Err (store_err.DiskFault fault)) = Fits len body
CounterAnswer len body (Err (store_err.Full at need)) = NeedsFor body need × (LIMIT < len + need) × (at ≡ len)
CounterAnswer len body (Err other) = ⊥

-- there is room for all commands that are left of the script
abbrev pub HasRoomFor : ℕ → Option Script → Type 0
HasRoomFor len None = Unit {0}
HasRoomFor len (Some script) = (count : ℕ) × HasCommands script.body script.next count × (len + 10 * count ≤ LIMIT)

abbrev pub HasRoom : {D : Type 0} → StoreValue D → Type 0
HasRoom store = HasRoomFor store.length store.shown.script

-- the answers of a command: it was run, or memory was wanting, or the disk answered a fault
abbrev pub IsWantOrFault : StoreErr → Type 0
IsWantOrFault store_err.Memory = Unit {0}
IsWantOrFault (store_err.DiskFault fault) = Unit {0}
IsWantOrFault error = ⊥

-- the disk answered a fault
abbrev pub IsFault : StoreErr → Type 0
IsFault (store_err.DiskFault fault) = Unit {0}
IsFault error = ⊥

-- the call came to its device calls
abbrev pub IfWritten : {T : Type 0} → Result T StoreErr → Type 0 → Type 0
IfWritten (Ok value) P = P
IfWritten (Err (store_err.DiskFault fault)) P = P
IfWritten (Err other) P = Unit {0}

-- the call ended before its first device call
abbrev pub UnlessWritten : {T : Type 0} → Result T StoreErr → Type 0 → Type 0
UnlessWritten (Ok value) P = Unit {0}
UnlessWritten (Err (store_err.DiskFault fault)) P = Unit {0}
UnlessWritten (Err other) P = P

-- the disk answered a fault
abbrev pub OnFault : {T : Type 0} → Result T StoreErr → Type 0 → Type 0
OnFault (Err (store_err.DiskFault fault)) P = P
OnFault result P = Unit {0}

-- How far an addition takes the clock: at Ok by four device calls, and by none where it ends before the first.
abbrev pub AddTicks : {T : Type 0} → ℕ → ℕ → Result T StoreErr → Type 0
AddTicks before now (Ok value) = now ≡ before + 4
AddTicks before now (Err (store_err.DiskFault fault.Failed)) = (before < now) × (now ≤ before + 4)
AddTicks before now (Err (store_err.DiskFault fault.Memory)) = (before ≤ now) × (now < before + 4)
AddTicks before now (Err other) = now ≡ before

-- ---- causes

abbrev pub StoreErrCause : Counts → Counts → StoreErr → Type 0
StoreErrCause before now (store_err.DiskFault fault.Failed) = HasRisen before.faults now.faults
StoreErrCause before now (store_err.DiskFault fault.Memory) = HasRisen before.wants now.wants
StoreErrCause before now other = now ≡ before

abbrev pub StoreAnswerCause : {T : Type 0} → Counts → Counts → Result T StoreErr → Type 0
StoreAnswerCause before now (Ok value) = now ≡ before
StoreAnswerCause before now (Err error) = StoreErrCause before now error

-- A fault of the disk comes only where its count rose. With every other answer the counts stay.
pub record StoreCause {T : Type 0} (before now : Counts) (result : Result T StoreErr) : Type 0 where
  pub faults : before.faults ≤ now.faults
  pub wants : before.wants ≤ now.wants
  pub beside : now.beside ≡ before.beside
  pub answer : StoreAnswerCause before now result

-- the disk made its calls, each of them
abbrev pub UnlessFault : {T : Type 0} → Result T StoreErr → Type 0 → Type 0
UnlessFault (Err (store_err.DiskFault fault)) P = Unit {0}
UnlessFault result P = P
