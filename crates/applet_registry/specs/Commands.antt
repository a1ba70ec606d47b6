-- The commands on the load files and the applications of a card, each from the state, P1, P2, P3 and the data
-- to the state after it, the status word and the data that it gives. GlobalPlatform Card Specification
-- 2.1.1, 9.
--
-- P1 and P2 are tested first (6A86), and then what each command tests, in its order. Which case gives which
-- status word is this card's own. A refused command changes nothing, but that LOAD may drop the load under
-- way.
use Rattle.std.specs.Prelude.{ℕ, ◌+◌, ◌%◌, Bool, false, not, ◌==◌, ◌&&◌, ◌||◌, nat_lt, nat_le, if◌then◌else◌, Option, Some, None, option_and_then, option_map, ok_or, List, [], ◌∷◌, ◌++◌, length, Result, Ok, Err}
use Rattle.std.specs.Option.{option_map_or}
use Rattle.apdu_codec.specs.declared.refusal.Refusal.{Refusal}
use Rattle.apdu_codec.specs.declared.refusal.Refusal.TheVariants.{ConditionsNotMet, WrongData, NoRoom, WrongParameters, ReferenceNotFound}
use Rattle.apdu_codec.specs.Refusal.{◌>>=◌, ◌>>◌, only_if}
use Rattle.apdu_codec.specs.Reply.{Answer, answer}
use Rattle.applet_registry.specs.declared.application.Application.{Application}
use Rattle.applet_registry.specs.declared.application.NewState.{NewState}
use Rattle.applet_registry.specs.declared.load.Load.{Load}
use Rattle.applet_registry.specs.declared.load_file.LoadFile.{LoadFile}
use Rattle.applet_registry.specs.Aid.{aid_of}
use Rattle.applet_registry.specs.DataBlock.{data_block_of}
use Rattle.applet_registry.specs.Keyset.{keyset_of, are_same}
use Rattle.applet_registry.specs.Fields.{values_of, new_load_file_in, named_in, new_application_of, installed_of, tagged_value_of}
use Rattle.ota_core.specs.declared.keysets.KeysetFacts.{KeysetFacts}
use Rattle.applet_registry.specs.State.{State, is_issued, put_of, has_load_file, has_application, is_known, state_of, is_in_use, with_state, without_application, without_load_file, without_load, room_of, awaits_block, with_block}
use Rattle.applet_registry.specs.Status.{application_entries, load_file_entries, fitting}

-- a new registry holds nothing; it knows the numbers of the keysets with which the card was issued
abbrev pub issued_state : List ℕ → State
issued_state kvns = record { load_files = []; applications = []; load = None; issued = kvns; put = [] }

abbrev pub fresh_state : State
fresh_state = issued_state []

-- INSTALL, 9.5. An application that is installed has state 03, one that may be selected has 07 (9.1.1)

-- INSTALL [for load]: a load begins, and one under way is dropped; there are at most 32 load files
abbrev pub new_load_file : State → List ℕ → Result (List ℕ) Refusal
new_load_file s octets = do
  aid ← ok_or (new_load_file_in (values_of 5 octets)) WrongData
  only_if (not (is_known s aid)) ConditionsNotMet
  only_if (nat_lt (length s.load_files) 32) NoRoom
  Ok aid

abbrev pub with_load : State → List ℕ → State
with_load s aid = record s { load = Some (record { aid = aid; blocks = []; count = 0 }) }

abbrev pub beginning_load : State → List ℕ → Result (State × List ℕ) Refusal
beginning_load s octets = do
  aid ← new_load_file s octets
  Ok (with_load s aid, [])

-- INSTALL [for install], and [for install and make selectable]: an application is registered, in this state;
-- there are at most 64
abbrev pub new_application : ℕ → State → List ℕ → Result Application Refusal
new_application state s octets = do
  application ← ok_or (option_and_then (new_application_of state) (named_in (values_of 6 octets))) WrongData
  only_if (has_load_file s application.load_file) ReferenceNotFound
  only_if (not (is_known s application.aid)) ConditionsNotMet
  only_if (nat_lt (length s.applications) 64) NoRoom
  Ok application

abbrev pub with_application : State → Application → State
with_application s application = record s { applications = s.applications ++ application ∷ [] }

abbrev pub registering : ℕ → State → List ℕ → Result (State × List ℕ) Refusal
registering state s octets = do
  application ← new_application state s octets
  Ok (with_application s application, [])

-- INSTALL [for make selectable]: an installed application may be selected from now on
abbrev pub selectable : State → List ℕ → Result NewState Refusal
selectable s octets = do
  aid ← ok_or (option_and_then installed_of (named_in (values_of 6 octets))) WrongData
  state ← ok_or (state_of s.applications aid) ReferenceNotFound
  only_if (state == 0x03) ConditionsNotMet
  Ok (record { aid = aid; state = 0x07 })

abbrev pub making_selectable : State → List ℕ → Result (State × List ℕ) Refusal
making_selectable s octets = do
  new ← selectable s octets
  Ok (with_state s new, [])

abbrev pub installing : State → ℕ → ℕ → List ℕ → Result (State × List ℕ) Refusal
installing s p1 p2 octets =
    if not (p2 == 0) then Err WrongParameters
    else if p1 == 0x02 then beginning_load s octets
    else if p1 == 0x04 then registering 0x03 s octets
    else if p1 == 0x0C then registering 0x07 s octets
    else if p1 == 0x08 then making_selectable s octets
    else Err WrongParameters

abbrev pub install : State → ℕ → ℕ → ℕ → List ℕ → Answer State
install s p1 p2 p3 octets = answer s (installing s p1 p2 octets)

-- LOAD, 9.6: P1 80 marks the last block, P2 is the block's number. Load files have room for 65,536 octets, with
-- the blocks of a load under way

-- the block is the next one of the load under way
abbrev pub is_awaited : State → ℕ → Bool
is_awaited s p2 = option_map_or (λ load. awaits_block load p2) s.load false

abbrev pub awaiting : State → ℕ → ℕ → Result (Unit {0}) Refusal
awaiting s p1 p2 = do
  only_if (p1 == 0x00 || p1 == 0x80) WrongParameters
  only_if (is_awaited s p2) ConditionsNotMet

-- the load file that a load ends with, behind its last block
abbrev pub load_file_of : List ℕ → Load → Option LoadFile
load_file_of block load = option_map (λ octets. record { aid = load.aid; octets = octets }) (data_block_of (load.blocks ++ block))

abbrev pub with_load_file : State → LoadFile → State
with_load_file s file = record s { load_files = s.load_files ++ file ∷ []; load = None }

abbrev pub with_block_taken : State → List ℕ → State
with_block_taken s block = record s { load = option_map (λ load. with_block load block) s.load }

abbrev pub taking_block : State → ℕ → List ℕ → Result (State × List ℕ) Refusal
taking_block s p1 block = do
  only_if (nat_le (room_of s + length block) 65536) NoRoom
  if p1 == 0x00 then Ok (with_block_taken s block, [])
      else do
        file ← ok_or (option_and_then (load_file_of block) s.load) WrongData
        Ok (with_load_file s file, [])

-- a block that isn't the next one changes nothing; where one is refused that is the next, the load is dropped
abbrev pub load_from : State → ℕ → List ℕ → Result (Unit {0}) Refusal → Answer State
load_from s p1 block (Ok _) = answer (without_load s) (taking_block s p1 block)
load_from s p1 block (Err refusal) = answer s (Err refusal)

abbrev pub load : State → ℕ → ℕ → ℕ → List ℕ → Answer State
load s p1 p2 p3 octets = load_from s p1 octets (awaiting s p1 p2)

-- DELETE, 9.2: P2 80 takes a load file's applications away with it
abbrev pub deleting_aid : State → ℕ → List ℕ → Result (State × List ℕ) Refusal
deleting_aid s p2 aid =
    if has_application s aid then Ok (without_application s aid, [])
    else do
      only_if (has_load_file s aid) ReferenceNotFound
      only_if (p2 == 0x80 || not (is_in_use s aid)) ConditionsNotMet
      Ok (without_load_file s aid, [])

abbrev pub deleted_aid : ℕ → ℕ → List ℕ → Result (List ℕ) Refusal
deleted_aid p1 p2 octets = do
  only_if (p1 == 0x00 && (p2 == 0x00 || p2 == 0x80)) WrongParameters
  ok_or (option_and_then aid_of (tagged_value_of octets)) WrongData

abbrev pub deleting : State → ℕ → ℕ → List ℕ → Result (State × List ℕ) Refusal
deleting s p1 p2 octets = do
  aid ← deleted_aid p1 p2 octets
  deleting_aid s p2 aid

abbrev pub delete_object : State → ℕ → ℕ → ℕ → List ℕ → Answer State
delete_object s p1 p2 p3 octets = answer s (deleting s p1 p2 octets)

-- SET STATUS, 9.10: b8 of P2 locks an application or unlocks it

-- a state with b8 as in another octet, and its other bits
abbrev pub with_lock : ℕ → ℕ → ℕ
with_lock p2 state = if nat_lt p2 0x80 then state % 0x80 else state % 0x80 + 0x80

abbrev pub relocked : State → ℕ → ℕ → List ℕ → Result NewState Refusal
relocked s p1 p2 octets = do
  only_if (p1 == 0x40) WrongParameters
  aid ← ok_or (aid_of octets) WrongData
  state ← ok_or (state_of s.applications aid) ReferenceNotFound
  Ok (record { aid = aid; state = with_lock p2 state })

abbrev pub setting_status : State → ℕ → ℕ → List ℕ → Result (State × List ℕ) Refusal
setting_status s p1 p2 octets = do
  new ← relocked s p1 p2 octets
  Ok (with_state s new, [])

abbrev pub set_status : State → ℕ → ℕ → ℕ → List ℕ → Answer State
set_status s p1 p2 p3 octets = answer s (setting_status s p1 p2 octets)

-- GET STATUS, 9.4: P1 80 lists the issuer's security domain, of which there is none here, 40 applications,
-- 20 load files; those whose AID begins with a prefix, as many entries as fit 256 octets
abbrev pub listed : State → ℕ → List ℕ → List (List ℕ)
listed s p1 prefix =
    if p1 == 0x40 then application_entries prefix s.applications
    else if p1 == 0x20 then load_file_entries prefix s.load_files
    else []

abbrev pub status_of : State → ℕ → ℕ → List ℕ → Result (List ℕ) Refusal
status_of s p1 p2 octets = do
  only_if ((p1 == 0x80 || p1 == 0x40 || p1 == 0x20) && p2 == 0x00) WrongParameters
  prefix ← ok_or (tagged_value_of octets) WrongData
  let entries = fitting 256 (listed s p1 prefix)
  only_if (nat_lt 0 (length entries)) ReferenceNotFound
  Ok entries

abbrev pub getting_status : State → ℕ → ℕ → List ℕ → Result (State × List ℕ) Refusal
getting_status s p1 p2 octets = do
  entries ← status_of s p1 p2 octets
  Ok (s, entries)

abbrev pub get_status : State → ℕ → ℕ → ℕ → List ℕ → Answer State
get_status s p1 p2 p3 octets = answer s (getting_status s p1 p2 octets)

-- PUT KEY, 9.8; its data field is this card's own: the mode, whether packets are ciphered, and KIc and KID, each
-- behind its length. P2 is the number of the keyset (ETSI TS 102 225, 5.1.2)

-- a keyset with these data is put, unless one with other data was put with this number
abbrev pub put_beside : State → ℕ → KeysetFacts → Option KeysetFacts → Result (State × List ℕ) Refusal
put_beside s kvn keyset None = Ok (record s { put = s.put ++ (kvn, keyset) ∷ [] }, [])
put_beside s kvn keyset (Some before) = only_if (are_same before keyset) ConditionsNotMet >> Ok (s, [])

abbrev pub putting_key : State → ℕ → ℕ → List ℕ → Result (State × List ℕ) Refusal
putting_key s p1 p2 octets = do
  only_if (p1 == 0x00 && nat_le 0x01 p2 && nat_le p2 0x0F) WrongParameters
  keyset ← ok_or (keyset_of octets) WrongData
  only_if (not (is_issued s p2)) ConditionsNotMet
  put_beside s p2 keyset (put_of s p2)

abbrev pub put_key : State → ℕ → ℕ → ℕ → List ℕ → Answer State
put_key s p1 p2 p3 octets = answer s (putting_key s p1 p2 octets)
