-- The octets of an entry, one part of a batch, in the two versions of the format: its kind, its sender, its keyset, in
-- version 2 its moment, and what that kind has further. Numbers of several octets have the highest octet first.
use Rattle.std.specs.Prelude.{◌≡◌, ℕ, Bool, true, false, List, [], ◌∷◌, ◌++◌, length}
use Rattle.std.specs.Int.{bytes_high_first}
use Rattle.gate_log.specs.Log.{four}
use Rattle.ota_core.specs.Keyset.{Keyset}
use Rattle.ota_core.specs.Entry.{moment_of}
use Rattle.ota_core.specs.declared.jobs.JobId.{JobId}
use Rattle.ota_core.specs.declared.keysets.Mode.{Mode}
use Rattle.ota_core.specs.declared.keysets.Mode.TheVariants.{Higher, Next}
use Rattle.ota_core.specs.declared.keysets.KeysetFacts.{KeysetFacts}
use Rattle.ota_core.specs.declared.entries.Entry.{Entry}
use Rattle.ota_core.specs.declared.entries.Entry.TheVariants.{Open, Reserve, Done, Refused, Close}
use Rattle.counter_journal.specs.declared.versions.Version.{Version}
use Rattle.counter_journal.specs.declared.versions.Version.TheVariants.{First, Second}

-- a counter in five octets (ETSI TS 102 225, 5.1.1)
unfoldable pub five : ℕ → List ℕ
five counter = bytes_high_first 5 counter

-- the number of a card, or a moment, in eight octets
unfoldable pub eight : ℕ → List ℕ
eight number = bytes_high_first 8 number

-- a moment: version 1 has none
abbrev pub moment_octets : Version → ℕ → List ℕ
moment_octets First moment = []
moment_octets Second moment = eight moment

-- the name of a campaign behind its length: version 1 has none
abbrev pub name_octets : Version → List ℕ → List ℕ
name_octets First name = []
name_octets Second name = length name ∷ name

-- what each entry begins with: its kind, its sender, its keyset and its moment
abbrev pub front_octets : Version → ℕ → ℕ → ℕ → Keyset → List ℕ
front_octets version kind by moment keyset = kind ∷ four by ++ eight keyset.card.0 ++ keyset.kvn ∷ [] ++ moment_octets version moment

-- the counter mode as the SPI has it (ETSI TS 102 225, 5.1.1): 10 process only if higher, 11 process only if one higher
abbrev pub mode_octet : Mode → ℕ
mode_octet Higher = 0x02
mode_octet Next = 0x03

abbrev pub flag_octet : Bool → ℕ
flag_octet false = 0x00
flag_octet true = 0x01

-- a key behind its length
abbrev pub key_octets : List ℕ → List ℕ
key_octets key = length key ∷ key

abbrev pub facts_octets : KeysetFacts → List ℕ
facts_octets facts = five facts.base ++ mode_octet facts.mode ∷ flag_octet facts.ciphered ∷ [] ++ key_octets facts.kic ++ key_octets facts.kid

abbrev pub job_octets : JobId → List ℕ
job_octets job = four job.campaign ++ four job.job

-- the octets of an entry in this version
abbrev pub entry_octets : Version → Entry → List ℕ
entry_octets version (Open by moment keyset facts) = front_octets version 0x01 by moment keyset ++ facts_octets facts
entry_octets version (Reserve by moment keyset counter job tar name body) =
    front_octets version 0x02 by moment keyset ++ five counter ++ job_octets job ++ tar ++ name_octets version name ++ body
entry_octets version (Done by moment keyset counter answer) = front_octets version 0x03 by moment keyset ++ five counter ++ answer
entry_octets version (Refused by moment keyset counter status) = front_octets version 0x04 by moment keyset ++ five counter ++ status ∷ []
entry_octets version (Close by moment keyset) = front_octets version 0x05 by moment keyset

-- the part that says that version 2 begins
abbrev pub MARK : List ℕ
MARK = 0x06 ∷ 0x02 ∷ []

-- the campaign's name of a reservation
abbrev pub name_of : Entry → List ℕ
name_of (Reserve by moment keyset counter job tar name body) = name
name_of _ = []

-- the entry can be written in this version: version 1 has neither moments nor names
abbrev pub IsOfVersion : Version → Entry → Type 0
IsOfVersion First entry = (moment_of entry ≡ 0) × (name_of entry ≡ [])
IsOfVersion Second entry = Unit {0}
