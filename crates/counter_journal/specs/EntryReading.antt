-- How an entry is read from its octets: field by field, each with what follows it.
use Rattle.std.specs.Prelude.{ℕ, ◌==◌, ◌&&◌, nat_le, nat_lt, Bool, true, false, if◌then◌else◌, Option, Some, None, List, [], ◌∷◌, length, take, drop}
use Rattle.std.specs.Option.{option_and_then}
use Rattle.std.specs.Int.{Width, w32, w64, byte_len, from_be_bytes}
use Rattle.ota_core.specs.KeyBytes.{is_key_length}
use Rattle.ota_core.specs.Keyset.{Keyset}
use Rattle.ota_core.specs.declared.jobs.JobId.{JobId}
use Rattle.ota_core.specs.declared.keysets.Mode.{Mode}
use Rattle.ota_core.specs.declared.keysets.Mode.TheVariants.{Higher, Next}
use Rattle.ota_core.specs.declared.keysets.KeysetFacts.{KeysetFacts}
use Rattle.ota_core.specs.declared.entries.Entry.{Entry}
use Rattle.ota_core.specs.declared.entries.Entry.TheVariants.{Open, Reserve, Done, Refused, Close}
use Rattle.counter_journal.specs.declared.versions.Version.{Version}
use Rattle.counter_journal.specs.declared.versions.Version.TheVariants.{First, Second}
use Rattle.counter_journal.specs.EntryRanges.{LONGEST_BODY, LONGEST_NAME}

-- the second step where the first one gives a value
infixl 10 ◌>>=◌
abbrev pub ◌>>=◌ : {A B : Type 0} → Option A → (A → Option B) → Option B
read >>= next = option_and_then next read

-- the value, where the test holds
abbrev pub only_if : {A : Type 0} → Bool → A → Option A
only_if holds value = if holds then Some value else None

-- a field and what follows it
abbrev pub Field : Type 0 → Type 0
Field A = Option (A × List ℕ)

abbrev pub octet_at : List ℕ → Field ℕ
octet_at [] = None
octet_at (octet ∷ rest) = Some (octet, rest)

-- a number of so many octets
abbrev pub number_at : Width → List ℕ → Field ℕ
number_at width octets =
    if nat_lt (length octets) (byte_len width) then None
    else Some (from_be_bytes width (take (byte_len width) octets), drop (byte_len width) octets)

-- a counter, of five octets
abbrev pub counter_at : List ℕ → Field ℕ
counter_at octets = if nat_lt (length octets) 5 then None else Some (from_be_bytes w64 (0 ∷ 0 ∷ 0 ∷ take 5 octets), drop 5 octets)

-- a key version number
abbrev pub is_kvn : ℕ → Bool
is_kvn kvn = nat_le 1 kvn && nat_le kvn 15

unfoldable pub keyset_at : List ℕ → Field Keyset
keyset_at octets = do
  card ← number_at w64 octets
  kvn ← octet_at card.1
  only_if (is_kvn kvn.0) (record { card = record { 0 = card.0 }; kvn = kvn.0 }, kvn.1)

-- a moment, which is 0 where version 1 has none
abbrev pub moment_at : Version → List ℕ → Field ℕ
moment_at First octets = Some (0, octets)
moment_at Second octets = number_at w64 octets

-- what each entry begins with: its kind, its sender, its keyset and its moment
pub record Front : Type 0 where
  pub kind : ℕ
  pub by : ℕ
  pub moment : ℕ
  pub keyset : Keyset

unfoldable pub front_at : Version → List ℕ → Field Front
front_at version octets = do
  kind ← octet_at octets
  by ← number_at w32 kind.1
  keyset ← keyset_at by.1
  moment ← moment_at version keyset.1
  Some (record { kind = kind.0; by = by.0; moment = moment.0; keyset = keyset.0 }, moment.1)

abbrev pub mode_of : ℕ → Option Mode
mode_of octet = if octet == 0x02 then Some Higher else (if octet == 0x03 then Some Next else None)

abbrev pub flag_of : ℕ → Option Bool
flag_of octet = if octet == 0x00 then Some false else (if octet == 0x01 then Some true else None)

-- a counter mode, and whether packets are ciphered
unfoldable pub manner_at : List ℕ → Field (Mode × Bool)
manner_at (first ∷ second ∷ rest) = do
  mode ← mode_of first
  ciphered ← flag_of second
  Some ((mode, ciphered), rest)
manner_at _ = None

-- a key behind its length
unfoldable pub key_at : List ℕ → Field (List ℕ)
key_at [] = None
key_at (size ∷ rest) = only_if (is_key_length size && nat_le size (length rest)) (take size rest, drop size rest)

-- the two keys, and nothing behind them
unfoldable pub keys_in : List ℕ → Option (List ℕ × List ℕ)
keys_in octets = do
  kic ← key_at octets
  kid ← key_at kic.1
  only_if (length kid.1 == 0) (kic.0, kid.0)

unfoldable pub facts_in : List ℕ → Option KeysetFacts
facts_in octets = do
  base ← counter_at octets
  manner ← manner_at base.1
  keys ← keys_in manner.1
  Some (record { base = base.0; mode = manner.0.0; ciphered = manner.0.1; kic = keys.0; kid = keys.1 })

unfoldable pub job_at : List ℕ → Field JobId
job_at octets = do
  campaign ← number_at w32 octets
  job ← number_at w32 campaign.1
  Some (record { campaign = campaign.0; job = job.0 }, job.1)

abbrev pub tar_at : List ℕ → Field (List ℕ)
tar_at octets = if nat_lt (length octets) 3 then None else Some (take 3 octets, drop 3 octets)

-- a name behind its length
unfoldable pub short_name_at : List ℕ → Field (List ℕ)
short_name_at [] = None
short_name_at (size ∷ rest) = only_if (nat_le size LONGEST_NAME && nat_le size (length rest)) (take size rest, drop size rest)

-- the name of a campaign, which is empty where version 1 has none
abbrev pub name_at : Version → List ℕ → Field (List ℕ)
name_at First octets = Some ([], octets)
name_at Second octets = short_name_at octets

abbrev pub is_body : List ℕ → Bool
is_body body = nat_le 1 (length body) && nat_le (length body) LONGEST_BODY

-- what a reservation is made for: a counter, a job and its application
pub record Purpose : Type 0 where
  pub counter : ℕ
  pub job : JobId
  pub tar : List ℕ

unfoldable pub purpose_at : List ℕ → Field Purpose
purpose_at octets = do
  counter ← counter_at octets
  job ← job_at counter.1
  tar ← tar_at job.1
  Some (record { counter = counter.0; job = job.0; tar = tar.0 }, tar.1)

unfoldable pub open_in : Front → List ℕ → Option Entry
open_in front octets = do
  facts ← facts_in octets
  Some (Open front.by front.moment front.keyset facts)

unfoldable pub reserve_in : Version → Front → List ℕ → Option Entry
reserve_in version front octets = do
  purpose ← purpose_at octets
  name ← name_at version purpose.1
  only_if (is_body name.1) (Reserve front.by front.moment front.keyset purpose.0.counter purpose.0.job purpose.0.tar name.0 name.1)

unfoldable pub done_in : Front → List ℕ → Option Entry
done_in front octets = do
  counter ← counter_at octets
  Some (Done front.by front.moment front.keyset counter.0 counter.1)

abbrev pub status_of : List ℕ → Option ℕ
status_of (status ∷ []) = Some status
status_of _ = None

unfoldable pub refused_in : Front → List ℕ → Option Entry
refused_in front octets = do
  counter ← counter_at octets
  status ← status_of counter.1
  Some (Refused front.by front.moment front.keyset counter.0 status)

abbrev pub close_in : Front → List ℕ → Option Entry
close_in front octets = only_if (length octets == 0) (Close front.by front.moment front.keyset)

-- what follows the front, by its kind
unfoldable pub entry_behind : Version → Front → List ℕ → Option Entry
entry_behind version front octets =
    if front.kind == 0x01 then open_in front octets
    else (if front.kind == 0x02 then reserve_in version front octets
    else (if front.kind == 0x03 then done_in front octets
    else (if front.kind == 0x04 then refused_in front octets
    else (if front.kind == 0x05 then close_in front octets else None))))

-- the entry of this version that these octets are, all of them
unfoldable pub entry_in : Version → List ℕ → Option Entry
entry_in version octets = do
  front ← front_at version octets
  entry_behind version front.0 front.1
