-- What was written of an entry is read again, so no two entries are written alike.
use Rattle.std.proofs.Common.{◌≡◌, ℕ, ◌/◌, ◌%◌, ◌^◌, ◌<◌, ◌≤◌, Bool, true, false, ltb, leb, List, [], ◌∷◌, ◌++◌, length, Option, Some, refl, sym, ap, ◌∙◌, append_assoc, arith}
use Rattle.std.specs.Prelude.{IsTrue}
use Rattle.std.specs.Int.{w32, w64, from_be_bytes, to_be_bytes, bytes_high_first}
use Rattle.std.proofs.lemmas.Bool.{le-ltb, le-leb, and_from}
use Rattle.std.proofs.lemmas.List.{take_at, drop_at, length-append, append-nil}
use Rattle.std.proofs.lemmas.Nat.{from_be_bytes-to_be_bytes_4, from_be_bytes-to_be_bytes_8}
use Rattle.ota_core.specs.KeyBytes.{is_key_length}
use Rattle.ota_core.specs.Keyset.{Keyset}
use Rattle.ota_core.specs.Entry.{moment_of}
use Rattle.ota_core.specs.declared.jobs.JobId.{JobId}
use Rattle.ota_core.specs.declared.keysets.Mode.{Mode}
use Rattle.ota_core.specs.declared.keysets.Mode.TheVariants.{Higher, Next}
use Rattle.ota_core.specs.declared.keysets.KeysetFacts.{KeysetFacts}
use Rattle.ota_core.specs.declared.entries.Entry.{Entry}
use Rattle.ota_core.specs.declared.entries.Entry.TheVariants.{Open, Reserve, Done, Refused, Close}
use Rattle.gate_log.specs.Log.{four}
use Rattle.counter_journal.specs.declared.versions.Version.{Version}
use Rattle.counter_journal.specs.declared.versions.Version.TheVariants.{First, Second}
use Rattle.counter_journal.specs.EntryOctets.{five, eight, moment_octets, name_octets, front_octets, mode_octet, flag_octet, key_octets, facts_octets, job_octets, entry_octets, name_of, IsOfVersion}
use Rattle.counter_journal.specs.EntryRanges.{LONGEST_BODY, LONGEST_NAME, IsFront, IsEntry}
use Rattle.counter_journal.specs.EntryReading.{number_at, counter_at, is_kvn, keyset_at, Front, front_at, mode_of, flag_of, manner_at, key_at, keys_in, facts_in, job_at, tar_at, moment_at, short_name_at, name_at, is_body, Purpose, purpose_at, open_in, reserve_in, done_in, refused_in, entry_behind, entry_in}

abbrev pub some : {A : Type 0} → A → Option A
some x = Some x

pub some_is : {A : Type 0} (x y : A) → some x ≡ some y → x ≡ y
some_is x y e = cc

long_enough : (n : ℕ) (text rest : List ℕ) → length text ≡ n → ltb (length (text ++ rest)) n ≡ false
long_enough n text rest len = le-ltb _ _ (omega (arith, len, length-append text rest))

pub four_again : (n : ℕ) (rest : List ℕ) → n < 2 ^ 32 → number_at w32 (four n ++ rest) ≡ Some (n, rest)
unfolding four
four_again n rest below =
    rw (long_enough 4 (to_be_bytes w32 n) rest refl, from_be_bytes-to_be_bytes_4 n below) refl

pub eight_again : (n : ℕ) (rest : List ℕ) → n < 2 ^ 64 → number_at w64 (eight n ++ rest) ≡ Some (n, rest)
unfolding eight
eight_again n rest below =
    rw (long_enough 8 (to_be_bytes w64 n) rest refl, from_be_bytes-to_be_bytes_8 n below) refl

-- three zeros in front of five octets
abbrev pub widened : List ℕ → List ℕ
widened octets = 0 ∷ 0 ∷ 0 ∷ octets

high_zeros : (n : ℕ) → n < 2 ^ 40 → to_be_bytes w64 n ≡ widened (bytes_high_first 5 n)
high_zeros n below =
    let a : n / 72057594037927936 % 256 ≡ 0 = omega arith in
    let b : n / 281474976710656 % 256 ≡ 0 = omega arith in
    let c : n / 1099511627776 % 256 ≡ 0 = omega arith in
    λ i. a i ∷ b i ∷ c i ∷ bytes_high_first 5 n

pub counter_again : (n : ℕ) (rest : List ℕ) → n < 2 ^ 40 → counter_at (five n ++ rest) ≡ Some (n, rest)
unfolding five
counter_again n rest below =
    let back : from_be_bytes w64 (widened (bytes_high_first 5 n)) ≡ n = ap (from_be_bytes w64) (sym (high_zeros n below)) ∙ from_be_bytes-to_be_bytes_8 n (omega arith) in
    rw (long_enough 5 (bytes_high_first 5 n) rest refl, back) refl

-- ---- what each entry begins with

abbrev pub keyset_of_numbers : ℕ → ℕ → Keyset
keyset_of_numbers card kvn = record { card = record { 0 = card }; kvn = kvn }

abbrev pub keyset_octets : Keyset → List ℕ
keyset_octets keyset = eight keyset.card.0 ++ keyset.kvn ∷ []

pub record IsKeyset (keyset : Keyset) : Type 0 where
  pub card_fits : keyset.card.0 < 2 ^ 64
  pub kvn_above : 1 ≤ keyset.kvn
  pub kvn_below : keyset.kvn ≤ 15

kvn_true : (kvn : ℕ) → 1 ≤ kvn → kvn ≤ 15 → is_kvn kvn ≡ true
kvn_true kvn above below = and_from (leb 1 kvn) (leb kvn 15) (le-leb 1 kvn above) (le-leb kvn 15 below)

keyset_again : (keyset : Keyset) (rest : List ℕ) → IsKeyset keyset → keyset_at (keyset_octets keyset ++ rest) ≡ Some (keyset, rest)
unfolding keyset_at
keyset_again keyset rest is =
    ap keyset_at (append_assoc (eight keyset.card.0) (keyset.kvn ∷ []) rest)
    ∙ rw (eight_again keyset.card.0 (keyset.kvn ∷ rest) is.card_fits, kvn_true keyset.kvn is.kvn_above is.kvn_below) refl

-- version 1 has the moment 0 alone
abbrev pub IsMoment : Version → ℕ → Type 0
IsMoment First moment = moment ≡ 0
IsMoment Second moment = Unit {0}

-- version 1 has the empty name alone
abbrev pub IsName : Version → List ℕ → Type 0
IsName First name = name ≡ []
IsName Second name = Unit {0}

pub has_moment : (version : Version) (entry : Entry) → IsOfVersion version entry → IsMoment version (moment_of entry)
has_moment First entry is = is.0
has_moment Second entry is = tt

pub has_name : (version : Version) (entry : Entry) → IsOfVersion version entry → IsName version (name_of entry)
has_name First entry is = is.1
has_name Second entry is = tt

pub is_of_version : (version : Version) (entry : Entry) → IsMoment version (moment_of entry) → IsName version (name_of entry) → IsOfVersion version entry
is_of_version First entry moment name = (moment, name)
is_of_version Second entry moment name = tt

pub no_name : (version : Version) → IsName version []
no_name First = refl
no_name Second = tt

moment_again : (version : Version) (moment : ℕ) (rest : List ℕ) → moment < 2 ^ 64 → IsMoment version moment → moment_at version (moment_octets version moment ++ rest) ≡ Some (moment, rest)
moment_again First moment rest below is = ap (λ (m : ℕ). Some (m, rest)) (sym is)
moment_again Second moment rest below is = eight_again moment rest below

name_again : (version : Version) (name rest : List ℕ) → length name ≤ LONGEST_NAME → IsName version name → name_at version (name_octets version name ++ rest) ≡ Some (name, rest)
unfolding short_name_at
name_again First name rest short is = ap (λ (n : List ℕ). Some (n, rest)) (sym is)
name_again Second name rest short is =
    let within : leb (length name) (length (name ++ rest)) ≡ true = le-leb _ _ (omega (arith, length-append name rest)) in
    rw (le-leb (length name) LONGEST_NAME short, within, take_at name rest (length name) refl, drop_at name rest (length name) refl) refl

abbrev pub front_of : ℕ → ℕ → ℕ → Keyset → Front
front_of kind by moment keyset = record { kind = kind; by = by; moment = moment; keyset = keyset }

abbrev pub front_before : ℕ → ℕ → Keyset → List ℕ → List ℕ
front_before kind by keyset rest = kind ∷ (four by ++ (keyset_octets keyset ++ rest))

pub front_parts : (version : Version) (kind by moment : ℕ) (keyset : Keyset) (rest : List ℕ)
    → front_octets version kind by moment keyset ++ rest ≡ front_before kind by keyset (moment_octets version moment ++ rest)
front_parts version kind by moment keyset rest = simp append_assoc

pub front_again : (version : Version) (kind by moment : ℕ) (keyset : Keyset) (rest : List ℕ) → IsFront by moment keyset → IsMoment version moment
    → front_at version (front_octets version kind by moment keyset ++ rest) ≡ Some (front_of kind by moment keyset, rest)
unfolding front_at four
front_again version kind by moment keyset rest is early =
    ap (front_at version) (front_parts version kind by moment keyset rest)
    ∙ rw (
      four_again by (keyset_octets keyset ++ (moment_octets version moment ++ rest)) is.by_fits,
      keyset_again keyset (moment_octets version moment ++ rest) (record { card_fits = is.card_fits; kvn_above = is.kvn_above; kvn_below = is.kvn_below }),
      moment_again version moment rest is.moment_fits early,
    ) refl

-- ---- what a keyset is opened with

mode_again : (mode : Mode) → mode_of (mode_octet mode) ≡ Some mode
mode_again Higher = refl
mode_again Next = refl

flag_again : (flag : Bool) → flag_of (flag_octet flag) ≡ Some flag
flag_again true = refl
flag_again false = refl

abbrev pub manner_octets : Mode × Bool → List ℕ
manner_octets manner = mode_octet manner.0 ∷ flag_octet manner.1 ∷ []

manner_again : (mode : Mode) (flag : Bool) (rest : List ℕ) → manner_at (manner_octets (mode, flag) ++ rest) ≡ Some ((mode, flag), rest)
unfolding manner_at
manner_again mode flag rest = rw (mode_again mode, flag_again flag) refl

key_again : (key rest : List ℕ) → IsTrue (is_key_length (length key)) → key_at (key_octets key ++ rest) ≡ Some (key, rest)
unfolding key_at
key_again key rest is =
    let within : leb (length key) (length (key ++ rest)) ≡ true = le-leb _ _ (omega (arith, length-append key rest)) in
    rw (is, within, take_at key rest (length key) refl, drop_at key rest (length key) refl) refl

keys_again : (kic kid : List ℕ) → IsTrue (is_key_length (length kic)) → IsTrue (is_key_length (length kid)) → keys_in (key_octets kic ++ key_octets kid) ≡ Some (kic, kid)
unfolding keys_in
keys_again kic kid is_kic is_kid =
    let last : key_at (key_octets kid) ≡ Some (kid, []) = ap key_at (sym (append-nil (key_octets kid))) ∙ key_again kid [] is_kid in
    rw (key_again kic (key_octets kid) is_kic, last) refl

-- the numbers of facts fit their octets
pub record AreFacts (facts : KeysetFacts) : Type 0 where
  pub base_fits : facts.base < 2 ^ 40
  pub kic_long : IsTrue (is_key_length (length facts.kic))
  pub kid_long : IsTrue (is_key_length (length facts.kid))

pub facts_again : (facts : KeysetFacts) → AreFacts facts → facts_in (facts_octets facts) ≡ Some facts
unfolding facts_in five
facts_again facts are =
    rw (
      counter_again facts.base (manner_octets (facts.mode, facts.ciphered) ++ (key_octets facts.kic ++ key_octets facts.kid)) are.base_fits,
      manner_again facts.mode facts.ciphered (key_octets facts.kic ++ key_octets facts.kid),
      keys_again facts.kic facts.kid are.kic_long are.kid_long,
    ) refl

-- ---- jobs and applications

pub record IsJob (job : JobId) : Type 0 where
  pub campaign_fits : job.campaign < 2 ^ 32
  pub job_fits : job.job < 2 ^ 32

pub job_again : (job : JobId) (rest : List ℕ) → IsJob job → job_at (job_octets job ++ rest) ≡ Some (job, rest)
unfolding job_at
job_again job rest is =
    ap job_at (append_assoc (four job.campaign) (four job.job) rest)
    ∙ rw (four_again job.campaign (four job.job ++ rest) is.campaign_fits, four_again job.job rest is.job_fits) refl

pub tar_again : (tar rest : List ℕ) → length tar ≡ 3 → tar_at (tar ++ rest) ≡ Some (tar, rest)
tar_again tar rest len = rw (long_enough 3 tar rest len, take_at tar rest 3 len, drop_at tar rest 3 len) refl

-- ---- entries

abbrev pub purpose_of : ℕ → JobId → List ℕ → Purpose
purpose_of counter job tar = record { counter = counter; job = job; tar = tar }

purpose_again : (counter : ℕ) (job : JobId) (tar rest : List ℕ) → counter < 2 ^ 40 → IsJob job → length tar ≡ 3
    → purpose_at (five counter ++ (job_octets job ++ (tar ++ rest))) ≡ Some (purpose_of counter job tar, rest)
unfolding purpose_at five
purpose_again counter job tar rest counter_fits job_fits tar_long =
    rw (counter_again counter (job_octets job ++ (tar ++ rest)) counter_fits, job_again job (tar ++ rest) job_fits, tar_again tar rest tar_long) refl

pub three_parts : (a b c : List ℕ) → a ++ (b ++ c) ≡ a ++ b ++ c
three_parts a b c = simp append_assoc

pub six_parts : (a b c d e f : List ℕ) → a ++ (b ++ (c ++ (d ++ (e ++ f)))) ≡ a ++ b ++ c ++ d ++ e ++ f
six_parts a b c d e f = simp append_assoc

body_true : (body : List ℕ) → 1 ≤ length body → length body ≤ LONGEST_BODY → is_body body ≡ true
body_true body some_octets few = and_from (leb 1 (length body)) (leb (length body) LONGEST_BODY) (le-leb 1 (length body) some_octets) (le-leb (length body) LONGEST_BODY few)

front_read : (version : Version) (kind by moment : ℕ) (keyset : Keyset) (rest : List ℕ) → IsFront by moment keyset → IsMoment version moment
    → entry_in version (front_octets version kind by moment keyset ++ rest) ≡ entry_behind version (front_of kind by moment keyset) rest
unfolding entry_in
front_read version kind by moment keyset rest is early = rw (front_again version kind by moment keyset rest is early) refl

behind_again : (version : Version) (entry : Entry) → IsEntry entry → IsMoment version (moment_of entry) → IsName version (name_of entry) → entry_in version (entry_octets version entry) ≡ Some entry
unfolding entry_behind open_in reserve_in done_in refused_in
behind_again version (Open by moment keyset facts) is early none =
    front_read version 0x01 by moment keyset (facts_octets facts) is.0 early
    ∙ rw (facts_again facts (record { base_fits = is.1; kic_long = is.2; kid_long = is.3 })) refl
behind_again version (Reserve by moment keyset counter job tar name body) is early none =
    ap (entry_in version) (sym (six_parts (front_octets version 0x02 by moment keyset) (five counter) (job_octets job) tar (name_octets version name) body))
    ∙ front_read version 0x02 by moment keyset (five counter ++ (job_octets job ++ (tar ++ (name_octets version name ++ body)))) is.0 early
    ∙ rw (
      purpose_again counter job tar (name_octets version name ++ body) is.1 (record { campaign_fits = is.2; job_fits = is.3 }) is.4,
      name_again version name body is.5 none,
      body_true body is.6 is.7,
    ) refl
behind_again version (Done by moment keyset counter answer) is early none =
    ap (entry_in version) (sym (three_parts (front_octets version 0x03 by moment keyset) (five counter) answer))
    ∙ front_read version 0x03 by moment keyset (five counter ++ answer) is.0 early
    ∙ rw (counter_again counter answer is.1) refl
behind_again version (Refused by moment keyset counter status) is early none =
    ap (entry_in version) (sym (three_parts (front_octets version 0x04 by moment keyset) (five counter) (status ∷ [])))
    ∙ front_read version 0x04 by moment keyset (five counter ++ status ∷ []) is.0 early
    ∙ rw (counter_again counter (status ∷ []) is.1) refl
behind_again version (Close by moment keyset) is early none =
    ap (entry_in version) (sym (append-nil (front_octets version 0x05 by moment keyset))) ∙ front_read version 0x05 by moment keyset [] is early ∙ refl

pub entry_again : (version : Version) (entry : Entry) → IsEntry entry → IsOfVersion version entry → entry_in version (entry_octets version entry) ≡ Some entry
entry_again version entry is of = behind_again version entry is (has_moment version entry of) (has_name version entry of)

-- no two entries are spelled alike
pub one_entry : (version : Version) (a b : Entry) → IsEntry a → IsEntry b → IsOfVersion version a → IsOfVersion version b → entry_octets version a ≡ entry_octets version b → a ≡ b
one_entry version a b is_a is_b of_a of_b same =
    some_is a b (sym (entry_again version a is_a of_a) ∙ ap (entry_in version) same ∙ entry_again version b is_b of_b)
