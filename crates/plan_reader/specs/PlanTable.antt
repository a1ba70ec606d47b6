-- The plan as the tables of a TOML document: each table's fields, what they must be, and the plan that they say.
use Rattle.std.specs.Prelude.{◌≡◌, ℕ, ◌+◌, nat_lt, ◌==◌, ◌&&◌, not, Bool, true, false, if◌then◌else◌, Option, Some, None, is_none, option_map, unwrap_or, Result, Err, List, [], ◌∷◌, ◌++◌, length, map, codes, bytes_eq}
use Rattle.std.specs.Option.{option_or}
use Rattle.std.specs.List.{list_any, filter_map}
use Rattle.std.specs.Str.{is_utf8}
use Rattle.toml.specs.Data.{Members, as_bool}
use Rattle.toml.specs.Parse.{parse_document}
use Rattle.ota_core.specs.Keyset.{Keyset, is_same_keyset}
use Rattle.ota_core.specs.declared.cards.CardFacts.{CardFacts}
use Rattle.ota_core.specs.declared.keysets.KeysetFacts.{KeysetFacts}
use Rattle.ota_core.specs.declared.keysets.Mode.{Mode}
use Rattle.ota_core.specs.declared.keysets.Mode.TheVariants.{Higher}
use Rattle.plan_reader.specs.Check.{Check, first_wrong, is_wrong, outcome}
use Rattle.plan_reader.specs.FieldValue.{number_in, octets_in, key_in, counter_in, mode_in, tables_in, needed, defaulted, has_other_name}
use Rattle.plan_reader.specs.declared.keyset_table.Listing.{Listing}
use Rattle.plan_reader.specs.declared.plans.Plan.{Plan}
use Rattle.plan_reader.specs.declared.plans.PlanErr.{PlanErr}
use Rattle.plan_reader.specs.declared.plans.PlanErr.TheVariants.{Refused, Memory}
use Rattle.plan_reader.specs.declared.tables.Table.{Table}
use Rattle.plan_reader.specs.declared.tables.Table.TheVariants as table
use Rattle.plan_reader.specs.declared.tables.Field.{Field}
use Rattle.plan_reader.specs.declared.tables.Field.TheVariants as field

-- the top

unfoldable pub top_names : List (List ℕ)
top_names = codes "campaign" ∷ codes "card" ∷ codes "keyset" ∷ []

unfoldable pub campaign_of : Members → Option ℕ
campaign_of top = needed (number_in 0 4294967295) (codes "campaign") top

unfoldable pub cards_of : Members → Option (List Members)
cards_of top = defaulted [] tables_in (codes "card") top

unfoldable pub keysets_of : Members → Option (List Members)
keysets_of top = defaulted [] tables_in (codes "keyset") top

-- a card

unfoldable pub card_names : List (List ℕ)
card_names = codes "number" ∷ codes "buffer" ∷ codes "rfm" ∷ codes "ram" ∷ codes "wide" ∷ []

unfoldable pub number_of_card : Members → Option ℕ
number_of_card card = needed (number_in 0 999999999999999999) (codes "number") card

unfoldable pub buffer_of : Members → Option ℕ
buffer_of card = defaulted 1024 (number_in 1 4096) (codes "buffer") card

unfoldable pub rfm_of : Members → Option (List ℕ)
rfm_of card = defaulted (0xb0 ∷ 0x00 ∷ 0x10 ∷ []) (octets_in 3) (codes "rfm") card

unfoldable pub ram_of : Members → Option (List ℕ)
ram_of card = defaulted (0x00 ∷ 0x00 ∷ 0x00 ∷ []) (octets_in 3) (codes "ram") card

unfoldable pub wide_of : Members → Option Bool
wide_of card = defaulted false as_bool (codes "wide") card

-- the card that an entry says, where nothing is wrong with it, without keysets
unfoldable pub card_said : Members → CardFacts
card_said card =
    record {
      card = record { 0 = unwrap_or (number_of_card card) 0 };
      buffer = unwrap_or (buffer_of card) 0;
      rfm = unwrap_or (rfm_of card) [];
      ram = unwrap_or (ram_of card) [];
      keysets = [];
      wide = unwrap_or (wide_of card) false;
    }

-- one of these cards has this number
abbrev pub has_number : ℕ → List CardFacts → Bool
has_number number cards = list_any (λ card. card.card.0 == number) cards

-- what is asked of a card, with the cards in front of it
abbrev pub card_checks : List CardFacts → Members → List (Check Field)
card_checks before card =
    (has_other_name card_names card, field.Unknown)
    ∷ (is_wrong (λ number. has_number number before) (number_of_card card), field.Number)
    ∷ (is_none (buffer_of card), field.Buffer)
    ∷ (is_none (rfm_of card), field.Rfm)
    ∷ (is_wrong (λ ram. bytes_eq ram (unwrap_or (rfm_of card) [])) (ram_of card), field.Ram)
    ∷ (is_none (wide_of card), field.Wide)
    ∷ []

-- a keyset

unfoldable pub keyset_names : List (List ℕ)
keyset_names =
    codes "card" ∷ codes "kvn" ∷ codes "kic" ∷ codes "kid" ∷ codes "cipher" ∷ codes "mode" ∷ codes "base" ∷ codes "put" ∷ []

unfoldable pub card_of_keyset : Members → Option ℕ
card_of_keyset keyset = needed (number_in 0 999999999999999999) (codes "card") keyset

unfoldable pub kvn_of : Members → Option ℕ
kvn_of keyset = needed (number_in 1 15) (codes "kvn") keyset

unfoldable pub kic_of : Members → Option (List ℕ)
kic_of keyset = needed key_in (codes "kic") keyset

unfoldable pub kid_of : Members → Option (List ℕ)
kid_of keyset = needed key_in (codes "kid") keyset

unfoldable pub cipher_of : Members → Option Bool
cipher_of keyset = defaulted true as_bool (codes "cipher") keyset

unfoldable pub mode_of : Members → Option Mode
mode_of keyset = defaulted Higher mode_in (codes "mode") keyset

unfoldable pub base_of : Members → Option ℕ
base_of keyset = defaulted 0 counter_in (codes "base") keyset

unfoldable pub put_of : Members → Option Bool
put_of keyset = defaulted false as_bool (codes "put") keyset

-- the keyset that an entry says, where nothing is wrong with it
unfoldable pub keyset_said : Members → Listing
keyset_said keyset =
    record {
      id = record { card = record { 0 = unwrap_or (card_of_keyset keyset) 0 }; kvn = unwrap_or (kvn_of keyset) 0 };
      facts =
          record {
            base = unwrap_or (base_of keyset) 0;
            mode = unwrap_or (mode_of keyset) Higher;
            ciphered = unwrap_or (cipher_of keyset) true;
            kic = unwrap_or (kic_of keyset) [];
            kid = unwrap_or (kid_of keyset) [];
          };
      later = unwrap_or (put_of keyset) false;
    }

-- one of these keysets is this one
abbrev pub lists_keyset : Keyset → List Listing → Bool
lists_keyset id listings = list_any (λ listing. is_same_keyset listing.id id) listings

-- one of these keysets has this key for the checksum
abbrev pub has_kid : List ℕ → List Listing → Bool
has_kid kid listings = list_any (λ listing. bytes_eq listing.facts.kid kid) listings

-- what is asked of a keyset, with the cards and with the keysets in front of it
abbrev pub keyset_checks : List CardFacts → List Listing → Members → List (Check Field)
keyset_checks cards before keyset =
    (has_other_name keyset_names keyset, field.Unknown)
    ∷ (is_wrong (λ card. not (has_number card cards)) (card_of_keyset keyset), field.CardOf)
    ∷ (is_wrong (λ _. lists_keyset (keyset_said keyset).id before) (kvn_of keyset), field.Kvn)
    ∷ (is_none (kic_of keyset), field.Kic)
    ∷ (is_wrong (λ kid. has_kid kid before) (kid_of keyset), field.Kid)
    ∷ (is_none (cipher_of keyset), field.Cipher)
    ∷ (is_none (mode_of keyset), field.Mode)
    ∷ (is_none (base_of keyset), field.Base)
    ∷ (is_wrong (λ put. put && not (unwrap_or (base_of keyset) 0 == 0)) (put_of keyset), field.Put)
    ∷ []

-- the whole

-- the table, the entry's place in it from 1 or 0 for the table as a whole, and what is wrong there
abbrev pub PlanFault : Type 0
PlanFault = Table × ℕ × Field

-- the first fault of entries, each asked with what those in front of it say
abbrev pub first_of_entries : {A : Type 0} → Table → (Members → A) → (List A → Members → List (Check Field)) → List A → List Members → Option PlanFault
first_of_entries which said checks before [] = None
first_of_entries which said checks before (entry ∷ entries) =
    option_or (option_map (λ wrong. (which, length before + 1, wrong)) (first_wrong (checks before entry)))
    (first_of_entries which said checks (before ++ said entry ∷ []) entries)

-- the tables that the top lists; none where it lists none or is wrong there
abbrev pub card_list : Members → List Members
card_list top = unwrap_or (cards_of top) []

abbrev pub keyset_list : Members → List Members
keyset_list top = unwrap_or (keysets_of top) []

-- what is asked of the top and of the list of cards, before the cards
abbrev pub top_checks : Members → List (Check PlanFault)
top_checks top =
    (has_other_name top_names top, (table.Top, 0, field.Unknown))
    ∷ (is_none (campaign_of top), (table.Top, 0, field.Campaign))
    ∷ (is_none (cards_of top), (table.Card, 0, field.Text))
    ∷ (nat_lt 10000 (length (card_list top)), (table.Card, 0, field.TooMany))
    ∷ []

-- what is asked of the list of keysets, before the keysets
abbrev pub keyset_list_checks : Members → List (Check PlanFault)
keyset_list_checks top =
    (is_none (keysets_of top), (table.Keyset, 0, field.Text))
    ∷ (nat_lt 20000 (length (keyset_list top)), (table.Keyset, 0, field.TooMany))
    ∷ []

-- the first fault of a document: the top, the cards, the list of keysets, the keysets
unfoldable pub first_in_plan : Members → Option PlanFault
first_in_plan top =
    option_or (first_wrong (top_checks top))
    (option_or (first_of_entries table.Card card_said card_checks [] (card_list top))
    (option_or (first_wrong (keyset_list_checks top))
    (first_of_entries table.Keyset keyset_said (keyset_checks (map card_said (card_list top))) [] (keyset_list top))))

-- the keysets with which a card is issued, in order of listing
abbrev pub issued_of : ℕ → List Listing → List (ℕ × KeysetFacts)
issued_of card listings =
    filter_map
    (λ listing. if (listing.id.card.0 == card) && not listing.later then Some (listing.id.kvn, listing.facts) else None)
    listings

-- the keysets that are put later, in order of listing
abbrev pub later_of : List Listing → List (Keyset × KeysetFacts)
later_of listings = filter_map (λ listing. if listing.later then Some (listing.id, listing.facts) else None) listings

-- a card with those of the keysets with which it is issued
abbrev pub with_issued : List Listing → CardFacts → CardFacts
with_issued listings card = record card { keysets = issued_of card.card.0 listings }

-- the plan of a campaign with these cards and keysets
abbrev pub plan_of_lists : ℕ → List CardFacts → List Listing → Plan
plan_of_lists campaign cards listings =
    record { campaign = campaign; cards = map (with_issued listings) cards; later = later_of listings }

-- the plan of a document in which nothing is wrong
unfoldable pub plan_in : Members → Plan
plan_in top =
    plan_of_lists (unwrap_or (campaign_of top) 0) (map card_said (card_list top)) (map keyset_said (keyset_list top))

-- the table that octets are, where they are a text in UTF-8 and that is a TOML document
unfoldable pub document_of : List ℕ → Option Members
document_of octets = if is_utf8 octets then parse_document octets else None

-- the plan that a document says, or its first fault; what is no document is refused as a whole
abbrev pub plan_of_document : Option Members → Result Plan PlanFault
plan_of_document None = Err (table.Top, 0, field.Text)
plan_of_document (Some top) = outcome (plan_in top) (first_in_plan top)

-- the plan that octets say, or their first fault
unfoldable pub plan_of : List ℕ → Result Plan PlanFault
plan_of octets = plan_of_document (document_of octets)

-- an error names this fault, or is want of memory
abbrev pub Names : Option PlanFault → PlanErr → Type 0
Names fault (Refused which row wrong) = fault ≡ Some (which, row, wrong)
Names fault Memory = Unit {0}

-- when an error comes, by the reading of the octets: a refusal exactly with their first fault, want of memory with any
abbrev pub RefusesPlan : Result Plan PlanFault → PlanErr → Type 0
RefusesPlan reading (Refused which row wrong) = reading ≡ Err (which, row, wrong)
RefusesPlan reading Memory = Unit {0}
