-- What a value of a TOML document says as a field of the plan.
use Rattle.std.specs.Prelude.{ℕ, ◌+◌, ◌*◌, ◌/◌, nat_le, ◌&&◌, ◌||◌, not, Bool, false, if◌then◌else◌, ℤ, pos, negsuc, Option, Some, None, option_map, List, [], ◌∷◌, length, slice_index, codes, bytes_eq}
use Rattle.std.specs.List.{list_any}
use Rattle.toml.specs.Data.{Data, Items, no_items, item, Members, no_members, member, get_member, as_integer, as_str, as_array, as_table}
use Rattle.ota_core.specs.KeyBytes.{is_key_length}
use Rattle.ota_core.specs.declared.keysets.Mode.{Mode}
use Rattle.ota_core.specs.declared.keysets.Mode.TheVariants.{Higher, Next}
use Rattle.plan_reader.specs.Text.{◌>>=◌, only_if}
use Rattle.plan_reader.specs.Hexadecimal.{octets_of}

-- an integer from `least` to `most`
abbrev pub natural_in : ℕ → ℕ → ℤ → Option ℕ
natural_in least most (pos number) = only_if (nat_le least number && nat_le number most) number
natural_in least most (negsuc _) = None

unfoldable pub number_in : ℕ → ℕ → Data → Option ℕ
number_in least most value = as_integer value >>= natural_in least most

-- so many octets: a text of twice as many hexadecimal digits
unfoldable pub octets_in : ℕ → Data → Option (List ℕ)
octets_in len value = as_str value >>= octets_of len

-- a key of AES: 16, 24 or 32 octets in hexadecimal digits
unfoldable pub key_of : List ℕ → Option (List ℕ)
key_of digits = let len = length digits / 2 in if is_key_length len then octets_of len digits else None

unfoldable pub key_in : Data → Option (List ℕ)
key_in value = as_str value >>= key_of

-- the number that five octets are, the highest first
abbrev pub five_octets : List ℕ → ℕ
five_octets octets =
    slice_index octets 0 * 4294967296
    + slice_index octets 1 * 16777216
    + slice_index octets 2 * 65536
    + slice_index octets 3 * 256
    + slice_index octets 4

-- a counter: five octets in hexadecimal digits
unfoldable pub counter_of : List ℕ → Option ℕ
counter_of digits = option_map five_octets (octets_of 5 digits)

unfoldable pub counter_in : Data → Option ℕ
counter_in value = as_str value >>= counter_of

-- a mode: one of two words
unfoldable pub mode_of_word : List ℕ → Option Mode
mode_of_word word =
    if bytes_eq word (codes "higher") then Some Higher else if bytes_eq word (codes "next") then Some Next else None

unfoldable pub mode_in : Data → Option Mode
mode_in value = as_str value >>= mode_of_word

-- the tables that these items are; none where one of them is no table
abbrev pub tables_of : Items → Option (List Members)
tables_of no_items = Some []
tables_of (item value items) = do
  entry ← as_table value
  entries ← tables_of items
  Some (entry ∷ entries)

-- a list of tables
unfoldable pub tables_in : Data → Option (List Members)
tables_in value = as_array value >>= tables_of

-- a field that has to be there
abbrev pub needed : {A : Type 0} → (Data → Option A) → List ℕ → Members → Option A
needed reading name entry = get_member name entry >>= reading

-- a field with a default, which stands where the name is missing
abbrev pub read_or : {A : Type 0} → A → (Data → Option A) → Option Data → Option A
read_or default reading None = Some default
read_or default reading (Some value) = reading value

abbrev pub defaulted : {A : Type 0} → A → (Data → Option A) → List ℕ → Members → Option A
defaulted default reading name entry = read_or default reading (get_member name entry)

-- a table has a name that isn't one of these
unfoldable pub has_other_name : List (List ℕ) → Members → Bool
has_other_name names no_members = false
has_other_name names (member name value entry) = not (list_any (bytes_eq name) names) || has_other_name names entry
