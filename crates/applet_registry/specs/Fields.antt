-- The data fields of the commands. GlobalPlatform Card Specification 2.1.1, 9.2.2, 9.4.2 and 9.5.2.
use Rattle.std.specs.Prelude.{ℕ, zero, suc, ◌==◌, ◌&&◌, nat_lt, if◌then◌else◌, Option, Some, None, option_map, option_and_then, List, [], ◌∷◌, length, take, drop, slice_index}
use Rattle.applet_registry.specs.declared.application.Application.{Application}
use Rattle.applet_registry.specs.declared.fields.NamedValues.{NamedValues}
use Rattle.applet_registry.specs.Aid.{is_aid, aid_of}

-- the value behind its length of one octet, and what stands behind the value
abbrev pub field_of : List ℕ → Option (List ℕ × List ℕ)
field_of [] = None
field_of (len ∷ octets) = if nat_lt (length octets) len then None else Some (take len octets, drop len octets)

-- the values of so many fields, which fill the octets exactly
unfoldable pub values_of : ℕ → List ℕ → Option (List (List ℕ))
values_of zero octets = if length octets == 0 then Some [] else None
values_of (suc count) octets = option_and_then (λ field. option_map (λ values. field.0 ∷ values) (values_of count field.1)) (field_of octets)

-- INSTALL [for load] has five values: the load file's AID, that of a security domain, a hash, parameters and
-- a token. The AID of the load file
abbrev pub new_load_file_in : Option (List (List ℕ)) → Option (List ℕ)
new_load_file_in (Some (load_file ∷ domain ∷ hash ∷ parameters ∷ token ∷ [])) = aid_of load_file
new_load_file_in _ = None

-- INSTALL [for install] and INSTALL [for make selectable] have six values: the AIDs of the load file, of a
-- module in it and of the application, privileges of one octet, parameters and a token
pub record Named : Type 0 where
  pub load_file : List ℕ
  pub module_aid : List ℕ
  pub aid : List ℕ
  pub privileges : ℕ

abbrev pub named_in : Option (List (List ℕ)) → Option Named
named_in (Some (load_file ∷ module_aid ∷ aid ∷ privileges ∷ parameters ∷ token ∷ [])) =
    if length privileges == 1 then Some (record { load_file = load_file; module_aid = module_aid; aid = aid; privileges = slice_index privileges 0 }) else None
named_in _ = None

-- what a read of these values gives
abbrev pub named : NamedValues → Named
named values = record { load_file = values.load_file.now; module_aid = values.module_aid.now; aid = values.aid.now; privileges = values.privileges }

-- INSTALL [for install]: the application, in this state
abbrev pub new_application_of : ℕ → Named → Option Application
new_application_of state named =
    if is_aid named.load_file && is_aid named.module_aid && is_aid named.aid
    then Some (record { aid = named.aid; load_file = named.load_file; module_aid = named.module_aid; state = state; privileges = named.privileges }) else None

-- INSTALL [for make selectable]: the application's AID; the two before it are empty
abbrev pub installed_of : Named → Option (List ℕ)
installed_of named = if length named.load_file == 0 && length named.module_aid == 0 then aid_of named.aid else None

-- the value behind the tag 4F and a length of one octet, which fill the octets exactly
abbrev pub tagged_value_of : List ℕ → Option (List ℕ)
tagged_value_of (tag ∷ len ∷ value) = if tag == 0x4F && len == length value then Some value else None
tagged_value_of _ = None
