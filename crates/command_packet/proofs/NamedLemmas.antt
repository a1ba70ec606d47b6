-- The keyset that a packet names.
use Rattle.std.proofs.Common.{◌≡◌, ℕ, Bool, true, false, cond, eqb, Option, Some, None, Result, Ok, Err, List, refl, sym, ap, ◌∙◌, inl, inr}
use Rattle.std.proofs.lemmas.Bool.{cases_Bool, eqb-true}
use Rattle.ota_core.specs.declared.security.Spi.{Spi}
use Rattle.aes_modes.specs.KeyPair.{KeyPair}
use Rattle.command_packet.specs.declared.opening.Command.{Command}
use Rattle.command_packet.specs.declared.opening.OpenErr.{OpenErr}
use Rattle.command_packet.specs.declared.opening.OpenErr.TheVariants.{CcWrong, Form, Padding, UnknownAlgorithm}
use Rattle.command_packet.specs.Carried.{carried_by, carried_checked, carried_plain, carries, checked_of, command_in, has_form, has_padding, is_authentic, kvn_by, kvn_in, plain_of, security_in}
use Rattle.command_packet.specs.Laws.{NamesItsKeyset, NamesOneKeyset}

of_padding : (kvn : ℕ) (spi : Spi) (checked : List ℕ) (b : Bool) (command : Command) → cond b (Ok (command_in kvn spi checked)) (Err Padding) ≡ Ok command → command.kvn ≡ kvn
of_padding kvn spi checked true command is = cc
of_padding kvn spi checked false command is = cc

of_code : (kvn : ℕ) (spi : Spi) (checked : List ℕ) (b : Bool) (command : Command) → cond b (carried_checked kvn spi checked) (Err CcWrong) ≡ Ok command → command.kvn ≡ kvn
of_code kvn spi checked true command is = of_padding kvn spi checked (has_padding checked) command is
of_code kvn spi checked false command is = cc

of_key : (keys : KeyPair) (kvn named : ℕ) (spi : Spi) (packet : List ℕ) (command : Command) (b : Bool) → eqb named kvn ≡ b
    → cond b (carried_plain keys.kid kvn spi (plain_of spi.ciphered keys.kic packet)) (Err UnknownAlgorithm) ≡ Ok command → (named ≡ kvn) × (command.kvn ≡ kvn)
of_key keys kvn named spi packet command true same is =
    let plain : List ℕ = plain_of spi.ciphered keys.kic packet in
    (eqb-true named kvn same, of_code kvn spi (checked_of plain) (is_authentic keys.kid plain) command is)
of_key keys kvn named spi packet command false same is = cc

of_security : (keys : KeyPair) (kvn : ℕ) (packet : List ℕ) (command : Command) (security : Option (Spi × ℕ)) → carried_by keys kvn packet security ≡ Ok command → (kvn_by security ≡ Some kvn) × (command.kvn ≡ kvn)
of_security keys kvn packet command None is = cc
of_security keys kvn packet command (Some (spi, named)) is =
    let parts = of_key keys kvn named spi packet command (eqb named kvn) refl is in
    (ap Some parts.0, parts.1)

of_form : (keys : KeyPair) (kvn : ℕ) (packet : List ℕ) (command : Command) (b : Bool)
    → cond b (carried_by keys kvn packet (security_in packet)) (Err Form) ≡ Ok command → (cond b (kvn_by (security_in packet)) None ≡ Some kvn) × (command.kvn ≡ kvn)
of_form keys kvn packet command true is = of_security keys kvn packet command (security_in packet) is
of_form keys kvn packet command false is = cc

pub names_its_keyset : NamesItsKeyset
unfolding carries
names_its_keyset keys kvn packet command is = of_form keys kvn packet command (has_form packet) is

some_same : (a b : ℕ) → Some a ≡ Some b → a ≡ b
some_same a b is = cc

pub names_one_keyset : NamesOneKeyset
names_one_keyset keys other_keys kvn other_kvn packet command other_command is other =
    some_same kvn other_kvn (sym (names_its_keyset keys kvn packet command is).0 ∙ (names_its_keyset other_keys other_kvn packet other_command other).0)
