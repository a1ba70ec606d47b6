-- The fields of a packet that isn't opened. ETSI TS 102 225, 5.1.
use Rattle.std.specs.Prelude.{ℕ, nat_le, if◌then◌else◌, List, [], ◌∷◌, length, take, drop, slice_index}
use Rattle.command_packet.specs.Carried.{plain_of, says_ciphered}
use Rattle.secured_packet.specs.Secured.{number_of_five}

-- TAR, octets 8 to 10 of the packet; zeros, where it has fewer than 10
abbrev pub tar_in : List ℕ → List ℕ
tar_in packet = if nat_le 10 (length packet) then take 3 (drop 7 packet) else 0 ∷ 0 ∷ 0 ∷ []

-- CNTR, octets 11 to 15, as it is deciphered with this key
abbrev pub counter_by : List ℕ → List ℕ → ℕ
counter_by kic packet = number_of_five (take 5 (drop 10 (plain_of (says_ciphered (slice_index packet 3)) kic packet)))
