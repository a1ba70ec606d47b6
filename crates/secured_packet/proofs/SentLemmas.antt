-- What is sent is as long as what it is made from, and its ciphering is undone; checksums are 8 octets.
use Rattle.std.proofs.Common.{◌≡◌, ℕ, zero, suc, ◌+◌, ◌-◌, ◌*◌, ◌/◌, ◌%◌, ◌^◌, ◌<◌, ◌≤◌, Bool, true, false, List, [], ◌∷◌, ◌++◌, length, take, replicate, refl, sym, ap, ◌∙◌, arith}
use Rattle.std.specs.Int.{bytes_high_first}
use Rattle.std.proofs.lemmas.List.{length-take-le}
use Rattle.aes_modes.specs.Modes.{AreOctets, cbc_of, cmac_of}
use Rattle.aes_modes.proofs.Chains.{cbc_plain_of-cbc_of, length-cbc_of}
use Rattle.aes_modes.proofs.Macs.{cmac-block}
use Rattle.secured_packet.specs.Secured.{checksum_of, deciphered, five, sent}

-- ---- octets

pub append-octets : (s t : List ℕ) → AreOctets s → AreOctets t → AreOctets (s ++ t)
append-octets [] t h g i = g i
append-octets (x ∷ s) t h g zero = h 0
append-octets (x ∷ s) t h g (suc i) = append-octets s t (λ j. h (suc j)) g i

take-octets : (n : ℕ) (s : List ℕ) → AreOctets s → AreOctets (take n s)
take-octets zero s h i = omega arith
take-octets (suc n) [] h i = omega arith
take-octets (suc n) (x ∷ s) h zero = h 0
take-octets (suc n) (x ∷ s) h (suc i) = take-octets n s (λ j. h (suc j)) i

pub zeros-octets : (n : ℕ) → AreOctets (replicate n 0)
zeros-octets zero i = omega arith
zeros-octets (suc n) zero = omega arith
zeros-octets (suc n) (suc i) = zeros-octets n i

pub one-octet : (x : ℕ) → x < 2 ^ 8 → AreOctets (x ∷ [])
one-octet x h zero = h
one-octet x h (suc i) = omega arith

pub five-octets : (n : ℕ) → AreOctets (five n)
unfolding five
five-octets n zero = omega arith
five-octets n (suc zero) = omega arith
five-octets n (suc (suc zero)) = omega arith
five-octets n (suc (suc (suc zero))) = omega arith
five-octets n (suc (suc (suc (suc zero)))) = omega arith
five-octets n (suc (suc (suc (suc (suc i))))) = omega arith

-- ---- checksums

pub checksum-octets : (kid text : List ℕ) → AreOctets (checksum_of kid text)
checksum-octets kid text = take-octets 8 (cmac_of kid text) (cmac-block kid text).1

pub checksum-eight : (kid text : List ℕ) → length (checksum_of kid text) ≡ 8
checksum-eight kid text = length-take-le 8 (cmac_of kid text) (omega (arith, (cmac-block kid text).0))

-- ---- ciphering

pub length-sent : (ciphered : Bool) (kic text : List ℕ) → (ciphered ≡ true → length text % 16 ≡ 0) → length (sent ciphered kic text) ≡ length text
length-sent true kic text whole = length-cbc_of kic text (whole refl)
length-sent false kic text whole = refl

pub sent-undone : (ciphered : Bool) (kic text : List ℕ) → AreOctets text → (ciphered ≡ true → length text % 16 ≡ 0) → deciphered ciphered kic (sent ciphered kic text) ≡ text
sent-undone true kic text octets whole = cbc_plain_of-cbc_of kic text octets (whole refl)
sent-undone false kic text octets whole = refl
