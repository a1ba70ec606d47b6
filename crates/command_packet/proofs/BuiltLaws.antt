-- Laws of the packet of any command, whether or not it was built.
use Rattle.std.proofs.Common.{◌≡◌, ℕ, ◌+◌, ◌-◌, ◌*◌, ◌/◌, ◌%◌, ◌^◌, ◌<◌, ◌≤◌, Bool, true, false, Ok, List, [], ◌∷◌, ◌++◌, length, replicate, refl, sym, ap, ◌∙◌, arith, length-append}
use Rattle.std.proofs.lemmas.List.{length-replicate}
use Rattle.ota_core.specs.declared.security.Spi.{Spi}
use Rattle.ota_core.specs.Security.{key_octet, spi_octets}
use Rattle.aes_modes.specs.KeyPair.{KeyPair}
use Rattle.aes_modes.specs.Modes.{AreOctets}
use Rattle.secured_packet.specs.Secured.{checksum_of, deciphered, five, padding_len, sent, two, with_padding}
use Rattle.secured_packet.proofs.FieldLemmas.{padding-few, whole_blocks}
use Rattle.secured_packet.proofs.SentLemmas.{append-octets, checksum-eight, checksum-octets, five-octets, length-sent, one-octet, sent-undone, zeros-octets}
use Rattle.command_packet.specs.declared.opening.Command.{Command}
use Rattle.command_packet.specs.Command.{checked_octets, command_octets, counter_octets, head_octets, packet_length, packet_octets, padding_of}
use Rattle.command_packet.specs.Carried.{carries}
use Rattle.command_packet.specs.Laws.{CarriesWhatIsBuilt, HasPacketLength}
use Rattle.command_packet.proofs.CommandLemmas.{carries-built, length-built, with_tar}

module _ (keys : KeyPair) (kvn : ℕ) (spi : Spi) (tar : List ℕ) (counter : ℕ) (body : List ℕ) where
  abbrev padding : ℕ
  padding = padding_of spi body

  abbrev text : List ℕ
  text = with_padding padding body

  abbrev code : List ℕ
  code = checksum_of keys.kid (checked_octets spi kvn tar counter padding text)

  -- what is ciphered
  abbrev part : List ℕ
  part = counter_octets counter padding ++ code ++ text

  text-len : length text ≡ length body + padding
  text-len = omega (arith, length-append body (replicate padding 0), length-replicate {A = ℕ} padding 0)

  part-len : length part ≡ 14 + length text
  unfolding five
  part-len = omega (arith, length-append (counter_octets counter padding ++ code) text, length-append (counter_octets counter padding) code, checksum-eight keys.kid (checked_octets spi kvn tar counter padding text))

  whole : spi.ciphered ≡ true → length part % 16 ≡ 0
  whole is = omega (arith, whole_blocks spi.ciphered (14 + length body) is, part-len, text-len)

  part-octets : AreOctets body → AreOctets part
  part-octets octets =
      append-octets (counter_octets counter padding ++ code) text
      (append-octets (counter_octets counter padding) code
      (append-octets (five counter) (padding ∷ []) (five-octets counter) (one-octet padding (omega (arith, padding-few spi.ciphered (14 + length body)))))
      (checksum-octets keys.kid (checked_octets spi kvn tar counter padding text)))
      (append-octets body (replicate padding 0) octets (zeros-octets padding))

  sent-len : length (sent spi.ciphered keys.kic part) ≡ 14 + length text
  sent-len = length-sent spi.ciphered keys.kic part whole ∙ part-len

  head-len : length tar ≡ 3 → length (head_octets (22 + length text) spi kvn tar) ≡ 10
  unfolding two
  head-len three = with_tar (λ t. length (head_octets (22 + length text) spi kvn t) ≡ 10) (λ a b c. refl) tar three

  pub packet-len : length tar ≡ 3 → length (command_octets keys kvn spi tar counter body) ≡ packet_length spi.ciphered (length body)
  unfolding command_octets
  packet-len three =
      length-built spi.ciphered (length body) padding (length (packet_octets keys kvn spi tar counter padding text)) refl
      (omega (arith, length-append (head_octets (22 + length text) spi kvn tar) (sent spi.ciphered keys.kic part), head-len three, sent-len, text-len))

pub has-packet_length : HasPacketLength
has-packet_length = packet-len

pub carries-what_is_built : CarriesWhatIsBuilt
unfolding command_octets
carries-what_is_built keys kvn spi tar counter body above below three small fits octets =
    with_tar (λ t. carries keys kvn (packet_octets keys kvn spi t counter (padding_of spi body) (with_padding (padding_of spi body) body)) ≡ Ok (record { kvn = kvn; spi = spi; tar = t; counter = counter; body = body }))
    (λ a b c.
    let t : List ℕ = a ∷ b ∷ c ∷ [] in
    carries-built keys kvn spi a b c counter (padding_of spi body) body (sent spi.ciphered keys.kic (part keys kvn spi t counter body)) above below small fits refl
    (checksum-eight keys.kid (checked_octets spi kvn t counter (padding_of spi body) (with_padding (padding_of spi body) body)))
    (sent-undone spi.ciphered keys.kic (part keys kvn spi t counter body) (part-octets keys kvn spi t counter body octets) (whole keys kvn spi t counter body))
    (sent-len keys kvn spi t counter body))
    tar three
