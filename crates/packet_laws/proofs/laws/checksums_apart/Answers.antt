use Rattle.std.proofs.Common.{◌≡◌, ℕ, List, ap, arith}
use Rattle.std.specs.Prelude.{slice_index}
use Rattle.secured_packet.specs.Secured.{two}
use Rattle.packet_laws.proofs.laws.checksums_apart.Goals as goal

pub returns-clause-built : goal.returns-clause-built
unfolding two
returns-clause-built c = λ spi kvn tar counter padding text answer_tar answer_counter answer_padding status answer_text same.
    let third : ◌≡◌ {A = ℕ} 0x15 0 = ap (λ octets. slice_index octets 2) same in
    omega arith
