use Rattle.hex.specs.Hex.{decode_sized}
use Rattle.std.proofs.Common.{length}
use Rattle.plan_reader.specs.Hexadecimal.{octets_of}
use Rattle.plan_reader.proofs.HexadecimalLemmas.{filled}
use Rattle.plan_reader.proofs.hexadecimals.read_octets.Goals as goal

pub returns : goal.returns
unfolding octets_of
returns c =
    let read = decode_sized c.args.digits.now (length c.args.octets.now) in
    rw c.ok.ensures.value (filled read c.decode_to_slice.result c.decode_to_slice.new.out c.decode_to_slice.ensures.value)
