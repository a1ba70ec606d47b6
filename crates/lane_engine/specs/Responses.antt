-- A response whose data stand in the octets that it was opened in.
use Rattle.std.specs.Prelude.{ℕ, List}
use Rattle.response_packet.specs.Opened.{answer_at}
use Rattle.lane_engine.specs.Receipts.{Response}
use Rattle.lane_engine.specs.declared.responses.ResponseIn.{ResponseIn}

abbrev pub response_in_octets : ResponseIn → List ℕ → Response
response_in_octets response octets = record { keyset = response.keyset; answer = answer_at response.answer octets }
