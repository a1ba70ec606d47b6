use Rattle.std.proofs.Common.{◌≡◌, ◌++◌, List, ℕ, take}
use Rattle.aes_modes.specs.Streams.{state_after}
use Rattle.aes_modes.proofs.mac_stream.MacStream.take.Given as goal

-- the octets before this one are taken
abbrev pub invariant-loop-octet : goal.invariant-loop-octet
invariant-loop-octet l = (text : List ℕ) → l.fn.self ≡ state_after l.key text → l.self ≡ state_after l.key (text ++ take l.octet-index l.octets)
