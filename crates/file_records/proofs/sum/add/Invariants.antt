use Rattle.std.proofs.Common.{◌≡◌, ℕ, ◌+◌, ◌-◌, ◌*◌, ◌^◌, ◌<◌, ◌≤◌, length, drop, get_or}
use Rattle.file_records.specs.Numbers.{AreOctets, number_of}
use Rattle.file_records.proofs.sum.add.Given as goal

-- The octets from a place on hold the sum of theirs and the number, but for the carry.
abbrev pub invariant-loop-at : goal.invariant-loop-at
invariant-loop-at l =
    (l.at ≤ length l.octets)
    × (l.carry < 2 ^ 24)
    × ((k : ℕ) → k < l.at → get_or l.octets k 0 ≡ get_or l.fn.octets k 0)
    × AreOctets l.octets
    × (number_of (drop l.at l.octets) + l.carry * 256 ^ (length l.octets - l.at) ≡ number_of (drop l.at l.fn.octets) + l.by)

abbrev pub decreases-loop-at : goal.decreases-loop-at
decreases-loop-at l = l.at
