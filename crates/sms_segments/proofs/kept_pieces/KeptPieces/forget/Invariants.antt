use Rattle.std.proofs.Common.{◌≡◌, ℕ, ◌&&◌, nat_le, None, cond}
use Rattle.sms_segments.specs.declared.concatenations.Concatenation.{Concatenation}
use Rattle.sms_segments.specs.Assembled.{is_same}
use Rattle.sms_segments.specs.Kept.{kept_in}
use Rattle.sms_segments.proofs.kept_pieces.KeptPieces.forget.Given as goal

-- the places before this one are taken out, and no others
abbrev pub invariant-loop-before : goal.invariant-loop-before
invariant-loop-before l = (other : Concatenation) (place : ℕ)
    → kept_in l.self-inside.pieces.entries other place ≡ cond (is_same l.of other && (nat_le 1 place && nat_le place l.before)) None (kept_in l.initial.self-inside.pieces.entries other place)
