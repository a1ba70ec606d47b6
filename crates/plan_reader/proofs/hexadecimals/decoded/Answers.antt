use Rattle.std.proofs.Common.{◌≡◌, ◌∙◌, false, sym, refl, inl, inr}
use Rattle.plan_reader.specs.Hexadecimal.{is_memory}
use Rattle.plan_reader.proofs.HexadecimalLemmas.{octets_of-half}
use Rattle.plan_reader.proofs.hexadecimals.decoded.Goals as goal

pub returns-in-Ok : goal.returns-in-Ok
returns-in-Ok c = rw (octets_of-half c.args.digits.now, c.in-Ok.ensures.ok) refl

pub returns-else-is_memory : goal.returns-else-is_memory
returns-else-is_memory c =
    let other : is_memory c.in-Err.err ≡ false = sym c.is_memory.ensures ∙ c.if-is_memory.false in
    elim c.in-Err.ensures.err [
      | inl memory ↦ let none = rw memory at other in cc none
      | inr refused ↦ rw (octets_of-half c.args.digits.now, refused) refl
    ]
