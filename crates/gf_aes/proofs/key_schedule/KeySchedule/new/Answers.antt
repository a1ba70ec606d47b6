use Rattle.std.proofs.Common.{arith}
use Rattle.gf_aes.specs.Cipher.{IsKeyLength}
use Rattle.std.proofs.Common.{length}
use Rattle.gf_aes.proofs.Expansion.{expanded, key-of_words}
use Rattle.gf_aes.proofs.key_schedule.KeySchedule.new.Goals as goal

pub invariant_of-result : goal.invariant_of-result
invariant_of-result c =
    let kind : IsKeyLength (length c.args.key.now) = grind arith in
    expanded c.args.key.now c.expand.new.words c.mix.new.mixed kind (λ i. omega (arith, c.type_inv.key i)) c.expand.ensures c.mix.ensures

pub returns-clause-key : goal.returns-clause-key
returns-clause-key c =
    let kind : IsKeyLength (length c.args.key.now) = grind arith in
    key-of_words c.args.key.now c.expand.new.words kind (λ i. omega (arith, c.type_inv.key i)) c.expand.ensures
