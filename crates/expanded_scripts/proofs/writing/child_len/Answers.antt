use Rattle.std.proofs.Common.{length, arith, length-append}
use Rattle.expanded_scripts.specs.Written.{least_length}
use Rattle.expanded_scripts.proofs.Forms.{whole-short}
use Rattle.expanded_scripts.proofs.writing.child_len.Goals as goal

pub element_len-requires : goal.element_len-requires
element_len-requires c = omega (arith, whole-short c.args.command.now c.requires (omega (arith, c.type_inv.command 4)))

pub returns-clause-len : goal.returns-clause-len
returns-clause-len c =
    let command = c.args.command.now in
    omega (arith, c.element_len.ensures.len, length-append (least_length (length command)) command)

pub returns-clause-few : goal.returns-clause-few
returns-clause-few c = omega (arith, c.element_len.ensures.few, whole-short c.args.command.now c.requires (omega (arith, c.type_inv.command 4)))
