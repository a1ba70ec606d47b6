use Rattle.std.proofs.Common.{◌<◌, ◌+◌, length, arith}
use Rattle.plan_reader.proofs.NumberLemmas.{digits_value-step, digits_value-short}
use Rattle.plan_reader.proofs.numbers.value.Goals as goal

pub overflow_mul-value : goal.overflow_mul-value
overflow_mul-value c =
    let digits = c.args.digits.now in
    let i = c.loop-digit.digit-index in
    let short = digits_value-short digits i c.requires.digits c.requires.short in
    omega (arith, short, c.loop-digit.invariant)

pub overflow_add-value : goal.overflow_add-value
overflow_add-value c =
    let digits = c.args.digits.now in
    let i = c.loop-digit.digit-index in
    let within : i < length digits = omega arith in
    let step = digits_value-step digits i c.requires.digits within in
    let short = digits_value-short digits (i + 1) c.requires.digits c.requires.short in
    omega (arith, step, short, c.loop-digit.invariant, c.from.ensures)

pub loop-digit-preserved : goal.loop-digit-preserved
loop-digit-preserved c =
    let digits = c.args.digits.now in
    let i = c.loop-digit.digit-index in
    let within : i < length digits = omega arith in
    let step = digits_value-step digits i c.requires.digits within in
    omega (arith, step, c.loop-digit.invariant, c.from.ensures)
