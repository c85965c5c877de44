use Rattle.std.proofs.Common.{arith}
use Rattle.grammar.proofs.Numbers.{decimal-at}
use Rattle.grammar.proofs.number.decimal.Goals as goal

pub returns-in_err-checked_mul : goal.returns-in_err-checked_mul
returns-in_err-checked_mul c =
    let least = decimal-at c.args.digits.now c.loop-digit.digit-index c.loop-digit.n
    c.loop-digit-test.true in
    let rest = c.loop-digit.invariant.rest in
    rw c.from_residual.ensures (λ less. c.in_err-checked_mul.ensures (omega (arith, least, rest, less)))

pub returns-in_err-n : goal.returns-in_err-n
returns-in_err-n c =
    let least = decimal-at c.args.digits.now c.loop-digit.digit-index c.loop-digit.n
    c.loop-digit-test.true in
    let rest = c.loop-digit.invariant.rest in
    rw c.from_residual-in_err-n.ensures (λ less. c.in_err-n.ensures (omega (arith, least, rest, less)))
