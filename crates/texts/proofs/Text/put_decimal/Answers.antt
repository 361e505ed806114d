use Rattle.std.proofs.Common.{arith}
use Rattle.texts.proofs.Digits.{digits_inside}
use Rattle.texts.proofs.Text.put_decimal.Goals as goal

pub returns-clause-last : goal.returns-clause-last
returns-clause-last c = λ h.
    let inside = digits_inside c.decimal-k.result c.args.n (omega arith) in
    let digits = rw (← c.decimal-k.ensures.digits) at inside in
    let last = c.put.ensures.last digits.0 h in
    (last.0, rw last.1 digits.1)
