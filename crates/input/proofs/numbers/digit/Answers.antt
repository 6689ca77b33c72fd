use Rattle.std.proofs.Common.{arith}
use Rattle.input.proofs.Reading.{digit_is, no_digit}
use Rattle.input.proofs.numbers.digit.Goals as goal

pub returns-then-is_ascii_digit : goal.returns-then-is_ascii_digit
returns-then-is_ascii_digit c =
    let h = c.if-is_ascii_digit.ensures.cases in (digit_is c.args.b h.0 h.1, omega (arith, h.1))

pub returns-else-is_ascii_digit : goal.returns-else-is_ascii_digit
returns-else-is_ascii_digit c = no_digit c.args.b c.if-is_ascii_digit.ensures.cases
