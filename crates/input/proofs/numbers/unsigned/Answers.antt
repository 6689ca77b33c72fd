use Rattle.std.proofs.Common.{rules, arith}
use Rattle.input.proofs.Reading.{read_none, read_first, read_no_digit, read_tens_over, read_digit_over, read_more, read_end}
use Rattle.input.proofs.numbers.unsigned.Goals as goal

pub returns-then-is_empty : goal.returns-then-is_empty
returns-then-is_empty c = search (rules, read_none)

pub loop-b-init : goal.loop-b-init
loop-b-init c = search (rules, read_first)

pub returns-in_err-d : goal.returns-in_err-d
returns-in_err-d c = search (rules, read_no_digit)

pub returns-in_err-tens : goal.returns-in_err-tens
returns-in_err-tens c =
    read_tens_over _ _ _ c.in_ok-d.d 0 _ _ c.from_residual-in_err-tens.ensures c.loop-b-test.true c.in_ok-d.ensures.0 c.in_ok-d.ensures.1 c.in_err-tens.ensures c.loop-b.invariant

pub returns-in_err-v : goal.returns-in_err-v
returns-in_err-v c =
    read_digit_over _ _ _ _ _ _ _ c.from_residual-in_err-v.ensures c.loop-b-test.true c.in_ok-d.ensures.0 c.in_ok-d.ensures.1 c.in_ok-tens.ensures.1 (λ h. c.in_err-v.ensures (omega arith)) c.loop-b.invariant

pub loop-b-preserved : goal.loop-b-preserved
loop-b-preserved c = search (rules, arith, read_more)

pub returns : goal.returns
returns c = search (rules, read_end)
