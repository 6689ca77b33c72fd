use Rattle.std.proofs.Common.{◌∙◌, rules}
use Rattle.input.proofs.Signs.{minus_so, plain_so, short_so}
use Rattle.input.proofs.numbers.signed.Goals as goal
use Rattle.input.proofs.numbers.signed.Goals.{in_default-via-then-s-lt1, in_default-via-else-s-lt1+in_default-1}

pub returns-in_err-unsigned-in-45 : goal.returns-in_err-unsigned-in-45
returns-in_err-unsigned-in-45 c =
    c.from_residual.ensures ∙ minus_so _ _ (search rules) (search rules) c.in_err-unsigned-in-45.ensures

pub returns-in_err-unsigned-in_default : goal.returns-in_err-unsigned-in_default
returns-in_err-unsigned-in_default c =
    c.from_residual-in_err-unsigned-in_default.ensures
    ∙ elim c.in_default.branch [
      | in_default-via-then-s-lt1 w ↦ short_so _ _ (search rules) c.in_err-unsigned-in_default.ensures
      | in_default-via-else-s-lt1+in_default-1 w ↦ plain_so _ _ (search rules) (search rules) c.in_err-unsigned-in_default.ensures
    ]

pub returns-in_ok-unsigned-in-45 : goal.returns-in_ok-unsigned-in-45
returns-in_ok-unsigned-in-45 c =
    c.below.ensures ∙ minus_so _ _ (search rules) (search rules) c.in_ok-unsigned-in-45.ensures

pub returns-in_ok-unsigned-in_default : goal.returns-in_ok-unsigned-in_default
returns-in_ok-unsigned-in_default c =
    c.above.ensures
    ∙ elim c.in_default.branch [
      | in_default-via-then-s-lt1 w ↦ short_so _ _ (search rules) c.in_ok-unsigned-in_default.ensures
      | in_default-via-else-s-lt1+in_default-1 w ↦ plain_so _ _ (search rules) (search rules) c.in_ok-unsigned-in_default.ensures
    ]
