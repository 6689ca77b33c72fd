use Rattle.std.proofs.Common.{rules, tests}
use Rattle.script.specs.inner.Sides.{side_read, side_field}
use Rattle.script.proofs.sides.side_field.Goals as goal

pub returns : goal.returns
unfolding side_field
returns c = c.field.ensures side_read (λ x v q. search (rules, tests))
