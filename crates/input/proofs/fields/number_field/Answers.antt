use Rattle.std.proofs.Common.{rules, tests}
use Rattle.input.specs.inner.Numbers.{unsigned_of}
use Rattle.input.specs.inner.Fields.{number_field}
use Rattle.input.proofs.fields.number_field.Goals as goal

pub returns : goal.returns
unfolding number_field
returns c = c.field.ensures unsigned_of (λ x v q. search (rules, tests))
