use Rattle.std.proofs.Common.{rules, tests}
use Rattle.input.specs.inner.Numbers.{signed_of}
use Rattle.input.specs.inner.Fields.{key_field}
use Rattle.input.proofs.fields.key_field.Goals as goal

pub returns : goal.returns
unfolding key_field
returns c = c.field.ensures signed_of (λ x v q. search (rules, tests))
