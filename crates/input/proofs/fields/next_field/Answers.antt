use Rattle.input.proofs.Cutting.{field_at, field_some, field_end, no_field}
use Rattle.input.proofs.fields.next_field.Goals as goal

pub returns-then-start-s-clause-value : goal.returns-then-start-s-clause-value
returns-then-start-s-clause-value c = search field_at

pub returns-then-start-s-clause-in_line : goal.returns-then-start-s-clause-in_line
returns-then-start-s-clause-in_line c = search (field_some, field_end)

pub returns-clause-value : goal.returns-clause-value
returns-clause-value c = search no_field
