use Rattle.std.proofs.Common.{refl, ap, sym, ◌∙◌}
use Rattle.input.specs.inner.Fields.{ending}
use Rattle.input.proofs.Parts.{read_so}
use Rattle.input.proofs.fields.field.Goals as goal

pub returns-in_err-value : goal.returns-in_err-value
returns-in_err-value g c = λ h k.
    read_so h _ _ c.in_ok-span.span c.read.result _ (c.from_residual-in_err-value.ensures ∙ sym (ap (λ v. ending c.in_ok-span.span.end v) c.in_err-value.was)) c.in_ok-span.ensures.value (k _ _ (record { shown = _; shows = refl; says = record { met = c.read.ensures } }))

pub returns : goal.returns
returns g c = λ h k.
    read_so h _ _ c.in_ok-span.span c.read.result _ (sym (ap (λ v. ending c.in_ok-span.span.end v) c.in_ok-value.was)) c.in_ok-span.ensures.value (k _ _ (record { shown = _; shows = refl; says = record { met = c.read.ensures } }))
