-- What a reader makes of a field, once the field is found.
use Prim.Native.Nat.{ℕ}
use mathlib.Core.Path.{◌≡◌}
use mathlib.Core.List.{List}
use Rattle.std.specs.declared.option.Option.{Option}
use Rattle.std.specs.declared.option.Option.TheVariants.{Some, None}
use Rattle.input.specs.declared.fields.Span.{Span}
use Rattle.handle.specs.declared.Key.{Key}
use Rattle.input.specs.inner.Numbers.{signed_of}
use Rattle.input.specs.inner.Fields.{part, ending, next_field, field_by, key_field}

module _ {A : Type 0} (g : List ℕ → Option A) (s : List ℕ) (from : ℕ) (p : Span) (v : Option A) (r : Option (A × ℕ)) where
  pub read_so : r ≡ ending p.end v → Some p ≡ next_field s from → v ≡ g (part s p.start p.end) → r ≡ field_by g s from
  read_so q here e = rw (← here, q, e)

-- ---- a key field, found or missing, read well or not

module _ (s : List ℕ) (from : ℕ) (f : Option Span) (here : f ≡ next_field s from) where
  pub no_key : f ≡ None → None ≡ key_field s from
  unfolding key_field
  no_key p = rw (← here, p)

  pub key_is : (p : Span) → f ≡ Some p → (n : Option Key) (v : Key) → n ≡ signed_of (part s p.start p.end) → n ≡ Some v →
      Some (v, p.end) ≡ key_field s from
  unfolding key_field
  key_is p at n v q e = rw (← here, at, ← q, e)
