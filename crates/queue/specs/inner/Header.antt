-- Every call on a store but laying out and check begins with the header test. Document 01, number 5: "always when the header fails".
use Rattle.std.specs.Prelude.{ℕ, Result, Ok, Err}
use Rattle.handle.specs.declared.Refusal.{Refusal}

-- what a call comes to: f with the capacity where the header passes, else a
abbrev pub on_header : {A : Type 0} → Result ℕ Refusal → (ℕ → A) → A → A
on_header (Ok cap) f a = f cap
on_header (Err n) f a = a
