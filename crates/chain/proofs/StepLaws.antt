-- What a step answers, for proofs on sound stores: by where the link leads. A capacity is never above the number for no slot.
use Prim.Native.Nat.{ℕ, ◌<◌, ◌≤◌}
use mathlib.Core.Path.{◌≡◌}
use mathlib.Core.List.{List}
use native.Mathlib.Omega.{arith}
use borrow.Author.Tests.{eq-eqb, ne_eqb, lt-leb}
use Rattle.handle.specs.Numbers.{no_slot}
use Rattle.arena.specs.inner.Slots.{handle_with}
use Rattle.arena.specs.Words.{field, GENERATION}
use Rattle.chain.specs.inner.Steps.{followed}
use Rattle.std.specs.Prelude.{Ok, Some, None}

module _ (s : List ℕ) (cap p : ℕ) where
  pub follow-none : p ≡ no_slot → followed s cap p ≡ Ok None
  unfolding followed
  follow-none e = rw (eq-eqb p no_slot e)

  follow-slot : (p ≡ no_slot → ⊥) → p < cap → followed s cap p ≡ Ok (Some (handle_with p (field s cap p GENERATION)))
  unfolding followed
  follow-slot ne l = rw (ne_eqb p no_slot ne, lt-leb cap p l)

  pub follow-at : cap ≤ no_slot → p < cap → followed s cap p ≡ Ok (Some (handle_with p (field s cap p GENERATION)))
  follow-at few l = follow-slot (λ e. omega arith) l
