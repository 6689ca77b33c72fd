-- Choices by a test that come to yes, opened and closed.
-- Assumes nothing.
use mathlib.Core.Path.{◌≡◌, refl}
use mathlib.Core.Bool.{Bool, true, false}
use Prim.Native.Nat.{ℕ}
use native.Mathlib.Omega.{arith}
use Rattle.arena.specs.Branch.{ifte}

pub not_yes : {A : Type 0} → false ≡ true → A
not_yes e = absurd (let z : ◌≡◌ {A = ℕ} 0 1 = cc in omega arith)

-- both tests hold
pub both_say : (t u : Bool) → ifte t u false ≡ true → (t ≡ true) × (u ≡ true)
both_say true u e = (refl, e)
both_say false u e = not_yes e

pub both-are : (t u : Bool) → t ≡ true → u ≡ true → ifte t u false ≡ true
both-are t u e f = rw (e, f)

-- the first does not hold, and the second does (opened by `no_refusal` of crate `arena`)
pub past_is : (t u : Bool) → t ≡ false → u ≡ true → ifte t false u ≡ true
past_is t u e f = rw (e, f)

-- one test or the other, as the choice falls
pub choice_says : (t u v : Bool) → ifte t u v ≡ true → (t ≡ true → u ≡ true) × (t ≡ false → v ≡ true)
choice_says true u v e = (λ f. e, λ f. not_yes (let g : false ≡ true = cc in g))
choice_says false u v e = (λ f. not_yes f, λ f. e)

pub choice_is : (t u v : Bool) → (t ≡ true → u ≡ true) → (t ≡ false → v ≡ true) → ifte t u v ≡ true
choice_is true u v f g = f refl
choice_is false u v f g = g refl
