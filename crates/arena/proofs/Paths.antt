-- How a model that is made of choices is followed: `search paths` closes most returns of a function.
-- A test is answered by the fact that a branch of the code left; the variants are for a side that was read from the store.
use Prim.Native.Nat.{ℕ, ◌≤◌, ◌<◌}
use mathlib.Core.Path.{◌≡◌, refl}
use native.Mathlib.Omega.{arith}
use mathlib.Core.Bool.{Bool, true, false}
use lib.Dec.{ltb, leb, eqb}
use borrow.Author.Tests.{lt-ltb, le-ltb, eq-eqb, ne_eqb, le-leb, lt-leb}
use Rattle.arena.specs.Branch.{ifte}

pub if_true : {A : Type 0} (t : Bool) (r a b : A) → t ≡ true → r ≡ a → r ≡ ifte t a b
if_true t r a b e p = rw e p

pub if_false : {A : Type 0} (t : Bool) (r a b : A) → t ≡ false → r ≡ b → r ≡ ifte t a b
if_false t r a b e p = rw e p

-- what holds on either way, with what the test says there
pub either : {A : Type 0} (P : A → Type 0) (t : Bool) (a b : A) → (t ≡ true → P a) → (t ≡ false → P b) → P (ifte t a b)
either P true a b f g = f refl
either P false a b f g = g refl

-- the right side was read
module _ (a b b' : ℕ) (e : b ≡ b') where
  pub lt_r : a < b → ltb a b' ≡ true
  lt_r h = rw (← e) (lt-ltb a b h)

  pub le_r : b ≤ a → ltb a b' ≡ false
  le_r h = rw (← e) (le-ltb a b h)

  pub leb_r : a ≤ b → leb a b' ≡ true
  leb_r h = rw (← e) (le-leb a b h)

  pub nleb_r : b < a → leb a b' ≡ false
  nleb_r h = rw (← e) (lt-leb a b h)

-- the left side was read
module _ (a b a' : ℕ) (e : a ≡ a') where
  pub lt_l : a < b → ltb a' b ≡ true
  lt_l h = rw (← e) (lt-ltb a b h)

  pub le_l : b ≤ a → ltb a' b ≡ false
  le_l h = rw (← e) (le-ltb a b h)

  pub leb_l : a ≤ b → leb a' b ≡ true
  leb_l h = rw (← e) (le-leb a b h)

  pub nleb_l : b < a → leb a' b ≡ false
  nleb_l h = rw (← e) (lt-leb a b h)

  pub eq_l : a ≡ b → eqb a' b ≡ true
  eq_l h = rw (← e) (eq-eqb a b h)

  pub ne_l : (a ≡ b → ⊥) → eqb a' b ≡ false
  ne_l h = rw (← e) (ne_eqb a b h)

pub ruleset paths = (if_true, if_false, lt-ltb, le-ltb, eq-eqb, ne_eqb, le-leb, lt-leb, lt_r, lt_l, le_r, le_l, eq_l, ne_l, leb_r, leb_l, nleb_r, nleb_l)

-- a chain of refusals that came to yes: no test held
pub no_refusal : (t b : Bool) → ifte t false b ≡ true → (t ≡ false) × (b ≡ true)
no_refusal true b e = let z : ◌≡◌ {A = ℕ} 0 1 = cc in absurd (omega arith)
no_refusal false b e = (refl, e)

-- and of five in a row
pub no_refusals : (a b c d e : Bool) → ifte a false (ifte b false (ifte c false (ifte d false (ifte e false true)))) ≡ true
    → (a ≡ false) × (b ≡ false) × (c ≡ false) × (d ≡ false) × (e ≡ false)
no_refusals a b c d e t =
    let u = no_refusal a _ t in
    let v = no_refusal b _ u.1 in
    let w = no_refusal c _ v.1 in
    let x = no_refusal d _ w.1 in
    (u.0, v.0, w.0, x.0, (no_refusal e _ x.1).0)
