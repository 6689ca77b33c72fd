-- The library's `div_euclid` and `rem_euclid` by a positive number are the floor and the remainder of specs/Floor.
-- Assumes nothing.
use mathlib.Core.Path.{◌≡◌, refl, ap, ◌∙◌}
use Prim.Native.Nat.{ℕ}
use native.Mathlib.Omega.{arith}
use lib.IntN.{ℤ, pos, negsuc}
use mir.Syntax.{w32, w64}
use mir.Val.{Fits, SFits, to_z, of_z}
use mir.Facts.{to_z-of_z}
use Rattle.std.specs.Int.{int_div_euclid, int_rem_euclid}
use Rattle.due.proofs.Sizes.{wide_reads}
use Rattle.due.specs.Floor.{floor_div, floor_mod}

pub floor_is : (z : ℤ) (k : ℕ) → int_div_euclid z (pos k) ≡ floor_div z k
unfolding floor_div
floor_is (pos n) k = refl
floor_is (negsuc n) k = refl

pub rest_is : (z : ℤ) (k : ℕ) → int_rem_euclid z (pos k) ≡ pos (floor_mod z k)
unfolding floor_mod
rest_is (pos n) k = refl
rest_is (negsuc n) k = ap pos (omega arith)

-- ---- the same of numbers that are read from their bits, the divisor cast

module _ (z q : ℤ) (k : ℕ) (f : SFits w64 z) (g : Fits w32 k) (h : SFits w64 q) where
  pub floor_reads : q ≡ int_div_euclid (to_z w64 (of_z w64 z)) (to_z w64 k) → to_z w64 (of_z w64 q) ≡ floor_div z k
  floor_reads e = to_z-of_z h ∙ (rw (to_z-of_z f, wide_reads g) at e) ∙ floor_is z k

  pub rest_reads : q ≡ int_rem_euclid (to_z w64 (of_z w64 z)) (to_z w64 k) → to_z w64 (of_z w64 q) ≡ pos (floor_mod z k)
  rest_reads e = to_z-of_z h ∙ (rw (to_z-of_z f, wide_reads g) at e) ∙ rest_is z k
