-- The tests of ranges and the facts that they decide, for the theorems of Times and the proofs of the functions.
-- A reader needs nothing of it. Assumes nothing.
use mathlib.Core.Path.{◌≡◌, refl, sym}
use mathlib.Core.Bool.{Bool, true, false, ◌&&◌}
use lib.IntN.{ℤ}
use lib.Signed.{le_z}
use mir.Syntax.{w64}
use mir.Val.{SFits, to_z, of_z}
use mir.Facts.{to_z-of_z}
use Rattle.std.specs.Ordering.{is_le, int_cmp}
use Rattle.due.specs.Due.{within, InBounds, GoodTime, good_day, good_second, good_offset}
use Rattle.due.proofs.Signs.{le_of_cmp, yes→true, true→yes}

-- ---- tests joined by &&

pub both : {a b : Bool} → a ≡ true → b ≡ true → (a && b) ≡ true
both p q = rw (p, q)

pub both_out : (a b : Bool) → (a && b) ≡ true → (a ≡ true) × (b ≡ true)
both_out true b e = (refl, e)
both_out false b e = absurd (true→yes e)

-- two tests that pass together are the same
pub same_test : (a b : Bool) → (a ≡ true → b ≡ true) → (b ≡ true → a ≡ true) → a ≡ b
same_test true b f g = sym (f refl)
same_test false true f g = g refl
same_test false false f g = refl

-- ---- a range: the test and the fact

pub within-yes : {low high z : ℤ} → InBounds low high z → within low high z ≡ true
unfolding within
within-yes {low} {high} {z} h = both (yes→true (le_z low z) h.above.le) (yes→true (le_z z high) h.below.le)

-- the test of the library's `contains`
pub contained : (low high z : ℤ) → (is_le (int_cmp low z) && is_le (int_cmp z high)) ≡ within low high z
unfolding within
contained low high z = rw (le_of_cmp low z, le_of_cmp z high)

pub within_fact : (low high z : ℤ) → within low high z ≡ true → InBounds low high z
unfolding within
within_fact low high z e =
    let p = both_out (le_z low z) (le_z z high) e in
    record { above = record { le = true→yes p.0 }; below = record { le = true→yes p.1 } }

-- the test as a call of `within` answers it, of a number that is read from its bits
pub tested : (low high : ℤ) {z : ℤ} {t : Bool} → SFits w64 z → t ≡ within low high (to_z w64 (of_z w64 z)) → within low high z ≡ t
tested low high f e = sym (rw (to_z-of_z f) at e)

pub good-yes : {d s o : ℤ} → GoodTime d s o → (good_day d && good_second s && good_offset o) ≡ true
good-yes g = both (both (within-yes g.day_in) (within-yes g.second_in)) (within-yes g.offset_in)

pub good_fact : (d s o : ℤ) → (good_day d && good_second s && good_offset o) ≡ true → GoodTime d s o
good_fact d s o e =
    let p = both_out (good_day d && good_second s) (good_offset o) e in
    let q = both_out (good_day d) (good_second s) p.0 in
    record {
      day_in = within_fact _ _ d q.0;
      second_in = within_fact _ _ s q.1;
      offset_in = within_fact _ _ o p.1;
    }
