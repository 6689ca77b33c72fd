-- Moments, the seconds from 1970-01-01 at offset 0: day and second are the floor and the remainder of a moment, they
-- undo each other for all signed numbers, and the order of local times is that of their moments. Due keys are made of
-- moments, so Times rests on this module, and a change to how a key is made leaves it alone. Assumes nothing.
use mathlib.Core.Path.{◌≡◌, refl, ap}
use mathlib.Core.Bool.{Bool, true, false}
use Prim.Native.Nat.{◌+◌, ◌*◌, ◌<◌}
use native.Mathlib.Omega.{arith}
use lib.Dec.{lit<}
use lib.IntN.{ℤ, pos, ◌+ℤ◌, ◌*ℤ◌}
use lib.Signed.{lt_z, ◌<ℤ◌}
use Rattle.due.specs.Floor.{Floored}
use Rattle.due.specs.Due.{within, InBounds, Earlier, earlier_day, same_day, day_low, day_high, second_low, second_high, seconds_a_day, moment_of, day_of, second_of}
use Rattle.due.proofs.Signs.{up, down, apart, equal, sum_law, diff_law, up-times, down-times, le_out, le_in, lt_out, lt_in, lt_z_false, true→yes}
use Rattle.due.proofs.Floors.{floored, floored-out, floored_in, floored-one}
use Rattle.due.proofs.Ranges.{within-yes, within_fact, same_test}

-- what a moment is, in naturals
pub moment_law : (d s o : ℤ) → up (moment_of d s o) + (down d * seconds_a_day + down s + up o) ≡ down (moment_of d s o) + (up d * seconds_a_day + up s + down o)
unfolding moment_of
moment_law d s o =
    omega (arith, up-times d seconds_a_day, down-times d seconds_a_day, sum_law (d *ℤ pos seconds_a_day) s, diff_law (d *ℤ pos seconds_a_day +ℤ s) o)

-- ---- there and back

-- day and second are the floor and the remainder of moment + offset
pub split : (m o : ℤ) → Floored (m +ℤ o) seconds_a_day (day_of m o) (up (second_of m o))
unfolding day_of second_of
split m o = floored (m +ℤ o) seconds_a_day (lit< tt)

-- every moment is that of the day and second read from it
pub back : (m o : ℤ) → moment_of (day_of m o) (second_of m o) o ≡ m
unfolding second_of
back m o =
    equal (moment_of (day_of m o) (second_of m o) o) m
    (omega (arith, moment_law (day_of m o) (second_of m o) o, floored-out (split m o), sum_law m o))

-- the second that is read from a moment is in its range
pub second_of_in : (m o : ℤ) → InBounds second_low second_high (second_of m o)
unfolding second_of
second_of_in m o =
    record {
      above = le_in second_low (second_of m o) (omega arith);
      below = le_in (second_of m o) second_high (omega (arith, (split m o).small));
    }

-- every day, and every second in its range, is read back from their moment
pub there : (d s o : ℤ) → InBounds second_low second_high s → (day_of (moment_of d s o) o ≡ d) × (second_of (moment_of d s o) o ≡ s)
unfolding second_of
there d s o h =
    let m = moment_of d s o in
    let zero : down s ≡ 0 = omega (arith, le_out h.above, apart s) in
    let small : up s < seconds_a_day = omega (arith, le_out h.below) in
    let f = floored_in (m +ℤ o) d seconds_a_day (up s) (omega (arith, moment_law d s o, sum_law m o)) small in
    let p = floored-one (split m o) f in
    (p.0, equal (second_of m o) s (omega (arith, p.1)))

-- ---- the order

-- at one offset, of two local times the later one has the greater moment
pub moment_later : (d s d' s' o : ℤ) → InBounds second_low second_high s → InBounds second_low second_high s' → Earlier d s d' s' → moment_of d s o <ℤ moment_of d' s' o
moment_later d s d' s' o g g' (earlier_day h) =
    lt_in (moment_of d s o) (moment_of d' s' o) (omega (arith, moment_law d s o, moment_law d' s' o, lt_out h, le_out g.below, le_out g'.above, apart s, apart s'))
moment_later d s d' s' o g g' (same_day e h) =
    lt_in (moment_of d s o) (moment_of d' s' o) (omega (arith, moment_law d s o, moment_law d' s' o, ap up e, ap down e, lt_out h))

-- and the other way round
pub moment_earlier : (d s d' s' o : ℤ) → InBounds second_low second_high s → InBounds second_low second_high s' → moment_of d s o <ℤ moment_of d' s' o → Earlier d s d' s'
moment_earlier d s d' s' o g g' h = go (lt_z d d') refl
  where
    go : (t : Bool) → lt_z d d' ≡ t → Earlier d s d' s'
    go true e = earlier_day (record { lt = true→yes e })
    go false e =
        let m = lt_out h in
        let a = moment_law d s o in
        let b = moment_law d' s' o in
        let n = lt_z_false d d' e in
        let low = le_out g.above in
        let high = le_out g'.below in
        let same : up d + down d' ≡ up d' + down d = omega (arith, apart s, apart s') in
        same_day (equal d d' same) (lt_in s s' (omega arith))

-- ---- the range: which moments have a day in its range, told without a division

range_in : (m o : ℤ) → InBounds day_low day_high (day_of m o) → InBounds (moment_of day_low second_low o) (moment_of day_high second_high o) m
unfolding second_of
range_in m o h =
    let f = floored-out (split m o) in
    let r = (split m o).small in
    record {
      above = le_in (moment_of day_low second_low o) m (omega (arith, f, r, sum_law m o, moment_law day_low second_low o, le_out h.above));
      below = le_in m (moment_of day_high second_high o) (omega (arith, f, r, sum_law m o, moment_law day_high second_high o, le_out h.below));
    }

range-out : (m o : ℤ) → InBounds (moment_of day_low second_low o) (moment_of day_high second_high o) m → InBounds day_low day_high (day_of m o)
unfolding second_of
range-out m o h =
    let f = floored-out (split m o) in
    let r = (split m o).small in
    record {
      above = le_in day_low (day_of m o) (omega (arith, f, r, sum_law m o, moment_law day_low second_low o, le_out h.above));
      below = le_in (day_of m o) day_high (omega (arith, f, r, sum_law m o, moment_law day_high second_high o, le_out h.below));
    }

pub day-range : (m o : ℤ) → within day_low day_high (day_of m o) ≡ within (moment_of day_low second_low o) (moment_of day_high second_high o) m
day-range m o =
    same_test _ _ (λ e. within-yes (range_in m o (within_fact _ _ (day_of m o) e)))
    (λ e. within-yes (range-out m o (within_fact _ _ m e)))
