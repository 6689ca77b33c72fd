-- Floor and remainder are what `Floored` says, and nothing else is: `floored` and `floored-one`. A reader may rely on
-- the second for any quotient and remainder, however they were found. Assumes nothing.
use mathlib.Core.Path.{◌≡◌, sym, ap, ◌∙◌}
use Prim.Native.Nat.{ℕ, suc, ◌+◌, ◌*◌, ◌-◌, ◌/◌, ◌%◌, ◌<◌}
use native.Mathlib.Nat.{div-add-mod', mod-lt, mul-add-div_right, div-eq_of_lt}
use native.Mathlib.Omega.{arith}
use lib.IntN.{ℤ, pos, negsuc, ◌+ℤ◌, ◌*ℤ◌}
use Rattle.due.specs.Floor.{Floored, floor_div, floor_mod}
use Rattle.due.proofs.Signs.{up, down, equal, sum_law, up-times, down-times}

-- ---- the property in naturals, both ways

lots : (q : ℤ) (k r : ℕ) → up (q *ℤ pos k +ℤ pos r) + down q * k ≡ down (q *ℤ pos k +ℤ pos r) + (up q * k + r)
lots q k r = omega (arith, sum_law (q *ℤ pos k) (pos r), up-times q k, down-times q k)

pub floored-out : {z q : ℤ} {k r : ℕ} → Floored z k q r → up z + down q * k ≡ down z + (up q * k + r)
floored-out {q = q} {k = k} {r = r} f = rw f.whole (lots q k r)

pub floored_in : (z q : ℤ) (k r : ℕ) → up z + down q * k ≡ down z + (up q * k + r) → r < k → Floored z k q r
floored_in z q k r e h = record { whole = equal z (q *ℤ pos k +ℤ pos r) (omega (arith, lots q k r)); small = h }

-- ---- the floor and the remainder have the property

below_zero : (n k : ℕ) → 0 < k → Floored (negsuc n) k (negsuc (n / k)) (k - suc (n % k))
below_zero n k h =
    floored_in (negsuc n) (negsuc (n / k)) k (k - suc (n % k)) (omega (arith, div-add-mod' n k, mod-lt n h))
    (omega (arith, mod-lt n h))

pub floored : (z : ℤ) (k : ℕ) → 0 < k → Floored z k (floor_div z k) (floor_mod z k)
unfolding floor_div floor_mod
floored (pos n) k h = record { whole = ap pos (sym (div-add-mod' n k)); small = mod-lt n h }
floored (negsuc n) k h = below_zero n k h

-- ---- nothing else has it

-- whole lots and less than a lot: the count of lots is what division gives
count : (a : ℕ) {k r : ℕ} → r < k → (a * k + r) / k ≡ a
count a {k} {r} h = mul-add-div_right (omega arith) a r ∙ omega (arith, div-eq_of_lt h)

lots-one : (a b : ℕ) {k r s : ℕ} → r < k → s < k → a * k + r ≡ b * k + s → a ≡ b
lots-one a b {k} p q e = sym (count a p) ∙ ap (λ (n : ℕ). n / k) e ∙ count b q

pub floored-one : {z : ℤ} {k : ℕ} {p q : ℤ} {r s : ℕ} → Floored z k p r → Floored z k q s → (p ≡ q) × (r ≡ s)
floored-one {z} {k} {p} {q} {r} {s} f g =
    let e : (up p + down q) * k + r ≡ (up q + down p) * k + s = omega (arith, floored-out f, floored-out g) in
    let h : up p + down q ≡ up q + down p = lots-one (up p + down q) (up q + down p) f.small g.small e in
    let m : (up p + down q) * k ≡ (up q + down p) * k = ap (λ (n : ℕ). n * k) h in
    (equal p q h, omega arith)
