-- What the functions of keys.rt compute, in the numbers that the machine holds for signed ones.
use Prim.Native.Nat.{ℕ, suc, ◌+◌, ◌-◌, ◌^◌, ◌≤◌, ◌<◌}
use mathlib.Core.Path.{◌≡◌, refl, sym, ◌∙◌, ap}
use mathlib.Core.Bool.{true, false}
use native.Mathlib.Omega.{arith}
use lib.Dec.{T}
use lib.IntN.{ℤ, pos, negsuc, nat_abs}
use lib.Signed.{mag, lt_z, non_neg}
use borrow.Author.Tests.{lt-ltb, le-ltb, ltb-true}
use mir.Syntax.{w64}
use mir.Val.{Fits, SFits, of_z, to_z}
use mir.Facts.{to_z-of_z}
use Rattle.arena.specs.Keys.{stored, signed}
use Rattle.arena.proofs.KeyLaws.{signed_low, signed_high}

-- a machine word, read as signed: by its highest bit
pub to_z_low : (n : ℕ) → n < 2 ^ 63 → to_z w64 n ≡ pos n
to_z_low n h = rw (lt-ltb n (2 ^ 63) h)

pub to_z_high : (n : ℕ) → 2 ^ 63 ≤ n → to_z w64 n ≡ negsuc (2 ^ 64 - suc n)
to_z_high n h = rw (le-ltb n (2 ^ 63) h)

-- z is below 0: what `!z` reads as, and the stored form
pub record Below (z : ℤ) : Type 0 where
  pub flipped : to_z w64 (18446744073709551615 - of_z w64 z) ≡ pos (mag z)
  pub store : stored z ≡ 9223372036854775807 - mag z
  pub small : mag z < 2 ^ 63

-- z is not below 0
pub record Above (z : ℤ) : Type 0 where
  pub same : to_z w64 (of_z w64 z) ≡ pos (mag z)
  pub store : stored z ≡ mag z + 9223372036854775808
  pub small : mag z < 2 ^ 63

pub below : (z : ℤ) → SFits w64 z → lt_z (to_z w64 (of_z w64 z)) (pos 0) ≡ true → Below z
unfolding stored
below (pos n) f t = let e : lt_z (pos n) (pos 0) ≡ true = rw (to_z-of_z f) at t in absurd (let h : n < 0 = ltb-true n 0 e in omega arith)
below (negsuc n) f t =
    let l : n < 2 ^ 63 = f.sfits in
    let m : 18446744073709551615 - (2 ^ 64 - suc n) ≡ n = omega arith in
    record { flipped = rw m (to_z_low n l); store = omega arith; small = l }

pub above : (z : ℤ) → SFits w64 z → lt_z (to_z w64 (of_z w64 z)) (pos 0) ≡ false → Above z
unfolding stored
above (pos n) f t = record { same = to_z-of_z f; store = refl; small = f.sfits }
above (negsuc n) f t = let e : true ≡ false = rw (to_z-of_z f) at t in absurd (let z : ◌≡◌ {A = ℕ} 0 1 = cc in omega arith)

-- the answers of `signed_key`
pub low : (w : ℕ) → w < 9223372036854775808 → to_z w64 (18446744073709551615 - (9223372036854775807 - w)) ≡ signed w
low w h =
    let m : 2 ^ 63 ≤ 18446744073709551615 - (9223372036854775807 - w) = omega arith in
    let e : 2 ^ 64 - suc (18446744073709551615 - (9223372036854775807 - w)) ≡ 2 ^ 63 - suc w = omega arith in
    to_z_high _ m ∙ ap negsuc e ∙ sym (signed_low w h)

pub high : (w : ℕ) → 9223372036854775808 ≤ w → w < 2 ^ 64 → to_z w64 (w - 9223372036854775808) ≡ signed w
high w h f =
    let m : w - 9223372036854775808 < 2 ^ 63 = omega arith in
    to_z_low _ m ∙ sym (signed_high w h)

-- what `stored_key` asks and answers below 0, and from 0 on
module _ (z : ℤ) (b : Below z) where
  pub flip_cast : T (non_neg (to_z w64 (18446744073709551615 - of_z w64 z))) × Fits w64 (nat_abs (to_z w64 (18446744073709551615 - of_z w64 z)))
  flip_cast = let h = b.small in rw b.flipped (tt, record { fits = omega arith })

  pub flip-fits : nat_abs (to_z w64 (18446744073709551615 - of_z w64 z)) ≤ 9223372036854775807
  flip-fits = let h = b.small in rw b.flipped (omega arith)

  pub flip_is : 9223372036854775807 - nat_abs (to_z w64 (18446744073709551615 - of_z w64 z)) ≡ stored z
  flip_is = rw b.flipped (sym b.store)

module _ (z : ℤ) (a : Above z) where
  pub plain_cast : T (non_neg (to_z w64 (of_z w64 z))) × Fits w64 (nat_abs (to_z w64 (of_z w64 z)))
  plain_cast = let h = a.small in rw a.same (tt, record { fits = omega arith })

  pub plain_fits : Fits w64 (nat_abs (to_z w64 (of_z w64 z)) + 9223372036854775808)
  plain_fits = let h = a.small in rw a.same (record { fits = omega arith })

  pub plain-is : nat_abs (to_z w64 (of_z w64 z)) + 9223372036854775808 ≡ stored z
  plain-is = rw a.same (sym a.store)
