-- Keys as moments with a drum: moment and drum are the floor and the remainder of a key, they undo each other for all
-- signed numbers, and keys are ordered by their moments and at one moment by their drums. Times puts this together with
-- Moments, which knows of no drum. Assumes nothing.
use mathlib.Core.Path.{◌≡◌, sym, ap, ap₂, ◌∙◌}
use mathlib.Core.Bool.{false}
use mathlib.Core.Logic.{◌↔◌}
use Prim.Native.Nat.{◌+◌, ◌*◌, ◌<◌}
use native.Mathlib.Omega.{arith}
use lib.Dec.{lit<}
use lib.IntN.{ℤ, pos, ◌+ℤ◌, ◌*ℤ◌}
use lib.Signed.{lt_z, ◌<ℤ◌}
use Rattle.due.specs.Floor.{Floored}
use Rattle.due.specs.Due.{GoodDrum, drum_low, drum_high, drums, drum_of, moment_in, moment_of, key_of}
use Rattle.due.proofs.Signs.{up, down, apart, equal, sum_law, up-times, down-times, le_out, le_in, lt_out, lt_in, lt_z_false}
use Rattle.due.proofs.Floors.{floored, floored-out, floored_in, floored-one}

-- what a key is, in naturals
pub key_law : (d s o n : ℤ) → up (key_of d s o n) + (down (moment_of d s o) * drums + down n) ≡ down (key_of d s o n) + (up (moment_of d s o) * drums + up n)
unfolding key_of
key_law d s o n =
    let m = moment_of d s o in
    omega (arith, up-times m drums, down-times m drums, sum_law (m *ℤ pos drums) n)

-- ---- there and back

-- moment and drum are the floor and the remainder of the key
pub key_split : (k : ℤ) → Floored k drums (moment_in k) (up (drum_of k))
unfolding moment_in drum_of
key_split k = floored k drums (lit< tt)

-- a time whose moment is the one in a key, with the key's drum, has that key
pub key_back : (d s o k : ℤ) → moment_of d s o ≡ moment_in k → key_of d s o (drum_of k) ≡ k
unfolding drum_of
key_back d s o k e =
    equal (key_of d s o (drum_of k)) k
    (omega (arith, key_law d s o (drum_of k), floored-out (key_split k), ap up e, ap down e))

-- the drum that is read from a key is in its range
pub drum_of_in : (k : ℤ) → GoodDrum (drum_of k)
unfolding drum_of
drum_of_in k =
    record {
      above = le_in drum_low (drum_of k) (omega arith);
      below = le_in (drum_of k) drum_high (omega (arith, (key_split k).small));
    }

-- the moment, and every drum in its range, is read back from their key
pub key-there : (d s o n : ℤ) → GoodDrum n → (moment_in (key_of d s o n) ≡ moment_of d s o) × (drum_of (key_of d s o n) ≡ n)
unfolding drum_of
key-there d s o n h =
    let k = key_of d s o n in
    let zero : down n ≡ 0 = omega (arith, le_out h.above, apart n) in
    let small : up n < drums = omega (arith, le_out h.below) in
    let f = floored_in k (moment_of d s o) drums (up n) (omega (arith, key_law d s o n)) small in
    let p = floored-one (key_split k) f in
    (p.0, equal (drum_of k) n (omega (arith, p.1)))

-- two keys are the same exactly when moment and drum are
pub key-same : (d s o n d' s' o' n' : ℤ) → GoodDrum n → GoodDrum n' → (key_of d s o n ≡ key_of d' s' o' n') ↔ ((moment_of d s o ≡ moment_of d' s' o') × (n ≡ n'))
unfolding key_of
key-same d s o n d' s' o' n' g g' =
    let p = key-there d s o n g in
    let q = key-there d' s' o' n' g' in
    (λ e. (sym p.0 ∙ ap moment_in e ∙ q.0, sym p.1 ∙ ap drum_of e ∙ q.1), λ h. ap₂ (λ m n. m *ℤ pos drums +ℤ n) h.0 h.1)

-- ---- the order

-- of two moments the later one has the greater key, whatever the drums
pub key-later : (d s o n d' s' o' n' : ℤ) → GoodDrum n → GoodDrum n' → moment_of d s o <ℤ moment_of d' s' o' → key_of d s o n <ℤ key_of d' s' o' n'
key-later d s o n d' s' o' n' g g' h =
    lt_in (key_of d s o n) (key_of d' s' o' n')
    (omega (arith, key_law d s o n, key_law d' s' o' n', lt_out h, le_out g.below, le_out g'.above, apart n, apart n'))

-- where the moment of the lesser key is not the earlier one, the moments are the same, and its drum is the lower
pub key-lower : (d s o n d' s' o' n' : ℤ) → GoodDrum n → GoodDrum n' → key_of d s o n <ℤ key_of d' s' o' n' → lt_z (moment_of d s o) (moment_of d' s' o') ≡ false → (moment_of d s o ≡ moment_of d' s' o') × (n <ℤ n')
key-lower d s o n d' s' o' n' g g' h e =
    let m = moment_of d s o in
    let m' = moment_of d' s' o' in
    let k = lt_out h in
    let a = key_law d s o n in
    let b = key_law d' s' o' n' in
    let not = lt_z_false m m' e in
    let low = le_out g.above in
    let high = le_out g'.below in
    let same : up m + down m' ≡ up m' + down m = omega (arith, apart n, apart n') in
    (equal m m' same, lt_in n n' (omega arith))

-- at one time keys rise with the drum, and only so
pub key-rises : (d s o n n' : ℤ) → (n <ℤ n') ↔ (key_of d s o n <ℤ key_of d s o n')
key-rises d s o n n' =
    let a = key_law d s o n in
    let b = key_law d s o n' in
    (λ h. lt_in (key_of d s o n) (key_of d s o n') (omega (arith, lt_out h)), λ h. lt_in n n' (omega (arith, lt_out h)))
