-- A signed number as two naturals: z is `up z` less `down z`, and one of the two is 0. What a sum, a product, an order
-- and an equation of signed numbers say is a linear fact of these, which omega reads: the other proofs list the facts
-- they need and leave ℤ here. Assumes nothing.
use mathlib.Core.Path.{◌≡◌, refl, sym, ap, ◌∙◌}
use mathlib.Core.Bool.{Bool, true, false, cond}
use Prim.Native.Nat.{ℕ, zero, suc, ◌+◌, ◌*◌, ◌-◌, ◌≤◌, ◌<◌, min}
use native.Mathlib.Omega.{arith}
use lib.Dec.{T, leb, ltb}
use lib.IntN.{ℤ, pos, negsuc, neg_ℤ, sub_ℕ, ◌+ℤ◌, ◌-ℤ◌, ◌*ℤ◌}
use lib.Signed.{le_z, lt_z, ◌≤ℤ◌, ◌<ℤ◌}
use Rattle.std.specs.Ordering.{is_le, int_cmp}
use Rattle.std.specs.declared.cmp.Ordering.TheVariants.{Less, Equal, Greater}
use borrow.Author.Tests.{ltb-true, ltb-false, leb-true, leb-false, le-leb, lt-leb, lt-ltb}

abbrev pub up : ℤ → ℕ
up (pos n) = n
up (negsuc n) = 0

abbrev pub down : ℤ → ℕ
down (pos n) = 0
down (negsuc n) = suc n

-- one of the two is 0
pub apart : (z : ℤ) → min (up z) (down z) ≡ 0
apart (pos n) = omega arith
apart (negsuc n) = omega arith

-- they determine the number
pub same : (a b : ℤ) → up a ≡ up b → down a ≡ down b → a ≡ b
same (pos a) (pos b) p q = ap pos p
same (pos a) (negsuc b) p q = absurd (omega arith)
same (negsuc a) (pos b) p q = absurd (omega arith)
same (negsuc a) (negsuc b) p q = ap negsuc (omega arith)

-- so one equation of naturals shows that two signed numbers are equal
pub equal : (a b : ℤ) → up a + down b ≡ up b + down a → a ≡ b
equal a b h = same a b (omega (arith, apart a, apart b)) (omega (arith, apart a, apart b))

-- the difference of two naturals
pub sub_law : (a b : ℕ) → up (sub_ℕ a b) + b ≡ down (sub_ℕ a b) + a
sub_law a b = go (ltb a b) refl
  where
    go : (t : Bool) → ltb a b ≡ t → up (cond t (negsuc (b - suc a)) (pos (a - b))) + b ≡ down (cond t (negsuc (b - suc a)) (pos (a - b))) + a
    go true e = omega (arith, ltb-true a b e)
    go false e = omega (arith, ltb-false a b e)

pub sum_law : (a b : ℤ) → up (a +ℤ b) + (down a + down b) ≡ down (a +ℤ b) + (up a + up b)
sum_law (pos a) (pos b) = omega arith
sum_law (pos a) (negsuc b) = omega (arith, sub_law a (suc b))
sum_law (negsuc a) (pos b) = omega (arith, sub_law b (suc a))
sum_law (negsuc a) (negsuc b) = omega arith

pub up_neg : (z : ℤ) → up (neg_ℤ z) ≡ down z
up_neg (pos zero) = refl
up_neg (pos (suc n)) = refl
up_neg (negsuc n) = refl

pub down_neg : (z : ℤ) → down (neg_ℤ z) ≡ up z
down_neg (pos zero) = refl
down_neg (pos (suc n)) = refl
down_neg (negsuc n) = refl

pub diff_law : (a b : ℤ) → up (a -ℤ b) + (down a + up b) ≡ down (a -ℤ b) + (up a + down b)
diff_law a b = omega (arith, sum_law a (neg_ℤ b), up_neg b, down_neg b)

-- times a natural number
pub up-times : (z : ℤ) (k : ℕ) → up (z *ℤ pos k) ≡ up z * k
up-times (pos n) k = refl
up-times (negsuc n) k = up_neg (pos (suc n * k)) ∙ omega arith

pub down-times : (z : ℤ) (k : ℕ) → down (z *ℤ pos k) ≡ down z * k
down-times (pos n) k = omega arith
down-times (negsuc n) k = down_neg (pos (suc n * k))

-- ---- the orders, as tests and as facts

pub yes→true : (t : Bool) → T t → t ≡ true
yes→true true h = refl
yes→true false h = absurd h

pub true→yes : {t : Bool} → t ≡ true → T t
true→yes e = rw e tt

-- two tests of one difference give one answer
same_test : (a b m n : ℕ) → a + n ≡ b + m → leb a b ≡ leb m n
same_test a b m n h = go (leb m n) refl
  where
    go : (t : Bool) → leb m n ≡ t → leb a b ≡ t
    go true e = let l = leb-true m n e in le-leb a b (omega arith)
    go false e = let l = leb-false m n e in lt-leb a b (omega arith)

-- so the signed tests are tests of naturals
le_z_is : (a b : ℤ) → le_z a b ≡ leb (up a + down b) (up b + down a)
le_z_is (pos a) (pos b) = same_test a b (a + 0) (b + 0) (omega arith)
le_z_is (pos a) (negsuc b) = sym (lt-leb (a + suc b) (0 + 0) (omega arith))
le_z_is (negsuc a) (pos b) = sym (le-leb (0 + 0) (b + suc a) (omega arith))
le_z_is (negsuc a) (negsuc b) = same_test b a (0 + suc b) (0 + suc a) (omega arith)

lt_z_is : (a b : ℤ) → lt_z a b ≡ ltb (up a + down b) (up b + down a)
lt_z_is (pos a) (pos b) = same_test (suc a) b (suc (a + 0)) (b + 0) (omega arith)
lt_z_is (pos a) (negsuc b) = sym (lt-leb (suc (a + suc b)) (0 + 0) (omega arith))
lt_z_is (negsuc a) (pos b) = sym (lt-ltb (0 + 0) (b + suc a) (omega arith))
lt_z_is (negsuc a) (negsuc b) = same_test (suc b) a (suc (0 + suc b)) (0 + suc a) (omega arith)

pub lt_z_true : (a b : ℤ) → lt_z a b ≡ true → up a + down b < up b + down a
lt_z_true a b e = ltb-true _ _ (sym (lt_z_is a b) ∙ e)

pub lt_z_false : (a b : ℤ) → lt_z a b ≡ false → up b + down a ≤ up a + down b
lt_z_false a b e = ltb-false _ _ (sym (lt_z_is a b) ∙ e)

pub le_out : {a b : ℤ} → a ≤ℤ b → up a + down b ≤ up b + down a
le_out {a} {b} h = leb-true _ _ (sym (le_z_is a b) ∙ yes→true (le_z a b) h.le)

-- and what `<=` answers by the library's order is this test
pub le_of_cmp : (a b : ℤ) → is_le (int_cmp a b) ≡ le_z a b
le_of_cmp a b = go (lt_z a b) (lt_z b a) refl refl ∙ sym (le_z_is a b)
  where
    go : (s t : Bool) → lt_z a b ≡ s → lt_z b a ≡ t → is_le (cond s Less (cond t Greater Equal)) ≡ leb (up a + down b) (up b + down a)
    go true t p q = let l = lt_z_true a b p in sym (le-leb _ _ (omega arith))
    go false true p q = sym (lt-leb _ _ (lt_z_true b a q))
    go false false p q = sym (le-leb _ _ (lt_z_false b a q))

pub le_in : (a b : ℤ) → up a + down b ≤ up b + down a → a ≤ℤ b
le_in a b h = record { le = true→yes (le_z_is a b ∙ le-leb _ _ h) }

pub lt_out : {a b : ℤ} → a <ℤ b → up a + down b < up b + down a
lt_out {a} {b} h = lt_z_true a b (yes→true (lt_z a b) h.lt)

pub lt_in : (a b : ℤ) → up a + down b < up b + down a → a <ℤ b
lt_in a b h = record { lt = true→yes (lt_z_is a b ∙ lt-ltb _ _ h) }
