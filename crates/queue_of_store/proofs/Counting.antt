-- Counting: numbers below n that stand once are at most n. It bounds the free stack's height and the tree's size.
-- Assumes nothing.
use Prim.Native.Nat.{ℕ, zero, suc, ◌≤◌, ◌<◌}
use mathlib.Core.Path.{◌≡◌, refl, ap}
use mathlib.Core.List.{List, [], ◌∷◌, ◌++◌}
use native.Mathlib.Decide.{ℕ_discrete}
use native.Mathlib.Omega.{arith}
use lib.ListN.{length, length-append}
use Rattle.wavl.specs.Lists.{All, Differ, Once}
use Rattle.wavl.specs.Entry.{Entry, slots}
use Rattle.rules.specs.Queue.{Handle}
use Rattle.rules.specs.Sound.{free_slots, Under}
use Rattle.rules.proofs.Lists.{all_drop, once_drop, once-differ}

-- n stands in l, or in no place of it
data Seek (n : ℕ) (l : List ℕ) : Type 0 where
  at : (a b : List ℕ) → l ≡ a ++ (n ∷ b) → Seek n l
  off : All (Differ n) l → Seek n l

seek : (n : ℕ) (l : List ℕ) → Seek n l
seek n [] = off tt
seek n (i ∷ l) = go (ℕ_discrete n i) (seek n l)
  where
    go : Dec (n ≡ i) → Seek n l → Seek n (i ∷ l)
    go (yes e) x = at [] l (rw e)
    go (no e) (at a b f) = at (i ∷ a) b (ap (λ m. i ∷ m) f)
    go (no e) (off f) = off (e, f)

-- below n + 1, and not n
lower : (n : ℕ) (l : List ℕ) → All (Under (suc n)) l → All (Differ n) l → All (Under n) l
lower n [] u f = tt
lower n (i ∷ l) u f = (let h : i < suc n = u.0 in let g : ¬ (n ≡ i) = f.0 in omega arith, lower n l u.1 f.1)

pub at_most : (n : ℕ) (l : List ℕ) → Once l → All (Under n) l → length l ≤ n
at_most zero [] o u = omega arith
at_most zero (i ∷ l) o u = absurd (let h : i < 0 = u.0 in omega arith)
at_most (suc n) l o u = go (seek n l) (at_most n)
  where
    go : Seek n l → ((m : List ℕ) → Once m → All (Under n) m → length m ≤ n) → length l ≤ suc n
    go (at a b e) rest =
        let o' : Once (a ++ (n ∷ b)) = rw e at o in
        let u' : All (Under (suc n)) (a ++ (n ∷ b)) = rw e at u in
        let h = rest (a ++ b) (once_drop a n b o') (lower n (a ++ b) (all_drop _ a n b u') (once-differ a n b o')) in
        rw e (omega (arith, length-append a (n ∷ b), length-append a b))
    go (off f) rest = let h = rest l o (lower n l u f) in omega arith

pub length_slots : (l : List Entry) → length (slots l) ≡ length l
unfolding slots
length_slots [] = refl
length_slots (e ∷ l) = ap suc (length_slots l)

pub length_free_slots : (l : List Handle) → length (free_slots l) ≡ length l
unfolding free_slots
length_free_slots [] = refl
length_free_slots (h ∷ l) = ap suc (length_free_slots l)
