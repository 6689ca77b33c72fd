-- How many entries a ranked tree has at least: 2 · 2^rank ≤ (n + 1)², and what follows of ranks.
-- A reader may rely on: size-bound for n ≥ 1; rank ≤ 31 with 65,535 entries; size is the chain's length.
use mathlib.Core.Path.{◌≡◌, refl}
use mathlib.Core.List.{◌∷◌}
use Prim.Native.Nat.{ℕ, suc, ◌+◌, ◌*◌, ◌^◌, ◌≤◌, ◌<◌}
use native.Mathlib.Decide.{dec_le}
use native.Mathlib.Nat.{mul-le-mul}
use native.Mathlib.Omega.{arith}
use lib.ListN.{length, length-append}
use lib.Pow.{pow_mono}
use Rattle.handle.specs.Numbers.{no_slot}
use Rattle.wavl.specs.Tree.{Tree, tip, fork, rank, inorder, size}
use Rattle.wavl.specs.Ranks.{Ranks}

pub size_length : (t : Tree) → size t ≡ length (inorder t)
unfolding size inorder
size_length tip = refl
size_length (fork a e r b) =
    let i = size_length a in
    let j = size_length b in
    rw (length-append (inorder a) (e ∷ inorder b)) (omega arith)

half : (a b r x : ℕ) → 2 * 2 ^ x ≤ a * a → r ≤ x + 2 → a ≤ b → 2 * 2 ^ r ≤ (a + b) * (a + b)
half a b r x h l m =
    let p : 2 ^ r ≤ 2 ^ suc (suc x) = pow_mono (omega arith) in
    let q : a * a ≤ a * b = mul-le-mul (omega arith) m in
    let s : a * b ≤ b * b = mul-le-mul m (omega arith) in
    omega arith

both : (a b r x y : ℕ) → 2 * 2 ^ x ≤ a * a → 2 * 2 ^ y ≤ b * b → r ≤ x + 2 → r ≤ y + 2 → 2 * 2 ^ r ≤ (a + b) * (a + b)
both a b r x y h k l m = go (dec_le a b)
  where
    go : Dec (a ≤ b) → 2 * 2 ^ r ≤ (a + b) * (a + b)
    go (yes c) = half a b r x h l c
    go (no c) = let i : 2 * 2 ^ r ≤ (b + a) * (b + a) = half b a r y k m (omega arith) in omega arith

small : (r n : ℕ) → r ≤ 2 → 3 ≤ n → 2 * 2 ^ r ≤ n * n
small r n h k =
    let p : 2 ^ r ≤ 2 ^ 2 = pow_mono h in
    let q : 3 * 3 ≤ n * n = mul-le-mul k k in
    omega arith

one : (r n : ℕ) → r ≤ 1 → 2 ≤ n → 2 * 2 ^ r ≤ n * n
one r n h k =
    let p : 2 ^ r ≤ 2 ^ 1 = pow_mono h in
    let q : 2 * 2 ≤ n * n = mul-le-mul k k in
    omega arith

rank-bound : (t : Tree) → 1 ≤ rank t → Ranks t → 2 * 2 ^ rank t ≤ (size t + 1) * (size t + 1)
unfolding size
rank-bound tip h x = absurd (omega arith)
rank-bound (fork tip e r tip) h x = one r 2 (omega arith) (omega arith)
rank-bound (fork tip e r (fork b f q c)) h x = small r (suc (0 + suc (size b + size c)) + 1) (omega arith) (omega arith)
rank-bound (fork (fork a f q d) e r tip) h x = small r (suc (suc (size a + size d) + 0) + 1) (omega arith) (omega arith)
rank-bound (fork (fork a f q d) e r (fork b g s c)) h x =
    let i = rank-bound (fork a f q d) (omega arith) x.0 in
    let j = rank-bound (fork b g s c) (omega arith) x.1 in
    let y : 2 * 2 ^ r ≤ _ = both (size (fork a f q d) + 1) (size (fork b g s c) + 1) r q s i j (omega arith) (omega arith) in
    omega arith

-- "For a sound queue with n at least 1, .. twice 2 to the power of the root's rank is at most (n+1) squared"
pub size-bound : (t : Tree) → Ranks t → 1 ≤ size t → 2 * 2 ^ rank t ≤ (size t + 1) * (size t + 1)
unfolding size
size-bound tip x h = absurd (omega arith)
size-bound (fork a e r b) x h = rank-bound (fork a e r b) (omega arith) x

-- a power of 2 below which no square of a size reaches bounds the rank
rank-le : (t : Tree) (n r : ℕ) → Ranks t → size t ≤ n → (n + 1) * (n + 1) < 2 * 2 ^ suc r → rank t ≤ r
rank-le t n r x h m = go (dec_le (rank t) r)
  where
    go : Dec (rank t ≤ r) → rank t ≤ r
    go (yes l) = l
    go (no l) =
        let b = rank-bound t (omega arith) x in
        let p : 2 ^ suc r ≤ 2 ^ rank t = pow_mono {i = suc r} {j = rank t} (omega arith) in
        let k : size t + 1 ≤ n + 1 = omega arith in
        let s : (size t + 1) * (size t + 1) ≤ (n + 1) * (n + 1) = mul-le-mul k k in
        absurd (omega arith)

-- no more entries than there are numbers for slots
pub rank-le_31 : (t : Tree) → Ranks t → size t ≤ no_slot → rank t ≤ 31
rank-le_31 t x h = rank-le t no_slot 31 x h (omega arith)
