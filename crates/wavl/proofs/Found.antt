-- Search by key: it finds an entry exactly when one has the key, and where none has, its place splits the chain.
-- A reader may rely on: search-right for trees with rising keys; looked-bound for every ranked tree and key.
use mathlib.Core.Logic.{inl, inr}
use mathlib.Core.Path.{◌≡◌, refl, sym, ap, ◌∙◌}
use mathlib.Core.List.{List, [], ◌∷◌, ◌++◌}
use Prim.Native.Nat.{ℕ, suc, ◌+◌, ◌*◌, ◌^◌, ◌≤◌, ◌<◌}
use native.Mathlib.Omega.{arith}
use lib.ListN.{length}
use lib.Pow.{pow_mono}
use Rattle.handle.specs.Numbers.{no_slot}
use Rattle.wavl.specs.Lists.{In}
use Rattle.wavl.specs.Entry.{Entry, Rising}
use Rattle.wavl.specs.Tree.{left, right, Tree, tip, fork, rank, inorder, size}
use Rattle.wavl.specs.Way.{step, Way, Place, place, plug, whole, before, after}
use Rattle.wavl.specs.Ranks.{Ranks}
use Rattle.wavl.specs.Search.{KeyRound, key_equal, key_less, key_greater, key_round, by_key, find, search, path, looked}
use Rattle.wavl.proofs.Lists.{all_in, in_middle}
use Rattle.wavl.proofs.Order.{empty-place-order}
use Rattle.wavl.proofs.Rising.{Between, Smaller, Greater, between, node-around}
use Rattle.wavl.proofs.Rounds.{key_cases}
use Rattle.wavl.proofs.Size.{size-bound, rank-le_31}

-- the key was found at this node of t
pub record Hit (k : ℕ) (t : Tree) (a : Tree) (e : Entry) (r : ℕ) (b : Tree) (p : Way) : Type 0 where
  pub back : plug (fork a e r b) p ≡ t
  pub key-is : e.key ≡ k
  pub present : In e (inorder t)

-- no entry of t has the key, and the empty place lies between the smaller keys and the greater ones
pub record Missed (k : ℕ) (t : Tree) (p : Way) : Type 0 where
  pub back : plug tip p ≡ t
  pub order : inorder t ≡ before p ++ after p
  pub between_nodes : Between k p
  pub smaller : Smaller k (before p)
  pub greater : Greater k (after p)
  pub absent : (e : Entry) → In e (inorder t) → ¬ (e.key ≡ k)

abbrev pub Searched : ℕ → Tree → Place → Type 0
Searched k t (place tip p) = Missed k t p
Searched k t (place (fork a e r b) p) = Hit k t a e r b p

-- the place lies in the tree that was searched
pub find-whole : (k : ℕ) (t : Tree) (p : Way) → whole (find k t p) ≡ plug t p
unfolding find plug
find-whole k tip p = refl
find-whole k (fork a e r b) p =
    key_cases (λ w. whole w ≡ plug (fork a e r b) p) (key_round k e.key) _ _ _
    (λ f. refl) (λ f. find-whole k a (step left e r b ∷ p)) (λ f. find-whole k b (step right e r a ∷ p))

-- every node on the way was passed on the right side, and a node that is answered has the key
abbrev Passed : ℕ → Place → Type 0
Passed k (place tip p) = Between k p
Passed k (place (fork a e r b) p) = e.key ≡ k

find-passed : (k : ℕ) (t : Tree) (p : Way) → Between k p → Passed k (find k t p)
unfolding find
find-passed k tip p h = h
find-passed k (fork a e r b) p h =
    key_cases (Passed k) (key_round k e.key) _ _ _
    (λ f. sym f) (λ f. find-passed k a (step left e r b ∷ p) (f, h)) (λ f. find-passed k b (step right e r a ∷ p) (f, h))

pub search-right : (k : ℕ) (t : Tree) → Rising (inorder t) → Searched k t (search k t)
unfolding plug
search-right k t h = go (search k t) (find-whole k t []) (find-passed k t [] tt)
  where
    none-there : (l m : List Entry) → Smaller k l → Greater k m → (e : Entry) → In e (l ++ m) → ¬ (e.key ≡ k)
    none-there [] m f g e i q = let j : k < e.key = all_in _ m g e i in absurd (omega arith)
    none-there (x ∷ l) m f g e (inl i) q = let j : x.key ≡ k = ap (λ (y : Entry). y.key) (sym i) ∙ q in let s : x.key < k = f.0 in absurd (omega arith)
    none-there (x ∷ l) m f g e (inr i) q = none-there l m f.1 g e i q

    go : (w : Place) → whole w ≡ t → Passed k w → Searched k t w
    go (place tip p) q f =
        let o : inorder t ≡ before p ++ after p = ap inorder (sym q) ∙ empty-place-order p in
        let c = between k p f (rw o at h) in
        record { back = q; order = o; between_nodes = f; smaller = c.0; greater = c.1; absent = rw o (none-there (before p) (after p) c.0 c.1) }
    go (place (fork a e r b) p) q f =
        record { back = q; key-is = f; present = rw (← q, node-around a e r b p) (in_middle e (before p ++ inorder a) (inorder b ++ after p)) }

-- the count is the length of the path in the tree
find-path : (k : ℕ) (t : Tree) (p : Way) → looked (find k t p) ≡ length (path k t) + length p
unfolding find looked path by_key
find-path k tip p = omega arith
find-path k (fork a e r b) p = go (key_round k e.key) (find-path k a (step left e r b ∷ p)) (find-path k b (step right e r a ∷ p))
  where
    go : (x : KeyRound k e.key) → looked (find k a (step left e r b ∷ p)) ≡ length (path k a) + suc (length p)
        → looked (find k b (step right e r a ∷ p)) ≡ length (path k b) + suc (length p)
        → looked (by_key x (place (fork a e r b) p) (find k a (step left e r b ∷ p)) (find k b (step right e r a ∷ p)))
        ≡ suc (length (by_key x [] (path k a) (path k b))) + length p
    go (key_equal x) i j = omega arith
    go (key_less x) i j = omega arith
    go (key_greater x) i j = omega arith

pub looked-path : (k : ℕ) (t : Tree) → looked (search k t) ≡ length (path k t)
looked-path k t = let i = find-path k t [] in omega arith

-- at most the root's rank
find-looked : (k : ℕ) (t : Tree) (p : Way) → Ranks t → looked (find k t p) ≤ rank t + length p
unfolding find looked
find-looked k tip p x = omega arith
find-looked k (fork a e r b) p x =
    key_cases (λ w. looked w ≤ r + length p) (key_round k e.key) _ _ _
    (λ f. omega arith)
    (λ f. let i = find-looked k a (step left e r b ∷ p) x.0 in omega arith)
    (λ f. let i = find-looked k b (step right e r a ∷ p) x.1 in omega arith)

pub looked-rank : (k : ℕ) (t : Tree) → Ranks t → looked (search k t) ≤ rank t
looked-rank k t x = let i = find-looked k t [] x in omega arith

-- "a search is bounded by that too" (request 14)
pub looked_tight : (k : ℕ) (t : Tree) → Ranks t → 1 ≤ size t → 2 * 2 ^ looked (search k t) ≤ (size t + 1) * (size t + 1)
looked_tight k t x h =
    let i : 2 ^ looked (search k t) ≤ 2 ^ rank t = pow_mono (looked-rank k t x) in
    let j = size-bound t x h in
    omega arith

-- with n entries and p nodes looked at, 2^p ≤ (n + 1)²
pub looked-bound : (k : ℕ) (t : Tree) → Ranks t → 2 ^ looked (search k t) ≤ (size t + 1) * (size t + 1)
unfolding find looked size
looked-bound k tip x = omega arith
looked-bound k (fork a e r b) x = let i = looked_tight k (fork a e r b) x (omega arith) in omega arith

pub looked-le_31 : (k : ℕ) (t : Tree) → Ranks t → size t ≤ no_slot → looked (search k t) ≤ 31
looked-le_31 k t x h = let i = looked-rank k t x in let j = rank-le_31 t x h in omega arith
