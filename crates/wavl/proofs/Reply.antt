-- What search answers as a call: the equal entry, or the last node looked at and the side, or Empty, each with the count.
-- A reader may rely on: answer-right says all of it, for a tree with rising keys.
use mathlib.Core.Path.{◌≡◌, refl, sym}
use mathlib.Core.List.{List, [], ◌∷◌, ◌++◌}
use mathlib.Core.Option.{some}
use Prim.Native.Nat.{ℕ, ◌<◌}
use lib.ListN.{length}
use Rattle.wavl.specs.Lists.{In, last}
use Rattle.wavl.specs.Entry.{Entry, Rising}
use Rattle.wavl.specs.Tree.{Side, left, right, Tree, tip, fork, pick, inorder}
use Rattle.wavl.specs.Way.{step, Way, Place, place, plug, before, after}
use Rattle.wavl.specs.Search.{KeyRound, key_equal, key_less, key_greater, key_round, by_key, find, search, path, looked, Found, equal_to, nearest, empty_tree, answer_at}
use Rattle.wavl.proofs.Lists.{in_middle, some-none}
use Rattle.wavl.proofs.Order.{IsFork}
use Rattle.wavl.proofs.Rising.{Between, node-around}
use Rattle.wavl.proofs.Found.{Searched, search-right, looked-path}

abbrev pub OnSide : Side → ℕ → Entry → Type 0
OnSide left k e = k < e.key
OnSide right k e = e.key < k

pub nearest-side : (k : ℕ) (d : Side) (e : Entry) (r : ℕ) (s : Tree) (p : Way) → Between k (step d e r s ∷ p) → OnSide d k e
nearest-side k left e r s p h = h.0
nearest-side k right e r s p h = h.0

-- the node that a place is answered by is the last one on the path
abbrev LastIs : List Entry → Place → Type 0
LastIs l (place tip []) = ⊥
LastIs l (place tip (step d e r s ∷ p)) = last l ≡ some e
LastIs l (place (fork a e r b) p) = last l ≡ some e

deeper : (e : Entry) (l : List Entry) (w : Place) → LastIs l w → LastIs (e ∷ l) w
unfolding last
deeper e l (place tip []) h = absurd h
deeper e [] (place tip (step d f r s ∷ p)) h = absurd (some-none h)
deeper e (x ∷ l) (place tip (step d f r s ∷ p)) h = h
deeper e [] (place (fork a f r b) p) h = absurd (some-none h)
deeper e (x ∷ l) (place (fork a f r b) p) h = h

below : (k : ℕ) (u : Tree) (d : Side) (e : Entry) (r : ℕ) (s : Tree) (p : Way)
    → (IsFork u → LastIs (path k u) (find k u (step d e r s ∷ p))) → LastIs (e ∷ path k u) (find k u (step d e r s ∷ p))
unfolding find path last
below k tip d e r s p h = refl
below k (fork a f q b) d e r s p h = deeper e (path k (fork a f q b)) (find k (fork a f q b) (step d e r s ∷ p)) (h tt)

find-last : (k : ℕ) (t : Tree) → IsFork t → (p : Way) → LastIs (path k t) (find k t p)
unfolding find path last by_key
find-last k tip f p = absurd f
find-last k (fork a e r b) f p =
    go (key_round k e.key)
    (below k a left e r b p (λ g. find-last k a g (step left e r b ∷ p)))
    (below k b right e r a p (λ g. find-last k b g (step right e r a ∷ p)))
  where
    go : (x : KeyRound k e.key) → LastIs (e ∷ path k a) (find k a (step left e r b ∷ p)) → LastIs (e ∷ path k b) (find k b (step right e r a ∷ p))
        → LastIs (e ∷ by_key x [] (path k a) (path k b)) (by_key x (place (fork a e r b) p) (find k a (step left e r b ∷ p)) (find k b (step right e r a ∷ p)))
    go (key_equal x) i j = refl
    go (key_less x) i j = i
    go (key_greater x) i j = j

-- the entry has the key
pub record Equal (k : ℕ) (t : Tree) (e : Entry) (n : ℕ) : Type 0 where
  pub key-is : e.key ≡ k
  pub present : In e (inorder t)
  pub last-looked : last (path k t) ≡ some e
  pub count-is : n ≡ length (path k t)

-- no entry has the key; it belongs on the side d of e, which is the last node looked at
pub record Nearest (k : ℕ) (t : Tree) (e : Entry) (d : Side) (n : ℕ) : Type 0 where
  pub absent : (f : Entry) → In f (inorder t) → ¬ (f.key ≡ k)
  pub on_side : OnSide d k e
  pub present : In e (inorder t)
  pub last-looked : last (path k t) ≡ some e
  pub count-is : n ≡ length (path k t)

abbrev pub Answers : ℕ → Tree → Found → Type 0
Answers k t (equal_to e n) = Equal k t e n
Answers k t (nearest e d n) = Nearest k t e d n
Answers k t empty_tree = t ≡ tip

way_in : (d : Side) (e : Entry) (r : ℕ) (s : Tree) (p : Way) → In e (inorder (plug tip (step d e r s ∷ p)))
unfolding plug
way_in d e r s p =
    rw (node-around (pick d tip s) e r (pick d s tip) p)
    (in_middle e (before p ++ inorder (pick d tip s)) (inorder (pick d s tip) ++ after p))

pub answer-right : (k : ℕ) (t : Tree) → Rising (inorder t) → Answers k t (answer_at (search k t))
unfolding answer_at plug looked inorder
answer-right k t h = go t (search k t) (search-right k t h) (λ f. find-last k t f []) (looked-path k t)
  where
    fork_of : (t : Tree) (e : Entry) → In e (inorder t) → IsFork t
    fork_of tip e i = absurd i
    fork_of (fork a f r b) e i = tt

    go : (t : Tree) (w : Place) → Searched k t w → (IsFork t → LastIs (path k t) w) → looked w ≡ length (path k t) → Answers k t (answer_at w)
    go t (place tip []) s l c = sym s.back
    go t (place tip (step d e r u ∷ p)) s l c =
        let i : In e (inorder t) = rw (← s.back) (way_in d e r u p) in
        record { absent = s.absent; on_side = nearest-side k d e r u p s.between_nodes; present = i; last-looked = l (fork_of t e i); count-is = c }
    go t (place (fork a e r b) p) s l c =
        record { key-is = s.key-is; present = s.present; last-looked = l (fork_of t e s.present); count-is = c }
