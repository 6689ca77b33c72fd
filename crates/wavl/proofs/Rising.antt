-- The chain around a node: with it, without it, and with a new value in it; and what a way says of the keys on its two sides.
-- A reader may rely on: only before_trans, less-before and between look into the order of two keys; all else holds for any order.
use mathlib.Core.Path.{◌≡◌, ◌∙◌}
use mathlib.Core.List.{List, [], ◌∷◌, ◌++◌, append_assoc}
use Prim.Native.Nat.{ℕ, ◌<◌}
use native.Mathlib.Omega.{arith}
use Rattle.wavl.specs.Lists.{All}
use Rattle.wavl.specs.Entry.{Entry, revalued, Before, Rising}
use Rattle.wavl.specs.Tree.{left, right, Tree, fork, inorder}
use Rattle.wavl.specs.Way.{step, Way, place, plug, before, after, replace_at}
use Rattle.wavl.specs.Ranks.{Ranks}
use Rattle.wavl.specs.Taking.{remove_at}
use Rattle.wavl.proofs.Lists.{all_right, all_both, all_map, drop_one, drop_part, put_one, below_one, above-one}
use Rattle.wavl.proofs.Order.{plug-around}
use Rattle.wavl.proofs.Placed.{plug-ranks, unplug_ranks}
use Rattle.wavl.proofs.Taken.{remove_at-shows}

pub before_trans : (e f g : Entry) → Before e f → Before f g → Before e g
before_trans e f g x y = omega arith

pub less-before : (e f : Entry) → e.key < f.key → Before e f
less-before e f x = omega arith

-- the key k lies on the right side of each node of the way
abbrev pub Between : ℕ → Way → Type 0
Between k [] = Unit {0}
Between k (step left e r s ∷ p) = (k < e.key) × Between k p
Between k (step right e r s ∷ p) = (e.key < k) × Between k p

abbrev pub Smaller : ℕ → List Entry → Type 0
Smaller k l = All (λ x. x.key < k) l

abbrev pub Greater : ℕ → List Entry → Type 0
Greater k l = All (λ x. k < x.key) l

-- then all that stand before the place have smaller keys, and all after it greater ones
pub between : (k : ℕ) (p : Way) → Between k p → Rising (before p ++ after p) → Smaller k (before p) × Greater k (after p)
unfolding before after
between k [] f h = (tt, tt)
between k (step left e r s ∷ p) f h =
    let i = between k p f.1 (drop_part Before (before p) (e ∷ inorder s) (after p) h) in
    let up = above-one Before (before p) e (inorder s ++ after p) h in
    (i.0, (f.0, all_map _ _ (λ x q. let j : k < e.key = f.0 in omega arith) (inorder s ++ after p) up))
between k (step right e r s ∷ p) f h =
    let h2 : Rising (before p ++ ((inorder s ++ (e ∷ [])) ++ after p)) = simp append_assoc (simp append_assoc at h) in
    let i = between k p f.1 (drop_part Before (before p) (inorder s ++ (e ∷ [])) (after p) h2) in
    let h3 : Rising ((before p ++ inorder s) ++ (e ∷ after p)) = simp append_assoc (simp append_assoc at h) in
    let down = below_one Before (before p ++ inorder s) e (after p) h3 in
    let small : Smaller k (before p ++ inorder s) = all_map _ _ (λ x q. let j : e.key < k = f.0 in omega arith) (before p ++ inorder s) down in
    (all_both _ (before p) (inorder s ++ (e ∷ [])) i.0 (all_both _ (inorder s) (e ∷ []) (all_right _ (before p) (inorder s) small) (f.0, tt)), i.1)

-- the chain around a node
pub node-around : (a : Tree) (e : Entry) (r : ℕ) (b : Tree) (p : Way)
    → inorder (plug (fork a e r b) p) ≡ (before p ++ inorder a) ++ (e ∷ (inorder b ++ after p))
unfolding inorder
node-around a e r b p = plug-around p (fork a e r b) ∙ simp append_assoc

-- and without it
pub removed-around : (a : Tree) (e : Entry) (r : ℕ) (b : Tree) (p : Way) → Ranks (plug (fork a e r b) p)
    → inorder (remove_at (fork a e r b) p) ≡ (before p ++ inorder a) ++ (inorder b ++ after p)
removed-around a e r b p x = (remove_at-shows a e r b p x).order ∙ simp append_assoc

-- a new value: the entry alone changes, and keeps its handle and key
pub replace_at-order : (v : ℕ) (a : Tree) (e : Entry) (r : ℕ) (b : Tree) (p : Way)
    → inorder (replace_at v (place (fork a e r b) p)) ≡ (before p ++ inorder a) ++ (revalued v e ∷ (inorder b ++ after p))
unfolding replace_at
replace_at-order v a e r b p = node-around a (revalued v e) r b p

pub replace_at-ranks : (v : ℕ) (a : Tree) (e : Entry) (r : ℕ) (b : Tree) (p : Way) → Ranks (plug (fork a e r b) p) → Ranks (replace_at v (place (fork a e r b) p))
unfolding replace_at
replace_at-ranks v a e r b p x = let y = unplug_ranks p (fork a e r b) x in plug-ranks p (fork a (revalued v e) r b) y.0 y.1

pub replace_at-rising : (v : ℕ) (a : Tree) (e : Entry) (r : ℕ) (b : Tree) (p : Way)
    → Rising (inorder (plug (fork a e r b) p)) → Rising (inorder (replace_at v (place (fork a e r b) p)))
replace_at-rising v a e r b p h =
    let g : Rising ((before p ++ inorder a) ++ (e ∷ (inorder b ++ after p))) = rw (node-around a e r b p) at h in
    rw (replace_at-order v a e r b p)
    (put_one Before (before p ++ inorder a) (revalued v e) (inorder b ++ after p)
    (below_one Before (before p ++ inorder a) e (inorder b ++ after p) g)
    (above-one Before (before p ++ inorder a) e (inorder b ++ after p) g)
    (drop_one Before (before p ++ inorder a) e (inorder b ++ after p) g))
