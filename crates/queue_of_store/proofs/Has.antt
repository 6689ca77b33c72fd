-- The slots of a tree, as the list in its left-to-right order: members and distinctness, over the side.
-- A reader may rely on: a restructure keeps the list, so that distinct slots after it are the same fact as before it.
use Prim.Native.Nat.{ℕ, ◌≤◌, ◌<◌}
use mathlib.Core.Path.{◌≡◌, refl}
use mathlib.Core.Logic.{◌⊎◌, inl, inr, ⊎_elim}
use mathlib.Core.List.{List, [], ◌∷◌, ◌++◌}
use native.Mathlib.Omega.{arith}
use native.Mathlib.Decide.{ℕ_discrete}
use Rattle.handle.specs.Numbers.{no_slot}
use Rattle.wavl.specs.Lists.{In, Differ, Once}
use Rattle.wavl.specs.Entry.{Entry, slots}
use Rattle.wavl.specs.Tree.{Side, left, right, Tree, tip, fork, node, inorder}
use Rattle.wavl.proofs.Lists.{all_in, in_left, in_right, in_cases, below_one, above-one, pairwise_left, pairwise_right, pairwise_across}
use Rattle.rules.proofs.Lists.{slots-put}
use Rattle.queue_of_store.specs.Ends.{top_slot}

-- the tree t has the slot j
abbrev pub Has : ℕ → Tree → Type 0
Has j t = In j (slots (inorder t))

-- no slot stands twice
abbrev pub Distinct : Tree → Type 0
Distinct t = Once (slots (inorder t))

pub dec_in : (j : ℕ) (l : List ℕ) → Dec (In j l)
dec_in j [] = no (λ z. z)
dec_in j (i ∷ l) = go (ℕ_discrete j i) (dec_in j l)
  where
    go : Dec (j ≡ i) → Dec (In j l) → Dec (In j (i ∷ l))
    go (yes e) x = yes (inl e)
    go (no e) (yes x) = yes (inr x)
    go (no e) (no x) = no (⊎_elim e x)

pub fork-slots : (a : Tree) (e : Entry) (r : ℕ) (b : Tree) → slots (inorder (fork a e r b)) ≡ slots (inorder a) ++ (e.slot ∷ slots (inorder b))
unfolding inorder
fork-slots a e r b = slots-put (inorder a) e (inorder b)

module _ (a : Tree) (e : Entry) (r : ℕ) (b : Tree) where
  has_fork_cases : (j : ℕ) → Has j (fork a e r b) → (j ≡ e.slot) ⊎ (Has j a ⊎ Has j b)
  has_fork_cases j h = go (in_cases j (slots (inorder a)) (e.slot ∷ slots (inorder b)) (rw (fork-slots a e r b) at h))
    where
      go : Has j a ⊎ ((j ≡ e.slot) ⊎ Has j b) → (j ≡ e.slot) ⊎ (Has j a ⊎ Has j b)
      go (inl x) = inr (inl x)
      go (inr (inl x)) = inl x
      go (inr (inr x)) = inr (inr x)

  has_here : (j : ℕ) → j ≡ e.slot → Has j (fork a e r b)
  has_here j x = rw (fork-slots a e r b) (in_right j (slots (inorder a)) (e.slot ∷ slots (inorder b)) (inl x))

  has_left : (j : ℕ) → Has j a → Has j (fork a e r b)
  has_left j x = rw (fork-slots a e r b) (in_left j (slots (inorder a)) (e.slot ∷ slots (inorder b)) x)

  has_right : (j : ℕ) → Has j b → Has j (fork a e r b)
  has_right j x = rw (fork-slots a e r b) (in_right j (slots (inorder a)) (e.slot ∷ slots (inorder b)) (inr x))

-- distinct in a node: its slot, the slots of its two children
pub record Apart (a : Tree) (i : ℕ) (b : Tree) : Type 0 where
  pub near : ¬ (Has i a)
  pub far : ¬ (Has i b)
  pub both : (j : ℕ) → Has j a → ¬ (Has j b)
  pub in_near : Distinct a
  pub in_far : Distinct b

apart-fork : (a : Tree) (e : Entry) (r : ℕ) (b : Tree) → Distinct (fork a e r b) → Apart a e.slot b
apart-fork a e r b d =
    let l = slots (inorder a) in
    let m = slots (inorder b) in
    let o : Once (l ++ (e.slot ∷ m)) = rw (fork-slots a e r b) at d in
    record {
      near = λ x. all_in _ l (below_one Differ l e.slot m o) e.slot x refl;
      far = λ x. all_in _ m (above-one Differ l e.slot m o) e.slot x refl;
      both = λ j x y. pairwise_across Differ l (e.slot ∷ m) o j j x (inr y) refl;
      in_near = pairwise_left Differ l (e.slot ∷ m) o;
      in_far = (pairwise_right Differ l (e.slot ∷ m) o).1;
    }

-- the same over the side
module _ (a : Tree) (e : Entry) (r : ℕ) (b : Tree) where
  pub has_cases : (d : Side) (j : ℕ) → Has j (node d a e r b) → (j ≡ e.slot) ⊎ (Has j a ⊎ Has j b)
  has_cases left j h = has_fork_cases a e r b j h
  has_cases right j h = swap (has_fork_cases b e r a j h)
    where
      swap : (j ≡ e.slot) ⊎ (Has j b ⊎ Has j a) → (j ≡ e.slot) ⊎ (Has j a ⊎ Has j b)
      swap (inl x) = inl x
      swap (inr (inl x)) = inr (inr x)
      swap (inr (inr x)) = inr (inl x)

  pub has_top : (d : Side) (j : ℕ) → j ≡ e.slot → Has j (node d a e r b)
  has_top left j x = has_here a e r b j x
  has_top right j x = has_here b e r a j x

  pub has_near : (d : Side) (j : ℕ) → Has j a → Has j (node d a e r b)
  has_near left j x = has_left a e r b j x
  has_near right j x = has_right b e r a j x

  pub has_far : (d : Side) (j : ℕ) → Has j b → Has j (node d a e r b)
  has_far left j x = has_right a e r b j x
  has_far right j x = has_left b e r a j x

  pub apart : (d : Side) → Distinct (node d a e r b) → Apart a e.slot b
  apart left d = apart-fork a e r b d
  apart right d = let p = apart-fork b e r a d in record { near = p.far; far = p.near; both = λ j x y. p.both j y x; in_near = p.in_far; in_far = p.in_near }

-- a slot below the capacity that is not in t is not its top
pub not_top : (cap j : ℕ) (t : Tree) → cap ≤ no_slot → j < cap → ¬ (Has j t) → ¬ (j ≡ top_slot t)
not_top cap j tip few low h e = omega arith
not_top cap j (fork a x r b) few low h e = h (has_top a x r b left j e)
