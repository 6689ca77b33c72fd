-- Every live slot is in the tree that the walk saw: it is the root, or a child of a slot of a greater rank, which is in it too.
-- The ranks are small, so that going up ends.
use Prim.Native.Nat.{ℕ, zero, suc, ◌-◌, ◌≤◌, ◌<◌}
use mathlib.Core.Path.{◌≡◌, sym, ◌∙◌}
use mathlib.Core.Logic.{◌⊎◌, inl, inr, ⊎_elim}
use mathlib.Core.List.{List}
use native.Mathlib.Decide.{dec_lt}
use native.Mathlib.Omega.{arith}
use Rattle.handle.specs.Numbers.{no_slot}
use Rattle.arena.specs.Words.{field, LEFT, RIGHT, RANK, BACK}
use Rattle.arena.specs.inner.Budget.{budget}
use Rattle.wavl.specs.Entry.{slots}
use Rattle.wavl.specs.Tree.{Tree, tip, fork, left, inorder}
use Rattle.queue_of_store.specs.Ends.{top_slot}
use Rattle.queue_of_store.specs.Links.{Links, TreeWords}
use Rattle.queue_of_store.proofs.Has.{Has, has_cases, has_top, has_near, has_far}
use Rattle.sound.proofs.SlotFacts.{Hangs}

has_none : (p : ℕ) → Has p tip → ⊥
unfolding inorder slots
has_none p h = h

module _ (s : List ℕ) (cap : ℕ) (few : cap ≤ no_slot) where
  -- a link that is a slot leads to a member
  pub top_in : (t : Tree) (i : ℕ) → top_slot t ≡ i → i < cap → Has i t
  top_in tip i e l = absurd (omega arith)
  top_in (fork a x r b) i e l = has_top a x r b left i (sym e)

  -- the children of a member are members
  child_in : (t : Tree) (back p i : ℕ) → Links s cap back t → Has p t → (field s cap p LEFT ≡ i) ⊎ (field s cap p RIGHT ≡ i) → i < cap → Has i t
  child_in tip back p i w h c l = absurd (has_none p h)
  child_in (fork a x r b) back p i w h c l =
      ⊎_elim (λ e. here e c)
      (⊎_elim (λ y. has_near a x r b left i (child_in a x.slot p i w.1 y c l)) (λ y. has_far a x r b left i (child_in b x.slot p i w.2 y c l)))
      (has_cases a x r b left p h)
    where
      here : p ≡ x.slot → (field s cap p LEFT ≡ i) ⊎ (field s cap p RIGHT ≡ i) → Has i (fork a x r b)
      here e (inl f) = has_near a x r b left i (top_in a i (sym w.0.near-is ∙ (rw e at f)) l)
      here e (inr f) = has_far a x r b left i (top_in b i (sym w.0.far-is ∙ (rw e at f)) l)

  module _ (t : Tree) (w : TreeWords s cap t) (hang : (i : ℕ) → i < cap → ¬ (field s cap i RANK ≡ 0) → Hangs s cap i) where
    -- so many ranks are above the slot's at most
    up : (k i : ℕ) → i < cap → ¬ (field s cap i RANK ≡ 0) → budget - field s cap i RANK ≤ k → Has i t
    up zero i l n h = absurd (let g = (hang i l n).small in omega arith)
    up (suc k) i l n h = go (dec_lt (field s cap i BACK) cap) (up k (field s cap i BACK))
      where
        g : Hangs s cap i
        g = hang i l n

        go : Dec (field s cap i BACK < cap) → (field s cap i BACK < cap → ¬ (field s cap (field s cap i BACK) RANK ≡ 0)
            → budget - field s cap (field s cap i BACK) RANK ≤ k → Has (field s cap i BACK) t) → Has i t
        go (yes m) ih =
            let r = g.rises m in
            let z : budget - field s cap (field s cap i BACK) RANK ≤ k = let a = g.small in omega arith in
            child_in t no_slot (field s cap i BACK) i w.links (ih m (λ e. omega arith) z) (g.child m) l
        go (no m) ih = top_in t i (sym w.root ∙ g.root (omega arith)) l

    pub reached : (i : ℕ) → i < cap → ¬ (field s cap i RANK ≡ 0) → Has i t
    reached i l n = up budget i l n (omega arith)
