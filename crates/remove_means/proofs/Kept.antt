-- When a store differs from another in nothing but the tree's links of the slots l, and the header's ROOT; and the steps of crate `tree`
-- as such writes. A reader may rely on: chain, entries, free and retired slots (none of them in l), the length and the numbers past the
-- needed ones stay (`reshaped` and the groups of crate `queue_of_store`).
use Prim.Native.Nat.{ℕ, ◌≤◌, ◌<◌}
use mathlib.Core.Path.{refl}
use mathlib.Core.List.{List}
use native.Mathlib.Omega.{arith}
use Rattle.arena.specs.Words.{LEFT, BACK}
use Rattle.arena.specs.inner.Only.{Only}
use Rattle.wavl.specs.Lists.{In}
use Rattle.tree.specs.inner.Links.{with_back, with_child, relinked}
use Rattle.tree.specs.inner.Kept.{IsRoot}
use Rattle.tree.proofs.Keeps.{only-back, only_child_lem, only-relinked}
use Rattle.queue_of_store.proofs.Trees.{LinkOf}

abbrev pub LinksOnly : List ℕ → List ℕ → ℕ → List ℕ → Type 0
LinksOnly s t cap l = Only s t cap (LinkOf l) IsRoot

link_of : (l : List ℕ) (j g : ℕ) → In j l → LEFT ≤ g → g ≤ BACK → LinkOf l j g
link_of l j g h lo up = record { slot_in = h; field_is = record { from = lo; to = up } }

module _ (cap : ℕ) (l : List ℕ) where
  pub tree-back : (s : List ℕ) (p b : ℕ) → (p < cap → In p l) → LinksOnly s (with_back s cap p b) cap l
  tree-back s p b h = only-back s p b (λ x. link_of l p BACK (h x) (omega arith) (omega arith))

  pub tree-child : (s : List ℕ) (p d c : ℕ) → d ≤ 1 → (p < cap → In p l) → LinksOnly s (with_child s cap p d c) cap l
  tree-child s p d c hd h = only_child_lem s p d c hd (λ x. link_of l p _ (h x) (omega arith) (omega arith)) (λ x. refl)

  pub tree-relinked : (s : List ℕ) (p old new : ℕ) → (p < cap → In p l) → LinksOnly s (relinked s cap p old new) cap l
  tree-relinked s p old new h = only-relinked s p old new (λ x d m. link_of l p _ (h x) (omega arith) (omega arith)) (λ x. refl)
