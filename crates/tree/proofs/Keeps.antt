-- What the steps of crate `tree` leave alone: one law for each step, over any sets W and H that allow what the step writes.
-- A reader may rely on: `TreeOnly` is the case where W is every slot's links and rank, and H is ROOT.
use Prim.Native.Nat.{ℕ, ◌+◌, ◌-◌, ◌<◌, ◌≤◌}
use mathlib.Core.List.{List}
use native.Mathlib.Omega.{arith}
use lib.Dec.{eqb, lit<}
use borrow.Author.Tests.{ltb-true, ltb-false}
use Rattle.arena.specs.Words.{field, LEFT, RIGHT, RANK, BACK, ROOT}
use Rattle.arena.specs.inner.Only.{Only}
use Rattle.arena.proofs.Paths.{either}
use Rattle.arena.proofs.Only.{only_none, only_trans, only-put, only-put_head}
use Rattle.tree.specs.inner.Links.{side_of_child, with_back, with_child, relinked, with_node, spread_with}
use Rattle.tree.specs.inner.Kept.{TreeOnly}
use Rattle.tree.specs.declared.Node.{Node}

pub side-small : (s : List ℕ) (cap p c : ℕ) → side_of_child s cap p c ≤ 1
unfolding side_of_child
side-small s cap p c = either (λ d. d ≤ 1) (eqb (field s cap p RIGHT) c) 1 0 (λ e. omega arith) (λ e. omega arith)

module _ {cap : ℕ} {W : ℕ → ℕ → Type 0} {H : ℕ → Type 0} where
  pub only-back : (s : List ℕ) (p b : ℕ) → (p < cap → W p BACK) → Only s (with_back s cap p b) cap W H
  unfolding with_back
  only-back s p b w = either (λ t. Only s t cap W H) _ _ _ (λ e. let l = ltb-true p cap e in only-put s p BACK b l (lit< tt) (w l)) (λ e. only_none)

  pub only_child_lem : (s : List ℕ) (p d c : ℕ) → d ≤ 1 → (p < cap → W p (LEFT + d)) → (cap ≤ p → H ROOT) → Only s (with_child s cap p d c) cap W H
  unfolding with_child
  only_child_lem s p d c hd w h =
      either (λ t. Only s t cap W H) _ _ _ (λ e. let l = ltb-true p cap e in only-put s p (LEFT + d) c l (omega arith) (w l))
      (λ e. only-put_head s ROOT c (lit< tt) (h (ltb-false p cap e)))

  pub only-relinked : (s : List ℕ) (p old new : ℕ) → (p < cap → (d : ℕ) → d ≤ 1 → W p (LEFT + d)) → (cap ≤ p → H ROOT) → Only s (relinked s cap p old new) cap W H
  unfolding relinked
  only-relinked s p old new w h = let m = side-small s cap p old in only_child_lem s p (side_of_child s cap p old) new m (λ l. w l _ m) h

  pub only-node : (s : List ℕ) (d i : ℕ) (n : Node) → d ≤ 1 → i < cap → ((g : ℕ) → LEFT ≤ g → g ≤ BACK → W i g) → Only s (with_node s cap d i n) cap W H
  unfolding with_node
  only-node s d i n hd hi w =
      only_trans (only-put s i BACK n.back hi (omega arith) (w BACK (omega arith) (omega arith)))
      (only_trans (only-put _ i (LEFT + d) n.near hi (omega arith) (w (LEFT + d) (omega arith) (omega arith)))
      (only_trans (only-put _ i (RIGHT - d) n.far hi (omega arith) (w (RIGHT - d) (omega arith) (omega arith)))
      (only-put _ i RANK n.rank hi (omega arith) (w RANK (omega arith) (omega arith)))))

-- the steps with nothing but the tree allowed
module _ (s : List ℕ) (cap : ℕ) where
  pub back-only : (p b : ℕ) → TreeOnly s (with_back s cap p b) cap
  back-only p b = only-back s p b (λ l. omega arith)

  pub relinked-only : (p old new : ℕ) → TreeOnly s (relinked s cap p old new) cap
  relinked-only p old new = only-relinked s p old new (λ l d m. omega arith) (λ l. omega arith)

  pub node-only : (d i : ℕ) (n : Node) → i < cap → d ≤ 1 → TreeOnly s (with_node s cap d i n) cap
  node-only d i n hi hd = only-node s d i n hd hi (λ g lo up. (lo, up))

pub spread-only : (s : List ℕ) (cap d y : ℕ) (m : Node) (z : ℕ) (n : Node) → y < cap → z < cap → d ≤ 1 → TreeOnly s (spread_with s cap d y m z n) cap
unfolding spread_with
spread-only s cap d y m z n hy hz hd =
    only_trans (back-only _ _ _ _) (only_trans (back-only _ _ _ _) (only_trans (node-only _ _ _ _ _ hy hd) (node-only _ _ _ _ _ hz hd)))
