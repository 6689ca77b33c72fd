-- The words of a whole tree, taken apart at a place and put together again: the tree that hangs there, its hook, the way up.
-- A reader may rely on: plugged and unplugged are each other's way back, so that a change at any depth is a change of a subtree's
-- links and of its hook, with the way kept.
use Prim.Native.Nat.{ℕ}
use mathlib.Core.Path.{◌≡◌, refl}
use mathlib.Core.Logic.{◌⊎◌, inl, inr}
use mathlib.Core.List.{List, [], ◌∷◌}
use Rattle.wavl.specs.Entry.{Entry}
use Rattle.wavl.specs.Tree.{Side, left, right, Tree, node}
use Rattle.wavl.specs.Way.{step, Way, plug}
use Rattle.queue_of_store.specs.Ends.{top_slot}
use Rattle.queue_of_store.specs.Links.{Links, TreeWords}
use Rattle.queue_of_store.specs.inner.Ways.{parent, Hook, LinksWay}
use Rattle.queue_of_store.proofs.Has.{Has, Distinct, apart, has_top, has_near, has_far}
use Rattle.queue_of_store.proofs.Trees.{opened, closed}

-- the parts of a whole tree at a place
pub record Parted (s : List ℕ) (cap : ℕ) (t : Tree) (p : Way) : Type 0 where
  pub below : Links s cap (parent p) t
  pub hook : Hook s cap p (top_slot t)
  pub way : LinksWay s cap p

pub top-node : (d : Side) (a : Tree) (e : Entry) (r : ℕ) (b : Tree) → top_slot (node d a e r b) ≡ e.slot
top-node left a e r b = refl
top-node right a e r b = refl

module _ (s : List ℕ) (cap : ℕ) where
  pub unplugged : (p : Way) (t : Tree) → TreeWords s cap (plug t p) → Parted s cap t p
  unfolding plug
  unplugged [] t w = record { below = w.links; hook = w.root; way = tt }
  unplugged (step d e r u ∷ p) t w =
      let x = unplugged p (node d t e r u) w in
      let o = opened s cap d (parent p) t e r u x.below in
      record {
        below = o.1;
        hook = o.0.near-is;
        way = (record { low = o.0.low; back_is = o.0.back_is; far-is = o.0.far-is; rank_is = o.0.rank_is }, o.2, x.hook, x.way);
      }

  pub plugged : (p : Way) (t : Tree) → Parted s cap t p → TreeWords s cap (plug t p)
  unfolding plug
  plugged [] t x = record { root = x.hook; links = x.below }
  plugged (step d e r u ∷ p) t x =
      let h = x.way.0 in
      plugged p (node d t e r u) (record {
        below = closed s cap d (parent p) t e r u (record { low = h.low; back_is = h.back_is; near-is = x.hook; far-is = h.far-is; rank_is = h.rank_is }) x.below x.way.1;
        hook = x.way.2;
        way = x.way.3;
      })

-- distinct in the whole, so distinct in the part
pub distinct_in : (p : Way) (t : Tree) → Distinct (plug t p) → Distinct t
unfolding plug
distinct_in [] t d = d
distinct_in (step c e r u ∷ p) t d = (apart t e r u c (distinct_in p (node c t e r u) d)).in_near

-- the slots of a way and of what hangs beside it
abbrev pub HasWay : ℕ → Way → Type 0
HasWay j [] = ⊥
HasWay j (step d e r u ∷ p) = (j ≡ e.slot) ⊎ (Has j u ⊎ HasWay j p)

pub has_plug : (j : ℕ) (p : Way) (t : Tree) → Has j t → Has j (plug t p)
unfolding plug
has_plug j [] t h = h
has_plug j (step d e r u ∷ p) t h = has_plug j p (node d t e r u) (has_near t e r u d j h)

pub has_way : (j : ℕ) (p : Way) (t : Tree) → HasWay j p → Has j (plug t p)
unfolding plug
has_way j [] t h = absurd h
has_way j (step d e r u ∷ p) t (inl h) = has_plug j p (node d t e r u) (has_top t e r u d j h)
has_way j (step d e r u ∷ p) t (inr (inl h)) = has_plug j p (node d t e r u) (has_far t e r u d j h)
has_way j (step d e r u ∷ p) t (inr (inr h)) = has_way j p (node d t e r u) h

-- and of one only
pub way_apart : (p : Way) (t : Tree) → Distinct (plug t p) → (j : ℕ) → Has j t → ¬ (HasWay j p)
unfolding plug
way_apart [] t d j h w = w
way_apart (step c e r u ∷ p) t d j h (inl x) = (apart t e r u c (distinct_in p (node c t e r u) d)).near (rw x at h)
way_apart (step c e r u ∷ p) t d j h (inr (inl x)) = (apart t e r u c (distinct_in p (node c t e r u) d)).both j h x
way_apart (step c e r u ∷ p) t d j h (inr (inr x)) = way_apart p (node c t e r u) d j (has_near t e r u c j h) x

-- the slots above a place are apart from its parent's and from what hangs beside it
pub above_apart : (c : Side) (e : Entry) (r : ℕ) (u : Tree) (p : Way) (t : Tree) → Distinct (plug t (step c e r u ∷ p))
    → (j : ℕ) → HasWay j p → ¬ ((j ≡ e.slot) ⊎ Has j u)
unfolding plug
above_apart c e r u p t d j w (inl x) = way_apart p (node c t e r u) d j (has_top t e r u c j x) w
above_apart c e r u p t d j w (inr x) = way_apart p (node c t e r u) d j (has_far t e r u c j x) w
