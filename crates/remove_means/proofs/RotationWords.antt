-- The two rotations of a removal in the words, at any depth: with the tree that hung at a place, its rotation hangs there
-- afterwards. A reader may rely on: one law over the side for each; nothing but the tree is written.
use Prim.Native.Nat.{ℕ, ◌≤◌}
use mathlib.Core.List.{List, append_assoc}
use Rattle.handle.specs.Numbers.{no_slot}
use Rattle.arena.specs.Words.{Long, LEFT, BACK}
use Rattle.arena.specs.inner.Only.{NoHead}
use Rattle.wavl.specs.Lists.{In}
use Rattle.wavl.specs.Entry.{Entry, slots}
use Rattle.wavl.specs.Tree.{Side, left, right, Tree, node, inorder}
use Rattle.wavl.specs.Way.{Way, plug}
use Rattle.wavl.proofs.Order.{Same}
use Rattle.tree.specs.inner.Links.{relinked}
use Rattle.queue_of_store.specs.Links.{TreeWords}
use Rattle.queue_of_store.specs.inner.Ways.{parent}
use Rattle.queue_of_store.proofs.Has.{Has, Distinct}
use Rattle.queue_of_store.proofs.Trees.{LinkOf, opened}
use Rattle.queue_of_store.proofs.Ways.{unplugged, distinct_in}
use Rattle.queue_of_store.proofs.Turned.{spread, spread-only, spread-links}
use Rattle.queue_of_store.proofs.TurnedOnce.{rolled, rolled-only, rolled-links}
use Rattle.queue_of_store.proofs.AnyDepth.{Regrown, turned-at}

once-same : (d : Side) (n0 : Tree) (e1 : Entry) (r1 q1 : ℕ) (a : Tree) (e0 : Entry) (r0 : ℕ) (b : Tree)
    → Same (node d (node d n0 e1 q1 a) e0 r1 b) (node d n0 e1 r1 (node d a e0 r0 b))
unfolding inorder
once-same left n0 e1 r1 q1 a e0 r0 b = simp append_assoc
once-same right n0 e1 r1 q1 a e0 r0 b = simp append_assoc

twice_same : (d : Side) (n0 : Tree) (e1 : Entry) (r1 : ℕ) (c : Tree) (ea : Entry) (ra : ℕ) (e : Tree) (e0 : Entry) (r0 : ℕ) (b : Tree)
    → Same (node d (node d n0 e1 ra c) ea r1 (node d e e0 ra b)) (node d n0 e1 r1 (node d (node d c ea ra e) e0 r0 b))
unfolding inorder
twice_same left n0 e1 r1 c ea ra e e0 r0 b = simp append_assoc
twice_same right n0 e1 r1 c ea ra e e0 r0 b = simp append_assoc

-- links of slots that the same entries have
own : (x y : Tree) → Same y x → (j g : ℕ) → Has j y → LEFT ≤ g → g ≤ BACK → LinkOf (slots (inorder x)) j g
own x y e j g h lo up = record { slot_in = rw e at h; field_is = record { from = lo; to = up } }

-- "rotate s0 up to n1's old rank, and n1 to a's rank plus 1": with any rank q1 for n1
module _ (s : List ℕ) (cap : ℕ) (few : cap ≤ no_slot) (room : Long s cap) (l : List ℕ) (d : Side) (n0 : Tree) (e1 : Entry) (r1 : ℕ) (a : Tree) (e0 : Entry) (r0 : ℕ)
    (b : Tree) (p : Way) (q1 : ℕ) where
  abbrev old : Tree
  old = node d n0 e1 r1 (node d a e0 r0 b)

  abbrev new : Tree
  new = node d (node d n0 e1 q1 a) e0 r1 b

  pub once-turned : Distinct (plug old p) → ((j : ℕ) → Has j (plug old p) → In j l) → TreeWords s cap (plug old p)
      → Regrown s (relinked (rolled s cap (parent p) d n0 a b e1 e0 q1 r1 few room) cap (parent p) e1.slot e0.slot) cap l (plug new p)
  once-turned D within T =
      let e = once-same d n0 e1 r1 q1 a e0 r0 b in
      let O = opened s cap d (parent p) n0 e1 r1 (node d a e0 r0 b) (unplugged s cap p old T).below in
      let P = opened s cap d e1.slot a e0 r0 b O.2 in
      let Dn : Distinct new = rw e (distinct_in p old D) in
      turned-at s (rolled s cap (parent p) d n0 a b e1 e0 q1 r1 few room) cap l p old new few room D within T e
      (rolled-only s cap (parent p) d n0 a b e1 e0 q1 r1 few room (LinkOf (slots (inorder old))) NoHead (own old new e) O.0.low P.0.low)
      (rolled-links s cap (parent p) d n0 a b e1 e0 q1 r1 few room O.0.low P.0.low Dn O.1 e0.slot P.1 P.2) tt

-- "a rises to n1's old rank, n1 and s0 get a's old rank"
module _ (s : List ℕ) (cap : ℕ) (few : cap ≤ no_slot) (room : Long s cap) (l : List ℕ) (d : Side) (n0 : Tree) (e1 : Entry) (r1 : ℕ)
    (c : Tree) (ea : Entry) (ra : ℕ) (e : Tree) (e0 : Entry) (r0 : ℕ) (b : Tree) (p : Way) where
  abbrev old2 : Tree
  old2 = node d n0 e1 r1 (node d (node d c ea ra e) e0 r0 b)

  abbrev new2 : Tree
  new2 = node d (node d n0 e1 ra c) ea r1 (node d e e0 ra b)

  pub twice_turned : Distinct (plug old2 p) → ((j : ℕ) → Has j (plug old2 p) → In j l) → TreeWords s cap (plug old2 p)
      → Regrown s (relinked (spread s cap (parent p) d n0 c e b e1 ea e0 ra r1 few room) cap (parent p) e1.slot ea.slot) cap l (plug new2 p)
  twice_turned D within T =
      let z = twice_same d n0 e1 r1 c ea ra e e0 r0 b in
      let O = opened s cap d (parent p) n0 e1 r1 (node d (node d c ea ra e) e0 r0 b) (unplugged s cap p old2 T).below in
      let P = opened s cap d e1.slot (node d c ea ra e) e0 r0 b O.2 in
      let Q = opened s cap d e0.slot c ea ra e P.1 in
      let Dn : Distinct new2 = rw z (distinct_in p old2 D) in
      turned-at s (spread s cap (parent p) d n0 c e b e1 ea e0 ra r1 few room) cap l p old2 new2 few room D within T z
      (spread-only s cap (parent p) d n0 c e b e1 ea e0 ra r1 few room (LinkOf (slots (inorder old2))) NoHead (own old2 new2 z) O.0.low Q.0.low P.0.low)
      (spread-links s cap (parent p) d n0 c e b e1 ea e0 ra r1 few room O.0.low Q.0.low P.0.low Dn O.1 ea.slot Q.1 ea.slot Q.2 P.2) tt
