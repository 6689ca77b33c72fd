-- The two restructures of document 01 in the words, at any depth, over the side.
-- A reader may rely on: restructured: words that hold the tree hold the restructured one afterwards, and only links of the tree are written.
use Prim.Native.Nat.{ℕ, ◌≤◌}
use mathlib.Core.Path.{◌≡◌, refl, sym, ◌∙◌}
use mathlib.Core.List.{List}
use native.Mathlib.Omega.{arith}
use Rattle.handle.specs.Numbers.{no_slot}
use lib.Dec.{lit<}
use Rattle.arena.specs.Words.{Long, field, put, LEFT, RANK, BACK}
use Rattle.tree.specs.inner.Links.{spread_with}
use Rattle.raise.specs.inner.Restructures.{lifted_one, turned_same, spread_below, turned_across}
use Rattle.raise.specs.declared.turns.Turn.{Turn}
use Rattle.wavl.specs.Entry.{Entry, slots}
use Rattle.wavl.specs.Tree.{Side, left, right, Tree, tip, fork, node, rank, inorder}
use Rattle.wavl.specs.Way.{Way, plug}
use Rattle.wavl.specs.Placing.{one_side, restructure}
use Rattle.wavl.specs.Lists.{In}
use Rattle.wavl.proofs.Order.{IsFork, node-same, restructure-same}
use Rattle.queue_of_store.specs.Ends.{top_slot, number}
use Rattle.queue_of_store.specs.Links.{Links, TreeWords}
use Rattle.queue_of_store.specs.inner.Ways.{parent}
use Rattle.queue_of_store.proofs.Has.{Has, Distinct, has_top}
use Rattle.queue_of_store.proofs.Trees.{LinkOf, opened}
use Rattle.queue_of_store.proofs.Ways.{top-node, unplugged, distinct_in}
use Rattle.arena.specs.inner.Only.{NoHead}
use Rattle.arena.proofs.Only.{only-put}
use Rattle.queue_of_store.proofs.AnyDepth.{Regrown, raised_at, turned-at}
use Rattle.queue_of_store.proofs.NodeWrites.{new-rank}
use Rattle.queue_of_store.proofs.Turned.{spread, spread-only, spread-links}
use Rattle.queue_of_store.proofs.TurnedOnce.{lifted, lifted-only, lifted-links}

pub rank-at : (s : List ℕ) (cap back : ℕ) (x : Tree) → IsFork x → Links s cap back x → field s cap (top_slot x) RANK ≡ rank x
rank-at s cap back tip f l = absurd f
rank-at s cap back (fork a e r b) f l = l.0.rank_is

link_of : (x y : Tree) → inorder y ≡ inorder x → (j g : ℕ) → Has j y → LEFT ≤ g → g ≤ BACK → LinkOf (slots (inorder x)) j g
link_of x y e j g h lo up = record { slot_in = rw e at h; field_is = record { from = lo; to = up } }

-- s holds the tree, whose slots are among l
pub record Stands (s : List ℕ) (cap : ℕ) (l : List ℕ) (x : Tree) : Type 0 where
  pub words : TreeWords s cap x
  pub apart : Distinct x
  pub within : (j : ℕ) → Has j x → In j l

pub stands_on : {s t : List ℕ} {cap : ℕ} {l : List ℕ} {x y : Tree} → inorder y ≡ inorder x → Stands s cap l x → Regrown s t cap l y → Stands t cap l y
stands_on e a b = record { words = b.words; apart = rw e a.apart; within = rw e a.within }

-- the slots of a restructure at the end of the way p: i under e1 under e2, s1 on e2's other side
abbrev pub turn_of : ℕ → Entry → Entry → Tree → Way → Turn
turn_of i e1 e2 s1 p = record { n0 = i; n1 = e1.slot; n2 = e2.slot; n3 = parent p; s1 = top_slot s1 }

module _ (s : List ℕ) (cap : ℕ) (l : List ℕ) (few : cap ≤ no_slot) (room : Long s cap) where
  -- a new rank
  pub ranked-at : (p : Way) (d : Side) (a : Tree) (f : Entry) (r : ℕ) (b : Tree) (v : ℕ) → Stands s cap l (plug (node d a f r b) p)
      → Regrown s (put s cap f.slot RANK v) cap l (plug (node d a f v b) p)
  ranked-at p d a f r b v T =
      let x = node d a f r b in
      let P = unplugged s cap p x T.words in
      let low = (opened s cap d (parent p) a f r b P.below).0.low in
      let W = LinkOf (slots (inorder x)) in
      raised_at s (put s cap f.slot RANK v) cap l p x (node d a f v b) few room T.apart T.within T.words (node-same d f v r a a b b refl refl)
      (only-put s f.slot RANK v low (lit< tt) (link_of x x refl f.slot RANK (has_top a f r b d f.slot refl) (omega arith) (omega arith)))
      (new-rank s cap (parent p) d a f r b v room (distinct_in p x T.apart) P.below)
      (top-node d a f v b ∙ sym (top-node d a f r b))

  -- both edges on one side: n1 takes n2's place
  module _ (e : Side) (n0 : Tree) (e1 : Entry) (r1 : ℕ) (s0 : Tree) (e2 : Entry) (r2 : ℕ) (s1 : Tree) (p : Way) (f : IsFork n0)
      (T : Stands s cap l (plug (node e (node e n0 e1 r1 s0) e2 r2 s1) p)) where
    one_same : (e : Side) → inorder (one_side e n0 e1 r1 s0 e2 s1) ≡ inorder (node e (node e n0 e1 r1 s0) e2 r2 s1)
    one_same left = restructure-same left left n0 f e1 r1 r1 s0 e2 r2 s1
    one_same right = restructure-same right right n0 f e1 r1 r1 s0 e2 r2 s1

    pub one_side_lem : Regrown s (turned_same s cap (number e) (turn_of (top_slot n0) e1 e2 s1 p)) cap l (plug (one_side e n0 e1 r1 s0 e2 s1) p)
    unfolding turned_same lifted_one
    one_side_lem =
        let n1 = node e n0 e1 r1 s0 in
        let old = node e n1 e2 r2 s1 in
        let new = one_side e n0 e1 r1 s0 e2 s1 in
        let P = unplugged s cap p old T.words in
        let a = opened s cap e (parent p) n1 e2 r2 s1 P.below in
        let b = opened s cap e e2.slot n0 e1 r1 s0 a.1 in
        let t = lifted s cap (parent p) e n0 s0 s1 e1 e2 r1 (rank n0) few room in
        let o = lifted-only s cap (parent p) e n0 s0 s1 e1 e2 r1 (rank n0) few room (LinkOf (slots (inorder old))) NoHead (link_of old new (one_same e)) a.0.low b.0.low in
        let L = lifted-links s cap (parent p) e n0 s0 s1 e1 e2 r1 (rank n0) few room a.0.low (rw (one_same e) (distinct_in p old T.apart))
        e2.slot (top_slot s0) b.0 b.1 e1.slot b.2 a.2 in
        let x = turned-at s t cap l p old new few room T.apart T.within T.words (one_same e) o L tt in
        rw (b.0.far-is, rank-at s cap e1.slot n0 f b.1) (rw (top-node e n1 e2 r2 s1, top-node e n0 e1 r1 (node e s0 e2 (rank n0) s1)) at x)

  -- edges alternating: n0, which is node e c f k g, takes n2's place
  module _ (e : Side) (s0 : Tree) (e1 : Entry) (r1 : ℕ) (c : Tree) (f : Entry) (k : ℕ) (g : Tree) (e2 : Entry) (r2 : ℕ) (s1 : Tree) (p : Way)
      (T : Stands s cap l (plug (node e (node e s0 e1 r1 (node e c f k g)) e2 r2 s1) p)) where
    across-same : (e : Side) → inorder (node e (node e s0 e1 k c) f r1 (node e g e2 k s1)) ≡ inorder (node e (node e s0 e1 r1 (node e c f k g)) e2 r2 s1)
    across-same left = restructure-same right left (node left c f k g) tt e1 r1 r1 s0 e2 r2 s1
    across-same right = restructure-same left right (node right c f k g) tt e1 r1 r1 s0 e2 r2 s1

    pub across : Regrown s (turned_across s cap (number e) (turn_of f.slot e1 e2 s1 p)) cap l
        (plug (node e (node e s0 e1 k c) f r1 (node e g e2 k s1)) p)
    unfolding turned_across spread_below spread_with
    across =
        let n0 = node e c f k g in
        let n1 = node e s0 e1 r1 n0 in
        let old = node e n1 e2 r2 s1 in
        let new = node e (node e s0 e1 k c) f r1 (node e g e2 k s1) in
        let P = unplugged s cap p old T.words in
        let a = opened s cap e (parent p) n1 e2 r2 s1 P.below in
        let b = opened s cap e e2.slot s0 e1 r1 n0 a.1 in
        let u = opened s cap e e1.slot c f k g b.2 in
        let t = spread s cap (parent p) e s0 c g s1 e1 f e2 k r1 few room in
        let o = spread-only s cap (parent p) e s0 c g s1 e1 f e2 k r1 few room (LinkOf (slots (inorder old))) NoHead (link_of old new (across-same e)) b.0.low u.0.low a.0.low in
        let L = spread-links s cap (parent p) e s0 c g s1 e1 f e2 k r1 few room b.0.low u.0.low a.0.low (rw (across-same e) (distinct_in p old T.apart))
        b.1 f.slot u.1 f.slot u.2 a.2 in
        let x = turned-at s t cap l p old new few room T.apart T.within T.words (across-same e) o L tt in
        rw (b.0.near-is, b.0.rank_is, u.0.near-is, u.0.far-is, u.0.rank_is) (rw (top-node e n1 e2 r2 s1, top-node e (node e s0 e1 k c) f r1 (node e g e2 k s1)) at x)

-- which of the two models the sides choose
abbrev pub turned_by : Side → Side → List ℕ → ℕ → Turn → List ℕ
turned_by left left s cap t = turned_same s cap 0 t
turned_by right right s cap t = turned_same s cap 1 t
turned_by right left s cap t = turned_across s cap 0 t
turned_by left right s cap t = turned_across s cap 1 t

module _ (s : List ℕ) (cap : ℕ) (l : List ℕ) (few : cap ≤ no_slot) (room : Long s cap) where
  pub restructured : (d e : Side) (n0 : Tree) (e1 : Entry) (r1 : ℕ) (s0 : Tree) (e2 : Entry) (r2 : ℕ) (s1 : Tree) (p : Way) → IsFork n0
      → Stands s cap l (plug (node e (node d n0 e1 r1 s0) e2 r2 s1) p)
      → Regrown s (turned_by d e s cap (turn_of (top_slot n0) e1 e2 s1 p)) cap l (plug (restructure d e n0 e1 r1 s0 e2 s1) p)
  restructured left left n0 e1 r1 s0 e2 r2 s1 p f T = one_side_lem s cap l few room left n0 e1 r1 s0 e2 r2 s1 p f T
  restructured right right n0 e1 r1 s0 e2 r2 s1 p f T = one_side_lem s cap l few room right n0 e1 r1 s0 e2 r2 s1 p f T
  restructured right left tip e1 r1 s0 e2 r2 s1 p f T = absurd f
  restructured left right tip e1 r1 s0 e2 r2 s1 p f T = absurd f
  restructured right left (fork a x k b) e1 r1 s0 e2 r2 s1 p f T = across s cap l few room left s0 e1 r1 a x k b e2 r2 s1 p T
  restructured left right (fork a x k b) e1 r1 s0 e2 r2 s1 p f T = across s cap l few room right s0 e1 r1 b x k a e2 r2 s1 p T
