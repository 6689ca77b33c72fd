-- The writes of a restructure, seen by the nodes and trees that they touch: a node's own word, a node written whole, a new back link.
-- A reader may rely on: with carry and carry-node (Trees) for what a write does not touch, these are all the steps of a rotation.
use Prim.Native.Nat.{ℕ, ◌+◌, ◌-◌, ◌≤◌, ◌<◌}
use mathlib.Core.Path.{◌≡◌, refl, ◌∙◌}
use mathlib.Core.List.{List}
use native.Mathlib.Omega.{arith}
use borrow.Author.Tests.{lt-ltb}
use lib.Dec.{lit<}
use Rattle.arena.specs.Words.{Long, fields, field, put, LEFT, RIGHT, RANK, BACK}
use Rattle.arena.proofs.WordLaws.{room-put, field-same, field_off}
use Rattle.arena.proofs.Only.{only-put}
use Rattle.tree.specs.inner.Links.{with_back, with_node}
use Rattle.tree.specs.declared.Node.{Node as Written}
use Rattle.tree.proofs.Keeps.{only-back, only-node}
use Rattle.wavl.specs.Entry.{Entry}
use Rattle.wavl.specs.Tree.{Side, left, Tree, tip, fork, node}
use Rattle.queue_of_store.specs.Ends.{top_slot, number}
use Rattle.queue_of_store.specs.Links.{Node, Links}
use Rattle.queue_of_store.proofs.Has.{Distinct, apart}
use Rattle.queue_of_store.proofs.Trees.{number_small, opened, closed, Touch, carry}

-- one word of a node
module _ (s : List ℕ) (cap d back near i r far : ℕ) (hd : d ≤ 1) (room : Long s cap) (N : Node s cap d back near i r far) (v : ℕ) where
  off : (f g : ℕ) → f < fields → g < fields → ¬ (g ≡ f) → field (put s cap i f v) cap i g ≡ field s cap i g
  off f g hf hg n = field_off s cap i f v N.low hf i g N.low hg n

  pub node-put-back : Node (put s cap i BACK v) cap d v near i r far
  node-put-back = record {
    low = N.low;
    back_is = field-same s cap i BACK v N.low (omega arith) room;
    near-is = off BACK (LEFT + d) (omega arith) (omega arith) (λ e. omega arith) ∙ N.near-is;
    far-is = off BACK (RIGHT - d) (omega arith) (omega arith) (λ e. omega arith) ∙ N.far-is;
    rank_is = off BACK RANK (omega arith) (omega arith) (λ e. omega arith) ∙ N.rank_is;
  }

  pub node-put-near : Node (put s cap i (LEFT + d) v) cap d back v i r far
  node-put-near = record {
    low = N.low;
    back_is = off (LEFT + d) BACK (omega arith) (omega arith) (λ e. omega arith) ∙ N.back_is;
    near-is = field-same s cap i (LEFT + d) v N.low (omega arith) room;
    far-is = off (LEFT + d) (RIGHT - d) (omega arith) (omega arith) (λ e. omega arith) ∙ N.far-is;
    rank_is = off (LEFT + d) RANK (omega arith) (omega arith) (λ e. omega arith) ∙ N.rank_is;
  }

  pub node-put-far : Node (put s cap i (RIGHT - d) v) cap d back near i r v
  node-put-far = record {
    low = N.low;
    back_is = off (RIGHT - d) BACK (omega arith) (omega arith) (λ e. omega arith) ∙ N.back_is;
    near-is = off (RIGHT - d) (LEFT + d) (omega arith) (omega arith) (λ e. omega arith) ∙ N.near-is;
    far-is = field-same s cap i (RIGHT - d) v N.low (omega arith) room;
    rank_is = off (RIGHT - d) RANK (omega arith) (omega arith) (λ e. omega arith) ∙ N.rank_is;
  }

  pub node-put-rank : Node (put s cap i RANK v) cap d back near i v far
  node-put-rank = record {
    low = N.low;
    back_is = off RANK BACK (omega arith) (omega arith) (λ e. omega arith) ∙ N.back_is;
    near-is = off RANK (LEFT + d) (omega arith) (omega arith) (λ e. omega arith) ∙ N.near-is;
    far-is = off RANK (RIGHT - d) (omega arith) (omega arith) (λ e. omega arith) ∙ N.far-is;
    rank_is = field-same s cap i RANK v N.low (omega arith) room;
  }

-- a node written whole
module _ (s : List ℕ) (cap d i : ℕ) (n : Written) (hd : d ≤ 1) (hi : i < cap) where
  pub node-new : Long s cap → Node (with_node s cap d i n) cap d n.back n.near i n.rank n.far
  unfolding with_node
  node-new room =
      let a = put s cap i BACK n.back in
      let b = put a cap i (LEFT + d) n.near in
      let c = put b cap i (RIGHT - d) n.far in
      let ra : Long a cap = room-put s cap i BACK n.back room in
      let rb : Long b cap = room-put a cap i (LEFT + d) n.near ra in
      let rc : Long c cap = room-put b cap i (RIGHT - d) n.far rb in
      node-put-rank c cap d _ _ i _ _ hd rc
      (node-put-far b cap d _ _ i _ _ hd rb
      (node-put-near a cap d _ _ i _ _ hd ra
      (node-put-back s cap d _ _ i _ _ hd room (record { low = hi; back_is = refl; near-is = refl; far-is = refl; rank_is = refl })
      n.back) n.near) n.far) n.rank

  pub touch_node : Touch s (with_node s cap d i n) cap i
  touch_node = only-node s d i n hd hi (λ g lo up. refl)

-- a back link, written where there is a slot
module _ (s : List ℕ) (cap i b : ℕ) where
  pub back_at : i < cap → with_back s cap i b ≡ put s cap i BACK b
  unfolding with_back
  back_at l = rw (lt-ltb i cap l)

  pub touch_back : Touch s (with_back s cap i b) cap i
  touch_back = only-back s i b (λ l. refl)

-- the top of a tree has a new back link
pub new-back : (s : List ℕ) (cap back c : ℕ) (x : Tree) → Long s cap → Distinct x → Links s cap back x → Links (with_back s cap (top_slot x) c) cap c x
new-back s cap back c tip room D l = tt
new-back s cap back c (fork a e r b) room D l =
    let p = apart a e r b left D in
    let i = e.slot in
    let T = touch_back s cap i c in (
      rw (back_at s cap i c l.0.low) (node-put-back s cap 0 back (top_slot a) i r (top_slot b) (omega arith) room l.0 c),
      carry s (with_back s cap i c) cap i T a i p.near l.1,
      carry s (with_back s cap i c) cap i T b i p.far l.2,
    )

-- the top of a tree has a new rank
pub new-rank : (s : List ℕ) (cap back : ℕ) (d : Side) (a : Tree) (e : Entry) (r : ℕ) (b : Tree) (v : ℕ) → Long s cap → Distinct (node d a e r b)
    → Links s cap back (node d a e r b) → Links (put s cap e.slot RANK v) cap back (node d a e v b)
new-rank s cap back d a e r b v room D l =
    let p = apart a e r b d D in
    let o = opened s cap d back a e r b l in
    let i = e.slot in
    let t = put s cap i RANK v in
    let T : Touch s t cap i = only-put s i RANK v o.0.low (lit< tt) refl in
    closed t cap d back a e v b (node-put-rank s cap (number d) back (top_slot a) i r (top_slot b) (number_small d) room o.0 v)
    (carry s t cap i T a i p.near o.1) (carry s t cap i T b i p.far o.2)
