-- The steps of crate `tree` as functions of the store, for any words.
use Rattle.std.specs.Prelude.{ℕ, ◌+◌, ◌-◌, List, ltb, leb, eqb}
use Rattle.handle.specs.Numbers.{no_slot}
use Rattle.arena.specs.Branch.{ifte}
use Rattle.arena.specs.Words.{field, put, put_head, LEFT, RIGHT, RANK, BACK, ROOT}
use Rattle.tree.specs.declared.Node.{Node}

-- "A missing child counts as rank 0."
unfoldable pub rank_of : List ℕ → ℕ → ℕ → ℕ
rank_of s cap p = ifte (eqb p no_slot) 0 (ifte (leb cap p) 0 (field s cap p RANK))

-- the side of p's child c
unfoldable pub side_of_child : List ℕ → ℕ → ℕ → ℕ → ℕ
side_of_child s cap p c = ifte (eqb (field s cap p RIGHT) c) 1 0

-- p, if it is a slot, has the back link b
unfoldable pub with_back : List ℕ → ℕ → ℕ → ℕ → List ℕ
with_back s cap p b = ifte (ltb p cap) (put s cap p BACK b) s

-- p, if it is a slot, has the child c on the side d; else c is the root
unfoldable pub with_child : List ℕ → ℕ → ℕ → ℕ → ℕ → List ℕ
with_child s cap p d c = ifte (ltb p cap) (put s cap p (LEFT + d) c) (put_head s ROOT c)

-- the child `old` of p, or the root, becomes `new`
unfoldable pub relinked : List ℕ → ℕ → ℕ → ℕ → ℕ → List ℕ
relinked s cap p old new = with_child s cap p (side_of_child s cap p old) new

-- the links and the rank of the slot i: `near` on the side d
unfoldable pub with_node : List ℕ → ℕ → ℕ → ℕ → Node → List ℕ
with_node s cap d i n =
    put (put (put (put s cap i BACK n.back) cap i (LEFT + d) n.near) cap i (RIGHT - d) n.far) cap i RANK n.rank

-- y and z under one node, y on its side d: its children stand below y on the other side, and below z on the side d
unfoldable pub spread_with : List ℕ → ℕ → ℕ → ℕ → Node → ℕ → Node → List ℕ
spread_with s cap d y m z n =
    with_node (with_node (with_back (with_back s cap m.far y) cap n.near z) cap d y m) cap d z n
