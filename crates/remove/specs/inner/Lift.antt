-- Lifting a node out of the tree and setting a node in another's place, as functions of the store, for any words.
-- Document 01: "the replacement takes its rank and place. If the replacement had a child, that happens once more": the child then stands
-- where the replacement hung, with the rank that a leaf has.
use Rattle.std.specs.Prelude.{ℕ, List, ltb, eqb}
use Rattle.handle.specs.Numbers.{no_slot}
use Rattle.arena.specs.Branch.{ifte}
use Rattle.arena.specs.Words.{field, LEFT, RIGHT, RANK, BACK}
use Rattle.tree.specs.inner.Links.{side_of_child, with_back, with_child, with_node, relinked}
use Rattle.tree.specs.declared.Node.{Node}
use Rattle.remove.specs.declared.lifting.Lifted.{Lifted}

-- the child of m, which has at most one
unfoldable pub only_child : List ℕ → ℕ → ℕ → ℕ
only_child s cap m = ifte (eqb (field s cap m LEFT) no_slot) (field s cap m RIGHT) (field s cap m LEFT)

-- the side on which m hangs under q
unfoldable pub side_under : List ℕ → ℕ → ℕ → ℕ → ℕ
side_under s cap q m = ifte (ltb q cap) (side_of_child s cap q m) 0

-- c hangs on the side e of q, or is the root
unfoldable pub hung_up : List ℕ → ℕ → ℕ → ℕ → ℕ → List ℕ
hung_up s cap q e c = with_back (with_child s cap q e c) cap c q

-- by the child c, the parent q and the side e
unfoldable pub lift_with : List ℕ → ℕ → ℕ → ℕ → ℕ → List ℕ × Lifted
lift_with s cap c q e = (hung_up s cap q e c, record { under = q; side = e })

unfoldable pub lift_out : List ℕ → ℕ → ℕ → List ℕ × Lifted
lift_out s cap m = lift_with s cap (only_child s cap m) (field s cap m BACK) (side_under s cap (field s cap m BACK) m)

-- m as the node n, where i stood
unfoldable pub stands_in : List ℕ → ℕ → ℕ → ℕ → Node → List ℕ
stands_in s cap i m n = relinked (with_back (with_back (with_node s cap 0 m n) cap n.near m) cap n.far m) cap n.back i m

unfoldable pub node_replaced : List ℕ → ℕ → ℕ → ℕ → List ℕ
node_replaced s cap i m =
    stands_in s cap i m (record { back = field s cap i BACK; near = field s cap i LEFT; far = field s cap i RIGHT; rank = field s cap i RANK })
