-- The tests at one node of the tree, as functions of the store, for any words.
-- Document 01, rule 2: "A missing child counts as rank 0. A node's rank is 1 or 2 above each child's. A node with no child has rank
-- 1."; rule 6: "each generation in 1 to top"; rule 1: "back, p_tree0 (left) and p_tree1 (right) agree."
use Rattle.std.specs.Prelude.{ℕ, ◌-◌, Bool, true, false, List, ltb, leb, eqb}
use Rattle.arena.specs.Branch.{ifte}
use Rattle.arena.specs.Words.{field, LEFT, RIGHT, RANK, BACK, GENERATION}
use Rattle.tree.specs.inner.Links.{rank_of}

-- the rank r over children of the ranks a and b; the last test leaves 1 alone over two missing children
unfoldable pub fits_test : ℕ → ℕ → ℕ → Bool
fits_test r a b =
    ifte (leb r a) false
    (ifte (leb r b) false
    (ifte (ltb 2 (r - a)) false
    (ifte (ltb 2 (r - b)) false
    (ifte (ltb b (r - a - 1)) false true))))

unfoldable pub generation_test : ℕ → ℕ → Bool
generation_test g top = ifte (ltb g 1) false (ifte (ltb top g) false true)

unfoldable pub ranks_test : List ℕ → ℕ → ℕ → Bool
ranks_test s cap p = fits_test (field s cap p RANK) (rank_of s cap (field s cap p LEFT)) (rank_of s cap (field s cap p RIGHT))

-- the link p, found below the slot `back`
unfoldable pub node_test : List ℕ → ℕ → ℕ → ℕ → ℕ → Bool
node_test s cap top back p =
    ifte (leb cap p) false
    (ifte (eqb (field s cap p BACK) back)
    (ifte (generation_test (field s cap p GENERATION) top) (ranks_test s cap p) false) false)
