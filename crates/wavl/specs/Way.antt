-- A place in a tree: what hangs there, and the way from there up to the root.
-- A reader may rely on: plug puts the tree back together; before and after are the entries on the two sides of the place.
use Rattle.std.specs.Prelude.{List, [], ◌∷◌, ◌++◌, ℕ}
use Rattle.std.proofs.Math.Option.{Option}
use Rattle.wavl.specs.Lists.{first, last}
use Rattle.wavl.specs.Entry.{Entry, revalued}
use Rattle.wavl.specs.Tree.{Side, left, right, Tree, tip, fork, node, inorder}

-- the side on which a place hangs, its parent's entry and rank, its sibling
pub data Step : Type 0 where
  step : Side → Entry → ℕ → Tree → Step

-- from the place upwards: the first step is the parent's
abbrev pub Way : Type 0
Way = List Step

pub data Place : Type 0 where
  place : Tree → Way → Place

-- the whole tree with t at the end of the way
unfoldable pub plug : Tree → Way → Tree
plug t [] = t
plug t (step d e r s ∷ p) = plug (node d t e r s) p

-- the whole tree that a place lies in
abbrev pub whole : Place → Tree
whole (place t p) = plug t p

-- the entries before the end of a way, and after it
unfoldable pub before : Way → List Entry
before [] = []
before (step left e r s ∷ p) = before p
before (step right e r s ∷ p) = before p ++ (inorder s ++ (e ∷ []))

unfoldable pub after : Way → List Entry
after [] = []
after (step left e r s ∷ p) = e ∷ (inorder s ++ after p)
after (step right e r s ∷ p) = after p

-- the chain, where the entries l stand at the end of the way
abbrev pub around : List Entry → Way → List Entry
around l p = before p ++ (l ++ after p)

-- the chain neighbour of a node, or of an empty place, on the given side: prev on the left, next on the right
unfoldable pub neighbour : Side → Place → Option Entry
neighbour left (place tip p) = last (before p)
neighbour left (place (fork a e r b) p) = last (before p ++ inorder a)
neighbour right (place tip p) = first (after p)
neighbour right (place (fork a e r b) p) = first (inorder b ++ after p)

-- the whole tree with another value in the node at a place: a replacement
unfoldable pub replace_at : ℕ → Place → Tree
replace_at v (place tip p) = plug tip p
replace_at v (place (fork a e r b) p) = plug (fork a (revalued v e) r b) p
