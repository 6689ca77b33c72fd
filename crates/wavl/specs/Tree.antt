-- Trees with ranks, read over the side: left and right are one definition.
-- A reader may rely on: node d a e r b has a on the side d; a missing child is a tip, of rank 0; inorder is left to right.
use Rattle.std.specs.Prelude.{List, [], ◌∷◌, ◌++◌, ℕ, suc, ◌+◌}
use Rattle.wavl.specs.Entry.{Entry, blank}

pub data Side : Type 0 where
  left right : Side

abbrev pub other : Side → Side
other left = right
other right = left

-- a missing child, or: the left child, the entry, the rank, the right child
pub data Tree : Type 0 where
  tip : Tree
  fork : Tree → Entry → ℕ → Tree → Tree

-- of a on the side d and b on the other: the one at the left; of a at the left and b at the right: the one on the side d
abbrev pub pick : {A : Type 0} → Side → A → A → A
pick left a b = a
pick right a b = b

-- the first answer where t is a node, the second where it is missing
abbrev pub if_fork : {A : Type 0} → Tree → A → A → A
if_fork tip x y = y
if_fork (fork a e r b) x y = x

-- the child on the side d, the entry, the rank, the other child
abbrev pub node : Side → Tree → Entry → ℕ → Tree → Tree
node d a e r b = fork (pick d a b) e r (pick d b a)

-- "A missing child counts as rank 0."
abbrev pub rank : Tree → ℕ
rank tip = 0
rank (fork a e r b) = r

abbrev pub entry : Tree → Entry
entry tip = blank
entry (fork a e r b) = e

abbrev pub child : Side → Tree → Tree
child d tip = tip
child d (fork a e r b) = pick d a b

-- "A node with no child has rank 1."
abbrev pub leaf : Entry → Tree
leaf e = fork tip e 1 tip

-- "the tree's left-to-right order": this list is the chain
unfoldable pub inorder : Tree → List Entry
inorder tip = []
inorder (fork a e r b) = inorder a ++ (e ∷ inorder b)

unfoldable pub size : Tree → ℕ
size tip = 0
size (fork a e r b) = suc (size a + size b)
