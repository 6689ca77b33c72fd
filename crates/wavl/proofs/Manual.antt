-- The empty place beside a node, where Manual puts a new entry.
-- A reader may rely on: it lies in the same tree, next to the node's entry in the chain, on the side that was asked for.
use mathlib.Core.Path.{◌≡◌, refl, ◌∙◌}
use mathlib.Core.List.{List, [], ◌∷◌, ◌++◌, append_assoc, append-nil}
use Prim.Native.Nat.{ℕ}
use Rattle.wavl.specs.Entry.{Entry}
use Rattle.wavl.specs.Tree.{Side, left, right, Tree, tip, fork, inorder}
use Rattle.wavl.specs.Way.{step, Way, place, plug, before, after}
use Rattle.wavl.specs.Search.{gap, beside_of}

-- the end of the subtree on that side
pub gap-around : (d : Side) (t : Tree) (p : Way) → plug tip (gap d t p) ≡ plug t p
unfolding gap plug
gap-around d tip p = refl
gap-around left (fork a e r b) p = gap-around left a (step left e r b ∷ p)
gap-around right (fork a e r b) p = gap-around right b (step right e r a ∷ p)

-- the place is empty, and lies in the same tree
pub beside-whole : (d : Side) (a : Tree) (e : Entry) (r : ℕ) (b : Tree) (p : Way) → plug tip (beside_of d (place (fork a e r b) p)) ≡ plug (fork a e r b) p
unfolding beside_of plug
beside-whole left a e r b p = gap-around right a (step left e r b ∷ p)
beside-whole right a e r b p = gap-around left b (step right e r a ∷ p)

-- the subtree's entries on the side d of its gap: none there, all on the other
abbrev beyond : Side → Side → Tree → List Entry
beyond left left t = []
beyond left right t = inorder t
beyond right left t = inorder t
beyond right right t = []

gap_is : (d : Side) (t : Tree) (p : Way) → (before (gap d t p) ≡ before p ++ beyond d left t) × (after (gap d t p) ≡ beyond d right t ++ after p)
unfolding gap before after inorder
gap_is left tip p = (simp append-nil, refl)
gap_is right tip p = (simp append-nil, refl)
gap_is left (fork a e r b) p = let i = gap_is left a (step left e r b ∷ p) in (i.0, i.1 ∙ simp append_assoc)
gap_is right (fork a e r b) p = let i = gap_is right b (step right e r a ∷ p) in (i.0 ∙ simp append_assoc, i.1)

-- the entries before and after the place beside a node: on the left it lies just before the node's entry, on the right just after
abbrev pub smaller_at : Side → Tree → Entry → Tree → Way → List Entry
smaller_at left a e b p = before p ++ inorder a
smaller_at right a e b p = (before p ++ inorder a) ++ (e ∷ [])

abbrev pub greater_at : Side → Tree → Entry → Tree → Way → List Entry
greater_at left a e b p = e ∷ (inorder b ++ after p)
greater_at right a e b p = inorder b ++ after p

pub beside-is : (d : Side) (a : Tree) (e : Entry) (r : ℕ) (b : Tree) (p : Way)
    → (before (beside_of d (place (fork a e r b) p)) ≡ smaller_at d a e b p) × (after (beside_of d (place (fork a e r b) p)) ≡ greater_at d a e b p)
unfolding beside_of before after
beside-is left a e r b p = gap_is right a (step left e r b ∷ p)
beside-is right a e r b p = let i = gap_is left b (step right e r a ∷ p) in (i.0 ∙ simp (append-nil, append_assoc), i.1)
