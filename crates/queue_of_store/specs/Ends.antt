-- The slots that the header names: the tree's root, the chain's first and last, each no slot where there is none.
-- Document 01, rule 7: "In an empty queue first, last and root hold "no slot"".
use Rattle.std.specs.Prelude.{ℕ, List, [], ◌∷◌}
use Rattle.handle.specs.Numbers.{no_slot}
use Rattle.wavl.specs.Entry.{Entry}
use Rattle.wavl.specs.Tree.{Side, left, right, Tree, tip, fork}

abbrev pub top_slot : Tree → ℕ
top_slot tip = no_slot
top_slot (fork a e r b) = e.slot

abbrev pub first_slot : List Entry → ℕ
first_slot [] = no_slot
first_slot (e ∷ l) = e.slot

abbrev pub last_slot : List Entry → ℕ
last_slot [] = no_slot
last_slot (e ∷ []) = e.slot
last_slot (e ∷ (f ∷ l)) = last_slot (f ∷ l)

-- a side as the words number it: LEFT + 0 is the left child, LEFT + 1 the right one
abbrev pub number : Side → ℕ
number left = 0
number right = 1
