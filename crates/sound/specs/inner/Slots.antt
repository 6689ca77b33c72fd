-- The tests of each slot and of each place of the free stack, as functions of the store, for any words.
-- Document 01, rule 5: "Each slot is live, free or retired, one only. The free list meets each free slot once."; rule 6: "a retired
-- slot has the top one"; rule 7: "Fields without use hold a fixed value."
use Rattle.std.specs.Prelude.{ℕ, zero, suc, Bool, true, false, List, leb, eqb}
use Rattle.handle.specs.Numbers.{no_slot}
use Rattle.arena.specs.Branch.{ifte}
use Rattle.arena.specs.Words.{field, head, KEY, LEFT, RIGHT, RANK, BACK, PREV, NEXT, GENERATION, VALUE, STACK, ROOT}
use Rattle.arena.specs.inner.Budget.{budget}
use Rattle.sound.specs.inner.Nodes.{generation_test}

unfoldable pub unlinked_test : List ℕ → ℕ → ℕ → Bool
unlinked_test s cap i =
    ifte (eqb (field s cap i LEFT) no_slot)
    (ifte (eqb (field s cap i RIGHT) no_slot)
    (ifte (eqb (field s cap i PREV) no_slot)
    (ifte (eqb (field s cap i NEXT) no_slot) true false) false) false) false

unfoldable pub blank_test : List ℕ → ℕ → ℕ → Bool
blank_test s cap i =
    ifte (eqb (field s cap i KEY) 0)
    (ifte (eqb (field s cap i VALUE) 0) (unlinked_test s cap i) false) false

-- the slot i, by what it has in BACK and its generation
unfoldable pub rest_with : List ℕ → ℕ → ℕ → ℕ → ℕ → ℕ → ℕ → Bool
rest_with s cap top h i place g =
    ifte (eqb place no_slot) (eqb g top)
    (ifte (leb h place) false
    (ifte (eqb (field s cap place STACK) i) (generation_test g top) false))

unfoldable pub rest_test : List ℕ → ℕ → ℕ → ℕ → ℕ → Bool
rest_test s cap top h i = rest_with s cap top h i (field s cap i BACK) (field s cap i GENERATION)

-- the slot i is a child of the slot p
unfoldable pub child_test : List ℕ → ℕ → ℕ → ℕ → Bool
child_test s cap i p = ifte (eqb (field s cap p LEFT) i) true (eqb (field s cap p RIGHT) i)

-- the live slot i, of that rank, below p
unfoldable pub hangs_with : List ℕ → ℕ → ℕ → ℕ → ℕ → Bool
hangs_with s cap i rank p =
    ifte (leb budget rank) false
    (ifte (leb cap p) (eqb (head s ROOT) i)
    (ifte (leb (field s cap p RANK) rank) false (child_test s cap i p)))

unfoldable pub hangs_test : List ℕ → ℕ → ℕ → Bool
hangs_test s cap i = hangs_with s cap i (field s cap i RANK) (field s cap i BACK)

unfoldable pub slot_test : List ℕ → ℕ → ℕ → ℕ → ℕ → Bool
slot_test s cap top h i =
    ifte (eqb (field s cap i RANK) 0)
    (ifte (blank_test s cap i) (rest_test s cap top h i) false)
    (hangs_test s cap i)

-- the place p of the stack, which holds i
unfoldable pub place_with : List ℕ → ℕ → ℕ → ℕ → ℕ → Bool
place_with s cap h p i =
    ifte (leb h p) (eqb i no_slot)
    (ifte (leb cap i) false
    (ifte (eqb (field s cap i RANK) 0) (eqb (field s cap i BACK) p) false))

unfoldable pub place_test : List ℕ → ℕ → ℕ → ℕ → Bool
place_test s cap h p = place_with s cap h p (field s cap p STACK)

-- the slots and the places below n
unfoldable pub slots_test : ℕ → List ℕ → ℕ → ℕ → ℕ → Bool
slots_test zero s cap top h = true
slots_test (suc n) s cap top h =
    ifte (slot_test s cap top h n)
    (ifte (place_test s cap h n) (slots_test n s cap top h) false) false
