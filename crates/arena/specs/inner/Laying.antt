-- Laying out, as a function of the store, for every input: the tests of a layout, and the writes in the code's own order.
-- What a reader needs of it is ../Laying.antt; proofs/Theorems.antt says that this does that.
use Rattle.std.specs.Prelude.{ℕ, zero, suc, ◌-◌, Bool, true, false, List, Result, Ok, Err, ⊤, ltb, length}
use Rattle.handle.specs.Numbers.{no_slot, first_generation, limit, top_limit}
use Rattle.handle.specs.declared.Refusal.{Refusal}
use Rattle.handle.specs.declared.Refusal.TheVariants.{BadLayout}
use Rattle.arena.specs.Branch.{ifte}
use Rattle.arena.specs.Words.{head_words, need, put, put_head, KEY, LEFT, RIGHT, RANK, BACK, PREV, NEXT, GENERATION, VALUE, STACK, CAPACITY, TOP, HEIGHT, FIRST, LAST, ROOT}

-- the links and the rank of a slot without an entry: "Fields without use hold a fixed value." BACK holds a free slot's place in
-- the stack, else no slot
unfoldable pub unlinked : List ℕ → ℕ → ℕ → ℕ → List ℕ
unlinked s cap i b =
    put (put (put (put (put (put s cap i LEFT no_slot) cap i RIGHT no_slot) cap i RANK 0) cap i BACK b) cap i PREV no_slot) cap i NEXT no_slot

-- a slot without an entry
unfoldable pub blank_of : List ℕ → ℕ → ℕ → ℕ → List ℕ
blank_of s cap i b = unlinked (put (put s cap i KEY 0) cap i VALUE 0) cap i b

-- the slot i, handed out after those below it: the stack's top is its last place
unfoldable pub fresh_slot : List ℕ → ℕ → ℕ → List ℕ
fresh_slot s cap i = put (put (blank_of s cap i (cap - 1 - i)) cap i GENERATION first_generation) cap i STACK (cap - 1 - i)

-- the last n slots
unfoldable pub lay_slots : ℕ → List ℕ → ℕ → List ℕ
lay_slots zero s cap = s
lay_slots (suc n) s cap = lay_slots n (fresh_slot s cap (cap - suc n)) cap

-- the last n words of the header are 0
unfoldable pub zeroed : ℕ → List ℕ → List ℕ
zeroed zero s = s
zeroed (suc n) s = zeroed n (put_head s (head_words - suc n) 0)

unfoldable pub fresh_head : List ℕ → ℕ → ℕ → List ℕ
fresh_head s cap top =
    put_head (put_head (put_head (put_head (put_head (put_head (zeroed head_words s) CAPACITY cap) TOP top) HEIGHT cap) FIRST no_slot) LAST no_slot) ROOT no_slot

unfoldable pub good_layout : ℕ → ℕ → ℕ → Bool
good_layout len cap top =
    ifte (ltb cap 1) false
    (ifte (ltb limit cap) false
    (ifte (ltb top 1) false
    (ifte (ltb top_limit top) false
    (ifte (ltb len (need cap)) false true))))

unfoldable pub laid_words : List ℕ → ℕ → ℕ → List ℕ
laid_words s cap top = lay_slots cap (fresh_head s cap top) cap

unfoldable pub lay_out_words : List ℕ → ℕ → ℕ → List ℕ × Result ⊤ Refusal
lay_out_words s cap top = ifte (good_layout (length s) cap top) (laid_words s cap top, Ok tt) (s, Err BadLayout)
