-- Live handles and entries, as functions of the store.
-- Document 01: "Reading and removal answer key and value"; a slot's state is read off its own words: it is live where it has a rank.
use Rattle.std.specs.Prelude.{ℕ, Bool, false, List, ltb, leb, eqb, ℤ}
use Rattle.handle.specs.declared.Handle.{Handle}
use Rattle.arena.specs.Branch.{ifte}
use Rattle.arena.specs.Keys.{stored, signed}
use Rattle.arena.specs.Words.{field, put, KEY, RANK, GENERATION, VALUE}
use Rattle.handle.specs.declared.Entry.{Entry}

unfoldable pub is_live : List ℕ → ℕ → Handle → Bool
is_live s cap h =
    ifte (leb cap h.slot.0) false
    (ifte (ltb (field s cap h.slot.0 RANK) 1) false
    (eqb (field s cap h.slot.0 GENERATION) h.generation.0))

unfoldable pub entry_of : List ℕ → ℕ → ℕ → Entry
entry_of s cap i = record { key = record { 0 = signed (field s cap i KEY) }; value = field s cap i VALUE }

unfoldable pub entry_put : List ℕ → ℕ → ℕ → ℤ → ℕ → List ℕ
entry_put s cap i key value = put (put s cap i KEY (stored key)) cap i VALUE value
