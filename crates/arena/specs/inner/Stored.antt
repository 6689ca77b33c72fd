-- What a call that writes leaves of a Store beside its words: the loan, so that the lender has the words back, and the capacity.
use Rattle.std.specs.Prelude.{ℕ, List, ◌≡◌}
use Rattle.arena.specs.declared.store.Store.{Store}

-- the same loan and the same capacity
abbrev pub SameLoan : Store → Store → Type 0
SameLoan a b = (b.words.ghost_name ≡ a.words.ghost_name) × (b.cap ≡ a.cap)

-- the same loan and capacity, and these words
abbrev pub Becomes : Store → Store → List ℕ → Type 0
Becomes a b ws = (b.words.ghost_name ≡ a.words.ghost_name) × (b.cap ≡ a.cap) × (b.words.now ≡ ws)
