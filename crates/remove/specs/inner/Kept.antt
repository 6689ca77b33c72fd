-- What every removal leaves alone, on any words: the length, the header but for what moves, what lies past the needed words, and of every
-- slot but the removed one the entry and the generation. Document 01: "The handles of moved entries stay"; "Numbers past what the capacity
-- needs are never touched."
use Rattle.std.specs.Prelude.{ℕ, ◌≡◌, List}
use Rattle.arena.specs.Words.{KEY, GENERATION, VALUE}
use Rattle.arena.specs.inner.Only.{Only, Moving}

-- any field of the slot i, and of another slot what is neither its entry nor its generation
abbrev pub OwnOrBare : ℕ → ℕ → ℕ → Type 0
OwnOrBare i j f = ¬ (j ≡ i) → ¬ (f ≡ KEY) × ¬ (f ≡ VALUE) × ¬ (f ≡ GENERATION)

abbrev pub OthersKept : List ℕ → List ℕ → ℕ → ℕ → Type 0
OthersKept s t cap i = Only s t cap (OwnOrBare i) Moving
