-- What every insertion leaves alone, on any words: the length, the header but for what moves, generations, and what lies past the
-- needed words. Document 01: "Numbers past what the capacity needs are never touched."
use Rattle.std.specs.Prelude.{ℕ, ◌≡◌, List}
use Rattle.arena.specs.Words.{GENERATION}
use Rattle.arena.specs.inner.Only.{Only, Moving}

abbrev pub NoGeneration : ℕ → ℕ → Type 0
NoGeneration j f = ¬ (f ≡ GENERATION)

abbrev pub Within : List ℕ → List ℕ → ℕ → Type 0
Within s t cap = Only s t cap NoGeneration Moving
