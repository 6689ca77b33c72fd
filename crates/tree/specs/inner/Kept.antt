-- When a store differs from another in nothing but the tree: LEFT, RIGHT, RANK and BACK of its slots, ROOT of its header.
use Rattle.std.specs.Prelude.{ℕ, ◌≤◌, ◌≡◌, List}
use Rattle.arena.specs.Words.{LEFT, BACK, ROOT}
use Rattle.arena.specs.inner.Only.{Only}

abbrev pub TreeField : ℕ → ℕ → Type 0
TreeField j f = (LEFT ≤ f) × (f ≤ BACK)

abbrev pub IsRoot : ℕ → Type 0
IsRoot h = h ≡ ROOT

abbrev pub TreeOnly : List ℕ → List ℕ → ℕ → Type 0
TreeOnly s t cap = Only s t cap TreeField IsRoot
