-- The budget of every path in the tree: the most nodes that a search looks at, a climb rises over or the check goes down, and what
-- no rank of a sound store reaches. What proofs know of it is proofs/Budget.antt.
use Rattle.std.specs.Prelude.{ℕ}

unfoldable pub budget : ℕ
budget = 64
