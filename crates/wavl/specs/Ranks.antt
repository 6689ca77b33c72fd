-- Rule 2, in document 01's words, and in a linear form that arithmetic works with. proofs/Rule shows that they are the same.
-- A reader may rely on Ranked; proofs use Ranks.
use Rattle.std.specs.Prelude.{◌⊎◌, ◌≡◌, ℕ, ◌+◌, ◌≤◌, ◌<◌}
use Rattle.wavl.specs.Tree.{Tree, tip, fork, rank}

-- "A node's rank is 1 or 2 above each child's. A node with no child has rank 1."
pub record Rule2 (a : Tree) (r : ℕ) (b : Tree) : Type 0 where
  pub over_left : (r ≡ rank a + 1) ⊎ (r ≡ rank a + 2)
  pub over_right : (r ≡ rank b + 1) ⊎ (r ≡ rank b + 2)
  pub childless : a ≡ tip → b ≡ tip → r ≡ 1

-- rule 2 at every node
abbrev pub Ranked : Tree → Type 0
Ranked tip = Unit {0}
Ranked (fork a e r b) = Ranked a × Ranked b × Rule2 a r b

-- the same of a rank r over children of ranks a and b; over two tips `bare` leaves 1 alone
pub record Fits (r a b : ℕ) : Type 0 where
  pub over_a : a < r
  pub near_a : r ≤ a + 2
  pub over_b : b < r
  pub near_b : r ≤ b + 2
  pub bare : r ≤ a + b + 1

abbrev pub Ranks : Tree → Type 0
Ranks tip = Unit {0}
Ranks (fork a e r b) = Ranks a × Ranks b × Fits r (rank a) (rank b)
