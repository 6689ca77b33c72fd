-- The test between two neighbours of the chain, as functions of the store, for any words.
-- Document 01, rule 3: "The chain from first to last ..; prev and next agree."; rule 4: "Keys rise strictly along the chain."
-- Before the first entry and after the last stands no slot; the header's words answer for it.
use Rattle.std.specs.Prelude.{ℕ, Bool, true, false, List, ltb, leb, eqb}
use Rattle.arena.specs.Branch.{ifte}
use Rattle.arena.specs.Words.{field, head, KEY, PREV, NEXT, FIRST, LAST}

unfoldable pub after_of : List ℕ → ℕ → ℕ → ℕ
after_of s cap x = ifte (ltb x cap) (field s cap x NEXT) (head s FIRST)

unfoldable pub before_of : List ℕ → ℕ → ℕ → ℕ
before_of s cap y = ifte (ltb y cap) (field s cap y PREV) (head s LAST)

unfoldable pub rises_test : List ℕ → ℕ → ℕ → ℕ → Bool
rises_test s cap x y =
    ifte (leb cap x) true
    (ifte (leb cap y) true
    (ltb (field s cap x KEY) (field s cap y KEY)))

unfoldable pub join_test : List ℕ → ℕ → ℕ → ℕ → Bool
join_test s cap x y =
    ifte (eqb (after_of s cap x) y)
    (ifte (eqb (before_of s cap y) x) (rises_test s cap x y) false) false
