-- The ranks after a new entry, as functions of the store, for any words.
-- Document 01: "Ranks after a new entry n0 (rank 1) under n1: if n1 had rank 2, stop. Else n1 becomes 2. Then with n2 above n1: no n2,
-- or n1's rank below n2's: stop. If n2's other child is one below n2, raise n2 by one and climb. Otherwise restructure once and stop".
use Rattle.std.specs.Prelude.{ℕ, zero, suc, ◌+◌, ◌-◌, List, ltb, leb, eqb, Result, Ok, Err, ⊤}
use Rattle.arena.specs.Branch.{ifte}
use Rattle.arena.specs.Words.{field, put, RIGHT, RANK, BACK}
use Rattle.arena.specs.inner.Budget.{budget}
use Rattle.tree.specs.inner.Climb.{on_climbed}
use Rattle.tree.specs.inner.Links.{rank_of, side_of_child}
use Rattle.raise.specs.inner.Restructures.{turned_same, turned_across}
use Rattle.raise.specs.declared.turns.Turn.{Turn}
use Rattle.tree.specs.declared.Climbed.{Climbed}
use Rattle.tree.specs.declared.Climbed.TheVariants.{Done, Up}
use Rattle.handle.specs.declared.Refusal.TheVariants.{NotSound}
use Rattle.handle.specs.declared.Refusal.{Refusal}

-- where the climb goes on above n2: p3 and its side, if it is a slot
unfoldable pub above : List ℕ → ℕ → ℕ → ℕ → List ℕ × Result Climbed Refusal
above s cap p2 p3 = ifte (ltb p3 cap) (s, Ok (Up p3 (side_of_child s cap p3 p2))) (s, Ok Done)

-- n2's rank becomes one more than n1's
unfoldable pub raised_up : List ℕ → ℕ → ℕ → ℕ → ℕ → List ℕ × Result Climbed Refusal
raised_up s cap p2 p3 r1 = above (put s cap p2 RANK (r1 + 1)) cap p2 p3

-- one turn by what it reads: the slots of a restructure, the ranks of n1 and n2, and the rank of n2's other child s1
unfoldable pub fix_with : List ℕ → ℕ → ℕ → ℕ → Turn → ℕ → ℕ → ℕ → List ℕ × Result Climbed Refusal
fix_with s cap d01 d12 t r1 r2 rs1 =
    ifte (ltb r1 r2) (s, Ok Done)
    (ifte (leb budget r1) (s, Err NotSound)
    (ifte (leb budget rs1) (s, Err NotSound)
    (ifte (eqb (rs1 + 1) r2) (raised_up s cap t.n2 t.n3 r1)
    (ifte (eqb d01 d12) (turned_same s cap d01 t, Ok Done)
    (turned_across s cap d12 t, Ok Done)))))

unfoldable pub fix_turn : List ℕ → ℕ → ℕ → ℕ → ℕ → ℕ → ℕ → List ℕ × Result Climbed Refusal
fix_turn s cap p0 p1 p2 d01 d12 =
    fix_with s cap d01 d12 (record { n0 = p0; n1 = p1; n2 = p2; n3 = field s cap p2 BACK; s1 = field s cap p2 (RIGHT - d12) })
    (field s cap p1 RANK) (field s cap p2 RANK) (rank_of s cap (field s cap p2 (RIGHT - d12)))

-- `fuel` turns may still be taken
unfoldable pub raise_from : ℕ → List ℕ → ℕ → ℕ → ℕ → ℕ → ℕ → ℕ → List ℕ × Result ⊤ Refusal
raise_from zero s cap p0 p1 p2 d01 d12 = (s, Err NotSound)
raise_from (suc fuel) s cap p0 p1 p2 d01 d12 =
    let x = fix_turn s cap p0 p1 p2 d01 d12 in
    on_climbed x.1 (λ p3 d. raise_from fuel x.0 cap p1 p2 p3 d12 d) x.0

-- from n1, by what stands above it
unfoldable pub climbed_to : List ℕ → ℕ → ℕ → ℕ → ℕ → List ℕ × Result ⊤ Refusal
climbed_to s cap p0 p1 p2 =
    ifte (leb cap p2) (s, Ok tt)
    (raise_from budget s cap p0 p1 p2 (side_of_child s cap p1 p0) (side_of_child s cap p2 p1))

unfoldable pub climbed_above : List ℕ → ℕ → ℕ → ℕ → List ℕ × Result ⊤ Refusal
climbed_above s cap p0 p1 = climbed_to s cap p0 p1 (field s cap p1 BACK)

unfoldable pub rebalanced : List ℕ → ℕ → ℕ → ℕ → List ℕ × Result ⊤ Refusal
rebalanced s cap p0 p1 = ifte (eqb (field s cap p1 RANK) 2) (s, Ok tt) (climbed_above (put s cap p1 RANK 2) cap p0 p1)
