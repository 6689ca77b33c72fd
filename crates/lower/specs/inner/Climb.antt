-- The climb after a removal as a function of the store, for any words: one turn by what was read, and the loop by its budget.
-- Document 01: "While n1 is three above n0 with sibling s0: s0 two below n1, lower n1 by one and climb; else with a and b the inner and
-- outer children of s0: b one below s0, rotate s0 up to n1's old rank, and n1 to a's rank plus 1; both two below s0, lower n1 and s0 and
-- climb; else a rises to n1's old rank, n1 and s0 get a's old rank. A rotation ends the climb."
use Rattle.std.specs.Prelude.{ℕ, zero, suc, ◌+◌, ◌-◌, List, ltb, leb, eqb, Result, Ok, Err, ⊤}
use Rattle.arena.specs.Branch.{ifte}
use Rattle.arena.specs.Words.{field, put, LEFT, RIGHT, RANK, BACK}
use Rattle.arena.specs.inner.Budget.{budget}
use Rattle.tree.specs.inner.Climb.{on_climbed}
use Rattle.tree.specs.inner.Links.{rank_of, side_of_child}
use Rattle.lower.specs.inner.Rotations.{turn_once, turn_twice}
use Rattle.lower.specs.declared.turns.Turn.{Turn}
use Rattle.lower.specs.declared.climbing.Site.{Site}
use Rattle.tree.specs.declared.Climbed.{Climbed}
use Rattle.tree.specs.declared.Climbed.TheVariants.{Done, Up}
use Rattle.handle.specs.declared.Refusal.TheVariants.{NotSound}
use Rattle.handle.specs.declared.Refusal.{Refusal}

-- where the climb goes on above p1, by the back link p2 of p1
unfoldable pub go_up_to : List ℕ → ℕ → ℕ → ℕ → Result Climbed Refusal
go_up_to s cap p1 p2 = ifte (ltb p2 cap) (Ok (Up p2 (side_of_child s cap p2 p1))) (Ok Done)

unfoldable pub go_up : List ℕ → ℕ → ℕ → Result Climbed Refusal
go_up s cap p1 = go_up_to s cap p1 (field s cap p1 BACK)

-- the store, and where the climb goes on above p1 in it
unfoldable pub upward : List ℕ → ℕ → ℕ → List ℕ × Result Climbed Refusal
upward s cap p1 = (s, go_up s cap p1)

unfoldable pub lower_one : List ℕ → ℕ → ℕ → ℕ → List ℕ × Result Climbed Refusal
lower_one s cap p1 rank = upward (put s cap p1 RANK rank) cap p1

unfoldable pub lowered_both : List ℕ → ℕ → ℕ → ℕ → ℕ → List ℕ × Result Climbed Refusal
lowered_both s cap p1 s0 rank0 = lower_one (put s cap s0 RANK (rank0 + 1)) cap p1 (rank0 + 2)

-- by the rotation that may come, which has the children of the sibling and n2 above n1, and by the ranks of n0, of s0 and of b
unfoldable pub climb_past_with : List ℕ → ℕ → ℕ → Turn → ℕ → ℕ → ℕ → List ℕ × Result Climbed Refusal
climb_past_with s cap d t rank0 rs rb =
    ifte (leb budget t.ra) (s, Err NotSound)
    (ifte (leb budget rb) (s, Err NotSound)
    (ifte (eqb (rb + 1) rs) (turn_once s cap d t, Ok Done)
    (ifte (eqb (t.ra + 2) rs) (lowered_both s cap t.n1 t.s0 rank0)
    (ifte (leb cap t.a) (s, Err NotSound)
    (turn_twice s cap d t, Ok Done)))))

-- the rotation at a site, by the children a and b of the sibling, the rank of a, and n2 above n1
abbrev pub turn_at : Site → ℕ → ℕ → ℕ → ℕ → Turn
turn_at p a b ra n2 = record { n0 = p.n0; n1 = p.n1; n2 = n2; s0 = p.s0; a = a; b = b; ra = ra; rank1 = p.rank1 }

unfoldable pub climb_past : List ℕ → ℕ → ℕ → Site → ℕ → List ℕ × Result Climbed Refusal
climb_past s cap d p rs =
    climb_past_with s cap d
    (turn_at p (field s cap p.s0 (LEFT + d)) (field s cap p.s0 (RIGHT - d)) (rank_of s cap (field s cap p.s0 (LEFT + d))) (field s cap p.n1 BACK))
    p.rank0 rs (rank_of s cap (field s cap p.s0 (RIGHT - d)))

-- by the sibling's rank
unfoldable pub climb_at_with : List ℕ → ℕ → ℕ → Site → ℕ → List ℕ × Result Climbed Refusal
climb_at_with s cap d p rs =
    ifte (leb budget rs) (s, Err NotSound)
    (ifte (eqb (rs + 2) p.rank1) (lower_one s cap p.n1 (rs + 1))
    (climb_past s cap d p rs))

unfoldable pub climb_at : List ℕ → ℕ → ℕ → Site → List ℕ × Result Climbed Refusal
climb_at s cap d p = climb_at_with s cap d p (field s cap p.s0 RANK)

-- by the children of n1 and the ranks of n1 and n0
unfoldable pub climb_turn_with : List ℕ → ℕ → ℕ → Site → List ℕ × Result Climbed Refusal
climb_turn_with s cap d p =
    ifte (leb budget p.rank0) (s, Err NotSound)
    (ifte (leb p.rank1 (p.rank0 + 2)) (s, Ok Done)
    (ifte (leb cap p.s0) (s, Err NotSound)
    (climb_at s cap d p)))

unfoldable pub climb_turn : List ℕ → ℕ → ℕ → ℕ → List ℕ × Result Climbed Refusal
climb_turn s cap p1 d =
    climb_turn_with s cap d (record {
      n0 = field s cap p1 (LEFT + d);
      n1 = p1;
      s0 = field s cap p1 (RIGHT - d);
      rank0 = rank_of s cap (field s cap p1 (LEFT + d));
      rank1 = field s cap p1 RANK;
    })

-- the climb at n1 with so many turns left
unfoldable pub lower_from : ℕ → List ℕ → ℕ → ℕ → ℕ → List ℕ × Result ⊤ Refusal
lower_from zero s cap p1 d = (s, Err NotSound)
lower_from (suc fuel) s cap p1 d =
    let x = climb_turn s cap p1 d in
    on_climbed x.1 (λ p2 d2. lower_from fuel x.0 cap p2 d2) x.0
