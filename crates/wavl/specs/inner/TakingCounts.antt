-- Request 14's counts of one removal, in the steps of Taking.
-- A reader may rely on: each count follows the rounds of remove_climb, by ranks alone.
use Rattle.std.specs.Prelude.{[], ◌∷◌, ℕ, suc, ◌-◌}
use Rattle.wavl.specs.Tree.{tip, fork}
use Rattle.wavl.specs.Way.{step, Way}
use Rattle.wavl.specs.Taking.{by_take, round_at}

-- how often the climb rotates, from a node of rank r0
unfoldable pub climb_rotations : ℕ → Way → ℕ
climb_rotations r0 [] = 0
climb_rotations r0 (step d e1 r1 s0 ∷ p) =
    by_take (round_at d r0 r1 s0) 0 (climb_rotations (r1 - 1) p) 1 (climb_rotations (r1 - 1) p) 1

-- how often one removal rotates, from the emptied place
unfoldable pub remove_rotations : Way → ℕ
remove_rotations [] = 0
remove_rotations (step d e r tip ∷ p) = climb_rotations 1 p
remove_rotations (step d e r (fork a f q b) ∷ p) = climb_rotations 0 (step d e r (fork a f q b) ∷ p)

-- how many ranks it changes: one as n1 gets 1, one or two for each lowering, two or three for the rotation
unfoldable pub climb_lowerings : ℕ → Way → ℕ
climb_lowerings r0 [] = 0
climb_lowerings r0 (step d e1 r1 s0 ∷ p) =
    by_take (round_at d r0 r1 s0) 0 (suc (climb_lowerings (r1 - 1) p)) 2 (suc (suc (climb_lowerings (r1 - 1) p))) 3

unfoldable pub remove_changes : Way → ℕ
remove_changes [] = 0
remove_changes (step d e r tip ∷ p) = suc (climb_lowerings 1 p)
remove_changes (step d e r (fork a f q b) ∷ p) = climb_lowerings 0 (step d e r (fork a f q b) ∷ p)
