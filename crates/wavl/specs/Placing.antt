-- Placing a strike: the ranks after a new entry, as document 01 has them ("Ranks after a new entry n0 (rank 1) under n1").
-- A reader may rely on: insert_at e p is the whole tree after e is placed at the empty end of the way p. Rounds are decided
-- by ranks alone and keep the facts that decided them; the counts of request 14 are read off the same rounds.
use Rattle.std.specs.Prelude.{[], ◌∷◌, ◌≡◌, ℕ, suc, ◌+◌, ◌<◌}
use Rattle.std.proofs.Math.Decide.{dec_lt, ℕ_discrete}
use Rattle.wavl.specs.Lists.{choose}
use Rattle.wavl.specs.Entry.{Entry}
use Rattle.wavl.specs.Tree.{Side, left, right, other, Tree, node, rank, entry, child, leaf}
use Rattle.wavl.specs.Way.{step, Way, plug}

-- One round, with n2 above n1. r1 and r2 are their ranks, s the rank of n2's other child.
pub data PlaceRound (r1 r2 s : ℕ) : Type 0 where
  -- "n1's rank below n2's: stop"
  stops : r1 < r2 → PlaceRound r1 r2 s
  -- "If n2's other child is one below n2, raise n2 by one and climb."
  raises : ¬ (r1 < r2) → s + 1 ≡ r2 → PlaceRound r1 r2 s
  -- "Otherwise restructure once and stop"
  turns : ¬ (r1 < r2) → ¬ (s + 1 ≡ r2) → PlaceRound r1 r2 s

unfoldable pub place_round : (r1 r2 s : ℕ) → PlaceRound r1 r2 s
place_round r1 r2 s = decided (dec_lt r1 r2) (ℕ_discrete (s + 1) r2)
  where
    decided : Dec (r1 < r2) → Dec (s + 1 ≡ r2) → PlaceRound r1 r2 s
    decided (yes l) e = stops l
    decided (no l) (yes e) = raises l e
    decided (no l) (no e) = turns l e

unfoldable pub by_place : {A : Type 0} {r1 r2 s : ℕ} → PlaceRound r1 r2 s → (stopped raised turned : A) → A
by_place (stops l) a b c = a
by_place (raises l e) a b c = b
by_place (turns l e) a b c = c

-- n1 is node d n0 e1 r1 s0, and stands on the side e of n2, whose entry is e2 and whose other child is s1.

-- "both edges on one side, n1 takes n2's place and n2 gets n0's rank"
abbrev pub one_side : Side → Tree → Entry → ℕ → Tree → Entry → Tree → Tree
one_side e n0 e1 r1 s0 e2 s1 = node e n0 e1 r1 (node e s0 e2 (rank n0) s1)

-- "edges alternating, n0 takes n2's place with n1's rank, and n1 and n2 get n0's old rank"
abbrev pub alternating : Side → Tree → Entry → ℕ → Tree → Entry → Tree → Tree
alternating e n0 e1 r1 s0 e2 s1 =
    node e (node e s0 e1 (rank n0) (child e n0)) (entry n0) r1 (node e (child (other e) n0) e2 (rank n0) s1)

abbrev pub restructure : Side → Side → Tree → Entry → ℕ → Tree → Entry → Tree → Tree
restructure left left = one_side left
restructure right right = one_side right
restructure right left = alternating left
restructure left right = alternating right

-- The climb: n0 under n1, which has just been given the rank r1, under the way p. "no n2 ..: stop"
unfoldable pub insert_climb : Tree → Side → Entry → ℕ → Tree → Way → Tree
insert_climb n0 d e1 r1 s0 [] = node d n0 e1 r1 s0
insert_climb n0 d e1 r1 s0 (step e e2 r2 s1 ∷ p) =
    by_place (place_round r1 r2 (rank s1))
    (plug (node e (node d n0 e1 r1 s0) e2 r2 s1) p)
    (insert_climb (node d n0 e1 r1 s0) e e2 (suc r2) s1 p)
    (plug (restructure d e n0 e1 r1 s0 e2 s1) p)

-- "a new entry n0 (rank 1) under n1: if n1 had rank 2, stop. Else n1 becomes 2."
unfoldable pub insert_at : Entry → Way → Tree
insert_at e [] = leaf e
insert_at e (step d e1 r1 s0 ∷ p) =
    choose (ℕ_discrete r1 2) (plug (node d (leaf e) e1 r1 s0) p) (insert_climb (leaf e) d e1 2 s0 p)

-- Counts for request 14, in the steps above.

-- how often one insertion restructures
unfoldable pub climb_turns : ℕ → Way → ℕ
climb_turns r1 [] = 0
climb_turns r1 (step e e2 r2 s1 ∷ p) = by_place (place_round r1 r2 (rank s1)) 0 (climb_turns (suc r2) p) 1

unfoldable pub insert_turns : Way → ℕ
insert_turns [] = 0
insert_turns (step d e1 r1 s0 ∷ p) = choose (ℕ_discrete r1 2) 0 (climb_turns 2 p)

-- how many ranks it changes: one as n1 becomes 2, one for each raise, and those of the restructure
abbrev pub turn_changes : Side → Side → ℕ
turn_changes left left = 1
turn_changes right right = 1
turn_changes right left = 3
turn_changes left right = 3

unfoldable pub climb_changes : Side → ℕ → Way → ℕ
climb_changes d r1 [] = 0
climb_changes d r1 (step e e2 r2 s1 ∷ p) =
    by_place (place_round r1 r2 (rank s1)) 0 (suc (climb_changes e (suc r2) p)) (turn_changes d e)

unfoldable pub insert_changes : Way → ℕ
insert_changes [] = 0
insert_changes (step d e1 r1 s0 ∷ p) = choose (ℕ_discrete r1 2) 0 (suc (climb_changes d 2 p))
