-- Taking a strike away: replacements first, then the climb from the emptied place.
-- A reader may rely on: remove_at t p is the whole tree after the root of t, which hangs at the end of the way p, is taken
-- out; vacate and moved say which entries move for that, and where.
use Rattle.std.specs.Prelude.{List, [], ◌∷◌, ◌≡◌, ℕ, ◌+◌, ◌-◌, ◌≤◌}
use Rattle.std.proofs.Math.Decide.{dec_le, ℕ_discrete}
use Rattle.wavl.specs.Entry.{Entry, blank}
use Rattle.wavl.specs.Tree.{Side, left, right, other, Tree, tip, fork, pick, if_fork, node, rank, entry, child, leaf}
use Rattle.wavl.specs.Way.{step, Way, plug}

-- The climb. n0 is the child of n1, on the side d, whose place was emptied or lowered; s0 is n1's other child, and a and b
-- are "the inner and outer children of s0". One round, by the ranks of n0, n1, s0, a and b.
pub data TakeRound (r0 r1 s a b : ℕ) : Type 0 where
  -- "While n1 is three above n0": it isn't
  ends : r1 ≤ r0 + 2 → TakeRound r0 r1 s a b
  -- "s0 two below n1, lower n1 by one and climb"
  lowers : ¬ (r1 ≤ r0 + 2) → s + 2 ≡ r1 → TakeRound r0 r1 s a b
  -- "b one below s0, rotate s0 up to n1's old rank, and n1 to a's rank plus 1"
  rotates : ¬ (r1 ≤ r0 + 2) → ¬ (s + 2 ≡ r1) → b + 1 ≡ s → TakeRound r0 r1 s a b
  -- "both two below s0, lower n1 and s0 and climb" (b is, as it isn't one below)
  lowers_both : ¬ (r1 ≤ r0 + 2) → ¬ (s + 2 ≡ r1) → ¬ (b + 1 ≡ s) → a + 2 ≡ s → TakeRound r0 r1 s a b
  -- "else a rises to n1's old rank, n1 and s0 get a's old rank"
  rotates_twice : ¬ (r1 ≤ r0 + 2) → ¬ (s + 2 ≡ r1) → ¬ (b + 1 ≡ s) → ¬ (a + 2 ≡ s) → TakeRound r0 r1 s a b

unfoldable pub take_round : (r0 r1 s a b : ℕ) → TakeRound r0 r1 s a b
take_round r0 r1 s a b = decided (dec_le r1 (r0 + 2)) (ℕ_discrete (s + 2) r1) (ℕ_discrete (b + 1) s) (ℕ_discrete (a + 2) s)
  where
    decided : Dec (r1 ≤ r0 + 2) → Dec (s + 2 ≡ r1) → Dec (b + 1 ≡ s) → Dec (a + 2 ≡ s) → TakeRound r0 r1 s a b
    decided (yes x) y z w = ends x
    decided (no x) (yes y) z w = lowers x y
    decided (no x) (no y) (yes z) w = rotates x y z
    decided (no x) (no y) (no z) (yes w) = lowers_both x y z w
    decided (no x) (no y) (no z) (no w) = rotates_twice x y z w

unfoldable pub by_take : {A : Type 0} {r0 r1 s a b : ℕ} → TakeRound r0 r1 s a b → (ended lowered rotated both twice : A) → A
by_take (ends x) f g h i j = f
by_take (lowers x y) f g h i j = g
by_take (rotates x y z) f g h i j = h
by_take (lowers_both x y z w) f g h i j = i
by_take (rotates_twice x y z w) f g h i j = j

-- the round of n1, at the side d, from the trees themselves
abbrev pub round_at : (d : Side) (r0 r1 : ℕ) (s0 : Tree) → TakeRound r0 r1 (rank s0) (rank (child d s0)) (rank (child (other d) s0))
round_at d r0 r1 s0 = take_round r0 r1 (rank s0) (rank (child d s0)) (rank (child (other d) s0))

abbrev pub rotate : Side → Tree → Entry → ℕ → Tree → Tree
rotate d n0 e1 r1 s0 = node d (node d n0 e1 (rank (child d s0) + 1) (child d s0)) (entry s0) r1 (child (other d) s0)

abbrev pub lower_both : Side → Tree → Entry → ℕ → Tree → Tree
lower_both d n0 e1 r1 s0 = node d n0 e1 (r1 - 1) (node d (child d s0) (entry s0) (rank s0 - 1) (child (other d) s0))

abbrev pub rotate_twice : Side → Tree → Entry → ℕ → Tree → Tree → Tree
rotate_twice d n0 e1 r1 s0 a =
    node d (node d n0 e1 (rank a) (child d a)) (entry a) r1 (node d (child (other d) a) (entry s0) (rank a) (child (other d) s0))

-- "A rotation ends the climb."
unfoldable pub remove_climb : Tree → Way → Tree
remove_climb n0 [] = n0
remove_climb n0 (step d e1 r1 s0 ∷ p) =
    by_take (round_at d (rank n0) r1 s0)
    (plug (node d n0 e1 r1 s0) p)
    (remove_climb (node d n0 e1 (r1 - 1) s0) p)
    (plug (rotate d n0 e1 r1 s0) p)
    (remove_climb (lower_both d n0 e1 r1 s0) p)
    (plug (rotate_twice d n0 e1 r1 s0 (child d s0)) p)

-- "climb from the parent n1 of the emptied place .. If that parent is left childless it gets rank 1 and the climb goes one up."
unfoldable pub settle : Way → Tree
settle [] = tip
settle (step d e r tip ∷ p) = remove_climb (leaf e) p
settle (step d e r (fork a f q b) ∷ p) = remove_climb tip (step d e r (fork a f q b) ∷ p)

-- Replacements. "A node with a child is replaced by its chain prev, or by its next ..; the replacement takes its rank and
-- place. If the replacement had a child, that happens once more". The prev of a node with a left child is the last node of
-- that child's tree, and the next of a node with a right child the first one. Of two children near is the one on the side d
-- and far the other. Of a function f, pick d (f a) (f b) is f near: in this form the checker sees that the recursion ends.

-- the entry at the end of a tree on the given side: the last one on the right, the first one on the left
unfoldable pub endmost : Side → Tree → Entry
endmost d tip = blank
endmost d (fork a e r b) = if_fork (pick d a b) (pick d (endmost d a) (endmost d b)) e

-- The node at the end of t on the side d is taken out of its place: the way up from the place that is emptied at last. That
-- node has no child on the side d; if it has the other one, it is replaced by the neighbour that stands there.
unfoldable pub vacate_end : Side → Tree → Way → Way
vacate_end d tip p = p
vacate_end d (fork a e r b) p =
    let near = pick d a b in
    let far = pick d b a in
    if_fork near (pick d (vacate_end d a) (vacate_end d b) (step d e r far ∷ p))
    (if_fork far (pick d (vacate_end d b) (vacate_end d a) (step (other d) (endmost d far) r tip ∷ p)) p)

-- The root of t is taken out of its place. With a left child it has a prev, the last node there. "by its next if it has
-- rank 2 and no left child, or no prev": by rule 2 a node with a right child alone has rank 2 (proofs/Replaced).
unfoldable pub vacate : Tree → Way → Way
vacate tip p = p
vacate (fork a e r b) p =
    if_fork a (vacate_end right a (step left (endmost right a) r b ∷ p))
    (if_fork b (vacate_end left b (step right (endmost left b) r tip ∷ p)) p)

-- the replacements in their order: the entries that move
unfoldable pub moved_end : Side → Tree → List Entry
moved_end d tip = []
moved_end d (fork a e r b) =
    let near = pick d a b in
    let far = pick d b a in
    if_fork near (pick d (moved_end d a) (moved_end d b)) (if_fork far (endmost d far ∷ pick d (moved_end d b) (moved_end d a)) [])

unfoldable pub moved : Tree → List Entry
moved tip = []
moved (fork a e r b) = if_fork a (endmost right a ∷ moved_end right a) (if_fork b (endmost left b ∷ moved_end left b) [])

unfoldable pub remove_at : Tree → Way → Tree
remove_at tip p = plug tip p
remove_at (fork a e r b) p = settle (vacate (fork a e r b) p)
