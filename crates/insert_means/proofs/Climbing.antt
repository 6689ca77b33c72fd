-- The climb after a new entry: on words that hold a tree the model does what crate `wavl` says, and its budget is never met.
-- A reader may rely on: rebalances: the words of the tree with the new leaf become those of insert_at, and the answer is true.
use Prim.Native.Nat.{ℕ, zero, suc, ◌+◌, ◌≤◌, ◌<◌}
use mathlib.Core.Path.{◌≡◌, refl, sym, subst, ◌∙◌}
use mathlib.Core.List.{List, [], ◌∷◌}
use native.Mathlib.Decide.{dec_lt, ℕ_discrete}
use native.Mathlib.Omega.{arith}
use lib.ListN.{length}
use Rattle.handle.specs.Numbers.{no_slot}
use Rattle.arena.specs.Words.{Long, put, RANK}
use Rattle.arena.specs.inner.Budget.{budget}
use Rattle.arena.proofs.WordLaws.{length_put}
use Rattle.tree.specs.inner.Links.{side_of_child}
use Rattle.raise.specs.inner.Ranks.{raised_up, fix_turn, raise_from}
use Rattle.raise.proofs.Fixes.{raise-up, raise-done}
use Rattle.wavl.specs.Entry.{Entry}
use Rattle.wavl.specs.Tree.{Side, Tree, node, rank}
use Rattle.wavl.specs.Way.{step, Way, plug}
use Rattle.wavl.specs.Placing.{insert_climb}
use Rattle.wavl.proofs.Order.{IsFork, plug-same, node-same}
use Rattle.wavl.proofs.Placed.{WayRanks}
use Rattle.wavl.proofs.Rounds.{insert_stop, insert-raise, insert-turn}
use Rattle.queue_of_store.specs.Ends.{top_slot, number}
use Rattle.queue_of_store.specs.inner.Ways.{parent}
use Rattle.queue_of_store.proofs.Trees.{opened}
use Rattle.queue_of_store.proofs.Ways.{top-node, unplugged, distinct_in}
use Rattle.arena.proofs.Only.{only_none}
use Rattle.queue_of_store.proofs.AnyDepth.{Regrown, Came, came, came_on}
use Rattle.insert_means.proofs.Restructured.{Stands, stands_on, ranked-at, restructured}
use Rattle.insert_means.proofs.RaiseTurns.{side-at, turn-stops, turn-raises, turn-turns}
use Rattle.tree.specs.declared.Climbed.TheVariants.{Done, Up}
use Rattle.std.specs.Prelude.{Ok, Result, ⊤}
use Rattle.handle.specs.declared.Refusal.{Refusal}

-- a climb ends, or goes on
module _ (fuel : ℕ) (s : List ℕ) (cap p0 p1 p2 d01 d12 : ℕ) (t : List ℕ) where
  climb_ends : (t, Ok Done) ≡ fix_turn s cap p0 p1 p2 d01 d12 → raise_from (suc fuel) s cap p0 p1 p2 d01 d12 ≡ (t, Ok tt)
  unfolding raise_from
  climb_ends e = rw (← e)

  climb_goes : (p3 d : ℕ) → (t, Ok (Up p3 d)) ≡ fix_turn s cap p0 p1 p2 d01 d12 → raise_from (suc fuel) s cap p0 p1 p2 d01 d12 ≡ raise_from fuel t cap p1 p2 p3 d12 d
  unfolding raise_from
  climb_goes p3 d e = rw (← e)

-- the ranks on the way rise
pub way-rises : (p : Way) (t : Tree) → WayRanks (rank t) p → rank t + length p ≤ rank (plug t p)
unfolding plug
way-rises [] t w = omega arith
way-rises (step d e r u ∷ p) t w = let i = way-rises p (node d t e r u) w.2 in omega arith

-- what one turn is about: n0 under n1 under n2, which hangs at the place p
module _ (cap : ℕ) (l : List ℕ) (few : cap ≤ no_slot) (fuel : ℕ) (s : List ℕ) (n0 : Tree) (d : Side) (e1 : Entry) (r1 : ℕ) (s0 : Tree)
    (e : Side) (e2 : Entry) (r2 : ℕ) (s1 : Tree) (p : Way) (f : IsFork n0) (room : Long s cap) (T : Stands s cap l (plug (node e (node d n0 e1 r1 s0) e2 r2 s1) p)) where
  abbrev goal : Tree
  goal = insert_climb n0 d e1 r1 s0 (step e e2 r2 s1 ∷ p)

  abbrev run : List ℕ × Result ⊤ Refusal
  run = raise_from (suc fuel) s cap (top_slot n0) e1.slot e2.slot (number d) (number e)

  abbrev n1 : Tree
  n1 = node d n0 e1 r1 s0

  abbrev up : List ℕ
  up = put s cap e2.slot RANK (r1 + 1)

  stopped : r1 < r2 → Came s cap l goal run
  stopped x =
      let q = climb_ends fuel s cap (top_slot n0) e1.slot e2.slot (number d) (number e) s (turn-stops s cap few d e n0 e1 r1 s0 e2 r2 s1 p T.words x) in
      rw (q, insert_stop n0 d e1 r1 s0 e e2 r2 s1 p x) (came (record { words = T.words; only = only_none }))

  turned : ¬ (r1 < r2) → ¬ (rank s1 + 1 ≡ r2) → r1 < budget → rank s1 < budget → Came s cap l goal run
  turned x y b c =
      let q = climb_ends fuel s cap (top_slot n0) e1.slot e2.slot (number d) (number e) _ (turn-turns s cap few d e n0 e1 r1 s0 e2 r2 s1 p T.words (omega arith) b c y) in
      rw (q, insert-turn n0 d e1 r1 s0 e e2 r2 s1 p x y) (came (restructured s cap l few room d e n0 e1 r1 s0 e2 r2 s1 p f T))

  -- n2 has its new rank, and is what the next turn starts from
  pub lifts : Regrown s up cap l (plug (node e n1 e2 (r1 + 1) s1) p)
  lifts = ranked-at s cap l few room p e n1 e2 r2 s1 (r1 + 1) T

  pub lifted : Stands up cap l (plug (node e n1 e2 (r1 + 1) s1) p)
  lifted = stands_on (plug-same p (node e n1 e2 (r1 + 1) s1) (node e n1 e2 r2 s1) (node-same e e2 (r1 + 1) r2 n1 n1 s1 s1 refl refl)) T lifts

  module _ (x : ¬ (r1 < r2)) (y : rank s1 + 1 ≡ r2) (b : r1 < budget) (q : r1 + 1 ≡ suc r2) where
    raise : raised_up s cap e2.slot (parent p) r1 ≡ fix_turn s cap (top_slot n0) e1.slot e2.slot (number d) (number e)
    raise = turn-raises s cap few d e n0 e1 r1 s0 e2 r2 s1 p T.words (omega arith) b (omega arith) y

    -- no n3: the climb ends
    raised-top : cap ≤ parent p → plug (node e n1 e2 (r1 + 1) s1) p ≡ insert_climb n1 e e2 (r1 + 1) s1 p → Came s cap l goal run
    raised-top none same =
        let z = climb_ends fuel s cap (top_slot n0) e1.slot e2.slot (number d) (number e) up (raise-done s cap e2.slot (parent p) r1 up refl none ∙ raise) in
        rw (z, insert-raise n0 d e1 r1 s0 e e2 r2 s1 p x y, ← q, ← same) (came lifts)

    raised_on : parent p < cap → (d3 : ℕ) → d3 ≡ side_of_child up cap (parent p) e2.slot
        → Came up cap l (insert_climb n1 e e2 (r1 + 1) s1 p) (raise_from fuel up cap e1.slot e2.slot (parent p) (number e) d3) → Came s cap l goal run
    raised_on low d3 side c =
        let z = climb_goes fuel s cap (top_slot n0) e1.slot e2.slot (number d) (number e) up (parent p) d3 (raise-up s cap e2.slot (parent p) r1 up refl low d3 side ∙ raise) in
        rw (z, insert-raise n0 d e1 r1 s0 e e2 r2 s1 p x y, ← q)
        (came_on lifts c)

module _ (cap : ℕ) (l : List ℕ) (few : cap ≤ no_slot) where
  pub climbs : (fuel : ℕ) (s : List ℕ) (n0 : Tree) (d : Side) (e1 : Entry) (r1 : ℕ) (s0 : Tree) (e : Side) (e2 : Entry) (r2 : ℕ) (s1 : Tree) (p : Way)
      → IsFork n0 → Long s cap → Stands s cap l (plug (node e (node d n0 e1 r1 s0) e2 r2 s1) p) → r1 ≡ suc (rank n0) → WayRanks (rank n0) (step e e2 r2 s1 ∷ p)
      → suc (rank n0 + length p) < budget → length p < fuel
      → Came s cap l (insert_climb n0 d e1 r1 s0 (step e e2 r2 s1 ∷ p)) (raise_from fuel s cap (top_slot n0) e1.slot e2.slot (number d) (number e))
  unfolding plug insert_climb
  climbs zero s n0 d e1 r1 s0 e e2 r2 s1 p f room T u w b h = absurd (omega arith)
  climbs (suc fuel) s n0 d e1 r1 s0 e e2 r2 s1 [] f room T u w b h = go (dec_lt r1 r2) (ℕ_discrete (rank s1 + 1) r2)
    where
      go : Dec (r1 < r2) → Dec (rank s1 + 1 ≡ r2)
          → Came s cap l (insert_climb n0 d e1 r1 s0 (step e e2 r2 s1 ∷ [])) (raise_from (suc fuel) s cap (top_slot n0) e1.slot e2.slot (number d) (number e))
      go (yes x) y = stopped cap l few fuel s n0 d e1 r1 s0 e e2 r2 s1 [] f room T x
      go (no x) (no y) = turned cap l few fuel s n0 d e1 r1 s0 e e2 r2 s1 [] f room T x y (omega arith) (omega arith)
      go (no x) (yes y) = raised-top cap l few fuel s n0 d e1 r1 s0 e e2 r2 s1 [] f room T x y (omega arith) (omega arith) few refl
  climbs (suc fuel) s n0 d e1 r1 s0 e e2 r2 s1 (step c e3 r3 s2 ∷ p) f room T u w b h =
      go (dec_lt r1 r2) (ℕ_discrete (rank s1 + 1) r2) (climbs fuel (put s cap e2.slot RANK (r1 + 1)) (node d n0 e1 r1 s0) e e2 (r1 + 1) s1 c e3 r3 s2 p tt)
    where
      t : List ℕ
      t = put s cap e2.slot RANK (r1 + 1)

      go : Dec (r1 < r2) → Dec (rank s1 + 1 ≡ r2)
          → (Long t cap → Stands t cap l (plug (node c (node e (node d n0 e1 r1 s0) e2 (r1 + 1) s1) e3 r3 s2) p) → r1 + 1 ≡ suc r1 → WayRanks r1 (step c e3 r3 s2 ∷ p)
          → suc (r1 + length p) < budget → length p < fuel
          → Came t cap l (insert_climb (node d n0 e1 r1 s0) e e2 (r1 + 1) s1 (step c e3 r3 s2 ∷ p)) (raise_from fuel t cap (top_slot (node d n0 e1 r1 s0)) e2.slot e3.slot (number e) (number c)))
          → Came s cap l (insert_climb n0 d e1 r1 s0 (step e e2 r2 s1 ∷ (step c e3 r3 s2 ∷ p))) (raise_from (suc fuel) s cap (top_slot n0) e1.slot e2.slot (number d) (number e))
      go (yes x) y rest = stopped cap l few fuel s n0 d e1 r1 s0 e e2 r2 s1 (step c e3 r3 s2 ∷ p) f room T x
      go (no x) (no y) rest = turned cap l few fuel s n0 d e1 r1 s0 e e2 r2 s1 (step c e3 r3 s2 ∷ p) f room T x y (omega arith) (omega arith)
      go (no x) (yes y) rest =
          let n1 = node d n0 e1 r1 s0 in
          let n2 = node e n1 e2 (r1 + 1) s1 in
          let T' = lifted cap l few fuel s n0 d e1 r1 s0 e e2 r2 s1 (step c e3 r3 s2 ∷ p) f room T in
          let P = unplugged t cap p (node c n2 e3 r3 s2) T'.words in
          let low : e3.slot < cap = (opened t cap c (parent p) n2 e3 r3 s2 P.below).0.low in
          let q : r2 ≡ r1 = omega arith in
          let side = side-at t cap (parent p) c n2 e3 r3 s2 few (distinct_in p (node c n2 e3 r3 s2) T'.apart) tt P.below in
          raised_on cap l few fuel s n0 d e1 r1 s0 e e2 r2 s1 (step c e3 r3 s2 ∷ p) f room T x y (omega arith) (omega arith) low (number c)
          (sym (rw (top-node e n1 e2 (r1 + 1) s1) at side))
          (rest (rw (length_put s cap e2.slot RANK (r1 + 1)) room) T' (omega arith) (subst (λ (r : ℕ). WayRanks r (step c e3 r3 s2 ∷ p)) q w.2) (omega arith) (omega arith))
