-- The ranks after a new entry, from the tree with the new leaf: the model gives crate `wavl`'s insert_at, with no budget met.
-- A reader may rely on: rebalances. The tree before the new leaf is ranked, and no larger than a capacity may be.
use Prim.Native.Nat.{ℕ, suc, ◌≤◌, ◌<◌}
use mathlib.Core.Path.{◌≡◌, refl, sym}
use mathlib.Core.List.{List, [], ◌∷◌}
use native.Mathlib.Decide.{ℕ_discrete}
use native.Mathlib.Omega.{arith}
use lib.ListN.{length}
use Rattle.handle.specs.Numbers.{no_slot}
use Rattle.arena.specs.Words.{Long, field, put, RANK}
use Rattle.arena.specs.inner.Budget.{budget}
use Rattle.arena.proofs.WordLaws.{length_put}
use Rattle.raise.specs.inner.Ranks.{climbed_above, rebalanced}
use Rattle.raise.proofs.Fixes.{top_reached, rank-fits, rank-raised, climbs as climb-starts}
use Rattle.wavl.specs.Entry.{Entry}
use Rattle.wavl.specs.Tree.{Side, Tree, tip, node, leaf, size}
use Rattle.wavl.specs.Way.{step, Way, plug}
use Rattle.wavl.specs.Ranks.{Ranks}
use Rattle.wavl.specs.Placing.{insert_climb, insert_at}
use Rattle.wavl.proofs.Order.{plug-same, node-same}
use Rattle.wavl.proofs.Placed.{WayRanks, unplug_ranks}
use Rattle.wavl.proofs.Rounds.{insert-first_stop, insert-first-up, insert-root}
use Rattle.queue_of_store.specs.Ends.{number}
use Rattle.queue_of_store.specs.inner.Ways.{parent}
use Rattle.queue_of_store.proofs.Trees.{opened}
use Rattle.queue_of_store.proofs.Ways.{top-node, unplugged, distinct_in}
use Rattle.queue_of_store.proofs.Parts.{under_budget}
use Rattle.arena.proofs.Only.{only_none}
use Rattle.queue_of_store.proofs.AnyDepth.{Came, came, came_on}
use Rattle.insert_means.proofs.Restructured.{Stands, stands_on, ranked-at}
use Rattle.insert_means.proofs.RaiseTurns.{side-at}
use Rattle.insert_means.proofs.Climbing.{way-rises, climbs}

module _ (cap : ℕ) (l : List ℕ) (few : cap ≤ no_slot) where
  -- n1 has the rank 2 now: the climb above it
  climb_above : (s : List ℕ) (e : Entry) (d : Side) (e1 : Entry) (s0 : Tree) (p : Way) → Long s cap → Stands s cap l (plug (node d (leaf e) e1 2 s0) p)
      → WayRanks 1 p → suc (length p) < budget → Came s cap l (insert_climb (leaf e) d e1 2 s0 p) (climbed_above s cap e.slot e1.slot)
  unfolding plug
  climb_above s e d e1 s0 [] room T w b =
      let x = opened s cap d no_slot (leaf e) e1 2 s0 T.words.links in
      rw (← top_reached s cap e.slot e1.slot no_slot (sym x.0.back_is) few, insert-root (leaf e) d e1 2 s0)
      (came (record { words = T.words; only = only_none }))
  climb_above s e d e1 s0 (step c e2 r2 s1 ∷ p) room T w b =
      let n1 = node d (leaf e) e1 2 s0 in
      let n2 = node c n1 e2 r2 s1 in
      let P = unplugged s cap p n2 T.words in
      let x = opened s cap c (parent p) n1 e2 r2 s1 P.below in
      let y = opened s cap d e2.slot (leaf e) e1 2 s0 x.1 in
      let D = distinct_in p n2 T.apart in
      let D₁ = distinct_in (step c e2 r2 s1 ∷ p) n1 T.apart in
      let near = side-at s cap e2.slot d (leaf e) e1 2 s0 few D₁ tt x.1 in
      let far = rw (top-node d (leaf e) e1 2 s0) at (side-at s cap (parent p) c n1 e2 r2 s1 few D tt P.below) in
      rw (← climb-starts s cap e.slot e1.slot e2.slot (sym y.0.back_is) x.0.low (number d) (number c) (sym near) (sym far) _ refl)
      (climbs cap l few budget s (leaf e) d e1 2 s0 c e2 r2 s1 p tt room T refl w (omega arith) (omega arith))

  pub rebalances : (s : List ℕ) (e : Entry) (d : Side) (e1 : Entry) (r1 : ℕ) (s0 : Tree) (p : Way) → Long s cap → Stands s cap l (plug (node d (leaf e) e1 r1 s0) p)
      → Ranks (plug tip (step d e1 r1 s0 ∷ p)) → size (plug tip (step d e1 r1 s0 ∷ p)) ≤ no_slot
      → Came s cap l (insert_at e (step d e1 r1 s0 ∷ p)) (rebalanced s cap e.slot e1.slot)
  rebalances s e d e1 r1 s0 p room T k z =
      let P = unplugged s cap p (node d (leaf e) e1 r1 s0) T.words in
      by (ℕ_discrete r1 2) (sym (opened s cap d (parent p) (leaf e) e1 r1 s0 P.below).0.rank_is)
    where
      by : Dec (r1 ≡ 2) → r1 ≡ field s cap e1.slot RANK → Came s cap l (insert_at e (step d e1 r1 s0 ∷ p)) (rebalanced s cap e.slot e1.slot)
      by (yes x) r =
          rw (← rank-fits s cap e.slot e1.slot r1 r x, insert-first_stop e d e1 r1 s0 p x)
          (came (record { words = T.words; only = only_none }))
      by (no x) r =
          let t = put s cap e1.slot RANK 2 in
          let w = (unplug_ranks (step d e1 r1 s0 ∷ p) tip k).1 in
          let q : r1 ≡ 1 = omega arith in
          let w₁ : WayRanks 1 p = rw q at w.2 in
          let up = under_budget (plug tip (step d e1 r1 s0 ∷ p)) k z in
          let rise = way-rises (step d e1 r1 s0 ∷ p) tip w in
          let g = ranked-at s cap l few room p d (leaf e) e1 r1 s0 2 T in
          let T' = stands_on (plug-same p (node d (leaf e) e1 2 s0) (node d (leaf e) e1 r1 s0) (node-same d e1 2 r1 (leaf e) (leaf e) s0 s0 refl refl)) T g in
          let c = climb_above t e d e1 s0 p (rw (length_put s cap e1.slot RANK 2) room) T' w₁ (omega arith) in
          rw (← rank-raised s cap e.slot e1.slot r1 r x t refl _ refl, insert-first-up e d e1 r1 s0 p x)
          (came_on g c)
