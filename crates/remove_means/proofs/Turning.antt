-- One turn of the climb on words that hold a tree: what it reads there, and so which branch of the model it takes.
-- A reader may rely on: the premises are document 01's tests on the ranks of n0, n1, s0, a and b, in its order.
use Prim.Native.Nat.{ℕ, ◌+◌, ◌≤◌, ◌<◌}
use mathlib.Core.Path.{◌≡◌, ◌∙◌}
use mathlib.Core.List.{List, ◌∷◌}
use native.Mathlib.Omega.{arith}
use borrow.Author.Tests.{eq-eqb, ne_eqb, le-leb, lt-leb}
use Rattle.handle.specs.Numbers.{no_slot}
use Rattle.arena.specs.inner.Budget.{budget}
use Rattle.wavl.specs.Entry.{Entry}
use Rattle.wavl.specs.Tree.{Side, other, Tree, node, rank, entry, child}
use Rattle.wavl.specs.Way.{step, Way}
use Rattle.lower.specs.inner.Rotations.{turn_once, turn_twice}
use Rattle.lower.specs.inner.Climb.{lower_one, lowered_both, climb_past_with, turn_at, climb_past, climb_at_with, climb_at, climb_turn_with, climb_turn}
use Rattle.lower.specs.declared.turns.Turn.{Turn}
use Rattle.lower.specs.declared.climbing.Site.{Site}
use Rattle.queue_of_store.specs.Ends.{top_slot, number}
use Rattle.queue_of_store.specs.Links.{Node, Links}
use Rattle.queue_of_store.specs.inner.Ways.{parent}
use Rattle.queue_of_store.proofs.Trees.{opened}
use Rattle.queue_of_store.proofs.Ways.{Parted}
use Rattle.remove_means.proofs.Lowered.{as_node, top-entry, rank_of_lem}
use Rattle.tree.specs.declared.Climbed.{Climbed}
use Rattle.tree.specs.declared.Climbed.TheVariants.{Done}
use Rattle.std.specs.Prelude.{Result, Ok}
use Rattle.handle.specs.declared.Refusal.{Refusal}

module _ (s : List ℕ) (cap : ℕ) (few : cap ≤ no_slot) (d : Side) (n0 : Tree) (e1 : Entry) (r1 : ℕ) (s0 : Tree) (q : Way)
    (w : Parted s cap n0 (step d e1 r1 s0 ∷ q)) (low0 : rank n0 < budget) where
  abbrev i1 : ℕ
  i1 = e1.slot

  abbrev turn : List ℕ × Result Climbed Refusal
  turn = climb_turn s cap i1 (number d)

  -- the site of the turn, by the slot i of n1's other child
  abbrev site_at : ℕ → Site
  site_at i = record { n0 = top_slot n0; n1 = i1; s0 = i; rank0 = rank n0; rank1 = r1 }

  turn-reads : turn ≡ climb_turn_with s cap (number d) (site_at (top_slot s0))
  unfolding climb_turn
  turn-reads = rw (w.hook, w.way.0.far-is, w.way.0.rank_is, rank_of_lem s cap n0 i1 few w.below)

  pub turn-ends : r1 ≤ rank n0 + 2 → turn ≡ (s, Ok Done)
  unfolding climb_turn_with
  turn-ends h = turn-reads ∙ rw (lt-leb budget (rank n0) low0, le-leb r1 (rank n0 + 2) h)

  -- n1 is three above n0: its other child is there
  module _ (h : ¬ (r1 ≤ rank n0 + 2)) (there : 1 ≤ rank s0) (lows : rank s0 < budget) where
    abbrev a : Tree
    a = child d s0

    abbrev b : Tree
    b = child (other d) s0

    abbrev i0 : ℕ
    i0 = (entry s0).slot

    sibling : Links s cap i1 (node d a (entry s0) (rank s0) b)
    sibling = rw (as_node d s0 there) at w.way.1

    O : Node s cap (number d) i1 (top_slot a) i0 (rank s0) (top_slot b) × Links s cap i0 a × Links s cap i0 b
    O = opened s cap d i1 a (entry s0) (rank s0) b sibling

    turn_at_lem : turn ≡ climb_at_with s cap (number d) (site_at i0) (rank s0)
    unfolding climb_turn_with climb_at
    turn_at_lem =
        let h' : rank n0 + 2 < r1 = omega arith in
        turn-reads ∙ rw (top-entry s0 there, lt-leb budget (rank n0) low0, lt-leb r1 (rank n0 + 2) h', lt-leb cap i0 O.0.low, O.0.rank_is)

    pub turn-lowers : rank s0 + 2 ≡ r1 → turn ≡ lower_one s cap i1 (rank s0 + 1)
    unfolding climb_at_with
    turn-lowers g = turn_at_lem ∙ rw (lt-leb budget (rank s0) lows, eq-eqb (rank s0 + 2) r1 g)

    module _ (g : ¬ (rank s0 + 2 ≡ r1)) (lowa : rank a < budget) (lowb : rank b < budget) where
      -- the rotation that may come
      abbrev rotation : Turn
      rotation = turn_at (site_at i0) (top_slot a) (top_slot b) (rank a) (parent q)

      turn-past : turn ≡ climb_past_with s cap (number d) rotation (rank n0) (rank s0) (rank b)
      unfolding climb_at_with climb_past
      turn-past =
          turn_at_lem ∙ rw (
            lt-leb budget (rank s0) lows,
            ne_eqb (rank s0 + 2) r1 g,
            O.0.near-is,
            O.0.far-is,
            w.way.0.back_is,
            rank_of_lem s cap a i0 few O.1,
            rank_of_lem s cap b i0 few O.2,
          )

      pub turn-rotates : rank b + 1 ≡ rank s0 → turn ≡ (turn_once s cap (number d) rotation, Ok Done)
      unfolding climb_past_with
      turn-rotates k = turn-past ∙ rw (lt-leb budget (rank a) lowa, lt-leb budget (rank b) lowb, eq-eqb (rank b + 1) (rank s0) k)

      pub turn-lowers-both : ¬ (rank b + 1 ≡ rank s0) → rank a + 2 ≡ rank s0 → turn ≡ lowered_both s cap i1 i0 (rank n0)
      unfolding climb_past_with
      turn-lowers-both k m = turn-past ∙ rw (lt-leb budget (rank a) lowa, lt-leb budget (rank b) lowb, ne_eqb (rank b + 1) (rank s0) k, eq-eqb (rank a + 2) (rank s0) m)

      pub turn-rotates_twice : ¬ (rank b + 1 ≡ rank s0) → ¬ (rank a + 2 ≡ rank s0) → top_slot a < cap
          → turn ≡ (turn_twice s cap (number d) rotation, Ok Done)
      unfolding climb_past_with
      turn-rotates_twice k m l =
          turn-past
          ∙ rw (lt-leb budget (rank a) lowa, lt-leb budget (rank b) lowb, ne_eqb (rank b + 1) (rank s0) k, ne_eqb (rank a + 2) (rank s0) m, lt-leb cap (top_slot a) l)
