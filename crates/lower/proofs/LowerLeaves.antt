-- What the climb leaves alone, for proofs on sound stores and for the promises on any store: all but the tree.
-- `TreeOnly` and its laws for the steps of crate `tree` are shared with the climb after an insertion.
use Prim.Native.Nat.{ℕ, zero, suc, ◌+◌, ◌<◌, ◌≤◌}
use mathlib.Core.List.{List}
use native.Mathlib.Omega.{arith}
use lib.Dec.{ltb, leb, eqb}
use borrow.Author.Tests.{ltb-true, leb-false}
use Rattle.arena.specs.Words.{field, put, RANK, BACK}
use Rattle.arena.specs.inner.Budget.{budget}
use Rattle.arena.proofs.Paths.{either}
use Rattle.arena.proofs.Only.{only_none, only_trans, only-put}
use Rattle.tree.specs.inner.Links.{side_of_child}
use Rattle.tree.specs.inner.Climb.{Standing}
use Rattle.tree.specs.inner.Kept.{TreeOnly}
use Rattle.tree.proofs.Climb.{Turned, turned-done, turned_bad, on_only}
use Rattle.tree.proofs.Keeps.{side-small, back-only, relinked-only, node-only, spread-only}
use Rattle.lower.specs.inner.Rotations.{turn_once, turn_twice_with, turn_twice}
use Rattle.lower.specs.inner.Climb.{go_up_to, go_up, upward, lower_one, lowered_both, climb_past_with, climb_past, climb_at_with, climb_at, climb_turn_with, climb_turn, lower_from}
use Rattle.lower.specs.declared.turns.Turn.{Turn}
use Rattle.lower.specs.declared.climbing.Site.{Site}
use Rattle.tree.specs.declared.Climbed.TheVariants.{Done, Up}
use Rattle.std.specs.Prelude.{Ok}

-- the rotations
module _ (s : List ℕ) (cap d : ℕ) (t : Turn) (h1 : t.n1 < cap) (hs : t.s0 < cap) (hd : d ≤ 1) where
  pub once-only : TreeOnly s (turn_once s cap d t) cap
  unfolding turn_once
  once-only =
      only_trans (back-only _ _ _ _)
      (only_trans (node-only _ _ _ _ _ h1 hd)
      (only_trans (node-only _ _ _ _ _ hs hd) (relinked-only _ _ _ _ _)))

  pub twice_only : t.a < cap → TreeOnly s (turn_twice s cap d t) cap
  unfolding turn_twice turn_twice_with
  twice_only ha =
      only_trans (spread-only _ _ _ _ _ _ _ h1 hs hd)
      (only_trans (node-only _ _ _ _ _ ha hd) (relinked-only _ _ _ _ _))

pub up-stands : (s : List ℕ) (cap p1 : ℕ) → Standing cap (go_up s cap p1)
unfolding go_up go_up_to
up-stands s cap p1 =
    let p2 = field s cap p1 BACK in
    either (Standing cap) (ltb p2 cap) (Ok (Up p2 (side_of_child s cap p2 p1))) (Ok Done) (λ e. (ltb-true p2 cap e, side-small _ _ _ _)) (λ e. tt)

pub lower_only : (s : List ℕ) (cap p1 rank : ℕ) → p1 < cap → Turned s cap (lower_one s cap p1 rank)
unfolding lower_one upward
lower_only s cap p1 rank h1 = (only-put s p1 RANK rank h1 (omega arith) (omega arith), up-stands _ _ _)

pub both-only : (s : List ℕ) (cap p1 s0 rank0 : ℕ) → p1 < cap → s0 < cap → Turned s cap (lowered_both s cap p1 s0 rank0)
unfolding lowered_both
both-only s cap p1 s0 rank0 h1 hs =
    let t = put s cap s0 RANK (rank0 + 1) in
    let l = lower_only t cap p1 (rank0 + 2) h1 in
    (only_trans (only-put s s0 RANK (rank0 + 1) hs (omega arith) (omega arith)) l.0, l.1)

module _ (s : List ℕ) (cap d : ℕ) (hd : d ≤ 1) where
  past_with : (t : Turn) (rank0 rs rb : ℕ) → t.n1 < cap → t.s0 < cap → Turned s cap (climb_past_with s cap d t rank0 rs rb)
  unfolding climb_past_with
  past_with t rank0 rs rb h1 hs =
      either (Turned s cap) (leb budget t.ra) _ _ (λ e. turned_bad s cap)
      (λ e. either (Turned s cap) (leb budget rb) _ _ (λ f. turned_bad s cap)
      (λ f. either (Turned s cap) (eqb (rb + 1) rs) _ _ (λ g. turned-done s _ cap (once-only s cap d t h1 hs hd))
      (λ g. either (Turned s cap) (eqb (t.ra + 2) rs) _ _ (λ h. both-only s cap t.n1 t.s0 rank0 h1 hs)
      (λ h. either (Turned s cap) (leb cap t.a) _ _ (λ k. turned_bad s cap)
      (λ k. turned-done s _ cap (twice_only s cap d t h1 hs hd (leb-false cap t.a k)))))))

  module _ (p : Site) (h1 : p.n1 < cap) where
    at_with : (rs : ℕ) → p.s0 < cap → Turned s cap (climb_at_with s cap d p rs)
    unfolding climb_at_with climb_past
    at_with rs hs =
        either (Turned s cap) (leb budget rs) _ _ (λ e. turned_bad s cap)
        (λ e. either (Turned s cap) (eqb (rs + 2) p.rank1) _ _ (λ f. lower_only s cap p.n1 (rs + 1) h1)
        (λ f. past_with _ p.rank0 rs _ h1 hs))

    turn_with : Turned s cap (climb_turn_with s cap d p)
    unfolding climb_turn_with climb_at
    turn_with =
        either (Turned s cap) (leb budget p.rank0) _ _ (λ e. turned_bad s cap)
        (λ e. either (Turned s cap) (leb p.rank1 (p.rank0 + 2)) _ _ (λ f. turned-done s s cap only_none)
        (λ f. either (Turned s cap) (leb cap p.s0) _ _ (λ g. turned_bad s cap)
        (λ g. at_with _ (leb-false cap p.s0 g))))

pub turn-only : (s : List ℕ) (cap p1 d : ℕ) → p1 < cap → d ≤ 1 → Turned s cap (climb_turn s cap p1 d)
unfolding climb_turn
turn-only s cap p1 d h1 hd = turn_with s cap d hd _ h1

pub climb_only : (fuel : ℕ) (s : List ℕ) (cap p1 d : ℕ) → p1 < cap → d ≤ 1 → TreeOnly s (lower_from fuel s cap p1 d).0 cap
unfolding lower_from
climb_only zero s cap p1 d h1 hd = only_none
climb_only (suc fuel) s cap p1 d h1 hd =
    let x = climb_turn s cap p1 d in
    let f = turn-only s cap p1 d h1 hd in
    on_only s x.0 cap x.1 _ f.0 f.1 (λ p2 d2 h2 e2. climb_only fuel x.0 cap p2 d2 h2 e2)
