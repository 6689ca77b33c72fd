-- One turn of the climb on words that hold a tree: what it reads, and its answer by the facts that decide crate `wavl`'s round.
-- A reader may rely on: turn-stops, turn-raises and turn-turns, in the order of document 01's tests.
use Prim.Native.Nat.{ℕ, ◌+◌, ◌≤◌, ◌<◌}
use mathlib.Core.Path.{◌≡◌, refl, sym}
use mathlib.Core.List.{List}
use native.Mathlib.Omega.{arith}
use borrow.Author.Tests.{lt-ltb, le-ltb, lt-leb, eq-eqb, ne_eqb}
use Rattle.handle.specs.Numbers.{no_slot}
use Rattle.arena.specs.inner.Budget.{budget}
use Rattle.tree.specs.inner.Links.{rank_of, side_of_child}
use Rattle.raise.specs.inner.Ranks.{raised_up, fix_with, fix_turn}
use Rattle.raise.proofs.Fixes.{fix_reads, fix_same, fix_across}
use Rattle.wavl.specs.Entry.{Entry}
use Rattle.wavl.specs.Tree.{Side, left, right, Tree, tip, fork, node, rank}
use Rattle.wavl.specs.Way.{Way, plug}
use Rattle.wavl.proofs.Order.{IsFork}
use Rattle.queue_of_store.specs.Ends.{top_slot, number}
use Rattle.queue_of_store.specs.Links.{Links, TreeWords}
use Rattle.queue_of_store.specs.inner.Ways.{parent}
use Rattle.queue_of_store.proofs.Has.{Has, Distinct, apart, has_top, not_top}
use Rattle.queue_of_store.proofs.Trees.{opened, slot-low}
use Rattle.queue_of_store.proofs.Ways.{unplugged}
use Rattle.insert_means.proofs.Restructured.{turn_of, turned_by}
use Rattle.tree.specs.declared.Climbed.{Climbed}
use Rattle.tree.specs.declared.Climbed.TheVariants.{Done}
use Rattle.std.specs.Prelude.{Result, Ok}
use Rattle.handle.specs.declared.Refusal.{Refusal}

-- "A missing child counts as rank 0."
pub rank_of_lem : (s : List ℕ) (cap back : ℕ) (x : Tree) → cap ≤ no_slot → Links s cap back x → rank_of s cap (top_slot x) ≡ rank x
unfolding rank_of
rank_of_lem s cap back tip few l = refl
rank_of_lem s cap back (fork a e r b) few l =
    let low : e.slot < cap = l.0.low in
    rw (ne_eqb e.slot no_slot (λ z. omega arith), lt-leb cap e.slot low, l.0.rank_is)

pub top_in : (x : Tree) → IsFork x → Has (top_slot x) x
top_in tip f = absurd f
top_in (fork a e r b) f = has_top a e r b left e.slot refl

-- the side of a child
pub side-at : (s : List ℕ) (cap back : ℕ) (d : Side) (a : Tree) (x : Entry) (r : ℕ) (b : Tree) → cap ≤ no_slot → Distinct (node d a x r b) → IsFork a
    → Links s cap back (node d a x r b) → side_of_child s cap x.slot (top_slot a) ≡ number d
unfolding side_of_child
side-at s cap back left a x r b few D f l =
    let h = top_in a f in
    let n = not_top cap (top_slot a) b few (slot-low s cap a x.slot l.1 (top_slot a) h) ((apart a x r b left D).both (top_slot a) h) in
    rw (l.0.far-is, ne_eqb (top_slot b) (top_slot a) (λ z. n (sym z)))
side-at s cap back right a x r b few D f l = rw (l.0.far-is, eq-eqb (top_slot a) (top_slot a) refl)

module _ (s : List ℕ) (cap : ℕ) (few : cap ≤ no_slot) (d e : Side) (n0 : Tree) (e1 : Entry) (r1 : ℕ) (s0 : Tree) (e2 : Entry) (r2 : ℕ) (s1 : Tree) (p : Way)
    (T : TreeWords s cap (plug (node e (node d n0 e1 r1 s0) e2 r2 s1) p)) where
  abbrev turn : List ℕ × Result Climbed Refusal
  turn = fix_turn s cap (top_slot n0) e1.slot e2.slot (number d) (number e)

  reads : (x : List ℕ × Result Climbed Refusal) → x ≡ fix_with s cap (number d) (number e) (turn_of (top_slot n0) e1 e2 s1 p) r1 r2 (rank s1) → x ≡ turn
  reads x q =
      let n1 = node d n0 e1 r1 s0 in
      let P = unplugged s cap p (node e n1 e2 r2 s1) T in
      let a = opened s cap e (parent p) n1 e2 r2 s1 P.below in
      let b = opened s cap d e2.slot n0 e1 r1 s0 a.1 in
      fix_reads s cap (top_slot n0) e1.slot e2.slot (number d) (number e) x r1 r2 (parent p) (top_slot s1) (rank s1)
      (sym b.0.rank_is) (sym a.0.rank_is) (sym a.0.back_is) (sym a.0.far-is) (sym (rank_of_lem s cap e2.slot s1 few a.2)) q

  pub turn-stops : r1 < r2 → (s, Ok Done) ≡ turn
  unfolding fix_with
  turn-stops h = reads (s, Ok Done) (rw (lt-ltb r1 r2 h))

  pub turn-raises : r2 ≤ r1 → r1 < budget → rank s1 < budget → rank s1 + 1 ≡ r2 → raised_up s cap e2.slot (parent p) r1 ≡ turn
  unfolding fix_with
  turn-raises over low low₁ h =
      reads (raised_up s cap e2.slot (parent p) r1) (rw (le-ltb r1 r2 over, lt-leb budget r1 low, lt-leb budget (rank s1) low₁, eq-eqb (rank s1 + 1) r2 h))

  pub turn-turns : r2 ≤ r1 → r1 < budget → rank s1 < budget → ¬ (rank s1 + 1 ≡ r2)
      → (turned_by d e s cap (turn_of (top_slot n0) e1 e2 s1 p), Ok Done) ≡ turn
  turn-turns over low low₁ h = reads (turned_by d e s cap (turn_of (top_slot n0) e1 e2 s1 p), Ok Done) (by d e)
    where
      by : (d e : Side) → ◌≡◌ {A = List ℕ × Result Climbed Refusal} (turned_by d e s cap (turn_of (top_slot n0) e1 e2 s1 p), Ok Done)
          (fix_with s cap (number d) (number e) (turn_of (top_slot n0) e1 e2 s1 p) r1 r2 (rank s1))
      by left left = fix_same s cap 0 0 _ r1 r2 (rank s1) over low low₁ h _ refl refl
      by right right = fix_same s cap 1 1 _ r1 r2 (rank s1) over low low₁ h _ refl refl
      by right left = fix_across s cap 1 0 _ r1 r2 (rank s1) over low low₁ h _ (λ z. omega arith) refl
      by left right = fix_across s cap 0 1 _ r1 r2 (rank s1) over low low₁ h _ (λ z. omega arith) refl
