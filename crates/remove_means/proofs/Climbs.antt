-- The climb after a removal on words that hold a tree: it answers yes, and the words hold the tree that crate `wavl` says.
-- A reader may rely on: climbs, for every way and as many turns as it has steps; the ranks below the budget are all that the size must give.
use Prim.Native.Nat.{ℕ, zero, suc, ◌+◌, ◌-◌, ◌≤◌, ◌<◌}
use mathlib.Core.Path.{◌≡◌, refl, sym, ap, ◌∙◌, subst}
use mathlib.Core.List.{List, [], ◌∷◌}
use native.Mathlib.Decide.{dec_le, ℕ_discrete}
use native.Mathlib.Omega.{arith}
use lib.ListN.{length}
use Rattle.handle.specs.Numbers.{no_slot}
use Rattle.arena.specs.Words.{Long, put, RANK}
use Rattle.arena.specs.inner.Budget.{budget}
use Rattle.arena.proofs.WordLaws.{length_put}
use Rattle.arena.proofs.Only.{only_none, only_trans}
use Rattle.wavl.specs.Lists.{In}
use Rattle.wavl.specs.Entry.{Entry, slots}
use Rattle.wavl.specs.Tree.{Side, left, right, other, Tree, tip, fork, node, rank, entry, child, inorder}
use Rattle.wavl.specs.Way.{step, Way, plug}
use Rattle.wavl.specs.Taking.{remove_climb, rotate, rotate_twice}
use Rattle.wavl.specs.Taking as Taking
use Rattle.wavl.proofs.Order.{Same, node-same, plug-same}
use Rattle.wavl.proofs.Placed.{make, Parts, parts, WayRanks}
use Rattle.wavl.proofs.Rounds.{remove-root, remove_stop, remove-lower, remove-rotate, remove-lower-both, remove-rotate_twice}
use Rattle.tree.specs.inner.Links.{spread_with}
use Rattle.lower.specs.inner.Rotations.{turn_once, turn_twice_with, turn_twice}
use Rattle.tree.specs.inner.Climb.{on_climbed}
use Rattle.lower.specs.inner.Climb.{go_up, upward, lower_one, lowered_both, climb_turn, lower_from}
use Rattle.queue_of_store.specs.Ends.{top_slot, number}
use Rattle.queue_of_store.specs.Links.{Node, Links, TreeWords}
use Rattle.queue_of_store.proofs.AnyDepth.{Regrown, Came}
use Rattle.queue_of_store.proofs.Has.{Has, Distinct}
use Rattle.queue_of_store.proofs.Trees.{opened}
use Rattle.queue_of_store.proofs.Ways.{Parted, unplugged}
use Rattle.remove_means.proofs.Kept.{LinksOnly}
use Rattle.remove_means.proofs.RotationWords.{once-turned, twice_turned}
use Rattle.remove_means.proofs.Lowered.{as_node, top-entry, node-other, lowered, up_to, goes_up}
use Rattle.remove_means.proofs.Climbing.{peak, peak-above, Climbing, climb_up}
use Rattle.remove_means.proofs.Turning.{turn-ends, turn-lowers, turn-rotates, turn-lowers-both, turn-rotates_twice}
use Rattle.tree.specs.declared.Climbed.TheVariants.{Done}
use Rattle.std.specs.Prelude.{Ok}

pub onward-is : (q : Way) (fuel : ℕ) (t : List ℕ) (cap : ℕ) → on_climbed (up_to q) (λ p2 d2. lower_from fuel t cap p2 d2) t ≡ climb_up q fuel t cap
onward-is [] fuel t cap = refl
onward-is (step d e r u ∷ q) fuel t cap = refl

both-same : (d : Side) (n0 : Tree) (e1 : Entry) (r1 q1 : ℕ) (s0 : Tree) → 1 ≤ rank s0 → Same (Taking.lower_both d n0 e1 r1 s0) (node d n0 e1 q1 s0)
unfolding inorder
both-same d n0 e1 r1 q1 tip h = absurd (omega arith)
both-same left n0 e1 r1 q1 (fork a e r b) h = refl
both-same right n0 e1 r1 q1 (fork a e r b) h = refl

-- one turn at n1, with the rest of the climb given
module _ (s : List ℕ) (cap : ℕ) (few : cap ≤ no_slot) (l : List ℕ) (d : Side) (n0 : Tree) (e1 : Entry) (r1 : ℕ) (s0 : Tree) (q : Way) (fuel : ℕ)
    (c : Climbing s cap l n0 (step d e1 r1 s0 ∷ q))
    (rest : (t : List ℕ) (x : Tree) → Climbing t cap l x q → Came t cap l (remove_climb x q) (climb_up q fuel t cap)) where
  abbrev i1 : ℕ
  i1 = e1.slot

  abbrev n1 : Tree
  n1 = node d n0 e1 r1 s0

  abbrev Out : Type 0
  Out = Came s cap l (remove_climb n0 (step d e1 r1 s0 ∷ q)) (lower_from (suc fuel) s cap i1 (number d))

  w : Parted s cap n0 (step d e1 r1 s0 ∷ q)
  w = unplugged s cap (step d e1 r1 s0 ∷ q) n0 c.words

  W : TreeWords s cap (plug n1 q)
  unfolding plug
  W = c.words

  are : slots (inorder (plug n1 q)) ≡ l
  unfolding plug
  are = c.slots-are

  D : Distinct (plug n1 q)
  D = rw are c.once

  member : (j : ℕ) → Has j (plug n1 q) → In j l
  member j h = rw are at h

  top : r1 < budget
  top = let h = peak-above r1 q c.way.2 in let i = c.low in omega arith

  ended : (t : List ℕ) (x : Tree) → climb_turn s cap i1 (number d) ≡ (t, Ok Done) → TreeWords t cap x → LinksOnly s t cap l
      → remove_climb n0 (step d e1 r1 s0 ∷ q) ≡ x → Out
  unfolding lower_from
  ended t x e v o r = rw (e, r) (record { yes = refl; words = v; only = o })

  goes_on : (t : List ℕ) (x : Tree) → climb_turn s cap i1 (number d) ≡ upward t cap i1 → go_up t cap i1 ≡ up_to q → Climbing t cap l x q → LinksOnly s t cap l
      → remove_climb n0 (step d e1 r1 s0 ∷ q) ≡ remove_climb x q → Out
  unfolding lower_from upward
  goes_on t x e g k o r =
      let i = rest t x k in
      rw (e, r, g, onward-is q fuel t cap) (record { yes = i.yes; words = i.words; only = only_trans o i.only })

  -- n1's way, once n1 is lower by one
  lower-way : 1 ≤ r1 → WayRanks (suc (r1 - 1)) q × (peak (suc (r1 - 1)) q < budget)
  lower-way h = let e : r1 ≡ suc (r1 - 1) = omega arith in (subst (λ (i : ℕ). WayRanks i q) e c.way.2, subst (λ (i : ℕ). peak i q < budget) e c.low)

  pub stops : r1 ≤ rank n0 + 2 → Out
  stops h =
      ended s (plug n1 q) (turn-ends s cap few d n0 e1 r1 s0 q w (omega (arith, top)) h) W only_none (remove_stop n0 d e1 r1 s0 q h)

  -- n1 is three above n0
  module _ (h : ¬ (r1 ≤ rank n0 + 2)) where
    there : 1 ≤ rank s0
    there = let f = c.way.1 in omega arith

    low0 : rank n0 < budget
    low0 = omega (arith, top)

    lows : rank s0 < budget
    lows = let f = c.way.1 in omega (arith, top)

    pub lowers : rank s0 + 2 ≡ r1 → Out
    unfolding lower_one
    lowers g =
        let t = put s cap i1 RANK (r1 - 1) in
        let x = node d n0 e1 (r1 - 1) s0 in
        let k = lower-way (omega arith) in
        let f = c.way.1 in
        let e : rank s0 + 1 ≡ r1 - 1 = omega arith in
        let v = lowered s cap few c.room l d n0 e1 r1 s0 q (r1 - 1) D member W in
        let m : slots (inorder (plug x q)) ≡ l = ap slots (plug-same q x n1 (node-same d e1 (r1 - 1) r1 n0 n0 s0 s0 refl refl)) ∙ are in
        goes_on t x (turn-lowers s cap few d n0 e1 r1 s0 q w low0 h there lows g ∙ rw e)
        (goes_up t cap few d n0 e1 (r1 - 1) s0 q (rw m c.once) v.words)
        (record {
          words = v.words;
          slots-are = m;
          once = c.once;
          room = rw (length_put s cap i1 RANK (r1 - 1)) c.room;
          ranks = make d n0 e1 (r1 - 1) s0 c.ranks c.way.0 (omega arith);
          way = k.0;
          some = omega arith;
          low = k.1;
        })
        v.only
        (remove-lower n0 d e1 r1 s0 q h g)

    -- and one above s0, whose children a and b stand on the sides d and its other
    module _ (g : ¬ (rank s0 + 2 ≡ r1)) where
      abbrev a : Tree
      a = child d s0

      abbrev b : Tree
      b = child (other d) s0

      abbrev i0 : ℕ
      i0 = (entry s0).slot

      P : Parts d s0
      P = parts d s0 there c.way.0

      lowa : rank a < budget
      lowa = let f = P.fits in omega (arith, lows)

      lowb : rank b < budget
      lowb = let f = P.fits in omega (arith, lows)

      s0_is : s0 ≡ node d a (entry s0) (rank s0) b
      s0_is = as_node d s0 there

      are2 : slots (inorder (plug (node d n0 e1 r1 (node d a (entry s0) (rank s0) b)) q)) ≡ l
      are2 = rw s0_is at are

      D2 : Distinct (plug (node d n0 e1 r1 (node d a (entry s0) (rank s0) b)) q)
      D2 = rw s0_is at D

      W2 : TreeWords s cap (plug (node d n0 e1 r1 (node d a (entry s0) (rank s0) b)) q)
      W2 = rw s0_is at W

      pub rotates : rank b + 1 ≡ rank s0 → Out
      unfolding turn_once
      rotates k =
          let v = once-turned s cap few c.room l d n0 e1 r1 a (entry s0) (rank s0) b q (rank a + 1) D2 (λ j z. rw are2 at z) W2 in
          ended _ (plug (rotate d n0 e1 r1 s0) q) (turn-rotates s cap few d n0 e1 r1 s0 q w low0 h there lows g lowa lowb k)
          v.words v.only (remove-rotate n0 d e1 r1 s0 q h g k)

      -- s0 is lowered first, from its own place under n1
      abbrev up : Way
      up = step (other d) e1 r1 n0 ∷ q

      abbrev y : Tree
      y = node d a (entry s0) (rank s0 - 1) b

      abbrev s1 : List ℕ
      s1 = put s cap i0 RANK (rank s0 - 1)

      n1-is : node (other d) (node d a (entry s0) (rank s0) b) e1 r1 n0 ≡ n1
      n1-is = node-other d (node d a (entry s0) (rank s0) b) e1 r1 n0 ∙ rw (← s0_is)

      whole_is : plug (node d a (entry s0) (rank s0) b) up ≡ plug n1 q
      unfolding plug
      whole_is = ap (λ (z : Tree). plug z q) n1-is

      Da : Distinct (plug (node d a (entry s0) (rank s0) b) up)
      Da = rw whole_is D

      Wa : TreeWords s cap (plug (node d a (entry s0) (rank s0) b) up)
      Wa = rw whole_is W

      first : Regrown s s1 cap l (plug y up)
      first = lowered s cap few c.room l d a (entry s0) (rank s0) b up (rank s0 - 1) Da (λ j z. member j (rw whole_is at z)) Wa

      W1 : TreeWords s1 cap (plug (node d n0 e1 r1 y) q)
      unfolding plug
      W1 = subst (λ (z : Tree). TreeWords s1 cap (plug z q)) (node-other d y e1 r1 n0) first.words

      are1 : slots (inorder (plug (node d n0 e1 r1 y) q)) ≡ l
      are1 = ap slots (plug-same q (node d n0 e1 r1 y) n1 (node-same d e1 r1 (r1 - 1) n0 n0 y y refl refl ∙ both-same d n0 e1 r1 r1 s0 there)) ∙ are

      D1 : Distinct (plug (node d n0 e1 r1 y) q)
      D1 = rw are1 c.once

      room1 : Long s1 cap
      room1 = rw (length_put s cap i0 RANK (rank s0 - 1)) c.room

      pub lowers-both : ¬ (rank b + 1 ≡ rank s0) → rank a + 2 ≡ rank s0 → Out
      unfolding lowered_both lower_one
      lowers-both k m =
          let f = c.way.1 in
          let o = P.fits in
          let e : rank n0 + 2 ≡ r1 - 1 = omega arith in
          let e2 : rank n0 + 1 ≡ rank s0 - 1 = omega arith in
          let t = put s1 cap i1 RANK (r1 - 1) in
          let x = Taking.lower_both d n0 e1 r1 s0 in
          let v = lowered s1 cap few room1 l d n0 e1 r1 y q (r1 - 1) D1 (λ j z. rw are1 at z) W1 in
          let m2 : slots (inorder (plug x q)) ≡ l = ap slots (plug-same q x n1 (both-same d n0 e1 r1 r1 s0 there)) ∙ are in
          let z = lower-way (omega arith) in
          goes_on t x (turn-lowers-both s cap few d n0 e1 r1 s0 q w low0 h there lows g lowa lowb k m ∙ rw (e, e2))
          (goes_up t cap few d n0 e1 (r1 - 1) y q (rw m2 c.once) v.words)
          (record {
            words = v.words;
            slots-are = m2;
            once = c.once;
            room = rw (length_put s1 cap i1 RANK (r1 - 1)) room1;
            ranks = make d n0 e1 (r1 - 1) y c.ranks (make d a (entry s0) (rank s0 - 1) b P.inner P.outer (omega arith)) (omega arith);
            way = z.0;
            some = omega arith;
            low = z.1;
          })
          (only_trans first.only v.only)
          (remove-lower-both n0 d e1 r1 s0 q h g k m)

      -- a, the inner child of s0, is there and rises
      module _ (k : ¬ (rank b + 1 ≡ rank s0)) (m : ¬ (rank a + 2 ≡ rank s0)) where
        there_a : 1 ≤ rank a
        there_a = let o = P.fits in let f = c.way.1 in omega arith

        a_is : a ≡ node d (child d a) (entry a) (rank a) (child (other d) a)
        a_is = as_node d a there_a

        abbrev old : Tree
        old = node d n0 e1 r1 (node d (node d (child d a) (entry a) (rank a) (child (other d) a)) (entry s0) (rank s0) b)

        old-is : old ≡ n1
        old-is = ap (λ (z : Tree). node d n0 e1 r1 (node d z (entry s0) (rank s0) b)) (sym a_is) ∙ ap (λ (z : Tree). node d n0 e1 r1 z) (sym s0_is)

        D3 : Distinct (plug old q)
        D3 = rw old-is D

        W3 : TreeWords s cap (plug old q)
        W3 = rw old-is W

        O : Links s cap i0 a
        O = (opened s cap d i1 a (entry s0) (rank s0) b (rw s0_is at w.way.1)).1

        N : Node s cap (number d) i0 (top_slot (child d a)) (entry a).slot (rank a) (top_slot (child (other d) a))
        N = (opened s cap d i0 (child d a) (entry a) (rank a) (child (other d) a) (rw a_is at O)).0

        lows_a : top_slot a < cap
        lows_a = rw (top-entry a there_a) N.low

        pub rotates_twice_lem : Out
        unfolding turn_twice turn_twice_with spread_with
        rotates_twice_lem =
            let v = twice_turned s cap few c.room l d n0 e1 r1 (child d a) (entry a) (rank a) (child (other d) a) (entry s0) (rank s0) b q D3 (λ j z. rw are at (rw old-is at z)) W3 in
            ended _ (plug (rotate_twice d n0 e1 r1 s0 a) q)
            (turn-rotates_twice s cap few d n0 e1 r1 s0 q w low0 h there lows g lowa lowb k m lows_a ∙ rw (top-entry a there_a, N.near-is, N.far-is))
            v.words v.only (remove-rotate_twice n0 d e1 r1 s0 q h g k m)

  -- document 01's tests, in its order
  pub turned : Out
  turned = go (dec_le r1 (rank n0 + 2)) (ℕ_discrete (rank s0 + 2) r1) (ℕ_discrete (rank (child (other d) s0) + 1) (rank s0)) (ℕ_discrete (rank (child d s0) + 2) (rank s0))
    where
      go : Dec (r1 ≤ rank n0 + 2) → Dec (rank s0 + 2 ≡ r1) → Dec (rank (child (other d) s0) + 1 ≡ rank s0) → Dec (rank (child d s0) + 2 ≡ rank s0) → Out
      go (yes h) g k m = stops h
      go (no h) (yes g) k m = lowers h g
      go (no h) (no g) (yes k) m = rotates h g k
      go (no h) (no g) (no k) (yes m) = lowers-both h g k m
      go (no h) (no g) (no k) (no m) = rotates_twice_lem h g k m

pub climbs : (cap : ℕ) → cap ≤ no_slot → (l : List ℕ) (p : Way) (fuel : ℕ) (s : List ℕ) (n0 : Tree) → length p ≤ fuel → Climbing s cap l n0 p
    → Came s cap l (remove_climb n0 p) (climb_up p fuel s cap)
unfolding plug
climbs cap few l [] fuel s n0 h c =
    let root : Came s cap l (remove_climb n0 []) (s, Ok tt) = rw (remove-root n0) (record { yes = refl; words = c.words; only = only_none }) in root
climbs cap few l (step d e1 r1 s0 ∷ q) zero s n0 h c = absurd (omega arith)
climbs cap few l (step d e1 r1 s0 ∷ q) (suc fuel) s n0 h c =
    turned s cap few l d n0 e1 r1 s0 q fuel c (λ t x k. climbs cap few l q fuel t x (omega arith) k)
