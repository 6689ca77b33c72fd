-- The walk tests at most as many nodes as there are slots, and a budget more, whatever the words hold: the slots that it joins are apart, as
-- a slot has one PREV, and those that it has entered and not joined are on the way from the root.
use Prim.Native.Nat.{ℕ, zero, suc, ◌+◌, ◌≤◌, ◌<◌}
use mathlib.Core.Path.{◌≡◌, refl, sym, ap, ◌∙◌}
use mathlib.Core.Bool.{Bool, true, false}
use mathlib.Core.List.{List, [], ◌∷◌}
use native.Mathlib.Decide.{ℕ_discrete}
use native.Mathlib.Omega.{arith}
use lib.ListN.{length}
use borrow.Author.Tests.{eq-eqb, ne_eqb}
use Rattle.handle.specs.Numbers.{no_slot}
use Rattle.arena.specs.Words.{field, head, LEFT, RIGHT, PREV, ROOT}
use Rattle.arena.specs.inner.Budget.{budget}
use Rattle.wavl.specs.Lists.{All, Differ, Once}
use Rattle.rules.specs.Sound.{Under}
use Rattle.queue_of_store.proofs.Counting.{at_most}
use Rattle.sound.specs.inner.Nodes.{node_test}
use Rattle.sound.specs.inner.Joints.{join_test}
use Rattle.sound.specs.inner.Walking.{walk_model}
use Rattle.sound.specs.inner.Visits.{visits, all_visits}
use Rattle.sound.proofs.NodeFacts.{node_says, join_says}
use Rattle.sound.proofs.Rows.{before-slot}
use Rattle.sound.proofs.Grown.{same_met, unbroken}
use Rattle.std.specs.Prelude.{Option, Some, None}

-- the slots joined so far, the last one first
abbrev latest : List ℕ → ℕ
latest [] = no_slot
latest (i ∷ l) = i

abbrev Trail : List ℕ → ℕ → List ℕ → Type 0
Trail s cap [] = Unit {0}
Trail s cap (i ∷ l) = (i < cap) × (field s cap i PREV ≡ latest l) × Trail s cap l

module _ (s : List ℕ) (cap : ℕ) (few : cap ≤ no_slot) where
  low : (l : List ℕ) → Trail s cap l → All (Under cap) l
  low [] t = tt
  low (i ∷ l) t = (t.0, low l t.2)

  -- two trails that end with one slot are of one length
  same-trail : (l m : List ℕ) (i j : ℕ) → Trail s cap (i ∷ l) → Trail s cap (j ∷ m) → i ≡ j → length l ≡ length m
  same-trail [] [] i j t u e = refl
  same-trail [] (k ∷ m) i j t u e =
      let n : no_slot ≡ k = sym t.1 ∙ rw e u.1 in let h : k < cap = u.2.0 in absurd (omega arith)
  same-trail (k ∷ l) [] i j t u e =
      let n : k ≡ no_slot = sym t.1 ∙ rw e u.1 in let h : k < cap = t.2.0 in absurd (omega arith)
  same-trail (k ∷ l) (o ∷ m) i j t u e =
      let n : k ≡ o = sym t.1 ∙ rw e u.1 in ap suc (same-trail l m k o t.2 u.2 n)

  off : (l : List ℕ) → Trail s cap l → (i : ℕ) (m : List ℕ) → Trail s cap (i ∷ m) → length l ≤ length m → All (Differ i) l
  off [] t i m u h = tt
  off (j ∷ l) t i m u h = (λ e. let n = same-trail m l i j u t e in absurd (omega arith), off l t.2 i m u (omega arith))

  once : (l : List ℕ) → Trail s cap l → Once l
  once [] t = tt
  once (i ∷ l) t = (off l t.2 i l t (omega arith), once l t.2)

  -- a walk that tested c nodes and came to w, with n levels to go, after the slots `done`
  record Went (c : ℕ) (w : Option ℕ) (n : ℕ) (done : List ℕ) : Type 0 where
    joined : List ℕ
    trail : Trail s cap joined
    bound : c + length done ≤ length joined + n
    full : (x : ℕ) → w ≡ Some x → (latest joined ≡ x) × (c + length done ≡ length joined)

  -- nothing was joined, and no or one node tested
  stayed : (c n : ℕ) (done : List ℕ) → Trail s cap done → c ≤ n → Went c None n done
  stayed c n done t h = record { joined = done; trail = t; bound = omega arith; full = λ x e. unbroken x e }

  passed : (q n : ℕ) (done : List ℕ) → Trail s cap done → q ≡ latest done → Went 0 (Some q) n done
  passed q n done t e = record { joined = done; trail = t; bound = omega arith; full = λ x f. (sym e ∙ same_met q x f, omega arith) }

  module _ (top : ℕ) where
    went : (n back p q : ℕ) (done : List ℕ) → Trail s cap done → q ≡ latest done → Went (visits n s cap top back p q) (walk_model n s cap top back p q) n done
    unfolding visits walk_model
    went zero back p q done t e = go (ℕ_discrete p no_slot)
      where
        go : Dec (p ≡ no_slot) → Went 0 (walk_model zero s cap top back p q) zero done
        go (yes f) = rw (eq-eqb p no_slot f) (passed q 0 done t e)
        go (no f) = rw (ne_eqb p no_slot f) (stayed 0 0 done t (omega arith))
    went (suc n) back p q done t e =
        go (ℕ_discrete p no_slot) (went n p (field s cap p LEFT) q done t e) (went n p (field s cap p RIGHT) p)
      where
        l : ℕ
        l = visits n s cap top p (field s cap p LEFT) q

        r : ℕ
        r = visits n s cap top p (field s cap p RIGHT) p

        near : Option ℕ
        near = walk_model n s cap top p (field s cap p LEFT) q

        far : Option ℕ
        far = walk_model n s cap top p (field s cap p RIGHT) p

        Whole : Type 0
        Whole = Went (visits (suc n) s cap top back p q) (walk_model (suc n) s cap top back p q) (suc n) done

        joins : ¬ (p ≡ no_slot) → node_test s cap top back p ≡ true → (a : Went l near n done) → (y : ℕ) → near ≡ Some y → (u : Bool) → join_test s cap y p ≡ u
            → ((done : List ℕ) → Trail s cap done → p ≡ latest done → Went r far n done) → Whole
        joins f g a y k false j b =
            let z = a.full y k in
            rw (ne_eqb p no_slot f, g, k, j) (record { joined = a.joined; trail = a.trail; bound = let m = z.1 in omega arith; full = λ x h. unbroken x h })
        joins f g a y k true j b =
            let z = a.full y k in
            let v = node_says s cap top back p g in
            let c = join_says s cap y p j in
            let m = z.1 in
            let d = b (p ∷ a.joined) (v.low, sym (before-slot s cap p v.low) ∙ c.before ∙ sym z.0, a.trail) refl in
            rw (ne_eqb p no_slot f, g, k, j)
            (record { joined = d.joined; trail = d.trail; bound = let o = d.bound in omega arith; full = λ x h. let w = d.full x h in (w.0, let o = w.1 in omega arith) })

        left : ¬ (p ≡ no_slot) → node_test s cap top back p ≡ true → Went l near n done → (w : Option ℕ) → near ≡ w
            → ((done : List ℕ) → Trail s cap done → p ≡ latest done → Went r far n done) → Whole
        left f g a (Some y) k b = joins f g a y k (join_test s cap y p) refl b
        left f g a None k b =
            rw (ne_eqb p no_slot f, g, k) (record { joined = a.joined; trail = a.trail; bound = let o = a.bound in omega arith; full = λ x h. unbroken x h })

        node : ¬ (p ≡ no_slot) → (u : Bool) → node_test s cap top back p ≡ u → Went l near n done
            → ((done : List ℕ) → Trail s cap done → p ≡ latest done → Went r far n done) → Whole
        node f true g a b = left f g a near refl b
        node f false g a b = rw (ne_eqb p no_slot f, g) (stayed 1 (suc n) done t (omega arith))

        go : Dec (p ≡ no_slot) → Went l near n done → ((done : List ℕ) → Trail s cap done → p ≡ latest done → Went r far n done) → Whole
        go (yes f) a b = rw (eq-eqb p no_slot f) (passed q (suc n) done t e)
        go (no f) a b = node f (node_test s cap top back p) refl a b

    pub few-visits : all_visits s cap top ≤ cap + budget
    unfolding all_visits
    few-visits =
        let a = went budget no_slot (head s ROOT) no_slot [] tt refl in
        let b = at_most cap a.joined (once a.joined a.trail) (low a.joined a.trail) in
        let c = a.bound in
        omega arith
