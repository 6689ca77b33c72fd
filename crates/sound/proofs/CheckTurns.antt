-- The turns of the check's two loops and of its walk: what the model comes to at each way out of the code.
use Prim.Native.Nat.{ℕ, zero, suc, ◌+◌, ◌-◌, ◌<◌, ◌≤◌}
use mathlib.Core.Path.{◌≡◌, sym, ◌∙◌}
use mathlib.Core.Bool.{Bool, true, false}
use mathlib.Core.List.{List}
use native.Mathlib.Omega.{arith}
use lib.Dec.{eqb}
use borrow.Author.Tests.{eq-eqb, ne_eqb, leb-false}
use Rattle.handle.specs.Numbers.{no_slot}
use Rattle.arena.specs.Branch.{ifte}
use Rattle.arena.specs.Words.{field, head, LEFT, RIGHT}
use Rattle.arena.proofs.Paths.{no_refusal}
use Rattle.sound.specs.inner.Nodes.{node_test}
use Rattle.sound.specs.inner.Joints.{join_test}
use Rattle.sound.specs.inner.Walking.{walk_node, walk_model}
use Rattle.sound.specs.inner.Slots.{slot_test, place_test, slots_test}
use Rattle.sound.specs.inner.Check.{unused_test}
use Rattle.std.specs.Prelude.{Option, Some, None}

-- the loop over the slots: i of them are left
module _ (s : List ℕ) (cap top h : ℕ) where
  slots_open : (i : ℕ) → 0 < i
      → slots_test i s cap top h ≡ ifte (slot_test s cap top h (i - 1)) (ifte (place_test s cap h (i - 1)) (slots_test (i - 1) s cap top h) false) false
  unfolding slots_test
  slots_open zero l = absurd (omega arith)
  slots_open (suc n) l = let e : suc n - 1 ≡ n = omega arith in rw e

  slots-none : (i : ℕ) → i ≤ 0 → true ≡ slots_test i s cap top h
  unfolding slots_test
  slots-none zero l = cc
  slots-none (suc n) l = absurd (omega arith)

  module _ (i : ℕ) (r : Bool) (inv : slots_test i s cap top h ≡ r) where
    pub slots_end : i ≤ 0 → true ≡ r
    slots_end l = slots-none i l ∙ inv

    module _ (l : 0 < i) (t : Bool) (e : t ≡ slot_test s cap top h (i - 1)) where
      pub slots_bad : t ≡ false → false ≡ r
      slots_bad f = let g = slots_open i l in let j = (rw (← e, f) at g) in sym j ∙ inv

      module _ (f : t ≡ true) (u : Bool) (d : u ≡ place_test s cap h (i - 1)) where
        pub place_bad : u ≡ false → false ≡ r
        place_bad k = let g = slots_open i l in let j = (rw (← e, f, ← d, k) at g) in sym j ∙ inv

        pub slots_turn : u ≡ true → slots_test (i - 1) s cap top h ≡ r
        slots_turn k = let g = slots_open i l in let j = (rw (← e, f, ← d, k) at g) in sym j ∙ inv

-- the loop over the header's unused words
module _ (s : List ℕ) where
  unused_open : (k : ℕ) → 0 < k → unused_test k s ≡ ifte (eqb (head s (6 + (k - 1))) 0) (unused_test (k - 1) s) false
  unfolding unused_test
  unused_open zero l = absurd (omega arith)
  unused_open (suc n) l = let e : suc n - 1 ≡ n = omega arith in rw e

  unused-none : (k : ℕ) → k ≤ 0 → true ≡ unused_test k s
  unfolding unused_test
  unused-none zero l = cc
  unused-none (suc n) l = absurd (omega arith)

  module _ (k : ℕ) (r : Bool) (inv : unused_test k s ≡ r) where
    pub unused_end : k ≤ 0 → true ≡ r
    unused_end l = unused-none k l ∙ inv

    module _ (l : 0 < k) (w : ℕ) (e : w ≡ head s (6 + (k - 1))) where
      pub unused_bad : (w ≡ 0 → ⊥) → false ≡ r
      unused_bad f = let g = unused_open k l in let j = (rw (← e, ne_eqb w 0 f) at g) in sym j ∙ inv

      pub unused_turn : w ≡ 0 → unused_test (k - 1) s ≡ r
      unused_turn f = let g = unused_open k l in let j = (rw (← e, eq-eqb w 0 f) at g) in sym j ∙ inv

-- the walk
pub node_low : (s : List ℕ) (cap top back p : ℕ) (t : Bool) → t ≡ node_test s cap top back p → t ≡ true → p < cap
unfolding node_test
node_low s cap top back p t e f = leb-false cap p (no_refusal _ _ (sym e ∙ f)).0

module _ (s : List ℕ) (cap top back p q : ℕ) where
  pub walk_tip : (n : ℕ) → p ≡ no_slot → Some q ≡ walk_model n s cap top back p q
  unfolding walk_model
  walk_tip zero e = rw (eq-eqb p no_slot e)
  walk_tip (suc n) e = rw (eq-eqb p no_slot e)

  module _ (e : p ≡ no_slot → ⊥) where
    pub walk_spent : (n : ℕ) → n < 1 → None ≡ walk_model n s cap top back p q
    unfolding walk_model
    walk_spent zero l = rw (ne_eqb p no_slot e)
    walk_spent (suc n) l = absurd (omega arith)

    walk_open : (n : ℕ) → 1 ≤ n
        → walk_model n s cap top back p q
        ≡ ifte (node_test s cap top back p) (walk_node s cap p (walk_model (n - 1) s cap top p (field s cap p LEFT) q) (walk_model (n - 1) s cap top p (field s cap p RIGHT) p)) None
    unfolding walk_model
    walk_open zero l = absurd (omega arith)
    walk_open (suc n) l = let d : suc n - 1 ≡ n = omega arith in rw (d, ne_eqb p no_slot e)

    module _ (n : ℕ) (l : 1 ≤ n) (t : Bool) (f : t ≡ node_test s cap top back p) where
      pub walk_refused : t ≡ false → None ≡ walk_model n s cap top back p q
      walk_refused g = rw (walk_open n l, ← f, g)

      module _ (g : t ≡ true) (a : ℕ) (d : a ≡ field s cap p LEFT) (x : Option ℕ) (m : x ≡ walk_model (n - 1) s cap top p a q) where
        pub walk_broken : x ≡ None → None ≡ walk_model n s cap top back p q
        walk_broken k = rw (walk_open n l, ← f, g, ← d, ← m, k)

        module _ (y : ℕ) (k : x ≡ Some y) (u : Bool) (j : u ≡ join_test s cap y p) where
          pub walk_apart : u ≡ false → None ≡ walk_model n s cap top back p q
          walk_apart o = rw (walk_open n l, ← f, g, ← d, ← m, k, ← j, o)

          pub walk_on : u ≡ true → (b : ℕ) → b ≡ field s cap p RIGHT → (z : Option ℕ) → z ≡ walk_model (n - 1) s cap top p b p → z ≡ walk_model n s cap top back p q
          walk_on o b h z w = rw (walk_open n l, ← f, g, ← d, ← m, k, ← j, o, ← h) w
