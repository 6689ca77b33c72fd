-- The models of a turn of the climb and of its start, with what the code has read handed in.
use Prim.Native.Nat.{ℕ, ◌+◌, ◌-◌, ◌<◌, ◌≤◌}
use mathlib.Core.Path.{◌≡◌}
use mathlib.Core.List.{List}
use borrow.Author.Tests.{lt-ltb, le-ltb, le-leb, lt-leb, eq-eqb, ne_eqb}
use Rattle.arena.specs.Words.{field, put, RIGHT, RANK, BACK}
use Rattle.arena.specs.inner.Budget.{budget}
use Rattle.tree.specs.inner.Links.{rank_of, side_of_child}
use Rattle.raise.specs.inner.Restructures.{turned_same, turned_across}
use Rattle.raise.specs.declared.turns.Turn.{Turn}
use Rattle.raise.specs.inner.Ranks.{above, raised_up, fix_with, fix_turn, raise_from, climbed_to, climbed_above, rebalanced}
use Rattle.tree.specs.declared.Climbed.{Climbed}
use Rattle.tree.specs.declared.Climbed.TheVariants.{Done, Up}
use Rattle.std.specs.Prelude.{Result, Ok, ⊤}
use Rattle.handle.specs.declared.Refusal.{Refusal}

module _ (s : List ℕ) (cap p2 p3 r1 : ℕ) (x : List ℕ) (e : x ≡ put s cap p2 RANK (r1 + 1)) where
  pub raise-up : p3 < cap → (d : ℕ) → d ≡ side_of_child x cap p3 p2 → ◌≡◌ {A = List ℕ × Result Climbed Refusal} (x, Ok (Up p3 d)) (raised_up s cap p2 p3 r1)
  unfolding raised_up above
  raise-up h d f = rw (← e, lt-ltb p3 cap h, f)

  pub raise-done : cap ≤ p3 → ◌≡◌ {A = List ℕ × Result Climbed Refusal} (x, Ok Done) (raised_up s cap p2 p3 r1)
  unfolding raised_up above
  raise-done h = rw (← e, le-ltb p3 cap h)

pub fix_reads : (s : List ℕ) (cap p0 p1 p2 d01 d12 : ℕ) (x : List ℕ × Result Climbed Refusal) (r1 r2 p3 s1 rs1 : ℕ)
    → r1 ≡ field s cap p1 RANK → r2 ≡ field s cap p2 RANK → p3 ≡ field s cap p2 BACK → s1 ≡ field s cap p2 (RIGHT - d12) → rs1 ≡ rank_of s cap s1
    → x ≡ fix_with s cap d01 d12 (record { n0 = p0; n1 = p1; n2 = p2; n3 = p3; s1 = s1 }) r1 r2 rs1 → x ≡ fix_turn s cap p0 p1 p2 d01 d12
unfolding fix_turn
fix_reads s cap p0 p1 p2 d01 d12 x r1 r2 p3 s1 rs1 e₁ e₂ e₃ e₄ e₅ e = rw (← e₁, ← e₂, ← e₃, ← e₄, ← e₅) e

module _ (s : List ℕ) (cap d01 d12 : ℕ) (t : Turn) (r1 r2 rs1 : ℕ) where
  module _ (over : r2 ≤ r1) (low : r1 < budget) (low₁ : rs1 < budget) (gap : rs1 + 1 ≡ r2 → ⊥) (x : List ℕ) where
    pub fix_same : d01 ≡ d12 → x ≡ turned_same s cap d01 t → ◌≡◌ {A = List ℕ × Result Climbed Refusal} (x, Ok Done) (fix_with s cap d01 d12 t r1 r2 rs1)
    unfolding fix_with
    fix_same d e = rw (le-ltb r1 r2 over, lt-leb budget r1 low, lt-leb budget rs1 low₁, ne_eqb (rs1 + 1) r2 gap, eq-eqb d01 d12 d, e)

    pub fix_across : (d01 ≡ d12 → ⊥) → x ≡ turned_across s cap d12 t → ◌≡◌ {A = List ℕ × Result Climbed Refusal} (x, Ok Done) (fix_with s cap d01 d12 t r1 r2 rs1)
    unfolding fix_with
    fix_across d e = rw (le-ltb r1 r2 over, lt-leb budget r1 low, lt-leb budget rs1 low₁, ne_eqb (rs1 + 1) r2 gap, ne_eqb d01 d12 d, e)

module _ (s : List ℕ) (cap p0 p1 p2 : ℕ) (e : p2 ≡ field s cap p1 BACK) where
  pub top_reached : cap ≤ p2 → ◌≡◌ {A = List ℕ × Result ⊤ Refusal} (s, Ok tt) (climbed_above s cap p0 p1)
  unfolding climbed_above climbed_to
  top_reached h = rw (← e, le-leb cap p2 h)

  pub climbs : p2 < cap → (d01 d12 : ℕ) → d01 ≡ side_of_child s cap p1 p0 → d12 ≡ side_of_child s cap p2 p1 → (x : List ℕ × Result ⊤ Refusal) → x ≡ raise_from budget s cap p0 p1 p2 d01 d12
      → x ≡ climbed_above s cap p0 p1
  unfolding climbed_above climbed_to
  climbs h d01 d12 f g x q = rw (← e, lt-leb cap p2 h, ← f, ← g) q

module _ (s : List ℕ) (cap p0 p1 r : ℕ) (e : r ≡ field s cap p1 RANK) where
  pub rank-fits : r ≡ 2 → ◌≡◌ {A = List ℕ × Result ⊤ Refusal} (s, Ok tt) (rebalanced s cap p0 p1)
  unfolding rebalanced
  rank-fits h = rw (← e, eq-eqb r 2 h)

  pub rank-raised : (r ≡ 2 → ⊥) → (t : List ℕ) → t ≡ put s cap p1 RANK 2 → (x : List ℕ × Result ⊤ Refusal) → x ≡ climbed_above t cap p0 p1 → x ≡ rebalanced s cap p0 p1
  unfolding rebalanced
  rank-raised h t f x q = rw (← e, ne_eqb r 2 h, ← f) q
