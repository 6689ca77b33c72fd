-- The turns of the two loops of laying out.
use mathlib.Core.Path.{◌≡◌, ◌∙◌, ap}
use mathlib.Core.List.{List}
use Prim.Native.Nat.{ℕ, suc, ◌+◌, ◌-◌, ◌<◌, ◌≤◌}
use native.Mathlib.Omega.{arith}
use Rattle.arena.specs.Words.{head_words, put_head}
use Rattle.arena.specs.inner.Laying.{fresh_slot, lay_slots, zeroed}

-- n of m turns are done: one more, or none is left
left : (m n : ℕ) → n < m → m - n ≡ suc (m - (n + 1))
left m n h = omega arith

done : (m n : ℕ) → m ≤ n → m - n ≡ 0
done m n h = omega arith

back : (m n : ℕ) → n < m → m - suc (m - (n + 1)) ≡ n
back m n h = omega arith

module _ (s : List ℕ) (cap i : ℕ) (r : List ℕ) (inv : lay_slots (cap - i) s cap ≡ r) where
  pub slots_end : cap ≤ i → s ≡ r
  unfolding lay_slots
  slots_end h = rw (done cap i h) at inv

  pub slots_turn : i < cap → (c : ℕ) → c ≡ cap → (t : List ℕ) → t ≡ fresh_slot s c i → lay_slots (cap - (i + 1)) t cap ≡ r
  unfolding lay_slots
  slots_turn h c d t f =
      let e : t ≡ fresh_slot s cap i = rw d at f in
      ap (λ x. lay_slots (cap - (i + 1)) x cap) (e ∙ ap (fresh_slot s cap) (omega (arith, back cap i h))) ∙ (rw (left cap i h) at inv)

module _ (s : List ℕ) (h : ℕ) (r : List ℕ) (inv : zeroed (head_words - h) s ≡ r) where
  pub zero_end : head_words ≤ h → s ≡ r
  unfolding zeroed
  zero_end l = rw (done head_words h l) at inv

  pub zero_turn : h < head_words → (t : List ℕ) → t ≡ put_head s h 0 → zeroed (head_words - (h + 1)) t ≡ r
  unfolding zeroed
  zero_turn l t e = ap (zeroed (head_words - (h + 1))) (e ∙ ap (λ x. put_head s x 0) (omega (arith, back head_words h l))) ∙ (rw (left head_words h l) at inv)
