-- The laws of `hooked`, which all writes to a neighbour or to an end go through. One law over the side.
use Prim.Native.Nat.{ℕ, ◌+◌, ◌-◌, ◌<◌, ◌≤◌}
use mathlib.Core.Path.{◌≡◌, refl}
use mathlib.Core.List.{List}
use native.Mathlib.Omega.{arith}
use borrow.Author.Tests.{lt-ltb, le-ltb, ltb-true, ltb-false}
use Rattle.arena.specs.Words.{Long, head_words, fields, field, put, head, put_head, NEXT, FIRST}
use Rattle.arena.specs.inner.Only.{Only, AnyField, AnyHead}
use Rattle.arena.proofs.WordLaws.{field-same, head-same}
use Rattle.arena.proofs.Only.{only-put, only-put_head}
use Rattle.arena.proofs.Paths.{either}
use Rattle.chain.specs.inner.Links.{hooked}

module _ (s : List ℕ) (cap p q d : ℕ) (hd : d ≤ 1) where
  pub hooked-slot : p < cap → hooked s cap p q d ≡ put s cap p (NEXT - d) q
  unfolding hooked
  hooked-slot h = rw (lt-ltb p cap h)

  pub hooked-none : cap ≤ p → hooked s cap p q d ≡ put_head s (FIRST + d) q
  unfolding hooked
  hooked-none h = rw (le-ltb p cap h)

  -- the one word that is written: p's neighbour away from d, or the end on side d where p is no slot
  pub hooked-only : {W : ℕ → ℕ → Type 0} {H : ℕ → Type 0} → (p < cap → W p (NEXT - d)) → (cap ≤ p → H (FIRST + d)) → Only s (hooked s cap p q d) cap W H
  unfolding hooked
  hooked-only {W} {H} w h =
      either (λ t. Only s t cap W H) _ _ _ (λ e. let l = ltb-true p cap e in only-put s p (NEXT - d) q l (omega arith) (w l))
      (λ e. only-put_head s (FIRST + d) q (omega arith) (h (ltb-false p cap e)))

  -- p's neighbour away from d
  pub hooked-at : Long s cap → p < cap → field (hooked s cap p q d) cap p (NEXT - d) ≡ q
  hooked-at room h = rw (hooked-slot h) (field-same s cap p (NEXT - d) q h (omega arith) room)

  -- every other place
  pub hooked-field : (j f : ℕ) → j < cap → f < fields → ((j ≡ p) × (f ≡ NEXT - d) → ⊥) → field (hooked s cap p q d) cap j f ≡ field s cap j f
  hooked-field j f hj hf ne = (hooked-only {W = λ k g. (k ≡ p) × (g ≡ NEXT - d)} {H = AnyHead} (λ l. (refl, refl)) (λ l. tt)).slots j f hj hf ne

  -- the end on side d, where p is no slot
  pub hooked_end : Long s cap → cap ≤ p → head (hooked s cap p q d) (FIRST + d) ≡ q
  hooked_end room h = rw (hooked-none h) (head-same s (FIRST + d) q (omega arith) (omega arith))

  pub hooked-head : (h : ℕ) → h < head_words → (h ≡ FIRST + d → ⊥) → head (hooked s cap p q d) h ≡ head s h
  hooked-head h hh ne = (hooked-only {W = AnyField} {H = λ g. g ≡ FIRST + d} (λ l. tt) (λ l. refl)).heads h hh ne
