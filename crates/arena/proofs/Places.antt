-- Where each field stands, and that no two fields stand at one place.
use Prim.Native.Nat.{ℕ, ◌+◌, ◌-◌, ◌*◌, ◌≤◌, ◌<◌}
use mathlib.Core.Path.{◌≡◌, sym, ◌∙◌}
use native.Mathlib.Omega.{arith}
use native.Mathlib.Decide.{dec_lt}
use borrow.Author.Tests.{lt-ltb, le-ltb}
use Rattle.arena.specs.Words.{head_words, word_at, need, fields}

pub place-near : (cap i f : ℕ) → f < 4 → word_at cap i f ≡ head_words + i * 4 + f
unfolding word_at
place-near cap i f h = rw (lt-ltb f 4 h)

pub place-far : (cap i f : ℕ) → 4 ≤ f → word_at cap i f ≡ head_words + cap * 4 + i * 6 + (f - 4)
unfolding word_at
place-far cap i f h = rw (le-ltb f 4 h)

-- a field stands behind the header and within what the capacity needs
pub record Within (cap p : ℕ) : Type 0 where
  pub low : head_words ≤ p
  pub high : p < need cap

pub place-within : (cap i f : ℕ) → i < cap → f < fields → Within cap (word_at cap i f)
place-within cap i f hi hf = go (dec_lt f 4)
  where
    go : Dec (f < 4) → Within cap (word_at cap i f)
    go (yes h) = rw (place-near cap i f h) (record { low = omega arith; high = omega arith })
    go (no h) = let h' : 4 ≤ f = omega arith in rw (place-far cap i f h') (record { low = omega arith; high = omega arith })

pub place-one : (cap i f j g : ℕ) → i < cap → j < cap → f < fields → g < fields → word_at cap i f ≡ word_at cap j g → (i ≡ j) × (f ≡ g)
place-one cap i f j g hi hj hf hg e = go (dec_lt f 4) (dec_lt g 4)
  where
    go : Dec (f < 4) → Dec (g < 4) → (i ≡ j) × (f ≡ g)
    go (yes h) (yes k) =
        let e' : head_words + i * 4 + f ≡ head_words + j * 4 + g = sym (place-near cap i f h) ∙ e ∙ place-near cap j g k in
        let same : i ≡ j = omega arith in (same, omega arith)
    go (yes h) (no k) =
        let k' : 4 ≤ g = omega arith in
        let e' : head_words + i * 4 + f ≡ head_words + cap * 4 + j * 6 + (g - 4) = sym (place-near cap i f h) ∙ e ∙ place-far cap j g k' in
        absurd (omega arith)
    go (no h) (yes k) =
        let h' : 4 ≤ f = omega arith in
        let e' : head_words + cap * 4 + i * 6 + (f - 4) ≡ head_words + j * 4 + g = sym (place-far cap i f h') ∙ e ∙ place-near cap j g k in
        absurd (omega arith)
    go (no h) (no k) =
        let h' : 4 ≤ f = omega arith in
        let k' : 4 ≤ g = omega arith in
        let e' : head_words + cap * 4 + i * 6 + (f - 4) ≡ head_words + cap * 4 + j * 6 + (g - 4) = sym (place-far cap i f h') ∙ e ∙ place-far cap j g k' in
        let same : i ≡ j = omega arith in (same, omega arith)
