-- Laying out: when a layout is good, and every word afterwards.
-- Document 01: "the top generation [..] is set at laying out. Each slot starts at generation 1", "a fresh store gives 0, 1, 2 and so on",
-- and number 4. The model is inner/Laying.antt; proofs/Theorems.antt has what ties the two.
use Rattle.std.specs.Prelude.{ℕ, ◌-◌, ◌≤◌, ◌<◌, ◌≡◌, List, [], ◌∷◌, length, get_or}
use Rattle.handle.specs.Numbers.{no_slot, first_generation, InRange}
use Rattle.arena.specs.Words.{head_words, fields, need, field, head}

-- a layout is good in a store of `len` numbers; else "BadLayout: laying out with capacity or top generation out of range, or a store too
-- short"
pub record GoodLayout (len cap top : ℕ) : Type 0 where
  pub range : InRange cap top
  pub room : need cap ≤ len

-- what the header and a slot hold after laying out
abbrev pub header_words : ℕ → ℕ → List ℕ
header_words cap top = cap ∷ top ∷ cap ∷ no_slot ∷ no_slot ∷ no_slot ∷ []

abbrev pub slot_words : ℕ → ℕ → List ℕ
slot_words cap i = 0 ∷ no_slot ∷ no_slot ∷ 0 ∷ (cap - 1 - i) ∷ no_slot ∷ no_slot ∷ first_generation ∷ 0 ∷ (cap - 1 - i) ∷ []

-- t is the store s laid out: every word of it
pub record Fresh (s t : List ℕ) (cap top : ℕ) : Type 0 where
  pub long : length t ≡ length s
  pub heads : (h : ℕ) → h < head_words → head t h ≡ get_or (header_words cap top) h 0
  pub slots : (i f : ℕ) → i < cap → f < fields → field t cap i f ≡ get_or (slot_words cap i) f 0
  pub rest : (k : ℕ) → need cap ≤ k → get_or t k 0 ≡ get_or s k 0
