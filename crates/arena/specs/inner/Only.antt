-- What a write leaves alone: t differs from s at most in the fields that W names, by slot and field, and in the header words that H
-- names. A crate says by two such sets what it may write; length, all else and what lies past the needed words stay.
-- Document 01: "Numbers past what the capacity needs are never touched."
use Rattle.std.specs.Prelude.{ℕ, ◌<◌, ◌≤◌, ◌≡◌, List, length, get_or}
use Rattle.arena.specs.Words.{need, head_words, fields, field, head, HEIGHT, ROOT}

pub record Only (s t : List ℕ) (cap : ℕ) (W : ℕ → ℕ → Type 0) (H : ℕ → Type 0) : Type 0 where
  pub long : length t ≡ length s
  pub slots : (j g : ℕ) → j < cap → g < fields → ¬ (W j g) → field t cap j g ≡ field s cap j g
  pub heads : (h : ℕ) → h < head_words → ¬ (H h) → head t h ≡ head s h
  pub rest : (k : ℕ) → need cap ≤ k → get_or t k 0 ≡ get_or s k 0

-- no field, and no header word; any of them
abbrev pub NoField : ℕ → ℕ → Type 0
NoField j g = ⊥

abbrev pub NoHead : ℕ → Type 0
NoHead h = ⊥

abbrev pub AnyField : ℕ → ℕ → Type 0
AnyField j g = Unit {0}

abbrev pub AnyHead : ℕ → Type 0
AnyHead h = Unit {0}

-- the height of the stack
abbrev pub IsHeight : ℕ → Type 0
IsHeight h = h ≡ HEIGHT

-- the header words that calls move: HEIGHT, FIRST, LAST and ROOT
abbrev pub Moving : ℕ → Type 0
Moving h = (HEIGHT ≤ h) × (h ≤ ROOT)
