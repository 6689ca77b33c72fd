-- The check, as a function of the store, for any words: the header, then rules 1 to 7 of document 01.
use Rattle.std.specs.Prelude.{ℕ, zero, suc, ◌+◌, Bool, true, false, List, ltb, eqb, Result, Ok, Err}
use Rattle.arena.specs.Branch.{ifte}
use Rattle.handle.specs.Numbers.{top_limit}
use Rattle.arena.specs.Words.{head, TOP, HEIGHT}
use Rattle.arena.specs.Header.{header_of}
use Rattle.sound.specs.inner.Slots.{slots_test}
use Rattle.sound.specs.inner.Walking.{whole_test}
use Rattle.handle.specs.declared.Refusal.{Refusal}

-- rule 6: "The top lies in its range"
unfoldable pub top_test : ℕ → Bool
top_test top = ifte (ltb top 1) false (ifte (ltb top_limit top) false true)

-- the first n words of the header behind ROOT
unfoldable pub unused_test : ℕ → List ℕ → Bool
unused_test zero s = true
unused_test (suc n) s = ifte (eqb (head s (6 + n)) 0) (unused_test n s) false

-- by the top generation and the stack's height
unfoldable pub rules_with : List ℕ → ℕ → ℕ → ℕ → Bool
rules_with s cap top h =
    ifte (ltb cap h) false
    (ifte (top_test top)
    (ifte (unused_test 10 s)
    (ifte (slots_test cap s cap top h) (whole_test s cap top) false) false) false)

unfoldable pub rules_test : List ℕ → ℕ → Bool
rules_test s cap = rules_with s cap (head s TOP) (head s HEIGHT)

abbrev pub headed : List ℕ → Result ℕ Refusal → Bool
headed s (Ok cap) = rules_test s cap
headed s (Err n) = false

unfoldable pub sound_model : List ℕ → Bool
sound_model s = headed s (header_of s)
