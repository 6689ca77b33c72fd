-- The header test. Document 01, number 5: "always when the header fails (store too short for header or capacity, capacity 0 or
-- over the limit)".
use Rattle.std.specs.Prelude.{ℕ, ◌≤◌, ◌≡◌, List, Result, Ok, Err, ltb, length}
use Rattle.arena.specs.Branch.{ifte}
use Rattle.handle.specs.Numbers.{limit}
use Rattle.arena.specs.Words.{head_words, need, Room, head, CAPACITY}
use Rattle.handle.specs.declared.Refusal.{Refusal}
use Rattle.handle.specs.declared.Refusal.TheVariants.{NotSound}

unfoldable pub header_of : List ℕ → Result ℕ Refusal
header_of s =
    ifte (ltb (length s) head_words) (Err NotSound)
    (ifte (ltb (head s CAPACITY) 1) (Err NotSound)
    (ifte (ltb limit (head s CAPACITY)) (Err NotSound)
    (ifte (ltb (length s) (need (head s CAPACITY))) (Err NotSound)
    (Ok (head s CAPACITY)))))

-- the header of s passes, and cap is its capacity
pub record Passing (s : List ℕ) (cap : ℕ) : Type 0 where
  pub capacity : head s CAPACITY ≡ cap
  pub some : 1 ≤ cap
  pub few : cap ≤ limit
  pub room : Room s cap
