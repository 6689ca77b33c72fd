-- Division toward the floor, for document 01's "the day is the floor of (key + offset) / 86,400, the second is the
-- remainder" and request 1's "the drum is the remainder by 8, never negative, and the rest is the floor". A reader may
-- rely on `Floored`, which says what floor and remainder are; proofs/Floors shows that `floor_div` and `floor_mod` have
-- that property and that nothing else has it. Assumes nothing.
use Rattle.std.specs.Prelude.{◌≡◌, ℕ, suc, ◌-◌, ◌/◌, ◌%◌, ◌<◌, ℤ, pos, negsuc, ◌+ℤ◌, ◌*ℤ◌}

-- q whole lots of k and r more make z, and r is less than one lot. r is a natural number, so it is never negative
pub record Floored (z : ℤ) (k : ℕ) (q : ℤ) (r : ℕ) : Type 0 where
  pub whole : z ≡ q *ℤ pos k +ℤ pos r
  pub small : r < k

-- the floor of z / k. negsuc n is -(n + 1): of the numbers -1 to -k all have the floor -1, the next k have -2
unfoldable pub floor_div : ℤ → ℕ → ℤ
floor_div (pos n) k = pos (n / k)
floor_div (negsuc n) k = negsuc (n / k)

-- what is left of z over its floor: -1 leaves k - 1, and -k leaves 0
unfoldable pub floor_mod : ℤ → ℕ → ℕ
floor_mod (pos n) k = n % k
floor_mod (negsuc n) k = k - suc (n % k)
