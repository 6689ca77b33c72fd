-- What the bytes of a field say as a number. The script language: "one or more digits 0 to 9, value at most
-- 18446744073709551615"; signed: "the same digits, or one - and one or more digits; value from -9223372036854775808 to
-- 9223372036854775807".
use Rattle.std.specs.Prelude.{ℕ, zero, suc, ◌+◌, ◌-◌, ◌*◌, List, [], ◌∷◌, Option, Some, None, ltb, eqb, ℤ, pos, negsuc, length, get_or, drop}
use Rattle.arena.specs.Branch.{ifte}
use Rattle.handle.specs.declared.Key.{Key}

-- what a digit counts, and 10 for any other byte
unfoldable pub digit_of : ℕ → ℕ
digit_of b = ifte (ltb b 48) 10 (ifte (ltb 57 b) 10 (b - 48))

-- the number that begins with v and goes on with these digits
unfoldable pub read_on : List ℕ → ℕ → Option ℕ
read_on [] v = Some v
read_on (b ∷ bs) v =
    ifte (ltb 9 (digit_of b)) None
    (ifte (ltb 18446744073709551615 (v * 10 + digit_of b)) None
    (read_on bs (v * 10 + digit_of b)))

unfoldable pub unsigned_of : List ℕ → Option ℕ
unsigned_of s = ifte (ltb (length s) 1) None (read_on s 0)

-- a number's negative
abbrev pub negative : ℕ → ℤ
negative zero = pos 0
negative (suc n) = negsuc n

abbrev pub as_key : ℤ → Key
as_key z = record { 0 = z }

abbrev pub below_of : Option ℕ → Option Key
below_of (Some v) = ifte (ltb 9223372036854775808 v) None (Some (as_key (negative v)))
below_of None = None

abbrev pub above_of : Option ℕ → Option Key
above_of (Some v) = ifte (ltb 9223372036854775807 v) None (Some (as_key (pos v)))
above_of None = None

unfoldable pub signed_of : List ℕ → Option Key
signed_of s =
    ifte (ltb (length s) 1) None
    (ifte (eqb (get_or s 0 0) 45) (below_of (unsigned_of (drop 1 s))) (above_of (unsigned_of s)))
