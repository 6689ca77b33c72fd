-- Steps of the loop that reads a number.
use Prim.Native.Nat.{ℕ, ◌+◌, ◌-◌, ◌*◌, ◌<◌, ◌≤◌, ◌^◌}
use mathlib.Core.Path.{◌≡◌, ◌∙◌}
use mathlib.Core.List.{List}
use mathlib.Core.Logic.{◌⊎◌, inl, inr}
use native.Mathlib.Numerals.{add-one}
use native.Mathlib.Omega.{arith}
use lib.ListN.{length, get_or, drop, drop_of_length-le}
use lib.Seq.{drop-cons}
use borrow.Author.Tests.{lt-ltb, le-ltb}
use Rattle.std.specs.declared.option.Option.{Option}
use Rattle.std.specs.declared.option.Option.TheVariants.{Some, None}
use Rattle.input.specs.inner.Numbers.{digit_of, read_on, unsigned_of}

pub digit_is : (b : ℕ) → 48 ≤ b → b ≤ 57 → b - 48 ≡ digit_of b
unfolding digit_of
digit_is b h k = rw (le-ltb b 48 h, le-ltb 57 b k)

pub no_digit : (b : ℕ) → (b < 48) ⊎ (57 < b) → 9 < digit_of b
unfolding digit_of
no_digit b (inl h) = rw (lt-ltb b 48 h) (omega arith)
no_digit b (inr h) = rw (le-ltb b 48 (omega arith), lt-ltb 57 b h) (omega arith)

-- of a number's bytes, all are still to be read at first
pub read_none : (s : List ℕ) → length s ≡ 0 → None ≡ unsigned_of s
unfolding unsigned_of
read_none s h = rw h

pub read_first : (s : List ℕ) → 1 ≤ length s → read_on s 0 ≡ unsigned_of s
unfolding unsigned_of
read_first s h = rw (le-ltb (length s) 1 h)

module _ (s : List ℕ) (i v d t : ℕ) (n r : Option ℕ) where
  pub read_no_digit : r ≡ None → i < length s → 9 < digit_of (get_or s i 0) → read_on (drop i s) v ≡ n → r ≡ n
  unfolding read_on
  read_no_digit e h k p = e ∙ rw (← p, drop-cons s i 0 h, lt-ltb 9 (digit_of (get_or s i 0)) k)

  read_over : r ≡ None → i < length s → d ≡ digit_of (get_or s i 0) → d ≤ 9 → 18446744073709551615 < v * 10 + d →
      read_on (drop i s) v ≡ n → r ≡ n
  unfolding read_on
  read_over q h e k o p =
      q ∙ rw (← p, drop-cons s i 0 h, ← e, le-ltb 9 d k, lt-ltb 18446744073709551615 (v * 10 + d) o)

  pub read_tens_over : r ≡ None → i < length s → d ≡ digit_of (get_or s i 0) → d ≤ 9 → (v * 10 < 2 ^ 64 → ⊥) →
      read_on (drop i s) v ≡ n → r ≡ n
  read_tens_over q h e k o p = read_over q h e k (omega arith) p

  pub read_digit_over : r ≡ None → i < length s → d ≡ digit_of (get_or s i 0) → d ≤ 9 → t ≡ v * 10 → (t + d < 2 ^ 64 → ⊥) →
      read_on (drop i s) v ≡ n → r ≡ n
  read_digit_over q h e k w o p = read_over q h e k (omega arith) p

  pub read_more : (w : ℕ) → i < length s → d ≡ digit_of (get_or s i 0) → d ≤ 9 → t ≡ v * 10 → t + d < 2 ^ 64 → w ≡ t + d →
      read_on (drop i s) v ≡ n → read_on (drop (i + 1) s) w ≡ n
  unfolding read_on
  read_more w h e k a g b p =
      let f : v * 10 + d ≤ 18446744073709551615 = omega arith in
      rw (b, a, ← p, add-one, drop-cons s i 0 h, ← e, le-ltb 9 d k, le-ltb 18446744073709551615 (v * 10 + d) f)

  pub read_end : length s ≤ i → read_on (drop i s) v ≡ n → Some v ≡ n
  unfolding read_on
  read_end h p = rw (← p, drop_of_length-le s h)
