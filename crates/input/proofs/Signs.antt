-- From a number and its sign to a key.
use Prim.Native.Nat.{ℕ, zero, suc, ◌+◌, ◌-◌, ◌<◌, ◌≤◌}
use mathlib.Core.Path.{◌≡◌, refl}
use mathlib.Core.List.{List}
use native.Mathlib.Omega.{arith}
use lib.ListN.{length, get_or, take, drop, length-drop}
use lib.Seq.{take_all}
use lib.IntN.{pos}
use borrow.Author.Tests.{lt-ltb, le-ltb, eq-eqb, ne_eqb}
use Rattle.std.specs.declared.option.Option.{Option}
use Rattle.std.specs.declared.option.Option.TheVariants.{Some}
use Rattle.arena.specs.Keys.{signed}
use Rattle.handle.specs.declared.Key.{Key}
use Rattle.input.specs.inner.Numbers.{unsigned_of, below_of, above_of, negative, signed_of}
use Rattle.input.proofs.Reading.{read_none}

-- ---- a key by its stored form

signed_above : (v : ℕ) → signed (9223372036854775808 + v) ≡ pos v
unfolding signed
signed_above v =
    let e : 9223372036854775808 + v - 9223372036854775808 ≡ v = omega arith in
    rw (le-ltb (9223372036854775808 + v) 9223372036854775808 (omega arith), e)

signed_below : (v : ℕ) → v ≤ 9223372036854775808 → signed (9223372036854775808 - v) ≡ negative v
unfolding signed
signed_below zero h = refl
signed_below (suc n) h =
    let e : 9223372036854775808 - suc (9223372036854775808 - suc n) ≡ n = omega arith in
    rw (lt-ltb (9223372036854775808 - suc n) 9223372036854775808 (omega arith), e)

module _ (n : Option ℕ) (v : ℕ) (e : n ≡ Some v) (k : Key) where
  pub below_is : v ≤ 9223372036854775808 → k.0 ≡ signed (9223372036854775808 - v) → Some k ≡ below_of n
  below_is h p = rw (e, le-ltb 9223372036854775808 v h, ← signed_below v h, ← p)

  pub above_is : v ≤ 9223372036854775807 → k.0 ≡ signed (9223372036854775808 + v) → Some k ≡ above_of n
  above_is h p = rw (e, le-ltb 9223372036854775807 v h, ← signed_above v, ← p)

-- ---- a sign and a number

module _ (s : List ℕ) where
  pub minus_so : (n : Option ℕ) → 1 ≤ length s → get_or s 0 0 ≡ 45 → n ≡ unsigned_of (take (length s - 1) (drop 1 s)) → below_of n ≡ signed_of s
  unfolding signed_of
  minus_so n h e p =
      let l : length (drop 1 s) ≤ length s - 1 = rw length-drop (omega arith) in
      let t : take (length s - 1) (drop 1 s) ≡ drop 1 s = take_all (length s - 1) (drop 1 s) l in
      rw (le-ltb (length s) 1 h, eq-eqb (get_or s 0 0) 45 e, ← t, ← p)

  pub plain_so : (n : Option ℕ) → 1 ≤ length s → (get_or s 0 0 ≡ 45 → ⊥) → n ≡ unsigned_of s → above_of n ≡ signed_of s
  unfolding signed_of
  plain_so n h e p = rw (le-ltb (length s) 1 h, ne_eqb (get_or s 0 0) 45 e, ← p)

  pub short_so : (n : Option ℕ) → length s < 1 → n ≡ unsigned_of s → above_of n ≡ signed_of s
  unfolding signed_of
  short_so n h p =
      rw (p, ← read_none s (omega arith), lt-ltb (length s) 1 h)
