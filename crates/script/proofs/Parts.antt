-- From a number to a side: by the number, where the model goes by its stored form.
use Prim.Native.Nat.{ℕ, suc, ◌+◌, ◌-◌, ◌^◌}
use mathlib.Core.Path.{◌≡◌}
use mathlib.Core.List.{List}
use native.Mathlib.Omega.{arith}
use lib.IntN.{ℤ, pos, negsuc}
use mir.Syntax.{w64}
use mir.Val.{SFits, of_z}
use borrow.Author.Tests.{ne_eqb}
use Rattle.std.specs.declared.option.Option.{Option}
use Rattle.std.specs.declared.option.Option.TheVariants.{Some, None}
use Rattle.arena.specs.Keys.{stored}
use Rattle.handle.specs.declared.Key.{Key}
use Rattle.handle.specs.declared.Side.{Side}
use Rattle.handle.specs.declared.Side.TheVariants.{Less, Equal, Greater}
use Rattle.input.specs.inner.Numbers.{signed_of}
use Rattle.input.specs.inner.Fields.{part, next_field}
use Rattle.input.specs.declared.fields.Span.{Span}
use Rattle.script.specs.inner.Sides.{side_at, side_read, side_field}

side_less : (z : ℤ) → SFits w64 z → of_z w64 z ≡ 18446744073709551615 → Some Less ≡ side_at (stored z)
unfolding side_at stored
side_less (pos n) f e = absurd (omega (arith, f.sfits))
side_less (negsuc n) f e =
    let p : n ≡ 0 = omega (arith, f.sfits) in rw p

side_equal : (z : ℤ) → SFits w64 z → of_z w64 z ≡ 0 → Some Equal ≡ side_at (stored z)
unfolding side_at stored
side_equal (pos n) f e = let p : n ≡ 0 = omega (arith, f.sfits) in rw p
side_equal (negsuc n) f e = absurd (omega (arith, f.sfits))

side_greater : (z : ℤ) → SFits w64 z → of_z w64 z ≡ 1 → Some Greater ≡ side_at (stored z)
unfolding side_at stored
side_greater (pos n) f e = let p : n ≡ 1 = omega (arith, f.sfits) in rw p
side_greater (negsuc n) f e = absurd (omega (arith, f.sfits))

side_none : (z : ℤ) → SFits w64 z → (of_z w64 z ≡ 18446744073709551615 → ⊥) → (of_z w64 z ≡ 0 → ⊥) → (of_z w64 z ≡ 1 → ⊥) → None ≡ side_at (stored z)
unfolding side_at stored
side_none (pos n) f a b d =
    rw (ne_eqb (n + 2 ^ 63) 9223372036854775807 (λ e. absurd (omega arith)), ne_eqb (n + 2 ^ 63) 9223372036854775808 (λ e. b (omega arith)), ne_eqb (n + 2 ^ 63) 9223372036854775809 (λ e. d (omega arith)))
side_none (negsuc n) f a b d =
    rw (ne_eqb (2 ^ 63 - suc n) 9223372036854775807 (λ e. a (omega arith)), ne_eqb (2 ^ 63 - suc n) 9223372036854775808 (λ e. absurd (omega arith)), ne_eqb (2 ^ 63 - suc n) 9223372036854775809 (λ e. absurd (omega arith)))

module _ (s : List ℕ) where
  pub no_side_so : (r : Option Side) → r ≡ None → None ≡ signed_of s → r ≡ side_read s
  unfolding side_read
  no_side_so r e p = rw (e, ← p)

  module _ (k : Key) (here : Some k ≡ signed_of s) (f : SFits w64 k.0) where
    pub is_less : of_z w64 k.0 ≡ 18446744073709551615 → Some Less ≡ side_read s
    unfolding side_read
    is_less e = rw (← here) (side_less k.0 f e)

    pub is_equal : of_z w64 k.0 ≡ 0 → Some Equal ≡ side_read s
    unfolding side_read
    is_equal e = rw (← here) (side_equal k.0 f e)

    pub is_greater : of_z w64 k.0 ≡ 1 → Some Greater ≡ side_read s
    unfolding side_read
    is_greater e = rw (← here) (side_greater k.0 f e)

    pub is_none : (of_z w64 k.0 ≡ 18446744073709551615 → ⊥) → (of_z w64 k.0 ≡ 0 → ⊥) → (of_z w64 k.0 ≡ 1 → ⊥) → None ≡ side_read s
    unfolding side_read
    is_none a b d = rw (← here) (side_none k.0 f a b d)

-- ---- a side field, found or missing

module _ (s : List ℕ) (from : ℕ) (f : Option Span) (here : f ≡ next_field s from) where
  pub no_side : f ≡ None → None ≡ side_field s from
  unfolding side_field
  no_side p = rw (← here, p)

  pub side_is : (p : Span) → f ≡ Some p → (n : Option Side) (v : Side) → n ≡ side_read (part s p.start p.end) → n ≡ Some v →
      Some (v, p.end) ≡ side_field s from
  unfolding side_field
  side_is p at n v q e = rw (← here, at, ← q, e)
