-- What the bytes of a field say as a side. The script language: -1, 0 or 1, written as any signed number.
use Rattle.std.specs.Prelude.{ℕ, List, Option, Some, None, eqb}
use Rattle.arena.specs.Branch.{ifte}
use Rattle.arena.specs.Keys.{stored}
use Rattle.handle.specs.declared.Key.{Key}
use Rattle.handle.specs.declared.Side.{Side}
use Rattle.handle.specs.declared.Side.TheVariants.{Less, Equal, Greater}
use Rattle.input.specs.declared.fields.Span.{Span}
use Rattle.input.specs.inner.Fields.{next_field, ending, read_in}
use Rattle.input.specs.inner.Numbers.{signed_of}

-- by the stored form, which is the key and 2^63
unfoldable pub side_at : ℕ → Option Side
side_at w =
    ifte (eqb w 9223372036854775807) (Some Less)
    (ifte (eqb w 9223372036854775808) (Some Equal)
    (ifte (eqb w 9223372036854775809) (Some Greater)
    None))

abbrev pub side_of_number : Option Key → Option Side
side_of_number (Some k) = side_at (stored k.0)
side_of_number None = None

unfoldable pub side_read : List ℕ → Option Side
side_read s = side_of_number (signed_of s)

abbrev pub side_to : ℕ → Option Side → Option (Side × ℕ)
side_to e d = ending e d

abbrev pub side_of_field : List ℕ → Option Span → Option (Side × ℕ)
side_of_field s f = read_in side_read s f

-- the next field as a side
unfoldable pub side_field : List ℕ → ℕ → Option (Side × ℕ)
side_field s from = side_of_field s (next_field s from)
