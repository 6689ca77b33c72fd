-- The limit is at most the number for no slot, so that no slot is ever mistaken for it: all that a proof knows of the limit.
use Prim.Native.Nat.{◌≤◌}
use native.Mathlib.Omega.{arith}
use Rattle.handle.specs.Numbers.{no_slot, limit}

pub limit-fits : limit ≤ no_slot
unfolding limit
limit-fits = omega arith
