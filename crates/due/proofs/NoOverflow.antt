-- A moment of a time in its ranges is worked out with no overflow, and so is the local time of a moment whose day is in
-- range. Assumes nothing.
use Prim.Native.Nat.{◌≤◌}
use native.Mathlib.Omega.{arith}
use lib.IntN.{ℤ, pos, ◌+ℤ◌, ◌-ℤ◌, ◌*ℤ◌}
use lib.Dec.{T}
use lib.Signed.{le_z, le_z_yes}
use mir.Syntax.{w64}
use mir.Val.{SFits}
use Rattle.due.specs.Due.{InBounds, GoodTime, GoodDrum, day_low, day_high, second_low, second_high, offset_low, offset_high, moment_of}
use Rattle.due.proofs.Signs.{up, down, apart, sum_law, up-times, down-times, le_out}
use Rattle.due.proofs.Moments.{moment_law}
use Rattle.due.proofs.Sizes.{fits}

module _ (d s o : ℤ) (g : GoodTime d s o) where
  -- each field's two naturals are small
  day-small : (up d ≤ 1_000_000) × (down d ≤ 1_000_000)
  day-small = (omega (arith, apart d, le_out g.day_in.below), omega (arith, apart d, le_out g.day_in.above))

  second-small : (up s ≤ 86_399) × (down s ≤ 0)
  second-small =
      (omega (arith, apart s, le_out g.second_in.below), omega (arith, apart s, le_out g.second_in.above))

  offset-small : (up o ≤ 50_400) × (down o ≤ 50_400)
  offset-small =
      (omega (arith, apart o, le_out g.offset_in.below), omega (arith, apart o, le_out g.offset_in.above))

  pub days_fit : SFits w64 (d *ℤ pos 86_400)
  days_fit =
      fits (d *ℤ pos 86_400) (omega (arith, up-times d 86_400, day-small.0))
      (omega (arith, down-times d 86_400, day-small.1))

  pub seconds_fit : SFits w64 (d *ℤ pos 86_400 +ℤ s)
  seconds_fit =
      let p = apart (d *ℤ pos 86_400 +ℤ s) in
      let e = sum_law (d *ℤ pos 86_400) s in
      fits (d *ℤ pos 86_400 +ℤ s) (omega (arith, up-times d 86_400, day-small.0, second-small.0))
      (omega (arith, down-times d 86_400, day-small.1, second-small.1))

  pub moment_fits : SFits w64 (d *ℤ pos 86_400 +ℤ s -ℤ o)
  unfolding moment_of
  moment_fits =
      let p = apart (moment_of d s o) in
      let e = moment_law d s o in
      fits (moment_of d s o) (omega (arith, day-small.0, second-small.0, offset-small.1))
      (omega (arith, day-small.1, second-small.1, offset-small.0))

  -- a key is eight times as large, and the drum more
  pub eighths_fit : SFits w64 (moment_of d s o *ℤ pos 8)
  eighths_fit =
      let m = moment_of d s o in
      let p = apart m in
      let e = moment_law d s o in
      fits (m *ℤ pos 8) (omega (arith, up-times m 8, day-small.0, second-small.0, offset-small.1))
      (omega (arith, down-times m 8, day-small.1, second-small.1, offset-small.0))

  pub key_fits : (n : ℤ) → GoodDrum n → SFits w64 (moment_of d s o *ℤ pos 8 +ℤ n)
  key_fits n h =
      let m = moment_of d s o in
      let p = apart m in
      let e = moment_law d s o in
      let f = sum_law (m *ℤ pos 8) n in
      let q = apart (m *ℤ pos 8 +ℤ n) in
      fits (m *ℤ pos 8 +ℤ n) (omega (arith, up-times m 8, down-times m 8, day-small.0, second-small.0, offset-small.1, le_out h.below))
      (omega (arith, up-times m 8, down-times m 8, day-small.1, second-small.1, offset-small.0, le_out h.above))

-- the sum of a moment that lies between the first and the last one of an offset, and that offset
pub local_fits : (m o : ℤ) → InBounds offset_low offset_high o → InBounds (moment_of day_low second_low o) (moment_of day_high second_high o) m → SFits w64 (m +ℤ o)
local_fits m o g h =
    let e = sum_law m o in
    let n = apart (m +ℤ o) in
    fits (m +ℤ o) (omega (arith, moment_law day_high second_high o, le_out h.below)) (omega (arith, moment_law day_low second_low o, le_out h.above))

-- the first and the last local time of the days in range
pub ends-good : (o : ℤ) → InBounds offset_low offset_high o → (GoodTime day_low second_low o) × (GoodTime day_high second_high o)
ends-good o g =
    let day : (d : ℤ) → T (le_z day_low d) → T (le_z d day_high) → InBounds day_low day_high d = λ d p q. record { above = le_z_yes p; below = le_z_yes q } in (
      record { day_in = day day_low tt tt; second_in = record { above = le_z_yes tt; below = le_z_yes tt }; offset_in = g },
      record { day_in = day day_high tt tt; second_in = record { above = le_z_yes tt; below = le_z_yes tt }; offset_in = g },
    )
