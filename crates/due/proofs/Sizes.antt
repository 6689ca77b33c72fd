-- Which signed numbers fit 64 bits, by their two naturals (`up` and `down` of proofs/Signs), so that omega shows that
-- a sum fits. Assumes nothing.
use mathlib.Core.Path.{◌≡◌}
use Prim.Native.Nat.{ℕ, ◌≤◌, ◌<◌, ◌^◌}
use native.Mathlib.Omega.{arith}
use lib.IntN.{ℤ, pos, negsuc}
use mir.Syntax.{w32, w64}
use mir.Val.{Fits, SFits, to_z}
use mir.Facts.{to_z-of_z}
use Rattle.due.proofs.Signs.{up, down}

pub sizes : (z : ℤ) → SFits w64 z → (up z < 2 ^ 63) × (down z ≤ 2 ^ 63)
sizes (pos n) f = (f.sfits, omega arith)
sizes (negsuc n) f = (omega arith, f.sfits)

pub fits : (z : ℤ) → up z < 2 ^ 63 → down z ≤ 2 ^ 63 → SFits w64 z
fits (pos n) p q = record { sfits = p }
fits (negsuc n) p q = record { sfits = q }

-- a 32-bit number that was cast to i64 reads as itself
pub wide_fits : {k : ℕ} → Fits w32 k → SFits w64 (pos k)
wide_fits h = record { sfits = omega arith }

pub wide_reads : {k : ℕ} → Fits w32 k → to_z w64 k ≡ pos k
wide_reads {k} h = to_z-of_z (wide_fits h)
