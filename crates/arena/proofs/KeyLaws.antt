-- The laws of the stored form: it keeps order both ways, fits a word, and is undone, for every signed 64-bit number.
use Prim.Native.Nat.{ℕ, suc, ◌+◌, ◌-◌, ◌^◌, ◌≤◌, ◌<◌}
use mathlib.Core.Path.{◌≡◌, ap}
use native.Mathlib.Omega.{arith}
use native.Mathlib.Decide.{dec_lt}
use lib.Dec.{lt→ltb, ltb→lt}
use lib.IntN.{ℤ, pos, negsuc}
use lib.Signed.{◌<ℤ◌, lt_z_yes}
use borrow.Author.Tests.{lt-ltb, le-ltb}
use mir.Syntax.{w64}
use mir.Val.{SFits}
use Rattle.arena.specs.Keys.{stored, signed}

pub stored-fits : (z : ℤ) → SFits w64 z → stored z < 2 ^ 64
unfolding stored
stored-fits (pos n) f = let h : n < 2 ^ 63 = f.sfits in omega arith
stored-fits (negsuc n) f = omega arith

pub stored_undone : (z : ℤ) → SFits w64 z → signed (stored z) ≡ z
unfolding stored signed
stored_undone (pos n) f =
    let l : 2 ^ 63 ≤ n + 2 ^ 63 = omega arith in
    let e : n + 2 ^ 63 - 2 ^ 63 ≡ n = omega arith in rw (le-ltb (n + 2 ^ 63) (2 ^ 63) l) (ap pos e)
stored_undone (negsuc n) f =
    let h : n < 2 ^ 63 = f.sfits in
    let l : 2 ^ 63 - suc n < 2 ^ 63 = omega arith in
    let e : 2 ^ 63 - suc (2 ^ 63 - suc n) ≡ n = omega arith in rw (lt-ltb (2 ^ 63 - suc n) (2 ^ 63) l) (ap negsuc e)

pub signed_low : (w : ℕ) → w < 2 ^ 63 → signed w ≡ negsuc (2 ^ 63 - suc w)
unfolding signed
signed_low w h = rw (lt-ltb w (2 ^ 63) h)

pub signed_high : (w : ℕ) → 2 ^ 63 ≤ w → signed w ≡ pos (w - 2 ^ 63)
unfolding signed
signed_high w h = rw (le-ltb w (2 ^ 63) h)

pub signed_undone : (w : ℕ) → stored (signed w) ≡ w
unfolding stored
signed_undone w = go (dec_lt w (2 ^ 63))
  where
    go : Dec (w < 2 ^ 63) → stored (signed w) ≡ w
    go (yes l) = rw (signed_low w l) (omega arith)
    go (no l) = let l' : 2 ^ 63 ≤ w = omega arith in rw (signed_high w l') (omega arith)

pub signed-fits : (w : ℕ) → w < 2 ^ 64 → SFits w64 (signed w)
signed-fits w h = go (dec_lt w (2 ^ 63))
  where
    go : Dec (w < 2 ^ 63) → SFits w64 (signed w)
    go (yes l) = rw (signed_low w l) (record { sfits = omega arith })
    go (no l) = let l' : 2 ^ 63 ≤ w = omega arith in rw (signed_high w l') (record { sfits = omega arith })

pub stored-keeps : (a b : ℤ) → SFits w64 a → SFits w64 b → a <ℤ b → stored a < stored b
unfolding stored
stored-keeps (pos a) (pos b) f g h = let l : a < b = ltb→lt a b h.lt in omega arith
stored-keeps (pos a) (negsuc b) f g h = absurd h.lt
stored-keeps (negsuc a) (pos b) f g h = let k : a < 2 ^ 63 = f.sfits in omega arith
stored-keeps (negsuc a) (negsuc b) f g h = let l : b < a = ltb→lt b a h.lt in let k : a < 2 ^ 63 = f.sfits in omega arith

pub stored-shows : (a b : ℤ) → SFits w64 a → SFits w64 b → stored a < stored b → a <ℤ b
unfolding stored
stored-shows (pos a) (pos b) f g h = lt_z_yes (lt→ltb a b (omega arith))
stored-shows (pos a) (negsuc b) f g h = absurd (omega arith)
stored-shows (negsuc a) (pos b) f g h = lt_z_yes tt
stored-shows (negsuc a) (negsuc b) f g h = let k : a < 2 ^ 63 = f.sfits in let l : b < 2 ^ 63 = g.sfits in lt_z_yes (lt→ltb b a (omega arith))
