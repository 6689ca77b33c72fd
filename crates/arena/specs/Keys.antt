-- The stored form of a key. Document 01: "Key: any signed 64-bit number."
-- A reader may rely on proofs/KeyLaws.antt: the stored form keeps order both ways and is undone.
use Rattle.std.specs.Prelude.{ℕ, suc, ◌+◌, ◌-◌, ◌^◌, ℤ, pos, negsuc, ltb}
use Rattle.arena.specs.Branch.{ifte}

-- the key and 2^63
unfoldable pub stored : ℤ → ℕ
stored (pos n) = n + 2 ^ 63
stored (negsuc n) = 2 ^ 63 - suc n

-- the key whose stored form is w
unfoldable pub signed : ℕ → ℤ
signed w = ifte (ltb w (2 ^ 63)) (negsuc (2 ^ 63 - suc w)) (pos (w - 2 ^ 63))
