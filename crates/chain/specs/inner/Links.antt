-- Linking in and out, as functions of the store, for any words. Left and right are one definition over the side d, 0 or 1.
-- Document 01, soundness 3: "The chain from first to last meets each live slot once [..]; prev and next agree."
use Rattle.std.specs.Prelude.{ℕ, ◌+◌, ◌-◌, List, ltb}
use Rattle.handle.specs.Numbers.{no_slot}
use Rattle.arena.specs.Branch.{ifte}
use Rattle.arena.specs.Words.{field, put, put_head, PREV, NEXT, FIRST, LAST}
use Rattle.chain.specs.declared.Neighbours.{Neighbours}

-- the word that leads to what stands on side d of q, at p or at the end where p is no slot, comes to hold q
unfoldable pub hooked : List ℕ → ℕ → ℕ → ℕ → ℕ → List ℕ
hooked s cap p q d = ifte (ltb p cap) (put s cap p (NEXT - d) q) (put_head s (FIRST + d) q)

unfoldable pub link_alone : List ℕ → ℕ → ℕ → List ℕ
link_alone s cap i = put_head (put_head (put (put s cap i PREV no_slot) cap i NEXT no_slot) FIRST i) LAST i

-- the slot i between p and its neighbour q on side d
unfoldable pub between : List ℕ → ℕ → ℕ → ℕ → ℕ → ℕ → List ℕ
between s cap i p q d = hooked (put (put (put s cap i (PREV + d) q) cap i (NEXT - d) p) cap p (PREV + d) i) cap q i d

unfoldable pub link_beside : List ℕ → ℕ → ℕ → ℕ → ℕ → List ℕ
link_beside s cap i p d = between s cap i p (field s cap p (PREV + d)) d

-- p and q, before and after, become neighbours
unfoldable pub joined : List ℕ → ℕ → ℕ → ℕ → List ℕ
joined s cap p q = hooked (hooked s cap p q 0) cap q p 1

unfoldable pub neighbours : List ℕ → ℕ → ℕ → Neighbours
neighbours s cap i = record { prev = field s cap i PREV; next = field s cap i NEXT }

unfoldable pub unlink_slot : List ℕ → ℕ → ℕ → List ℕ × Neighbours
unlink_slot s cap i = (joined s cap (field s cap i PREV) (field s cap i NEXT), neighbours s cap i)
