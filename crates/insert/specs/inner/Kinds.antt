-- The kinds of insertion, as functions of the store, for any words.
-- Document 01, "Placing a strike": Normal, Empty, and Manual with the key looked at.
use Rattle.std.specs.Prelude.{ℕ, ◌+◌, ◌-◌, ◌<◌, ◌≤◌, Bool, List, ltb, leb, eqb, Result, Ok, Err}
use Rattle.handle.specs.Numbers.{no_slot}
use Rattle.handle.specs.declared.Handle.{Handle}
use Rattle.handle.specs.declared.Side.{Side}
use Rattle.handle.specs.declared.Side as S
use Rattle.arena.specs.Branch.{ifte}
use Rattle.arena.specs.inner.Entries.{is_live}
use Rattle.arena.specs.Words.{field, head, KEY, LEFT, PREV, ROOT}
use Rattle.find.specs.inner.Seeking.{seek_model}
use Rattle.find.specs.declared.Found.{Found}
use Rattle.find.specs.declared.Found as F
use Rattle.insert.specs.declared.kinds.Prepared.{Prepared}
use Rattle.insert.specs.declared.kinds.Prepared.TheVariants.{Alone, Beside, Replace}
use Rattle.handle.specs.declared.Refusal.TheVariants.{FailedOrdRequirement, NotSound}
use Rattle.handle.specs.declared.Refusal.{Refusal}

-- what a caller may rely on: a slot in the store, and a side
abbrev pub PreparedIn : ℕ → Result Prepared Refusal → Type 0
PreparedIn cap (Ok Alone) = Unit {0}
PreparedIn cap (Ok (Beside p d)) = (p < cap) × (d ≤ 1)
PreparedIn cap (Ok (Replace p)) = p < cap
PreparedIn cap (Err n) = Unit {0}

-- "Equal: the value is replaced [..] Otherwise a new entry is placed there."
abbrev pub as_found : Result Found Refusal → Result Prepared Refusal
as_found (Ok (F.TheVariants.Equal p n)) = Ok (Replace p)
as_found (Ok (F.TheVariants.Beside p d n)) = Ok (Beside p d)
as_found (Ok F.TheVariants.Empty) = Ok Alone
as_found (Err n) = Err n

unfoldable pub prepared_normal : List ℕ → ℕ → ℕ → Result Prepared Refusal
prepared_normal s cap k = as_found (seek_model s cap k)

-- "Empty: only into an empty queue."
unfoldable pub prepared_empty : List ℕ → Result Prepared Refusal
prepared_empty s = ifte (eqb (head s ROOT) no_slot) (Ok Alone) (Err FailedOrdRequirement)

-- a lies strictly on the side d of b
unfoldable pub lies_on : ℕ → ℕ → ℕ → Bool
lies_on d a b = ifte (eqb d 0) (ltb a b) (ltb b a)

-- "or equal the target's for Equal"
unfoldable pub prepared_equal : List ℕ → ℕ → ℕ → ℕ → Result Prepared Refusal
prepared_equal s cap i k = ifte (eqb (field s cap i KEY) k) (Ok (Replace i)) (Err FailedOrdRequirement)

-- "Less: if the target has a left child, the new entry becomes the right child of its prev, else the target's left child. Greater
-- mirrors this." The target's neighbour on the side d is q.
unfoldable pub place_beside : List ℕ → ℕ → ℕ → ℕ → ℕ → Result Prepared Refusal
place_beside s cap i d q = ifte (eqb (field s cap i (LEFT + d)) no_slot) (Ok (Beside i d)) (ifte (leb cap q) (Err NotSound) (Ok (Beside q (1 - d))))

-- the key against the neighbour q on the side d, if there is one
unfoldable pub beside_next : List ℕ → ℕ → ℕ → ℕ → ℕ → ℕ → Result Prepared Refusal
beside_next s cap i d k q =
    ifte (eqb q no_slot) (place_beside s cap i d q)
    (ifte (leb cap q) (Err NotSound)
    (ifte (lies_on (1 - d) k (field s cap q KEY)) (place_beside s cap i d q) (Err FailedOrdRequirement)))

-- "the key must lie strictly between the target's and its chain neighbour's on that side (if there is one)"
unfoldable pub prepared_beside : List ℕ → ℕ → ℕ → ℕ → ℕ → Result Prepared Refusal
prepared_beside s cap i d k = ifte (lies_on d k (field s cap i KEY)) (beside_next s cap i d k (field s cap i (PREV + d))) (Err FailedOrdRequirement)

abbrev pub by_side : List ℕ → ℕ → ℕ → ℕ → Side → Result Prepared Refusal
by_side s cap i k S.TheVariants.Less = prepared_beside s cap i 0 k
by_side s cap i k S.TheVariants.Equal = prepared_equal s cap i k
by_side s cap i k S.TheVariants.Greater = prepared_beside s cap i 1 k

-- "Manual: a live handle (the Rust takes a bare index) and a side."
unfoldable pub prepared_manual : List ℕ → ℕ → Handle → Side → ℕ → Result Prepared Refusal
prepared_manual s cap h side k = ifte (is_live s cap h) (by_side s cap h.slot.0 k side) (Err FailedOrdRequirement)
