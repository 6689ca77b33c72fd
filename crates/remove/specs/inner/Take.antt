-- Taking a node out of the tree, as a function of the store, for any words; what no sound store comes to is refused.
-- Document 01: "A node with a child is replaced by its chain prev, or by its next if it has rank 2 and no left child, or no prev; the
-- replacement takes its rank and place. [..] Then climb from the parent n1 of the emptied place, its child there being n0. If that parent
-- is left childless it gets rank 1 and the climb goes one up."
use Rattle.std.specs.Prelude.{ℕ, Bool, false, List, leb, eqb, Result, Ok, Err, ⊤}
use Rattle.handle.specs.Numbers.{no_slot}
use Rattle.arena.specs.Branch.{ifte}
use Rattle.arena.specs.Words.{field, LEFT, RIGHT, PREV, NEXT}
use Rattle.arena.specs.inner.Budget.{budget}
use Rattle.tree.specs.inner.Climb.{on_climbed}
use Rattle.lower.specs.inner.Climb.{lower_one, lower_from}
use Rattle.remove.specs.inner.Lift.{lift_out, node_replaced}
use Rattle.remove.specs.declared.lifting.Lifted.{Lifted}
use Rattle.tree.specs.declared.Climbed.{Climbed}
use Rattle.handle.specs.declared.Refusal.{Refusal}
use Rattle.handle.specs.declared.Refusal.TheVariants.{NotSound}

unfoldable pub is_childless : List ℕ → ℕ → ℕ → Bool
is_childless s cap i = ifte (eqb (field s cap i LEFT) no_slot) (eqb (field s cap i RIGHT) no_slot) false

-- the climb from where a step up has come
abbrev pub climb_on : List ℕ × (Result Climbed Refusal) → ℕ → List ℕ × Result ⊤ Refusal
climb_on x cap = on_climbed x.1 (lower_from budget x.0 cap) x.0

-- a node left childless gets rank 1, and the climb goes one up
unfoldable pub settle_bare : List ℕ → ℕ → ℕ → List ℕ × Result ⊤ Refusal
settle_bare s cap q = climb_on (lower_one s cap q 1) cap

-- the ranks from q on, whose child on the side e lost a node
unfoldable pub settle_at : List ℕ → ℕ → ℕ → ℕ → List ℕ × Result ⊤ Refusal
settle_at s cap q e = ifte (leb cap q) (s, Ok tt) (ifte (is_childless s cap q) (settle_bare s cap q) (lower_from budget s cap q e))

-- what replaces a node with a child
unfoldable pub replacement_of : List ℕ → ℕ → ℕ → ℕ
replacement_of s cap i = ifte (eqb (field s cap i LEFT) no_slot) (field s cap i NEXT) (field s cap i PREV)

-- m was lifted out, and takes i's place; where m hung under i, the emptied place is now under m
unfoldable pub filled_from : List ℕ × Lifted → ℕ → ℕ → ℕ → List ℕ × Result ⊤ Refusal
filled_from x cap i m =
    ifte (eqb x.1.under i) (settle_at (node_replaced x.0 cap i m) cap m x.1.side)
    (settle_at (node_replaced x.0 cap i m) cap x.1.under x.1.side)

unfoldable pub filled_by : List ℕ → ℕ → ℕ → ℕ → List ℕ × Result ⊤ Refusal
filled_by s cap i m = filled_from (lift_out s cap m) cap i m

-- a leaf was lifted out
unfoldable pub closed_from : List ℕ × Lifted → ℕ → List ℕ × Result ⊤ Refusal
closed_from x cap = settle_at x.0 cap x.1.under x.1.side

-- by the replacement m
unfoldable pub take_over : List ℕ → ℕ → ℕ → ℕ → List ℕ × Result ⊤ Refusal
take_over s cap i m = ifte (leb cap m) (s, Err NotSound) (filled_by s cap i m)

unfoldable pub take_out : List ℕ → ℕ → ℕ → List ℕ × Result ⊤ Refusal
take_out s cap i = ifte (is_childless s cap i) (closed_from (lift_out s cap i) cap) (take_over s cap i (replacement_of s cap i))
