-- All that a proof knows of the budget: it is above the rank of any sound tree, and a rank below it can be raised within a word.
use Prim.Native.Nat.{ℕ, suc, ◌+◌, ◌-◌, ◌≤◌, ◌<◌}
use mathlib.Core.Path.{◌≡◌}
use native.Mathlib.Omega.{arith}
use Rattle.handle.specs.Numbers.{no_slot}
use Rattle.arena.specs.inner.Budget.{budget}

-- 31 is the greatest rank with as many entries as there are numbers for slots (`rank-le_31` of crate `wavl`)
pub budget_deep : 31 < budget
unfolding budget
budget_deep = omega arith

pub budget-fits : budget ≤ no_slot
unfolding budget
budget-fits = omega arith

-- of the budget's turns n are done: one more may be taken, or none
pub left : (n : ℕ) → n < budget → budget - n ≡ suc (budget - (n + 1))
left n h = omega arith

pub none_left : (n : ℕ) → budget ≤ n → budget - n ≡ 0
none_left n h = omega arith

-- for functions that raise a rank, which name it by `using`
pub ruleset raising = (budget-fits)
