use mathlib.Core.Path.{◌≡◌}
use Prim.Native.Nat.{◌-◌, ◌<◌}
use Rattle.arena.specs.inner.Stored.{SameLoan}
use Rattle.arena.specs.inner.Budget.{budget}
use Rattle.lower.specs.inner.Climb.{lower_from}
use Rattle.lower.proofs.climbing.climb.Given as goal

abbrev pub invariant-loop : goal.invariant-loop
invariant-loop l =
    SameLoan l.initial.s l.s × (l.p1 < l.s.cap)
    × (lower_from (budget - l.counter) l.s.words.now l.s.cap l.p1 l.d ≡ lower_from budget l.initial.s.words.now l.initial.s.cap l.start l.fn.side)
