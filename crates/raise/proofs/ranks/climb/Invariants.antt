use mathlib.Core.Path.{◌≡◌}
use Prim.Native.Nat.{◌-◌, ◌<◌}
use Rattle.arena.specs.inner.Stored.{SameLoan}
use Rattle.arena.specs.inner.Budget.{budget}
use Rattle.raise.specs.inner.Ranks.{raise_from}
use Rattle.raise.proofs.ranks.climb.Given as goal

abbrev pub invariant-loop : goal.invariant-loop
invariant-loop l =
    SameLoan l.initial.s l.s × (l.p0 < l.s.cap) × (l.p1 < l.s.cap) × (l.p2 < l.s.cap)
    × (raise_from (budget - l.counter) l.s.words.now l.s.cap l.p0 l.p1 l.p2 l.d01 l.d12 ≡ raise_from budget l.initial.s.words.now l.initial.s.cap l.q0 l.q1 l.q2 l.fn.e01 l.fn.e12)
