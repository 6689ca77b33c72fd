use mathlib.Core.Path.{◌≡◌}
use Prim.Native.Nat.{◌-◌}
use Rattle.arena.specs.inner.Stored.{SameLoan}
use Rattle.arena.specs.inner.Laying.{lay_slots}
use Rattle.arena.proofs.laying.fresh_slots.Given as goal

abbrev pub invariant-loop-i : goal.invariant-loop-i
invariant-loop-i l =
    SameLoan l.initial.s l.s
    × (lay_slots (l.initial.s.cap - l.i) l.s.words.now l.initial.s.cap ≡ lay_slots l.initial.s.cap l.initial.s.words.now l.initial.s.cap)
