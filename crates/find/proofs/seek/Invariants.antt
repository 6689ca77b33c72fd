use mathlib.Core.Path.{◌≡◌}
use Prim.Native.Nat.{◌-◌, ◌≤◌}
use Rattle.arena.specs.inner.Budget.{budget}
use Rattle.find.specs.inner.Seeking.{seek_from, seek_model}
use Rattle.find.proofs.seek.Given as goal

abbrev pub invariant-loop-n : goal.invariant-loop-n
invariant-loop-n l = (l.n ≤ budget) × (seek_from (budget - l.n) l.s.words.now l.s.cap l.k l.p l.n ≡ seek_model l.s.words.now l.s.cap l.k)

abbrev pub decreases-loop-n : goal.decreases-loop-n
decreases-loop-n l = budget - l.n
