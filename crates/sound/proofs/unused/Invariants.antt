-- k words are left, and what the model says of them is what it says of all ten.
use mathlib.Core.Path.{◌≡◌}
use Prim.Native.Nat.{◌≤◌}
use Rattle.sound.specs.inner.Check.{unused_test}
use Rattle.sound.proofs.unused.Given as goal

abbrev pub invariant-loop-k : goal.invariant-loop-k
invariant-loop-k l = (l.k ≤ 10) × (unused_test l.k l.s.words.now ≡ unused_test 10 l.s.words.now)

abbrev pub decreases-loop-k : goal.decreases-loop-k
decreases-loop-k l = l.k
