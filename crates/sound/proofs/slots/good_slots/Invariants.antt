-- i slots and places are left, and what the model says of them is what it says of all.
use mathlib.Core.Path.{◌≡◌}
use Prim.Native.Nat.{◌≤◌}
use Rattle.sound.specs.inner.Slots.{slots_test}
use Rattle.sound.proofs.slots.good_slots.Given as goal

abbrev pub invariant-loop-i : goal.invariant-loop-i
invariant-loop-i l = (l.i ≤ l.s.cap) × (slots_test l.i l.s.words.now l.s.cap l.top l.h ≡ slots_test l.s.cap l.s.words.now l.s.cap l.top l.h)

abbrev pub decreases-loop-i : goal.decreases-loop-i
decreases-loop-i l = l.i
