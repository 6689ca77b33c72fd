use mathlib.Core.Path.{◌≡◌}
use Prim.Native.Nat.{◌-◌}
use Rattle.arena.specs.Words.{head_words}
use Rattle.arena.specs.inner.Stored.{SameLoan}
use Rattle.arena.specs.inner.Laying.{zeroed}
use Rattle.arena.proofs.laying.zero_header.Given as goal

abbrev pub invariant-loop-h : goal.invariant-loop-h
invariant-loop-h l = SameLoan l.initial.s l.s × (zeroed (head_words - l.h) l.s.words.now ≡ zeroed head_words l.initial.s.words.now)
