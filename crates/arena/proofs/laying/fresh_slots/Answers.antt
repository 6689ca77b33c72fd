use mathlib.Core.Path.{◌∙◌}
use native.Mathlib.Omega.{arith}
use Rattle.arena.proofs.LayingTurns.{slots_turn, slots_end}
use Rattle.arena.proofs.laying.fresh_slots.Goals as goal

pub loop-i-preserved : goal.loop-i-preserved
loop-i-preserved c =
    let k = c.loop-i.invariant.0 in
    let e = c.fresh_slot.ensures in
    ((e.0 ∙ k.0, e.1 ∙ k.1), slots_turn _ _ _ _ c.loop-i.invariant.1 c.loop-i-test.true _ k.1 _ e.2)

pub returns : goal.returns
returns c = let k = c.loop-i.invariant.0 in (k.0, k.1, slots_end _ _ _ _ c.loop-i.invariant.1 (omega arith))
