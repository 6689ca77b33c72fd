use mathlib.Core.Path.{◌∙◌}
use native.Mathlib.Omega.{arith}
use Rattle.arena.proofs.LayingTurns.{zero_turn, zero_end}
use Rattle.arena.proofs.laying.zero_header.Goals as goal

pub loop-h-preserved : goal.loop-h-preserved
loop-h-preserved c =
    let k = c.loop-h.invariant.0 in
    let e = c.put_head.ensures in
    ((e.0 ∙ k.0, e.1 ∙ k.1), zero_turn _ _ _ c.loop-h.invariant.1 (omega arith) _ e.2)

pub returns : goal.returns
returns c = let k = c.loop-h.invariant.0 in (k.0, k.1, zero_end _ _ _ c.loop-h.invariant.1 (omega arith))
