use mathlib.Core.Path.{◌∙◌, ap}
use Rattle.std.proofs.lemmas.Result.{err_from_is_err_and}
use Rattle.std.specs.Prelude.{Ok}
use Rattle.arena.specs.inner.Budget.{budget}
use Rattle.lower.proofs.ClimbLoop.{ended, refused}
use Rattle.lower.proofs.climbing.climb.Goals as goal

pub returns-in_err-p2-clause-result_after : goal.returns-in_err-p2-clause-result_after
unfolding budget
returns-in_err-p2-clause-result_after c = let e = c.in_err-p2.was in let p = err_from_is_err_and c.from_residual.result c.from_residual.ensures.1 in rw (p.1, p.2) (search refused)

pub returns-in-Done-clause-result_after : goal.returns-in-Done-clause-result_after
unfolding budget
returns-in-Done-clause-result_after c = let e = c.in_ok-p2.was ∙ ap Ok c.in-Done.is in search ended
