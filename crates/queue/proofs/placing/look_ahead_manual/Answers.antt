use Rattle.std.proofs.Common.{rules}
use Rattle.queue.specs.inner.Placing.{ahead_manual_call}
use Rattle.queue.proofs.Promising.{ahead-manual-looks}
use Rattle.queue.proofs.placing.look_ahead_manual.Goals as goal

pub returns-in_err-cap : goal.returns-in_err-cap
unfolding ahead_manual_call
returns-in_err-cap c = ahead-manual-looks _ _ _ _ _ (search rules)

pub returns : goal.returns
unfolding ahead_manual_call
returns c = ahead-manual-looks _ _ _ _ _ (search rules)
