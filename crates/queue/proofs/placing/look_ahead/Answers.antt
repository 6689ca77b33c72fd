use Rattle.std.proofs.Common.{rules}
use Rattle.queue.specs.inner.Placing.{ahead_call}
use Rattle.queue.proofs.Promising.{ahead-looks}
use Rattle.queue.proofs.placing.look_ahead.Goals as goal

pub returns-in_err-cap : goal.returns-in_err-cap
unfolding ahead_call
returns-in_err-cap c = ahead-looks _ _ _ (search rules)

pub returns : goal.returns
unfolding ahead_call
returns c = ahead-looks _ _ _ (search rules)
