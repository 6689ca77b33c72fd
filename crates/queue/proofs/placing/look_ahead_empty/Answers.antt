use Rattle.std.proofs.Common.{rules}
use Rattle.queue.specs.inner.Placing.{ahead_empty_call}
use Rattle.queue.proofs.Promising.{ahead-empty-looks}
use Rattle.queue.proofs.placing.look_ahead_empty.Goals as goal

pub returns-in_err-cap : goal.returns-in_err-cap
unfolding ahead_empty_call
returns-in_err-cap c = ahead-empty-looks _ _ (search rules)

pub returns : goal.returns
unfolding ahead_empty_call
returns c = ahead-empty-looks _ _ (search rules)
