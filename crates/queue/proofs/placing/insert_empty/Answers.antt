use Rattle.std.proofs.Common.{rules}
use Rattle.queue.specs.inner.Placing.{empty_call}
use Rattle.queue.proofs.Promising.{empty-writes}
use Rattle.queue.proofs.placing.insert_empty.Goals as goal

pub returns-in_err-cap : goal.returns-in_err-cap
unfolding empty_call
returns-in_err-cap c = empty-writes _ _ _ _ _ (search rules)

pub returns : goal.returns
unfolding empty_call
returns c = empty-writes _ _ _ _ _ (search rules)
