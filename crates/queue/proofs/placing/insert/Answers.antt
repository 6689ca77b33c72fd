use Rattle.std.proofs.Common.{rules}
use Rattle.queue.specs.inner.Placing.{insert_call}
use Rattle.queue.proofs.Promising.{insert-writes}
use Rattle.queue.proofs.placing.insert.Goals as goal

pub returns-in_err-cap : goal.returns-in_err-cap
unfolding insert_call
returns-in_err-cap c = insert-writes _ _ _ _ _ (search rules)

pub returns : goal.returns
unfolding insert_call
returns c = insert-writes _ _ _ _ _ (search rules)
