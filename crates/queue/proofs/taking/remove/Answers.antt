use Rattle.std.proofs.Common.{rules}
use Rattle.queue.specs.inner.Taking.{remove_call}
use Rattle.queue.proofs.Promising.{remove-writes}
use Rattle.queue.proofs.taking.remove.Goals as goal

pub returns-in_err-cap : goal.returns-in_err-cap
unfolding remove_call
returns-in_err-cap c = remove-writes _ _ _ _ (search rules)

pub returns : goal.returns
unfolding remove_call
returns c = remove-writes _ _ _ _ (search rules)
