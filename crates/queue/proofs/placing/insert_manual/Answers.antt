use Rattle.std.proofs.Common.{rules}
use Rattle.queue.specs.inner.Placing.{manual_call}
use Rattle.queue.proofs.Promising.{manual-writes}
use Rattle.queue.proofs.placing.insert_manual.Goals as goal

pub returns-in_err-cap : goal.returns-in_err-cap
unfolding manual_call
returns-in_err-cap c = manual-writes _ _ _ _ _ _ _ (search rules)

pub returns : goal.returns
unfolding manual_call
returns c = manual-writes _ _ _ _ _ _ _ (search rules)
