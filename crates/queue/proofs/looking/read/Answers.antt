use Rattle.std.proofs.Common.{rules}
use Rattle.queue.specs.inner.Looking.{read_call}
use Rattle.queue.proofs.Promising.{read_looks}
use Rattle.queue.proofs.looking.read.Goals as goal

pub returns-in_err-cap : goal.returns-in_err-cap
unfolding read_call
returns-in_err-cap c = read_looks _ _ _ (search rules)

pub returns : goal.returns
unfolding read_call
returns c = read_looks _ _ _ (search rules)
