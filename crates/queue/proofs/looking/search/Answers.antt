use Rattle.std.proofs.Common.{rules}
use Rattle.queue.specs.inner.Looking.{search_call}
use Rattle.queue.proofs.Promising.{search-looks}
use Rattle.queue.proofs.looking.search.Goals as goal

pub returns-in_err-cap : goal.returns-in_err-cap
unfolding search_call
returns-in_err-cap c = search-looks _ _ _ (search rules)

pub returns : goal.returns
unfolding search_call
returns c = search-looks _ _ _ (search rules)
