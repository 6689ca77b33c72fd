use Rattle.std.proofs.Common.{rules}
use Rattle.queue.specs.inner.Moving.{stand_call, stand_in}
use Rattle.queue.proofs.Promising.{stand_looks}
use Rattle.queue.proofs.cursor.Cursor.at.Goals as goal

pub returns-in_err-cap : goal.returns-in_err-cap
unfolding stand_call stand_in
returns-in_err-cap c = stand_looks _ _ _ (search rules)

pub returns-then-not-live : goal.returns-then-not-live
unfolding stand_call stand_in
returns-then-not-live c = stand_looks _ _ _ (search rules)

pub returns : goal.returns
unfolding stand_call stand_in
returns c = stand_looks _ _ _ (search rules)
