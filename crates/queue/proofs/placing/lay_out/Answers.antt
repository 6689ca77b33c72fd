use Rattle.queue.proofs.Promising.{lays}
use Rattle.queue.proofs.placing.lay_out.Goals as goal

pub returns : goal.returns
returns c = search lays
