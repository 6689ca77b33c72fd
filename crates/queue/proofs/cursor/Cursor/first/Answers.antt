use Rattle.queue.proofs.Promising.{first-looks}
use Rattle.queue.proofs.cursor.Cursor.first.Goals as goal

pub returns : goal.returns
returns c = search first-looks
