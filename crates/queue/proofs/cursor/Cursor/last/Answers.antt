use Rattle.queue.proofs.Promising.{last-looks}
use Rattle.queue.proofs.cursor.Cursor.last.Goals as goal

pub returns : goal.returns
returns c = search last-looks
