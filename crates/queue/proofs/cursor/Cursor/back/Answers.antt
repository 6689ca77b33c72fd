use Rattle.queue.proofs.Promising.{back-looks}
use Rattle.queue.proofs.cursor.Cursor.back.Goals as goal

pub returns : goal.returns
returns c = search back-looks
