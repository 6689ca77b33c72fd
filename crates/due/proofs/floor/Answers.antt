use Rattle.std.proofs.Common.{rules}
use Rattle.due.proofs.floor.Goals as goal
use Rattle.due.proofs.Euclid.{floor_reads}

pub returns : goal.returns
returns c = search (rules, floor_reads)
