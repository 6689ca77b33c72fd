use Rattle.std.proofs.Common.{rules}
use Rattle.due.proofs.rest.Goals as goal
use Rattle.due.proofs.Euclid.{rest_reads}

pub returns : goal.returns
returns c = search (rules, rest_reads)
