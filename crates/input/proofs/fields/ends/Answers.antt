use Rattle.input.proofs.Cutting.{ends_so}
use Rattle.input.proofs.fields.ends.Goals as goal

pub returns : goal.returns
returns c = search ends_so
