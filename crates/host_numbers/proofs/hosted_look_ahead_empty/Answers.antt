-- The look-ahead of Empty serves any key: 0 stands for it here.
use lib.IntN.{pos}
use Rattle.host_numbers.specs.inner.Told.{tells}
use Rattle.std.proofs.Common.{rules}
use Rattle.host_numbers.proofs.hosted_look_ahead_empty.Goals as goal

pub returns : goal.returns
unfolding tells
returns c = let e = (c.look_ahead_empty-r.ensures (pos 0)).does in search rules
