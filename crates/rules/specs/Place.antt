-- Where the entry stands that a handle names.
-- A reader may rely on this: nothing here looks at keys, so equal keys (request 8) would change nothing here.
use Rattle.std.specs.Prelude.{ℕ}
use Rattle.std.proofs.Math.Decide.{ℕ_discrete}
use Rattle.wavl.specs.Lists.{choose}
use Rattle.wavl.specs.Entry.{Entry}
use Rattle.wavl.specs.Tree.{Tree, tip, fork}
use Rattle.wavl.specs.Way.{Way, Place, place}
use Rattle.wavl.specs.Search.{locate}
use Rattle.rules.specs.Queue.{Handle, Queue}

-- nowhere, or a node taken apart (left child, entry, rank, right child) with the way up from it
pub data Spot : Type 0 where
  nowhere : Spot
  spot : Tree → Entry → ℕ → Tree → Way → Spot

-- the node that holds the handle's slot counts only if it has the handle's generation
unfoldable pub of_generation : ℕ → Place → Spot
of_generation g (place tip p) = nowhere
of_generation g (place (fork a x r b) p) = choose (ℕ_discrete x.generation g) (spot a x r b p) nowhere

unfoldable pub spot_of : Handle → Queue → Spot
spot_of h q = of_generation h.generation (locate h.slot q.tree)
