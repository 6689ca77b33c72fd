-- Each level of the walk takes one from its budget.
use Rattle.sound.proofs.walking.+walk.Given as goal

abbrev pub decreases-walk : goal.decreases-walk
decreases-walk l = l.n
