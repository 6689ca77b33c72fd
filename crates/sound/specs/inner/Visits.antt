-- How many nodes the walk tests, for any words: what its time grows with. It follows specs/Walking step by step.
-- Base 5 asks that the check "ends in a time that grows with the capacity"; proofs/Visited bounds this number.
use Rattle.std.specs.Prelude.{ℕ, zero, suc, ◌+◌, List, eqb}
use Rattle.handle.specs.Numbers.{no_slot}
use Rattle.arena.specs.Branch.{ifte}
use Rattle.arena.specs.Words.{field, head, LEFT, RIGHT, ROOT}
use Rattle.arena.specs.inner.Budget.{budget}
use Rattle.sound.specs.inner.Nodes.{node_test}
use Rattle.sound.specs.inner.Joints.{join_test}
use Rattle.sound.specs.inner.Walking.{onward, walk_model}

unfoldable pub visits : ℕ → List ℕ → ℕ → ℕ → ℕ → ℕ → ℕ → ℕ
visits zero s cap top back p q = 0
visits (suc n) s cap top back p q =
    ifte (eqb p no_slot) 0
    (ifte (node_test s cap top back p)
    (suc (visits n s cap top p (field s cap p LEFT) q
    + onward (walk_model n s cap top p (field s cap p LEFT) q) (λ x. ifte (join_test s cap x p) (visits n s cap top p (field s cap p RIGHT) p) 0) 0)) 1)

-- of the whole walk
unfoldable pub all_visits : List ℕ → ℕ → ℕ → ℕ
all_visits s cap top = visits budget s cap top no_slot (head s ROOT) no_slot
