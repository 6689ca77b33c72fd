-- The walk of the tree, left to right, as a function of the store, for any words.
-- Document 01, rule 1: "Live slots form one tree from the root"; rule 3: "The chain .. meets each live slot once, in the tree's
-- left-to-right order". The walk joins each entry to the one before it, so it follows tree and chain at once.
use Rattle.std.specs.Prelude.{ℕ, zero, suc, Bool, false, List, eqb, Option, Some, None}
use Rattle.handle.specs.Numbers.{no_slot}
use Rattle.arena.specs.Branch.{ifte}
use Rattle.arena.specs.Words.{field, head, LEFT, RIGHT, ROOT}
use Rattle.arena.specs.inner.Budget.{budget}
use Rattle.sound.specs.inner.Nodes.{node_test}
use Rattle.sound.specs.inner.Joints.{join_test}

-- what is done after a walk, unless it broke off
abbrev pub onward : {A : Type 0} → Option ℕ → (ℕ → A) → A → A
onward (Some x) f b = f x
onward None f b = b

-- at the node p: `near` is what the walk of the left child came to, `far` what that of the right one comes to
abbrev pub walk_node : List ℕ → ℕ → ℕ → Option ℕ → Option ℕ → Option ℕ
walk_node s cap p near far = onward near (λ x. ifte (join_test s cap x p) far None) None

-- what hangs at the link p below the slot `back`, after the slot q; so many more levels may be entered
unfoldable pub walk_model : ℕ → List ℕ → ℕ → ℕ → ℕ → ℕ → ℕ → Option ℕ
walk_model zero s cap top back p q = ifte (eqb p no_slot) (Some q) None
walk_model (suc n) s cap top back p q =
    ifte (eqb p no_slot) (Some q)
    (ifte (node_test s cap top back p)
    (walk_node s cap p (walk_model n s cap top p (field s cap p LEFT) q) (walk_model n s cap top p (field s cap p RIGHT) p)) None)

-- from the root; after the slot met last stands no slot
unfoldable pub whole_test : List ℕ → ℕ → ℕ → Bool
whole_test s cap top = onward (walk_model budget s cap top no_slot (head s ROOT) no_slot) (λ x. join_test s cap x no_slot) false
