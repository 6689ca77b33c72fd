-- What is shown of a removal's model on a store that holds a queue; crate `queue` makes its promise of it.
use Rattle.std.specs.Prelude.{ℕ, ◌≤◌, ◌≡◌, List, length, get_or, Result}
use Rattle.arena.specs.Words.{need}
use Rattle.rules.specs.Queue.{Queue}
use Rattle.rules.specs.Answers.{Removed}
use Rattle.queue_of_store.specs.Holds.{Holds}
use Rattle.remove_means.specs.Meaning.{removed_means}
use Rattle.handle.specs.declared.Removed as D
use Rattle.handle.specs.declared.Refusal.{Refusal}

-- the answer is the definition's, the store afterwards holds the definition's queue, and nothing past its words is touched
pub record Removes (s : List ℕ) (cap : ℕ) (r : List ℕ × Result D.Removed Refusal) (m : Removed × Queue) : Type 0 where
  pub answer : removed_means r.1 ≡ m.0
  pub holds : Holds r.0 m.1
  pub long : length r.0 ≡ length s
  pub rest : (k : ℕ) → need cap ≤ k → get_or r.0 k 0 ≡ get_or s k 0
