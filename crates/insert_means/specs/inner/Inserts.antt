-- What is shown of an insertion's model on a store that holds a queue; crate `queue` makes its promise of it.
use Rattle.std.specs.Prelude.{ℕ, ◌≡◌, List, Result}
use Rattle.insert.specs.inner.Kept.{Within}
use Rattle.rules.specs.Queue.{Queue}
use Rattle.rules.specs.Answers.{Inserted}
use Rattle.queue_of_store.specs.Holds.{Holds}
use Rattle.insert_means.specs.Meaning.{inserted_means}
use Rattle.handle.specs.declared.Inserted as I
use Rattle.handle.specs.declared.Refusal.{Refusal}

-- the whole promise of an insertion with a store s that holds a queue: the definition's answer, the definition's queue, and what every
-- insertion leaves alone: the length and the numbers past those that the capacity needs among it
pub record Inserts (s : List ℕ) (cap : ℕ) (r : List ℕ × Result I.Inserted Refusal) (m : Inserted × Queue) : Type 0 where
  pub answer : inserted_means r.1 ≡ m.0
  pub holds : Holds r.0 m.1
  pub keeps : Within s r.0 cap
