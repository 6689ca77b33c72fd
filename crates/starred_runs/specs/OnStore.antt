-- A starred run on a store that was laid out with the run's capacity and top generation, whatever it held before.
-- A reader may rely on this: proofs/OnStore proves it of every run of the table and every store that is long enough.
use Rattle.std.specs.Prelude.{◌≡◌, List, ℕ}
use Rattle.arena.specs.inner.Laying.{lay_out_words}
use Rattle.rules.specs.Calls.{run_by}
use Rattle.queue_of_store.specs.Holds.{Holds}
use Rattle.history_of_store.specs.Store.{on_store}
use Rattle.starred_runs.specs.Starred.{Run, calls, leaves}

-- the calls have the run's answers, and the store holds the queue that the run leaves
pub record OnStore (s : List ℕ) (r : Run) : Type 0 where
  pub answers : (run_by on_store (calls r) (lay_out_words s r.capacity r.top).0).0 ≡ r.steps
  pub holds : Holds (run_by on_store (calls r) (lay_out_words s r.capacity r.top).0).1 (leaves r)
