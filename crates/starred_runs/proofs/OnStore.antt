-- The starred runs hold of a laid out store as well: the table's theorem, carried over through what the store follows.
-- A reader may rely on starred_on_the_store, for every store that is long enough for the run's capacity.
use mathlib.Core.Path.{ap, subst, ◌∙◌}
use mathlib.Core.List.{List}
use Prim.Native.Nat.{ℕ}
use lib.ListN.{length}
use Rattle.wavl.specs.Lists.{All}
use Rattle.wavl.proofs.Lists.{all_map}
use Rattle.arena.specs.Laying.{GoodLayout}
use Rattle.arena.specs.inner.Laying.{lay_out_words}
use Rattle.rules.specs.Queue.{Queue}
use Rattle.rules.specs.Calls.{History, run_by}
use Rattle.queue_of_store.specs.Holds.{Holds}
use Rattle.queue.specs.Promises.{enough_in}
use Rattle.history_of_store.specs.Store.{on_store}
use Rattle.history_of_store.proofs.Linked.{run_on_the_store}
use Rattle.starred_runs.specs.Starred.{Run, calls, Comes, runs}
use Rattle.starred_runs.specs.OnStore.{OnStore}
use Rattle.starred_runs.proofs.Starred.{starred}

comes_on_store : (s : List ℕ) (r : Run) → Comes r → (g : GoodLayout (length s) r.capacity r.top) → OnStore s r
comes_on_store s r c g =
    let o = run_on_the_store s r.capacity r.top g (calls r) in
    let e = c.0 (enough_in s) in
    record {
      answers = o.0 ∙ ap (λ (x : History × Queue). x.0) e;
      holds = subst (λ (x : Queue). Holds (run_by on_store (calls r) (lay_out_words s r.capacity r.top).0).1 x) (ap (λ (x : History × Queue). x.1) e) o.1.holds;
    }

pub starred_on_the_store : (s : List ℕ) → All (λ r. (g : GoodLayout (length s) r.capacity r.top) → OnStore s r) runs
starred_on_the_store s = all_map _ _ (λ r c. comes_on_store s r c) runs starred.queue
