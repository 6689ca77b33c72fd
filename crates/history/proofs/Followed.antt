-- Demand 3 for anything that follows the definitions call by call: what the store's models have to be linked to.
-- A reader may rely on follows-demand once a store's step is shown to follow (specs/Follow); crate `history_of_store` does.
use mathlib.Core.Path.{◌≡◌, refl}
use mathlib.Core.Bool.{Bool}
use mathlib.Core.List.{List, [], ◌∷◌}
use Prim.Native.Nat.{ℕ}
use lib.ListN.{length}
use Rattle.handle.specs.Numbers.{InRange}
use Rattle.rules.specs.Queue.{Queue, fresh, entries}
use Rattle.rules.specs.Sound.{Sound}
use Rattle.rules.specs.Calls.{Call, Answer, answer, run_by, run}
use Rattle.rules.proofs.Kept.{fresh-sound}
use Rattle.rules.proofs.History.{answer-sound}
use Rattle.history.specs.Book.{begun, kept}
use Rattle.history.specs.Follow.{Follows, Demanded}
use Rattle.history.proofs.Demand3.{demand_3, demand_3_fresh}

module _ (S : Type 0) (step : (c : Call) → S → Answer c × S) (enough : ℕ → Bool) (Keeps : S → Queue → Type 0) (f : Follows S step enough Keeps) where
  -- the whole run answers as the definitions do, and ends with their queue
  pub follows-run : (l : List Call) (s : S) (q : Queue) → Sound q → Keeps s q
      → ((run_by step l s).0 ≡ (run enough l q).0) × Keeps (run_by step l s).1 (run enough l q).1
  unfolding run_by
  follows-run [] s q o k = (refl, k)
  follows-run (c ∷ l) s q o k =
      let e = f.same_answer c s q o k in
      let i = follows-run l (step c s).1 (answer enough c q).1 (answer-sound enough c q o) (f.same_queue c s q o k) in
      (rw (e, i.0), i.1)

  -- a store that holds a sound queue: after any list of calls it holds a queue of which demand 3 says all, and answers as that queue does
  pub follows-demand : (q : Queue) → Sound q → (s : S) → Keeps s q → (l : List Call)
      → Demanded S step enough Keeps (kept (begun (entries q) (length q.free)) (run_by step l s).0) (run_by step l s).1
  follows-demand q o s k l =
      let i = follows-run l s q o k in
      let d = demand_3 enough q o l in
      record { queue = (run enough l q).1; keeps = i.1; demand = rw i.0 d; answers = λ c. f.same_answer c (run_by step l s).1 (run enough l q).1 d.sound i.1 }

  -- a store laid out fresh: the case with no entries
  pub follows-fresh : (capacity top : ℕ) → InRange capacity top → (s : S) → Keeps s (fresh capacity top) → (l : List Call)
      → Demanded S step enough Keeps (kept (begun [] capacity) (run_by step l s).0) (run_by step l s).1
  follows-fresh capacity top r s k l =
      let q = fresh capacity top in
      let i = follows-run l s q (fresh-sound capacity top r) k in
      let d = demand_3_fresh enough capacity top r l in
      record { queue = (run enough l q).1; keeps = i.1; demand = rw i.0 d; answers = λ c. f.same_answer c (run_by step l s).1 (run enough l q).1 d.sound i.1 }
