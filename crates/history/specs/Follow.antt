-- What a store has to show so that demand 3 holds of it: each call answers as the definitions do and keeps holding their queue.
-- A reader may rely on this: proofs/Followed draws demand 3 for a whole run from these two facts about one call.
use Rattle.std.specs.Prelude.{◌≡◌, Bool, ℕ}
use Rattle.rules.specs.Queue.{Queue}
use Rattle.rules.specs.Sound.{Sound}
use Rattle.rules.specs.Calls.{Call, Answer, answer}
use Rattle.history.specs.Book.{Book}
use Rattle.history.specs.Demand.{Demand}

-- Keeps: the store holds the queue. enough: for which capacities it is long enough.
pub record Follows (S : Type 0) (step : (c : Call) → S → Answer c × S) (enough : ℕ → Bool) (Keeps : S → Queue → Type 0) : Type 0 where
  pub same_answer : (c : Call) (s : S) (q : Queue) → Sound q → Keeps s q → (step c s).0 ≡ (answer enough c q).0
  pub same_queue : (c : Call) (s : S) (q : Queue) → Sound q → Keeps s q → Keeps (step c s).1 (answer enough c q).1

-- what is then said of a store after a history: it holds a queue, demand 3 says all of that queue, and the next call answers as it does
pub record Demanded (S : Type 0) (step : (c : Call) → S → Answer c × S) (enough : ℕ → Bool) (Keeps : S → Queue → Type 0) (b : Book) (s : S) : Type 0 where
  pub queue : Queue
  pub keeps : Keeps s queue
  pub demand : Demand b queue
  pub answers : (c : Call) → (step c s).0 ≡ (answer enough c queue).0
