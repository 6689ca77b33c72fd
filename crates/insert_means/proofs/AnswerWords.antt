-- An insertion's answer and words, before the definition's queue is known to be sound.
-- A reader may rely on nothing here: with soundness from crate `rules` this becomes Inserts, in Swapped.
use mathlib.Core.Path.{◌≡◌}
use mathlib.Core.List.{List}
use Prim.Native.Nat.{ℕ}
use Rattle.rules.specs.Queue.{Queue}
use Rattle.rules.specs.Answers.{Inserted}
use Rattle.queue_of_store.specs.inner.Words.{Words}
use Rattle.insert_means.specs.Meaning.{inserted_means}
use Rattle.handle.specs.declared.Inserted as I
use Rattle.std.specs.Prelude.{Result}
use Rattle.handle.specs.declared.Refusal.{Refusal}

-- the answer is the definition's, and the store afterwards has the words of the definition's queue
pub record Answers (r : List ℕ × Result I.Inserted Refusal) (m : Inserted × Queue) : Type 0 where
  pub answer : inserted_means r.1 ≡ m.0
  pub words : Words r.0 m.1
