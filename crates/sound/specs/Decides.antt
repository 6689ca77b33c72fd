-- The promise of the check. Document 01: "The check answers yes exactly when the store is sound, and no otherwise, short stores
-- included." A reader may rely on: it holds for any words; proofs/Decided: no second answer meets it.
use Rattle.std.specs.Prelude.{ℕ, ◌≡◌, ◌↔◌, Bool, true, false, List}
use Rattle.queue_of_store.specs.Holds.{SoundStore}

pub record Decides (s : List ℕ) (answer : Bool) : Type 0 where
  pub yes : answer ≡ true ↔ SoundStore s
  pub no : answer ≡ false ↔ ¬ (SoundStore s)
