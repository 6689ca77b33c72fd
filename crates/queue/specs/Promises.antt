-- What a public call promises: on every store the model's answer and store, on a sound one document 01's.
-- "Each public call states its answer and the complete store afterwards, for every input, refusals too" (document 01).
-- A reader may rely on: no second answer and no second store meets a promise (proofs/Single.antt).
use Rattle.std.specs.Prelude.{ℕ, ◌≤◌, ◌≡◌, Bool, List, leb, length, get_or, Err}
use Rattle.arena.specs.Words.{need}
use Rattle.arena.specs.Header.{header_of, Passing}
use Rattle.rules.specs.Queue.{Queue}
use Rattle.queue_of_store.specs.Holds.{Holds}
use Rattle.handle.specs.declared.Refusal.TheVariants.{NotSound}

-- whether a store is long enough for a capacity
abbrev pub enough_in : List ℕ → ℕ → Bool
enough_in s capacity = leb (need capacity) (length s)

-- A call that may write: s is the store before, t the one after, r the answer. `five` is refusal 5 as an answer of its kind, `reads`
-- gives an answer's numbers and values in document 01's terms, and `rule` is what document 01 says of a queue.
pub record Writes {A B : Type 0} (five : A) (model : List ℕ × A) (reads : A → B) (rule : Queue → B × Queue) (s t : List ℕ) (r : A) : Type 0 where
  -- on every store: the answer and the complete store
  pub does : (t, r) ≡ model
  -- where the header fails: refusal 5, and nothing changes
  pub fails : header_of s ≡ Err NotSound → (t ≡ s) × (r ≡ five)
  -- the length stays, and so do the numbers past what the capacity needs
  pub long : length t ≡ length s
  pub rest : (cap : ℕ) → Passing s cap → (k : ℕ) → need cap ≤ k → get_or t k 0 ≡ get_or s k 0
  -- on a store that holds a queue: document 01's answer, and afterwards document 01's queue
  pub means : (q : Queue) → Holds s q → (reads r ≡ (rule q).0) × Holds t (rule q).1

-- A call that only looks takes the store by shared reference: it has no store afterwards.
pub record Looks {A B : Type 0} (five : A) (model : A) (reads : A → B) (rule : Queue → B) (s : List ℕ) (r : A) : Type 0 where
  pub does : r ≡ model
  pub fails : header_of s ≡ Err NotSound → r ≡ five
  pub means : (q : Queue) → Holds s q → reads r ≡ rule q

-- what a promise of a call that writes says by meaning alone, with no word of its model: x is document 01's answer and queue
pub record Meant {A B : Type 0} (reads : A → B) (s t : List ℕ) (x : B × Queue) (r : A) : Type 0 where
  pub answer : reads r ≡ x.0
  pub holds : Holds t x.1
  pub long : length t ≡ length s
  pub rest : (k : ℕ) → need x.1.capacity ≤ k → get_or t k 0 ≡ get_or s k 0
