-- Document 01's numbers, each here and nowhere else: no slot, the first generation, the limits, the refusals.
-- A reader may rely on this: crates `rules` and `arena` name these; the constants of src/lib.rt are proved to be these
-- where code tests them.
use Rattle.std.specs.Prelude.{ℕ, ◌≤◌}
use Rattle.handle.specs.declared.Refusal.{Refusal}
use Rattle.handle.specs.declared.Refusal.TheVariants.{NotWithinCapacity, FailedOrdRequirement, InvalidPtr, BadLayout, NotSound, BadTime}

-- "The value for no slot and the first generation, 1, belong to the handle's kind."
abbrev pub no_slot : ℕ
no_slot = 65535

abbrev pub first_generation : ℕ
first_generation = 1

-- "capacity 1 to 1,024 slots". Only proofs about the constant LIMIT open it.
unfoldable pub limit : ℕ
limit = 1024

-- "the top generation, 1 to 4,294,967,295"
unfoldable pub top_limit : ℕ
top_limit = 4294967295

-- what laying out asks of capacity and top generation; refused 4 otherwise
pub record InRange (capacity top : ℕ) : Type 0 where
  pub capacity-from : 1 ≤ capacity
  pub capacity-to : capacity ≤ limit
  pub top_from : 1 ≤ top
  pub top_to : top ≤ top_limit

-- "When the queue says no": the table's first column.
abbrev pub refusal_number : Refusal → ℕ
refusal_number NotWithinCapacity = 1
refusal_number FailedOrdRequirement = 2
refusal_number InvalidPtr = 3
refusal_number BadLayout = 4
refusal_number NotSound = 5
refusal_number BadTime = 6
