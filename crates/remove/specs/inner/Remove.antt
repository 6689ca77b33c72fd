-- Removal and reading by handle, as functions of the store, for any words.
-- Document 01: "At the top generation the entry is still removed and returned, with the note GenerationOverflow"; "InvalidPtr: removal,
-- reading or stepping with a handle that names no live entry"; "Reading and removal answer key and value."
use Rattle.std.specs.Prelude.{ℕ, List, Result, Ok, Err, ⊤}
use Rattle.handle.specs.declared.Handle.{Handle}
use Rattle.handle.specs.declared.Refusal.TheVariants.{InvalidPtr}
use Rattle.arena.specs.Branch.{ifte}
use Rattle.arena.specs.inner.Entries.{is_live, entry_of}
use Rattle.arena.specs.inner.Slots.{free_slot}
use Rattle.handle.specs.declared.Entry.{Entry}
use Rattle.chain.specs.inner.Links.{unlink_slot}
use Rattle.remove.specs.inner.Take.{take_out}
use Rattle.arena.specs.declared.slots.Freed.{Freed}
use Rattle.arena.specs.declared.slots.Freed as F
use Rattle.handle.specs.declared.Removed.{Removed}
use Rattle.handle.specs.declared.Removed as D
use Rattle.handle.specs.declared.Refusal.{Refusal}

-- the slot i out of the chain and freed
unfoldable pub let_go : List ℕ → ℕ → ℕ → List ℕ × Result Freed Refusal
let_go s cap i = free_slot (unlink_slot s cap i).0 cap i

-- the answer for the entry, by how its slot was freed
abbrev pub noted : Result Freed Refusal → Entry → Result Removed Refusal
noted (Ok F.TheVariants.Again) x = Ok (D.TheVariants.Entry x)
noted (Ok F.TheVariants.GenerationOverflow) x = Ok (D.TheVariants.GenerationOverflow x)
noted (Err n) x = Err n

abbrev pub noted_as : List ℕ × (Result Freed Refusal) → Entry → List ℕ × Result Removed Refusal
noted_as y x = (y.0, noted y.1 x)

-- out of the tree, then out of the chain
abbrev pub gone_as : List ℕ → Result ⊤ Refusal → ℕ → ℕ → Entry → List ℕ × Result Removed Refusal
gone_as s (Ok u) cap i x = noted_as (let_go s cap i) x
gone_as s (Err n) cap i x = (s, Err n)

abbrev pub gone_from : List ℕ × Result ⊤ Refusal → ℕ → ℕ → Entry → List ℕ × Result Removed Refusal
gone_from y cap i x = gone_as y.0 y.1 cap i x

unfoldable pub remove_live : List ℕ → ℕ → ℕ → List ℕ × Result Removed Refusal
remove_live s cap i = gone_from (take_out s cap i) cap i (entry_of s cap i)

unfoldable pub remove_by : List ℕ → ℕ → Handle → List ℕ × Result Removed Refusal
remove_by s cap h = ifte (is_live s cap h) (remove_live s cap h.slot.0) (s, Err InvalidPtr)

unfoldable pub read_by : List ℕ → ℕ → Handle → Result Entry Refusal
read_by s cap h = ifte (is_live s cap h) (Ok (entry_of s cap h.slot.0)) (Err InvalidPtr)
