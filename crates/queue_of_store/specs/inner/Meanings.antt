-- What the answers of crates `find` and `chain` mean: a slot of the words as a handle, with the generation that the words hold.
-- Document 01: "Search as a call answers the equal entry's handle, or the last node's handle and the side, or Empty, each with the
-- count"; "at an end the answer is End". Refusal 5 is never met on a sound store.
use Rattle.std.specs.Prelude.{ℕ, zero, suc, Bool, true, false, List, Result, Ok, Err, Option, Some, None}
use Rattle.arena.specs.Words.{field, GENERATION}
use Rattle.handle.specs.Numbers.{refusal_number}
use Rattle.wavl.specs.Search as Search
use Rattle.rules.specs.Queue.{Handle, handle}
use Rattle.rules.specs.Place.{Spot, nowhere, spot}
use Rattle.rules.specs.Answers.{Where, less, greater, SearchAnswer, equal_at, beside, no_entry, not_found, Stepped, stands, at_end, not_stepped}
use Rattle.queue_of_store.specs.Ends.{number}
use Rattle.queue_of_store.specs.Handles.{plain}
use Rattle.find.specs.declared.Found as F
use Rattle.handle.specs.declared.Refusal.{Refusal}
use Rattle.handle.specs.declared.Handle as H

-- the search of crate `wavl` in slots and numbers of sides
abbrev pub in_slots : Search.Found → Result F.Found Refusal
in_slots (Search.equal_to e n) = Ok (F.TheVariants.Equal e.slot n)
in_slots (Search.nearest e d n) = Ok (F.TheVariants.Beside e.slot (number d) n)
in_slots Search.empty_tree = Ok F.TheVariants.Empty

-- a side by its number
abbrev pub side_no : ℕ → Where
side_no zero = less
side_no (suc n) = greater

-- the slot's handle
abbrev pub handle_in_slot : List ℕ → ℕ → ℕ → Handle
handle_in_slot s cap p = handle p (field s cap p GENERATION)

abbrev pub found_means : List ℕ → ℕ → Result F.Found Refusal → SearchAnswer
found_means s cap (Ok (F.TheVariants.Equal p n)) = equal_at (handle_in_slot s cap p) n
found_means s cap (Ok (F.TheVariants.Beside p d n)) = beside (handle_in_slot s cap p) (side_no d) n
found_means s cap (Ok F.TheVariants.Empty) = no_entry 0
found_means s cap (Err n) = not_found (refusal_number n)

abbrev pub step_means : Result (Option H.Handle) Refusal → Stepped
step_means (Ok (Some h)) = stands (plain h)
step_means (Ok None) = at_end
step_means (Err n) = not_stepped (refusal_number n)

-- whether a handle's place is one
abbrev pub is_spot : Spot → Bool
is_spot nowhere = false
is_spot (spot a x r b p) = true
