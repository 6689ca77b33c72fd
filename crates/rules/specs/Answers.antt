-- What a call answers (document 01, "When the queue says no", and the answers named in the sections after it).
-- A reader may rely on this: each answer carries the values that document 01 names, and a refusal its number alone.
use Rattle.std.specs.Prelude.{ℕ}
use Rattle.handle.specs.Numbers.{refusal_number}
use Rattle.handle.specs.declared.Refusal.TheVariants.{NotWithinCapacity, FailedOrdRequirement, InvalidPtr, BadLayout, NotSound}
use Rattle.rules.specs.Queue.{Handle}

-- document 01's table of refusals; the numbers stand in crate `handle`
abbrev pub not_within_capacity : ℕ
not_within_capacity = refusal_number NotWithinCapacity

abbrev pub failed_ord_requirement : ℕ
failed_ord_requirement = refusal_number FailedOrdRequirement

abbrev pub invalid_ptr : ℕ
invalid_ptr = refusal_number InvalidPtr

abbrev pub bad_layout : ℕ
bad_layout = refusal_number BadLayout

abbrev pub not_sound : ℕ
not_sound = refusal_number NotSound

-- "The side": of an entry, on which a key lies, or where Manual places
pub data Where : Type 0 where
  less equal greater : Where

-- laying out: done, or 4
pub data Laid : Type 0 where
  laid : Laid
  not_laid : ℕ → Laid

-- "Any insertion answers New or Replacing with the handle, and the old value if replacing."
pub data Inserted : Type 0 where
  new : Handle → Inserted
  replacing : Handle → ℕ → Inserted
  not_inserted : ℕ → Inserted

-- "The look-ahead (OrdEntryKind) tells New or Replacing with the handle, or the refusal"
pub data Ahead : Type 0 where
  would_add : Handle → Ahead
  would_replace : Handle → Ahead
  would_refuse : ℕ → Ahead

-- "At the top generation the entry is still removed and returned, with the note GenerationOverflow"
pub data Note : Type 0 where
  no_note : Note
  generation_overflow : Note

-- "Reading and removal answer key and value."
pub data Removed : Type 0 where
  removed : ℕ → ℕ → Note → Removed
  not_removed : ℕ → Removed

pub data Read : Type 0 where
  reads : ℕ → ℕ → Read
  not_read : ℕ → Read

-- "Search as a call answers the equal entry's handle, or the last node's handle and the side, or Empty, each with the count."
pub data SearchAnswer : Type 0 where
  equal_at : Handle → ℕ → SearchAnswer
  beside : Handle → Where → ℕ → SearchAnswer
  no_entry : ℕ → SearchAnswer
  not_found : ℕ → SearchAnswer

-- "at an end the answer is End"
pub data Stepped : Type 0 where
  stands : Handle → Stepped
  at_end : Stepped
  not_stepped : ℕ → Stepped
