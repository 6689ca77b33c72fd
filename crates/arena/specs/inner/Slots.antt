-- Taking and freeing a slot, as functions of the store, for any words.
-- Document 01: "the slot freed last is taken first"; "Removal raises it by one and frees the slot. At the top generation the entry
-- is still removed and returned, with the note GenerationOverflow, and the slot is retired for good."
use Rattle.std.specs.Prelude.{ℕ, ◌+◌, ◌-◌, ◌≤◌, ◌<◌, List, Result, Ok, Err, ltb, leb}
use Rattle.handle.specs.Numbers.{no_slot}
use Rattle.handle.specs.declared.Handle.{Handle}
use Rattle.arena.specs.Branch.{ifte}
use Rattle.arena.specs.Words.{field, put, head, put_head, GENERATION, STACK, TOP, HEIGHT}
use Rattle.arena.specs.inner.Laying.{blank_of}
use Rattle.handle.specs.declared.Refusal.{Refusal}
use Rattle.handle.specs.declared.Refusal.TheVariants.{NotWithinCapacity, NotSound}
use Rattle.arena.specs.declared.slots.Freed.{Freed}
use Rattle.arena.specs.declared.slots.Freed.TheVariants.{Again, GenerationOverflow}

-- a slot and a generation as a handle
abbrev pub handle_with : ℕ → ℕ → Handle
handle_with i g = record { slot = record { 0 = i }; generation = record { 0 = g } }

-- the slot i, found at the top of the stack
unfoldable pub found_at : List ℕ → ℕ → ℕ → Result Handle Refusal
found_at s cap i = ifte (leb cap i) (Err NotSound) (Ok (handle_with i (field s cap i GENERATION)))

-- the slot freed last, by the height h of the stack
unfoldable pub peek_from : List ℕ → ℕ → ℕ → Result Handle Refusal
peek_from s cap h =
    ifte (ltb h 1) (Err NotWithinCapacity)
    (ifte (ltb cap h) (Err NotSound)
    (found_at s cap (field s cap (h - 1) STACK)))

unfoldable pub peek_slot : List ℕ → ℕ → Result Handle Refusal
peek_slot s cap = peek_from s cap (head s HEIGHT)

-- the stack without its top, whose place is p
unfoldable pub popped : List ℕ → ℕ → ℕ → List ℕ
popped s cap p = put_head (put s cap p STACK no_slot) HEIGHT p

abbrev pub taken_as : List ℕ → ℕ → Result Handle Refusal → List ℕ × Result Handle Refusal
taken_as s cap (Ok h) = (popped s cap (head s HEIGHT - 1), Ok h)
taken_as s cap (Err r) = (s, Err r)

unfoldable pub take_slot : List ℕ → ℕ → List ℕ × Result Handle Refusal
take_slot s cap = taken_as s cap (peek_slot s cap)

-- a slot that was found lies in the store, and the stack is no higher than it can be
abbrev pub PeekedIn : List ℕ → ℕ → Result Handle Refusal → Type 0
PeekedIn s cap (Ok h) = (h.slot.0 < cap) × (1 ≤ head s HEIGHT) × (head s HEIGHT ≤ cap)
PeekedIn s cap (Err r) = Unit {0}

-- a slot that was taken lies in the store
abbrev pub TakenIn : ℕ → Result Handle Refusal → Type 0
TakenIn cap (Ok h) = h.slot.0 < cap
TakenIn cap (Err r) = Unit {0}

unfoldable pub pushed : List ℕ → ℕ → ℕ → ℕ → ℕ → List ℕ
pushed s cap i h g = put_head (put (put (blank_of s cap i h) cap i GENERATION (g + 1)) cap h STACK i) HEIGHT (h + 1)

-- by the stack's height, the top generation and the slot's
unfoldable pub free_with : List ℕ → ℕ → ℕ → ℕ → ℕ → ℕ → List ℕ × Result Freed Refusal
free_with s cap i h top g =
    ifte (ltb g top)
    (ifte (ltb h cap) (pushed s cap i h g, Ok Again) (s, Err NotSound))
    (blank_of s cap i no_slot, Ok GenerationOverflow)

unfoldable pub free_slot : List ℕ → ℕ → ℕ → List ℕ × Result Freed Refusal
free_slot s cap i = free_with s cap i (head s HEIGHT) (head s TOP) (field s cap i GENERATION)
