-- A step along the chain and its two ends, as functions of the store, for any words.
-- Document 01: "a chain cursor steps forward or back [..], by handle; at an end the answer is End. [..] on an empty queue first
-- and last answer End."
use Rattle.std.specs.Prelude.{ℕ, ◌+◌, ◌<◌, List, eqb, leb, Result, Ok, Err, Option, Some, None}
use Rattle.handle.specs.Numbers.{no_slot}
use Rattle.arena.specs.Branch.{ifte}
use Rattle.arena.specs.inner.Slots.{handle_with}
use Rattle.arena.specs.Words.{field, head, PREV, GENERATION, FIRST}
use Rattle.handle.specs.declared.Refusal.TheVariants.{NotSound}
use Rattle.handle.specs.declared.Refusal.{Refusal}
use Rattle.handle.specs.declared.Handle.{Handle}

-- what the link p leads to
unfoldable pub followed : List ℕ → ℕ → ℕ → Result (Option Handle) Refusal
followed s cap p =
    ifte (eqb p no_slot) (Ok None)
    (ifte (leb cap p) (Err NotSound)
    (Ok (Some (handle_with p (field s cap p GENERATION)))))

-- back for d = 0, forward for d = 1
unfoldable pub step_from : List ℕ → ℕ → ℕ → ℕ → Result (Option Handle) Refusal
step_from s cap i d = followed s cap (field s cap i (PREV + d))

-- the first for d = 0, the last for d = 1
unfoldable pub end_of : List ℕ → ℕ → ℕ → Result (Option Handle) Refusal
end_of s cap d = followed s cap (head s (FIRST + d))

-- a handle that a step gives lies in the store
abbrev pub SteppedIn : ℕ → Result (Option Handle) Refusal → Type 0
SteppedIn cap (Ok (Some h)) = h.slot.0 < cap
SteppedIn cap (Ok None) = Unit {0}
SteppedIn cap (Err n) = Unit {0}
