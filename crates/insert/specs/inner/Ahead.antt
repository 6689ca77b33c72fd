-- The look-ahead, as a function of the store, for any words.
-- Document 01: "The look-ahead (OrdEntryKind) tells New or Replacing with the handle, or the refusal, that the same insertion would
-- get next; it changes nothing."
use Rattle.std.specs.Prelude.{ℕ, List, ℤ, Result, Ok, Err}
use Rattle.handle.specs.declared.Handle.{Handle}
use Rattle.handle.specs.declared.Side.{Side}
use Rattle.arena.specs.Keys.{stored}
use Rattle.arena.specs.inner.Slots.{handle_with, peek_slot}
use Rattle.arena.specs.Words.{field, GENERATION}
use Rattle.insert.specs.inner.Kinds.{prepared_normal, prepared_empty, prepared_manual}
use Rattle.insert.specs.declared.kinds.Prepared.{Prepared}
use Rattle.insert.specs.declared.kinds.Prepared.TheVariants.{Alone, Beside, Replace}
use Rattle.handle.specs.declared.Ahead.{Ahead}
use Rattle.handle.specs.declared.Ahead.TheVariants.{New, Replacing}
use Rattle.handle.specs.declared.Refusal.{Refusal}

-- by the slot that would be taken
abbrev pub new_as : Result Handle Refusal → Result Ahead Refusal
new_as (Ok h) = Ok (New h)
new_as (Err n) = Err n

unfoldable pub next_new : List ℕ → ℕ → Result Ahead Refusal
next_new s cap = new_as (peek_slot s cap)

abbrev pub looked_ahead : List ℕ → ℕ → Result Prepared Refusal → Result Ahead Refusal
looked_ahead s cap (Ok Alone) = next_new s cap
looked_ahead s cap (Ok (Beside p d)) = next_new s cap
looked_ahead s cap (Ok (Replace p)) = Ok (Replacing (handle_with p (field s cap p GENERATION)))
looked_ahead s cap (Err n) = Err n

unfoldable pub ahead_normal : List ℕ → ℕ → ℤ → Result Ahead Refusal
ahead_normal s cap key = looked_ahead s cap (prepared_normal s cap (stored key))

unfoldable pub ahead_empty : List ℕ → ℕ → Result Ahead Refusal
ahead_empty s cap = looked_ahead s cap (prepared_empty s)

unfoldable pub ahead_manual : List ℕ → ℕ → Handle → Side → ℤ → Result Ahead Refusal
ahead_manual s cap h side key = looked_ahead s cap (prepared_manual s cap h side (stored key))
