-- The cursor as a function of the store, for any words.
-- Document 01: "a chain cursor steps forward or back and is handed back moved, by handle; at an end the answer is End. It starts at
-- first, last or a live handle; on an empty queue first and last answer End."
use Rattle.std.specs.Prelude.{ℕ, List, Result, Ok, Err, Option, Some, None}
use Rattle.handle.specs.declared.Handle.{Handle}
use Rattle.handle.specs.declared.Refusal.TheVariants as R
use Rattle.arena.specs.Branch.{ifte}
use Rattle.arena.specs.Header.{header_of}
use Rattle.arena.specs.inner.Entries.{is_live}
use Rattle.chain.specs.inner.Steps.{step_from, end_of}
use Rattle.queue.specs.inner.Header.{on_header}
use Rattle.queue.specs.declared.cursor.Cursor.{Cursor}
use Rattle.handle.specs.declared.Refusal.{Refusal}

abbrev pub cursor_at : Handle → Cursor
cursor_at h = record { handle = h }

abbrev pub moved_to : Result (Option Handle) Refusal → Result (Option Cursor) Refusal
moved_to (Ok (Some h)) = Ok (Some (cursor_at h))
moved_to (Ok None) = Ok None
moved_to (Err n) = Err n

-- the first entry for d = 0, the last for d = 1
unfoldable pub start_call : List ℕ → ℕ → Result (Option Cursor) Refusal
start_call s d = on_header (header_of s) (λ cap. moved_to (end_of s cap d)) (Err R.NotSound)

unfoldable pub stand_in : List ℕ → ℕ → Handle → Result (Option Cursor) Refusal
stand_in s cap h = ifte (is_live s cap h) (Ok (Some (cursor_at h))) (Err R.InvalidPtr)

unfoldable pub stand_call : List ℕ → Handle → Result (Option Cursor) Refusal
stand_call s h = on_header (header_of s) (λ cap. stand_in s cap h) (Err R.NotSound)

-- back for d = 0, forward for d = 1
unfoldable pub step_in : List ℕ → ℕ → Handle → ℕ → Result (Option Cursor) Refusal
step_in s cap h d = ifte (is_live s cap h) (moved_to (step_from s cap h.slot.0 d)) (Err R.InvalidPtr)

unfoldable pub step_call : List ℕ → Handle → ℕ → Result (Option Cursor) Refusal
step_call s h d = on_header (header_of s) (λ cap. step_in s cap h d) (Err R.NotSound)
