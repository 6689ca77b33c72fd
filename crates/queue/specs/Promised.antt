-- The promise of each public call, by name: its model, its reading in document 01's terms, and document 01's rule (crate `rules`).
use Rattle.std.specs.Prelude.{ℕ, ◌≤◌, Bool, ◌≡◌, List, ℤ, length, Result, Ok, Err, Option, ⊤}
use Rattle.handle.specs.Numbers.{limit}
use Rattle.handle.specs.declared.Handle.{Handle}
use Rattle.handle.specs.declared.Side.{Side}
use Rattle.handle.specs.declared.Refusal.TheVariants.{NotSound, BadLayout}
use Rattle.arena.specs.Words.{need}
use Rattle.arena.specs.Keys.{stored}
use Rattle.arena.specs.Laying.{GoodLayout, Fresh}
use Rattle.arena.specs.inner.Laying.{lay_out_words}
use Rattle.wavl.specs.Tree.{left, right}
use Rattle.rules.specs.Queue.{Queue, fresh}
use Rattle.rules.specs.LayOut as Rules
use Rattle.rules.specs.Insert.{insert_normal, insert_empty, insert_manual, normal, on_empty, manual, foresee}
use Rattle.rules.specs.Remove.{remove}
use Rattle.rules.specs.Look.{read, search_for, stand_first, stand_last, stand_at, step_to}
use Rattle.queue_of_store.specs.Handles.{plain}
use Rattle.queue_of_store.specs.Holds.{Holds}
use Rattle.insert_means.specs.Meaning.{inserted_means, ahead_means, side_means}
use Rattle.remove_means.specs.Meaning.{removed_means, read_means}
use Rattle.sound.specs.Decides.{Decides}
use Rattle.queue.specs.Promises.{enough_in, Writes, Looks}
use Rattle.queue.specs.Readings.{laid_means, search_means, moved_means}
use Rattle.queue.specs.inner.Placing.{insert_call, empty_call, manual_call, ahead_call, ahead_empty_call, ahead_manual_call}
use Rattle.queue.specs.inner.Taking.{remove_call}
use Rattle.queue.specs.inner.Looking.{search_call, read_call}
use Rattle.queue.specs.inner.Moving.{start_call, stand_call, step_call}
use Rattle.handle.specs.declared.Inserted.{Inserted}
use Rattle.handle.specs.declared.Ahead.{Ahead}
use Rattle.handle.specs.declared.Removed.{Removed}
use Rattle.queue.specs.declared.looking.Searched.{Searched}
use Rattle.handle.specs.declared.Refusal.{Refusal}
use Rattle.handle.specs.declared.Entry.{Entry}
use Rattle.queue.specs.declared.cursor.Cursor.{Cursor}

-- How many numbers a capacity takes: what laying out asks of a store's length (`room` of GoodLayout). "capacity 1 to 1,024 slots": 4 outside
pub record NeedPromise (capacity : ℕ) (r : Result ℕ Refusal) : Type 0 where
  pub tells : 1 ≤ capacity → capacity ≤ limit → r ≡ Ok (need capacity)
  pub refuses : ¬ ((1 ≤ capacity) × (capacity ≤ limit)) → r ≡ Err BadLayout

-- Laying out, on every store: "BadLayout: laying out with capacity or top generation out of range, or a store too short", and then
-- nothing changes; else the store holds the fresh queue, and `Fresh` says every word of it.
pub record LayOutPromise (s t : List ℕ) (capacity top : ℕ) (r : Result ⊤ Refusal) : Type 0 where
  pub does : (t, r) ≡ lay_out_words s capacity top
  pub lays : GoodLayout (length s) capacity top → (r ≡ Ok tt) × Fresh s t capacity top × Holds t (fresh capacity top)
  pub refuses : ¬ GoodLayout (length s) capacity top → (t ≡ s) × (r ≡ Err BadLayout)
  -- on a store that holds a queue: document 01's answer and queue, as of every other call
  pub means : (q : Queue) → Holds s q
      → (laid_means r ≡ (Rules.lay_out (enough_in s) capacity top q).0) × Holds t (Rules.lay_out (enough_in s) capacity top q).1

abbrev pub InsertPromise : List ℕ → List ℕ → ℤ → ℕ → Result Inserted Refusal → Type 0
InsertPromise s t key value r = Writes (Err NotSound) (insert_call s key value) inserted_means (insert_normal (stored key) value) s t r

abbrev pub EmptyPromise : List ℕ → List ℕ → ℤ → ℕ → Result Inserted Refusal → Type 0
EmptyPromise s t key value r = Writes (Err NotSound) (empty_call s key value) inserted_means (insert_empty (stored key) value) s t r

abbrev pub ManualPromise : List ℕ → List ℕ → Handle → Side → ℤ → ℕ → Result Inserted Refusal → Type 0
ManualPromise s t h side key value r =
    Writes (Err NotSound) (manual_call s h side key value) inserted_means (insert_manual (plain h) (side_means side) (stored key) value) s t r

abbrev pub AheadPromise : List ℕ → ℤ → Result Ahead Refusal → Type 0
AheadPromise s key r = Looks (Err NotSound) (ahead_call s key) ahead_means (foresee normal (stored key)) s r

-- the look-ahead of Empty serves any key
abbrev pub AheadEmptyPromise : List ℕ → Result Ahead Refusal → Type 0
AheadEmptyPromise s r = (key : ℤ) → Looks (Err NotSound) (ahead_empty_call s) ahead_means (foresee on_empty (stored key)) s r

abbrev pub AheadManualPromise : List ℕ → Handle → Side → ℤ → Result Ahead Refusal → Type 0
AheadManualPromise s h side key r =
    Looks (Err NotSound) (ahead_manual_call s h side key) ahead_means (foresee (manual (plain h) (side_means side)) (stored key)) s r

abbrev pub RemovePromise : List ℕ → List ℕ → Handle → Result Removed Refusal → Type 0
RemovePromise s t h r = Writes (Err NotSound) (remove_call s h) removed_means (remove (plain h)) s t r

abbrev pub ReadPromise : List ℕ → Handle → Result Entry Refusal → Type 0
ReadPromise s h r = Looks (Err NotSound) (read_call s h) read_means (read (plain h)) s r

abbrev pub SearchPromise : List ℕ → ℤ → Result Searched Refusal → Type 0
SearchPromise s key r = Looks (Err NotSound) (search_call s key) search_means (search_for (stored key)) s r

abbrev pub FirstPromise : List ℕ → Result (Option Cursor) Refusal → Type 0
FirstPromise s r = Looks (Err NotSound) (start_call s 0) moved_means stand_first s r

abbrev pub LastPromise : List ℕ → Result (Option Cursor) Refusal → Type 0
LastPromise s r = Looks (Err NotSound) (start_call s 1) moved_means stand_last s r

abbrev pub AtPromise : List ℕ → Handle → Result (Option Cursor) Refusal → Type 0
AtPromise s h r = Looks (Err NotSound) (stand_call s h) moved_means (stand_at (plain h)) s r

abbrev pub BackPromise : List ℕ → Handle → Result (Option Cursor) Refusal → Type 0
BackPromise s h r = Looks (Err NotSound) (step_call s h 0) moved_means (step_to left (plain h)) s r

abbrev pub ForwardPromise : List ℕ → Handle → Result (Option Cursor) Refusal → Type 0
ForwardPromise s h r = Looks (Err NotSound) (step_call s h 1) moved_means (step_to right (plain h)) s r

-- the check's promise stands with the check, in crate `sound`
abbrev pub CheckPromise : List ℕ → Bool → Type 0
CheckPromise s r = Decides s r
