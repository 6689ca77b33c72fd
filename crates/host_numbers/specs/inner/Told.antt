-- Answers as numbers: a code, and a row of four. A refusal's code is document 01's number and its row is all 0; any other answer's
-- code is 16 and up. That no two answers of a call are told alike (but for a side of Equal beside an entry, which no search gives) is
-- read off these lines; no theorem says it.
use Rattle.std.specs.Prelude.{ℕ, List, [], ◌∷◌, eqb, Result, Ok, Err, Option, Some, None, ⊤}
use Rattle.handle.specs.Numbers.{refusal_number}
use Rattle.handle.specs.declared.Handle.{Handle}
use Rattle.handle.specs.declared.Refusal.{Refusal}
use Rattle.handle.specs.declared.Side.{Side}
use Rattle.handle.specs.declared.Side.TheVariants as S
use Rattle.arena.specs.Branch.{ifte}
use Rattle.arena.specs.Keys.{stored}
use Rattle.handle.specs.declared.Entry.{Entry}
use Rattle.handle.specs.declared.Inserted as I
use Rattle.handle.specs.declared.Ahead as A
use Rattle.handle.specs.declared.Removed as X
use Rattle.queue.specs.declared.looking.Searched as Q
use Rattle.queue.specs.declared.cursor.Cursor.{Cursor}

-- Less is 0, Equal 1, and any other number Greater
abbrev pub side_named : ℕ → Side
side_named n = ifte (eqb n 0) S.Less (ifte (eqb n 1) S.Equal S.Greater)

-- a call that writes: its store, and its answer told
unfoldable pub stores : {A B : Type 0} → (A → B) → List ℕ × A → List ℕ × B
stores tell m = (m.0, tell m.1)

-- a call that tells: its answer told
unfoldable pub tells : {A B : Type 0} → (A → B) → A → B
tells tell m = tell m

abbrev pub Told : Type 0
Told = ℕ × List ℕ

-- a row: what is named first, and then 0
abbrev pub row : ℕ → ℕ → ℕ → List ℕ
row x y z = x ∷ y ∷ z ∷ 0 ∷ []

abbrev pub refused_told : Refusal → Told
refused_told r = (refusal_number r, row 0 0 0)

-- the handle, and one number more
abbrev pub handle_told : ℕ → Handle → ℕ → Told
handle_told code h n = (code, row h.slot.0 h.generation.0 n)

-- the key in its stored form, and the value
abbrev pub entry_told : ℕ → Entry → Told
entry_told code e = (code, row (stored e.key.0) e.value 0)

abbrev pub laid_out_told : Result ⊤ Refusal → ℕ
laid_out_told (Ok u) = 16
laid_out_told (Err r) = refusal_number r

abbrev pub inserted_told : Result I.Inserted Refusal → Told
inserted_told (Ok (I.TheVariants.New h)) = handle_told 16 h 0
inserted_told (Ok (I.TheVariants.Replacing h old)) = handle_told 17 h old
inserted_told (Err r) = refused_told r

abbrev pub ahead_told : Result A.Ahead Refusal → Told
ahead_told (Ok (A.TheVariants.New h)) = handle_told 16 h 0
ahead_told (Ok (A.TheVariants.Replacing h)) = handle_told 17 h 0
ahead_told (Err r) = refused_told r

abbrev pub removed_told : Result X.Removed Refusal → Told
removed_told (Ok (X.TheVariants.Entry e)) = entry_told 16 e
removed_told (Ok (X.TheVariants.GenerationOverflow e)) = entry_told 17 e
removed_told (Err r) = refused_told r

abbrev pub reading_told : Result Entry Refusal → Told
reading_told (Ok e) = entry_told 16 e
reading_told (Err r) = refused_told r

abbrev pub side_code : Side → ℕ
side_code S.Less = 17
side_code S.Equal = 16
side_code S.Greater = 18

abbrev pub searched_told : Result Q.Searched Refusal → Told
searched_told (Ok (Q.TheVariants.Equal h n)) = handle_told 16 h n
searched_told (Ok (Q.TheVariants.Beside h side n)) = handle_told (side_code side) h n
searched_told (Ok (Q.TheVariants.Empty n)) = (19, row 0 0 n)
searched_told (Err r) = refused_told r

abbrev pub moved_told : Result (Option Cursor) Refusal → Told
moved_told (Ok (Some c)) = handle_told 16 c.handle 0
moved_told (Ok None) = (17, row 0 0 0)
moved_told (Err r) = refused_told r
