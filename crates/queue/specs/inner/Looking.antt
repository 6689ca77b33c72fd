-- Search and reading as functions of the store, for any words.
-- Document 01: "Search as a call answers the equal entry's handle, or the last node's handle and the side, or Empty, each with the
-- count. Reading and removal answer key and value."
use Rattle.std.specs.Prelude.{ℕ, List, eqb, ℤ, Result, Ok, Err}
use Rattle.handle.specs.declared.Handle.{Handle}
use Rattle.handle.specs.declared.Side.{Side}
use Rattle.handle.specs.declared.Side.TheVariants.{Less, Greater}
use Rattle.handle.specs.declared.Refusal.TheVariants as R
use Rattle.arena.specs.Branch.{ifte}
use Rattle.arena.specs.Words.{field, GENERATION}
use Rattle.arena.specs.Keys.{stored}
use Rattle.arena.specs.Header.{header_of}
use Rattle.arena.specs.inner.Slots.{handle_with}
use Rattle.find.specs.inner.Seeking.{seek_model}
use Rattle.queue.specs.inner.Header.{on_header}
use Rattle.remove.specs.inner.Remove.{read_by}
use Rattle.find.specs.declared.Found.{Found}
use Rattle.find.specs.declared.Found.TheVariants as F
use Rattle.queue.specs.declared.looking.Searched.{Searched}
use Rattle.queue.specs.declared.looking.Searched.TheVariants as S
use Rattle.handle.specs.declared.Refusal.{Refusal}
use Rattle.handle.specs.declared.Entry.{Entry}

-- the handle of the slot p
unfoldable pub handle_at : List ℕ → ℕ → ℕ → Handle
handle_at s cap p = handle_with p (field s cap p GENERATION)

abbrev pub side_for : ℕ → Side
side_for d = ifte (eqb d 0) Less Greater

-- the inner search's answer, with handles
abbrev pub as_searched : List ℕ → ℕ → Result Found Refusal → Result Searched Refusal
as_searched s cap (Ok (F.Equal p n)) = Ok (S.Equal (handle_at s cap p) n)
as_searched s cap (Ok (F.Beside p d n)) = Ok (S.Beside (handle_at s cap p) (side_for d) n)
as_searched s cap (Ok F.Empty) = Ok (S.Empty 0)
as_searched s cap (Err n) = Err n

unfoldable pub searched : List ℕ → ℕ → ℕ → Result Searched Refusal
searched s cap k = as_searched s cap (seek_model s cap k)

unfoldable pub search_call : List ℕ → ℤ → Result Searched Refusal
search_call s key = on_header (header_of s) (λ cap. searched s cap (stored key)) (Err R.NotSound)

unfoldable pub read_call : List ℕ → Handle → Result Entry Refusal
read_call s h = on_header (header_of s) (λ cap. read_by s cap h) (Err R.NotSound)
