-- The answers of laying out, search and the cursor in document 01's terms. Those of insertion stand in crate `insert_means` (Meaning), those of
-- removal and reading in crate `remove_means` (Meaning). A reader may rely on this: each case of each answer has its number and values here.
use Rattle.handle.specs.Numbers.{refusal_number}
use Rattle.rules.specs.Answers.{Laid, laid, not_laid, SearchAnswer, equal_at, beside, no_entry, not_found, Stepped, stands, at_end, not_stepped}
use Rattle.queue_of_store.specs.Handles.{plain}
use Rattle.insert_means.specs.Meaning.{side_means}
use Rattle.queue.specs.declared.looking.Searched.{Searched}
use Rattle.queue.specs.declared.looking.Searched.TheVariants as Q
use Rattle.std.specs.Prelude.{Result, Ok, Err, Option, Some, None, ⊤}
use Rattle.handle.specs.declared.Refusal.{Refusal}
use Rattle.queue.specs.declared.cursor.Cursor.{Cursor}

abbrev pub laid_means : Result ⊤ Refusal → Laid
laid_means (Ok u) = laid
laid_means (Err r) = not_laid (refusal_number r)

-- "the equal entry's handle, or the last node's handle and the side, or Empty, each with the count"
abbrev pub search_means : Result Searched Refusal → SearchAnswer
search_means (Ok (Q.Equal h n)) = equal_at (plain h) n
search_means (Ok (Q.Beside h side n)) = beside (plain h) (side_means side) n
search_means (Ok (Q.Empty n)) = no_entry n
search_means (Err r) = not_found (refusal_number r)

-- "is handed back moved, by handle; at an end the answer is End"
abbrev pub moved_means : Result (Option Cursor) Refusal → Stepped
moved_means (Ok (Some c)) = stands (plain c.handle)
moved_means (Ok None) = at_end
moved_means (Err r) = not_stepped (refusal_number r)
