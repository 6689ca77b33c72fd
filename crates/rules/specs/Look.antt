-- Calls that only look: reading, search as a call, and the chain cursor (document 01, "Placing a strike" and "Taking a strike away").
-- A reader may rely on this: none of them has a queue in its answer, so none can change one.
use Rattle.std.proofs.Math.Option.{Option, none, some}
use Rattle.std.specs.Prelude.{ℕ}
use Rattle.wavl.specs.Lists
use Rattle.wavl.specs.Entry.{Entry}
use Rattle.wavl.specs.Tree.{Side, left, right, fork}
use Rattle.wavl.specs.Way.{place, neighbour}
use Rattle.wavl.specs.Search
use Rattle.rules.specs.Queue.{Handle, handle_of, Queue, entries}
use Rattle.rules.specs.Answers.{Where, less, greater, Read, reads, not_read, SearchAnswer, equal_at, beside, no_entry, Stepped, stands, at_end, not_stepped, invalid_ptr}
use Rattle.rules.specs.Place.{Spot, nowhere, spot, spot_of}

-- "Reading and removal answer key and value."
unfoldable pub read_spot : Spot → Read
read_spot nowhere = not_read invalid_ptr
read_spot (spot a x r b p) = reads x.key x.value

unfoldable pub read : Handle → Queue → Read
read h q = read_spot (spot_of h q)

-- "Search as a call answers the equal entry's handle, or the last node's handle and the side, or Empty, each with the count."
abbrev pub where_of : Side → Where
where_of left = less
where_of right = greater

unfoldable pub found_in : Search.Found → SearchAnswer
found_in (Search.equal_to x n) = equal_at (handle_of x) n
found_in (Search.nearest x d n) = beside (handle_of x) (where_of d) n
found_in Search.empty_tree = no_entry 0

unfoldable pub search_for : ℕ → Queue → SearchAnswer
search_for key q = found_in (Search.answer_at (Search.search key q.tree))

-- "It starts at first, last or a live handle; on an empty queue first and last answer End."
unfoldable pub stands_at : Option Entry → Stepped
stands_at none = at_end
stands_at (some x) = stands (handle_of x)

unfoldable pub stand_first : Queue → Stepped
stand_first q = stands_at (Lists.first (entries q))

unfoldable pub stand_last : Queue → Stepped
stand_last q = stands_at (Lists.last (entries q))

-- there, by the handle given; 3 where it names no live entry
unfoldable pub stand_spot : Handle → Spot → Stepped
stand_spot h nowhere = not_stepped invalid_ptr
stand_spot h (spot a x r b p) = stands h

unfoldable pub stand_at : Handle → Queue → Stepped
stand_at h q = stand_spot h (spot_of h q)

-- "a chain cursor steps forward or back and is handed back moved, by handle; at an end the answer is End"
unfoldable pub step_spot : Side → Spot → Stepped
step_spot d nowhere = not_stepped invalid_ptr
step_spot d (spot a x r b p) = stands_at (neighbour d (place (fork a x r b) p))

unfoldable pub step_to : Side → Handle → Queue → Stepped
step_to d h q = step_spot d (spot_of h q)

abbrev pub next : Handle → Queue → Stepped
next h q = step_to right h q

abbrev pub prev : Handle → Queue → Stepped
prev h q = step_to left h q
