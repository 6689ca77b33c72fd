-- When a queue is sound: document 01's rules 1 to 7 where they speak of the queue, a named part for each.
-- A reader may rely on this: rules 1, 3 and 7 speak of links and unused words, of which a queue has none; they come with the store.
use Rattle.std.specs.Prelude.{List, [], ◌∷◌, ◌++◌, ℕ, ◌≤◌, ◌<◌}
use Rattle.handle.specs.Numbers.{InRange}
use Rattle.wavl.specs.Lists.{All, Once}
use Rattle.wavl.specs.Entry.{Entry, Rising, slots}
use Rattle.wavl.specs.Ranks.{Ranked}
use Rattle.rules.specs.Queue.{Handle, Queue, entries}

-- the slots of the free list, in its order
unfoldable pub free_slots : List Handle → List ℕ
free_slots [] = []
free_slots (h ∷ l) = h.slot ∷ free_slots l

-- live slots, then free ones
abbrev pub used_slots : Queue → List ℕ
used_slots q = slots (entries q) ++ free_slots q.free

abbrev pub Under : ℕ → ℕ → Type 0
Under n i = i < n

-- "each generation in 1 to top"
pub record Generation (top g : ℕ) : Type 0 where
  pub from_one : 1 ≤ g
  pub to-top : g ≤ top

abbrev pub LiveGeneration : ℕ → Entry → Type 0
LiveGeneration top x = Generation top x.generation

abbrev pub FreeGeneration : ℕ → Handle → Type 0
FreeGeneration top h = Generation top h.generation

pub record Sound (q : Queue) : Type 0 where
  -- the header, and rule 6: "The top lies in its range"
  pub in_range : InRange q.capacity q.top
  -- rule 2: "A node's rank is 1 or 2 above each child's. A node with no child has rank 1."
  pub ranked : Ranked q.tree
  -- rule 4: "Keys rise strictly along the chain."
  pub rising : Rising (entries q)
  -- rule 5: "Each slot is live, free or retired, one only. The free list meets each free slot once."
  pub apart : Once (used_slots q)
  pub within : All (Under q.capacity) (used_slots q)
  -- rule 6: "each generation in 1 to top"
  pub live-generations : All (LiveGeneration q.top) (entries q)
  pub free-generations : All (FreeGeneration q.top) q.free
