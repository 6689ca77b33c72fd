-- What a call may do to a queue: put one entry in at its place, change one value, take one entry out; nothing else.
-- A reader may rely on this: each record says all that changes; capacity and top never do.
use Rattle.std.specs.Prelude.{◌≡◌, List, ◌∷◌, ◌++◌, ℕ}
use Rattle.wavl.specs.Entry.{Entry, revalued}
use Rattle.rules.specs.Queue.{Handle, entry_with, Queue, entries, Names}
use Rattle.rules.specs.Answers.{Inserted, new, replacing, not_inserted, Removed, removed, not_removed}
use Rattle.rules.specs.Remove.{free_after}

-- the header's part of a queue stays
pub record SameHeader (q q' : Queue) : Type 0 where
  pub capacity : q'.capacity ≡ q.capacity
  pub top : q'.top ≡ q.top

-- "a new entry is placed there": h, the first free handle, names it
pub record Adds (q q' : Queue) (h : Handle) (key value : ℕ) : Type 0 where
  pub header : SameHeader q q'
  pub was_free : q.free ≡ h ∷ q'.free
  pub smaller : List Entry
  pub greater : List Entry
  pub old : entries q ≡ smaller ++ greater
  pub now : entries q' ≡ smaller ++ (entry_with h key value ∷ greater)

-- "the value is replaced, the old one returned, the handle kept, no slot used"
pub record Swaps (q q' : Queue) (x : Entry) (value : ℕ) : Type 0 where
  pub header : SameHeader q q'
  pub same-free : q'.free ≡ q.free
  pub smaller : List Entry
  pub greater : List Entry
  pub old : entries q ≡ smaller ++ (x ∷ greater)
  pub now : entries q' ≡ smaller ++ (revalued value x ∷ greater)

-- the entry is taken out and its slot given back
pub record Takes (q q' : Queue) (x : Entry) : Type 0 where
  pub header : SameHeader q q'
  pub gives_back : q'.free ≡ free_after x q
  pub smaller : List Entry
  pub greater : List Entry
  pub old : entries q ≡ smaller ++ (x ∷ greater)
  pub now : entries q' ≡ smaller ++ greater

-- what is left of the queue by the answer alone
abbrev pub AfterInserting : (key value : ℕ) → Queue → Inserted → Queue → Type 0
AfterInserting key value q (new h) q' = Adds q q' h key value
AfterInserting key value q (replacing h v) q' =
    (x : Entry) × Names h x × (x.value ≡ v) × (x.key ≡ key) × Swaps q q' x value
AfterInserting key value q (not_inserted n) q' = q' ≡ q

abbrev pub AfterRemoving : Handle → Queue → Removed → Queue → Type 0
AfterRemoving h q (removed k v note) q' = (x : Entry) × Names h x × (x.key ≡ k) × (x.value ≡ v) × Takes q q' x
AfterRemoving h q (not_removed n) q' = q' ≡ q
