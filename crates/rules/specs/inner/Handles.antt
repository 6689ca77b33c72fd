-- What becomes of handles, in words that speak of entries and handles alone (document 01, "What a queue holds": "The handles of
-- moved entries stay"). A reader may rely on this: an entry carries its handle, so an entry that stays keeps its handle.
use Rattle.std.specs.Prelude.{◌≡◌, ◌⊎◌, ◌↔◌, ℕ, suc}
use Rattle.wavl.specs.Lists.{In}
use Rattle.wavl.specs.Entry.{Entry, revalued}
use Rattle.rules.specs.Queue.{Handle, entry_with, Queue, HasEntry, Names, Live}
use Rattle.rules.specs.Answers.{Note, no_note, generation_overflow}

-- a new entry: its handle was free and named nothing, and now names the new entry; all other entries stay as they were
pub record HandleGiven (q q' : Queue) (h : Handle) (key value : ℕ) : Type 0 where
  pub was_free : In h q.free
  pub named_none : ¬ Live h q
  pub names-new : HasEntry q' (entry_with h key value)
  pub others : (y : Entry) → HasEntry q' y ↔ ((y ≡ entry_with h key value) ⊎ HasEntry q y)

-- a new value: the same handle names the same entry with the new value; all other entries stay
pub record HandleKept (q q' : Queue) (x : Entry) (value : ℕ) : Type 0 where
  pub was-there : HasEntry q x
  pub names_it : HasEntry q' (revalued value x)
  pub others : (y : Entry) → (¬ (y.slot ≡ x.slot)) → HasEntry q' y ↔ HasEntry q y

-- an entry taken out: its handle names nothing any more, and all other entries stay
pub record HandleGone (q q' : Queue) (h : Handle) (x : Entry) : Type 0 where
  pub was-there : HasEntry q x
  pub names-none : ¬ Live h q'
  pub others : (y : Entry) → HasEntry q' y ↔ (HasEntry q y × (¬ Names h y))

-- "Conserved": the free list's length before and after a removal, by its note
abbrev pub FreedBy : Note → ℕ → ℕ → Type 0
FreedBy no_note before after = after ≡ suc before
FreedBy generation_overflow before after = after ≡ before
