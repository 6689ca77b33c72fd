-- The words of a queue that is known to be sound: what a proof of a call shows by its writes, rule by rule.
use Rattle.std.specs.Prelude.{List, ℕ}
use Rattle.rules.specs.Queue.{Queue, entries}
use Rattle.rules.specs.Sound.{used_slots}
use Rattle.queue_of_store.specs.Links.{TreeWords}
use Rattle.queue_of_store.specs.Chain.{ChainWords}
use Rattle.queue_of_store.specs.Entries.{AllEntries}
use Rattle.queue_of_store.specs.Free.{FreeStack, AllRetired}
use Rattle.queue_of_store.specs.Holds.{HeaderWords, Unused}

-- the parts of Holds that speak of words, for a queue that is known to be sound: each speaks of fields of its own
pub record Words (s : List ℕ) (q : Queue) : Type 0 where
  pub header : HeaderWords s q
  pub tree : TreeWords s q.capacity q.tree
  pub chain : ChainWords s q.capacity (entries q)
  pub live : AllEntries s q.capacity (entries q)
  pub free : FreeStack s q.capacity q.free
  pub retired : AllRetired s q.capacity q.top (used_slots q)
  pub unused : Unused s
