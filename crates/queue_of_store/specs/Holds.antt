-- When the words of a store hold a queue: document 01's "A store is sound when its header passes (see number 5) and all of these
-- hold", a named part for each rule. A reader may rely on: proofs/OneQueue: a store holds no second queue; proofs/SameStore: every
-- needed word follows from the queue.
use Rattle.std.specs.Prelude.{ℕ, ◌≤◌, ◌<◌, ◌≡◌, List}
use Rattle.handle.specs.Numbers.{top_limit}
use Rattle.arena.specs.Words.{head_words, head, TOP, ROOT}
use Rattle.arena.specs.Header.{Passing}
use Rattle.wavl.specs.Lists.{All, Once}
use Rattle.wavl.specs.Entry.{Rising}
use Rattle.wavl.specs.Ranks.{Ranked}
use Rattle.rules.specs.Queue.{Queue, entries}
use Rattle.rules.specs.Sound.{used_slots, Under, LiveGeneration, FreeGeneration}
use Rattle.queue_of_store.specs.Links.{TreeWords}
use Rattle.queue_of_store.specs.Chain.{ChainWords}
use Rattle.queue_of_store.specs.Entries.{AllEntries}
use Rattle.queue_of_store.specs.Free.{FreeStack, AllRetired}

-- the header passes, with the queue's capacity, and names its top generation
pub record HeaderWords (s : List ℕ) (q : Queue) : Type 0 where
  pub passes : Passing s q.capacity
  pub top-is : head s TOP ≡ q.top

-- rule 5: no slot stands twice among the live and the free ones; what is neither is retired
pub record Rule5 (s : List ℕ) (q : Queue) : Type 0 where
  pub apart : Once (used_slots q)
  pub within : All (Under q.capacity) (used_slots q)
  pub free : FreeStack s q.capacity q.free
  pub retired : AllRetired s q.capacity q.top (used_slots q)

-- rule 6: "The top lies in its range, each generation in 1 to top"; a retired slot's generation stands in rule 5's part
pub record Rule6 (q : Queue) : Type 0 where
  pub top_from : 1 ≤ q.top
  pub top_to : q.top ≤ top_limit
  pub live : All (LiveGeneration q.top) (entries q)
  pub free : All (FreeGeneration q.top) q.free

-- rule 7: "Fields without use hold a fixed value": the header's words behind ROOT. Those of slots stand in Blank and FreeStack.
abbrev pub Unused : List ℕ → Type 0
Unused s = (h : ℕ) → ROOT < h → h < head_words → head s h ≡ 0

pub record Holds (s : List ℕ) (q : Queue) : Type 0 where
  pub header : HeaderWords s q
  pub rule_1 : TreeWords s q.capacity q.tree
  pub rule_2 : Ranked q.tree
  pub rule_3 : ChainWords s q.capacity (entries q)
  pub rule_4 : Rising (entries q)
  pub rule_5 : Rule5 s q
  pub rule_6 : Rule6 q
  pub rule_7 : Unused s
  -- what the live slots hold
  pub live : AllEntries s q.capacity (entries q)

-- "A store is sound"
abbrev pub SoundStore : List ℕ → Type 0
SoundStore s = (q : Queue) × Holds s q
