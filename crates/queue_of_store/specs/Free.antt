-- The words of slots without an entry, and of the free stack. Document 01, rule 5: "Each slot is live, free or retired, one only. The
-- free list meets each free slot once."; rule 6: "a retired slot has the top one"; rule 7: "Fields without use hold a fixed value."
-- A reader may rely on: the free list stands as handed out, so its first slot is at the stack's top.
use Rattle.std.specs.Prelude.{ℕ, ◌≤◌, ◌<◌, ◌≡◌, List, [], ◌∷◌, length}
use Rattle.handle.specs.Numbers.{no_slot}
use Rattle.arena.specs.Words.{field, head, KEY, LEFT, RIGHT, RANK, BACK, PREV, NEXT, GENERATION, VALUE, STACK, HEIGHT}
use Rattle.wavl.specs.Lists.{In}
use Rattle.rules.specs.Queue.{Handle}

-- the slot i has no entry; BACK tells a free one from a retired one
pub record Blank (s : List ℕ) (cap i back : ℕ) : Type 0 where
  pub key-is : field s cap i KEY ≡ 0
  pub left_is : field s cap i LEFT ≡ no_slot
  pub right_is : field s cap i RIGHT ≡ no_slot
  pub rank_is : field s cap i RANK ≡ 0
  pub back_is : field s cap i BACK ≡ back
  pub prev-is : field s cap i PREV ≡ no_slot
  pub next-is : field s cap i NEXT ≡ no_slot
  pub value-is : field s cap i VALUE ≡ 0

-- the free handle h at the place p of the stack: the place holds the slot, the slot names the place
pub record FreeAt (s : List ℕ) (cap : ℕ) (h : Handle) (p : ℕ) : Type 0 where
  pub stack_is : field s cap p STACK ≡ h.slot
  pub blank : Blank s cap h.slot p
  pub generation-is : field s cap h.slot GENERATION ≡ h.generation

abbrev pub FreeWords : List ℕ → ℕ → List Handle → Type 0
FreeWords s cap [] = Unit {0}
FreeWords s cap (h ∷ l) = FreeAt s cap h (length l) × FreeWords s cap l

-- the whole stack
pub record FreeStack (s : List ℕ) (cap : ℕ) (l : List Handle) : Type 0 where
  pub height : head s HEIGHT ≡ length l
  pub stacked : FreeWords s cap l
  pub unused : (p : ℕ) → length l ≤ p → p < cap → field s cap p STACK ≡ no_slot

pub record Retired (s : List ℕ) (cap top i : ℕ) : Type 0 where
  pub blank : Blank s cap i no_slot
  pub generation-is : field s cap i GENERATION ≡ top

-- every slot that is neither live nor free, of which `used` has the slots
abbrev pub AllRetired : List ℕ → ℕ → ℕ → List ℕ → Type 0
AllRetired s cap top used = (i : ℕ) → i < cap → ¬ (In i used) → Retired s cap top i
