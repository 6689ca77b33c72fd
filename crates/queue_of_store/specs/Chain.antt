-- The words of the chain. Document 01, rule 3: "The chain from first to last meets each live slot once, in the tree's left-to-right
-- order; prev and next agree." The list is the tree's left-to-right order, so that it meets each live slot is in the words.
use Rattle.std.specs.Prelude.{ℕ, ◌≡◌, List, [], ◌∷◌}
use Rattle.handle.specs.Numbers.{no_slot}
use Rattle.arena.specs.Words.{field, head, PREV, NEXT, FIRST, LAST}
use Rattle.wavl.specs.Entry.{Entry}
use Rattle.queue_of_store.specs.Ends.{first_slot, last_slot}

-- the slot i stands between p and n
pub record LinkedBetween (s : List ℕ) (cap p i n : ℕ) : Type 0 where
  pub prev-is : field s cap i PREV ≡ p
  pub next-is : field s cap i NEXT ≡ n

-- the entries l, behind the slot p
abbrev pub Chain : List ℕ → ℕ → ℕ → List Entry → Type 0
Chain s cap p [] = Unit {0}
Chain s cap p (e ∷ l) = LinkedBetween s cap p e.slot (first_slot l) × Chain s cap e.slot l

-- the whole chain: the header's FIRST and LAST name its ends
pub record ChainWords (s : List ℕ) (cap : ℕ) (l : List Entry) : Type 0 where
  pub first-is : head s FIRST ≡ first_slot l
  pub last-is : head s LAST ≡ last_slot l
  pub chain : Chain s cap no_slot l
