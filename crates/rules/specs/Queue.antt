-- What a queue holds (document 01, "What a queue holds"): handles, the queue itself, a fresh one, and who names whom.
-- A reader may rely on this: a queue is these four things and no more; the rest of a store follows from them.
use Rattle.std.specs.Prelude.{◌≡◌, List, [], ◌∷◌, ℕ, zero, suc}
use Rattle.wavl.specs.Lists.{In}
use Rattle.wavl.specs.Entry.{Entry}
use Rattle.wavl.specs.Tree.{Tree, tip, inorder}

-- "a handle is a slot and a generation"
pub record Handle : Type 0 where
  pub slot : ℕ
  pub generation : ℕ

abbrev pub handle : ℕ → ℕ → Handle
handle s g = record { slot = s; generation = g }

-- the handle that an entry carries
abbrev pub handle_of : Entry → Handle
handle_of x = handle x.slot x.generation

-- an entry with the handle, key and value given
abbrev pub entry_with : Handle → ℕ → ℕ → Entry
entry_with h k v = record { slot = h.slot; generation = h.generation; key = k; value = v }

-- the free handles stand in the order in which they are handed out; a slot that is neither in the tree nor free is retired
pub record Queue : Type 0 where
  pub capacity : ℕ
  pub top : ℕ
  pub tree : Tree
  pub free : List Handle

-- "a fresh store gives 0, 1, 2 and so on", "Each slot starts at generation 1": the handles of n slots from s on
unfoldable pub fresh_from : ℕ → ℕ → List Handle
fresh_from s zero = []
fresh_from s (suc n) = handle s 1 ∷ fresh_from (suc s) n

-- A queue is made and changed here alone: of its four parts, and by another tree and another free list.
abbrev pub queue_of : ℕ → ℕ → Tree → List Handle → Queue
queue_of capacity top tree free = record { capacity = capacity; top = top; tree = tree; free = free }

abbrev pub changed : Tree → List Handle → Queue → Queue
changed tree free q = queue_of q.capacity q.top tree free

unfoldable pub fresh : ℕ → ℕ → Queue
fresh capacity top = queue_of capacity top tip (fresh_from 0 capacity)

-- the entries in the tree's left-to-right order: the chain
abbrev pub entries : Queue → List Entry
entries q = inorder q.tree

-- an entry of the queue
abbrev pub HasEntry : Queue → Entry → Type 0
HasEntry q x = In x (entries q)

-- an entry with that key is there
abbrev pub Has : ℕ → Queue → Type 0
Has k q = (x : Entry) × HasEntry q x × (x.key ≡ k)

-- a handle names an entry that has its slot and its generation
abbrev pub Names : Handle → Entry → Type 0
Names h x = (x.slot ≡ h.slot) × (x.generation ≡ h.generation)

-- "a handle that names a live entry"
abbrev pub Live : Handle → Queue → Type 0
Live h q = (x : Entry) × HasEntry q x × Names h x

-- two tests, both to hold
abbrev pub dec_both : {A B : Type 0} → Dec A → Dec B → Dec (A × B)
dec_both (yes a) (yes b) = yes (a, b)
dec_both (yes a) (no g) = no (λ c. g c.1)
dec_both (no f) b = no (λ c. f c.0)
