-- Where the words of a queue stand in the store that the caller lends (docs/STORE.md has the picture).
-- Document 01: "The team chooses the layout and writes it in docs/STORE.md; it needs at most 16 numbers a slot and 16 more."
-- Above crate `arena` nobody opens these definitions: the laws of proofs/WordLaws.antt are all that is used of them.
use Rattle.std.specs.Prelude.{ℕ, ◌+◌, ◌-◌, ◌*◌, ◌≤◌, List, get_or, set, length, ltb}
use Rattle.handle.specs.Numbers.{no_slot}
use Rattle.arena.specs.Branch.{ifte}

-- how many words the header and a slot have
abbrev pub head_words : ℕ
head_words = 16

abbrev pub fields : ℕ
fields = 10

-- the fields of a slot
abbrev pub KEY : ℕ
KEY = 0

abbrev pub LEFT : ℕ
LEFT = 1

abbrev pub RIGHT : ℕ
RIGHT = 2

abbrev pub RANK : ℕ
RANK = 3

abbrev pub BACK : ℕ
BACK = 4

abbrev pub PREV : ℕ
PREV = 5

abbrev pub NEXT : ℕ
NEXT = 6

abbrev pub GENERATION : ℕ
GENERATION = 7

abbrev pub VALUE : ℕ
VALUE = 8

abbrev pub STACK : ℕ
STACK = 9

-- the words of the header that are in use
abbrev pub CAPACITY : ℕ
CAPACITY = 0

abbrev pub TOP : ℕ
TOP = 1

abbrev pub HEIGHT : ℕ
HEIGHT = 2

abbrev pub FIRST : ℕ
FIRST = 3

abbrev pub LAST : ℕ
LAST = 4

abbrev pub ROOT : ℕ
ROOT = 5

-- how many numbers a capacity needs
abbrev pub need : ℕ → ℕ
need cap = head_words + cap * fields

-- the store is long enough for the header and for so many slots
abbrev pub Long : List ℕ → ℕ → Type 0
Long s cap = need cap ≤ length s

-- what every function on slots asks of a store: it is long enough, and no slot has the number for no slot
abbrev pub Room : List ℕ → ℕ → Type 0
Room s cap = Long s cap × (cap ≤ no_slot)

-- the place of the field f of the slot i: the four that a search reads stand together
unfoldable pub word_at : ℕ → ℕ → ℕ → ℕ
word_at cap i f = ifte (ltb f 4) (head_words + i * 4 + f) (head_words + cap * 4 + i * 6 + (f - 4))

unfoldable pub field : List ℕ → ℕ → ℕ → ℕ → ℕ
field s cap i f = get_or s (word_at cap i f) 0

unfoldable pub put : List ℕ → ℕ → ℕ → ℕ → ℕ → List ℕ
put s cap i f v = set s (word_at cap i f) v

unfoldable pub head : List ℕ → ℕ → ℕ
head s h = get_or s h 0

unfoldable pub put_head : List ℕ → ℕ → ℕ → List ℕ
put_head s h v = set s h v
