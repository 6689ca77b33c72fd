-- Finding a place: by key ("search from the root, left if less, right if greater, to an equal key or a missing child"), by
-- slot, and the empty place beside a node (Manual).
-- A reader may rely on: search and locate change no tree; where nothing is found, what hangs at the place is a tip.
use Rattle.std.specs.Prelude.{List, [], ◌∷◌, ◌≡◌, ℕ, suc, ◌<◌, length}
use Rattle.std.proofs.Math.Decide.{dec_lt, ℕ_discrete}
use Rattle.std.proofs.Common.{arith}
use Rattle.wavl.specs.Lists.{choose}
use Rattle.wavl.specs.Entry.{Entry}
use Rattle.wavl.specs.Tree.{Side, left, right, other, Tree, tip, fork, pick}
use Rattle.wavl.specs.Way.{step, Way, Place, place}

-- one round of the search, with the key k at a node of key l
pub data KeyRound (k l : ℕ) : Type 0 where
  key_equal : k ≡ l → KeyRound k l
  key_less : k < l → KeyRound k l
  key_greater : l < k → KeyRound k l

unfoldable pub key_round : (k l : ℕ) → KeyRound k l
key_round k l = decided (ℕ_discrete k l) (dec_lt k l)
  where
    decided : Dec (k ≡ l) → Dec (k < l) → KeyRound k l
    decided (yes e) x = key_equal e
    decided (no e) (yes x) = key_less x
    decided (no e) (no x) = key_greater (omega arith)

unfoldable pub by_key : {A : Type 0} {k l : ℕ} → KeyRound k l → (here below above : A) → A
by_key (key_equal e) a b c = a
by_key (key_less x) a b c = b
by_key (key_greater x) a b c = c

unfoldable pub find : ℕ → Tree → Way → Place
find k tip p = place tip p
find k (fork a e r b) p =
    by_key (key_round k e.key)
    (place (fork a e r b) p)
    (find k a (step left e r b ∷ p))
    (find k b (step right e r a ∷ p))

abbrev pub search : ℕ → Tree → Place
search k t = find k t []

-- the nodes that the search looks at, from the root down
unfoldable pub path : ℕ → Tree → List Entry
path k tip = []
path k (fork a e r b) = e ∷ by_key (key_round k e.key) [] (path k a) (path k b)

-- "the count of nodes looked at .., which is the length of that path in the stored tree; 0 when empty"
unfoldable pub looked : Place → ℕ
looked (place tip p) = length p
looked (place (fork a e r b) p) = suc (length p)

-- "Search as a call answers the equal entry's handle, or the last node's handle and the side, or Empty, each with the count."
pub data Found : Type 0 where
  equal_to : Entry → ℕ → Found
  nearest : Entry → Side → ℕ → Found
  empty_tree : Found

unfoldable pub answer_at : Place → Found
answer_at (place tip []) = empty_tree
answer_at (place tip (step d e r s ∷ p)) = nearest e d (suc (length p))
answer_at (place (fork a e r b) p) = equal_to e (suc (length p))

-- the node that holds the slot i: a handle's place
abbrev pub or_else : Place → Place → Place
or_else (place tip p) q = q
or_else (place (fork a e r b) p) q = place (fork a e r b) p

unfoldable pub find_slot : ℕ → Tree → Way → Place
find_slot i tip p = place tip p
find_slot i (fork a e r b) p =
    choose (ℕ_discrete e.slot i)
    (place (fork a e r b) p)
    (or_else (find_slot i a (step left e r b ∷ p)) (find_slot i b (step right e r a ∷ p)))

abbrev pub locate : ℕ → Tree → Place
locate i t = find_slot i t []

-- the empty place at the end of t, on the given side
unfoldable pub gap : Side → Tree → Way → Way
gap d tip p = p
gap left (fork a e r b) p = gap left a (step left e r b ∷ p)
gap right (fork a e r b) p = gap right b (step right e r a ∷ p)

-- Manual: "Less: if the target has a left child, the new entry becomes the right child of its prev, else the target's left
-- child. Greater mirrors this."
unfoldable pub beside_of : Side → Place → Way
beside_of d (place tip p) = p
beside_of d (place (fork a e r b) p) = gap (other d) (pick d a b) (step d e r (pick d b a) ∷ p)
