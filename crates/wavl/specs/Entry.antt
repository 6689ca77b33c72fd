-- The entry that a node of the tree holds, and the order between entries.
-- A reader may rely on: Before is the only place where two keys of a queue are put in order (rule 4), and slots is the only
-- place where the slots of a chain are read off. Distinct slots are never argued from keys.
use Rattle.std.specs.Prelude.{List, [], ◌∷◌, ℕ, ◌<◌}
use Rattle.wavl.specs.Lists.{Pairwise}

-- "a handle is a slot and a generation"; "Key: any signed 64-bit number. Value: any unsigned 64-bit number."
-- The key stands here in its stored form, the signed key plus 2^63, so that order on these numbers is order on keys.
pub record Entry : Type 0 where
  pub slot : ℕ
  pub generation : ℕ
  pub key : ℕ
  pub value : ℕ

-- what `entry` answers of a missing node; no rule ever looks at it
abbrev pub blank : Entry
blank = record { slot = 0; generation = 0; key = 0; value = 0 }

-- "Equal: the value is replaced, .. the handle kept"
abbrev pub revalued : ℕ → Entry → Entry
revalued v e = record { slot = e.slot; generation = e.generation; key = e.key; value = v }

-- e may stand before f in the chain. Strict: two entries never have one key.
abbrev pub Before : Entry → Entry → Type 0
Before e f = e.key < f.key

-- rule 4: "Keys rise strictly along the chain."
abbrev pub Rising : List Entry → Type 0
Rising l = Pairwise Before l

-- the slots of a chain, in its order
unfoldable pub slots : List Entry → List ℕ
slots [] = []
slots (e ∷ l) = e.slot ∷ slots l
