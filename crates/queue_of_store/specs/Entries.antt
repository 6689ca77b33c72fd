-- The words of an entry. Document 01: "Key: any signed 64-bit number. Value: any unsigned 64-bit number."; "a handle is a slot and a
-- generation". The key stands in its stored form, in the words as in crate `wavl`.
use Rattle.std.specs.Prelude.{ℕ, ◌≡◌, List}
use Rattle.arena.specs.Words.{field, KEY, GENERATION, VALUE}
use Rattle.wavl.specs.Entry.{Entry}
use Rattle.wavl.specs.Lists.{All}

pub record EntryWords (s : List ℕ) (cap : ℕ) (e : Entry) : Type 0 where
  pub key-is : field s cap e.slot KEY ≡ e.key
  pub value-is : field s cap e.slot VALUE ≡ e.value
  pub generation-is : field s cap e.slot GENERATION ≡ e.generation

abbrev pub AllEntries : List ℕ → ℕ → List Entry → Type 0
AllEntries s cap l = All (EntryWords s cap) l
