-- What the answers of removal and reading mean: crate `remove`'s kinds read as crate `rules`' answers, keys in their stored form,
-- refusals by document 01's number. A reader may rely on: no two answers read alike (crate `queue`, proofs/OneMeaning).
use Rattle.handle.specs.Numbers.{refusal_number}
use Rattle.arena.specs.Keys.{stored}
use Rattle.rules.specs.Answers.{no_note, generation_overflow, Removed, removed, not_removed, Read, reads, not_read}
use Rattle.handle.specs.declared.Removed as D
use Rattle.std.specs.Prelude.{Result, Ok, Err}
use Rattle.handle.specs.declared.Refusal.{Refusal}
use Rattle.handle.specs.declared.Entry.{Entry}

-- "At the top generation the entry is still removed and returned, with the note GenerationOverflow"
abbrev pub removed_means : Result D.Removed Refusal → Removed
removed_means (Ok (D.TheVariants.Entry x)) = removed (stored x.key.0) x.value no_note
removed_means (Ok (D.TheVariants.GenerationOverflow x)) = removed (stored x.key.0) x.value generation_overflow
removed_means (Err n) = not_removed (refusal_number n)

-- "Reading and removal answer key and value."
abbrev pub read_means : Result Entry Refusal → Read
read_means (Ok x) = reads (stored x.key.0) x.value
read_means (Err n) = not_read (refusal_number n)
