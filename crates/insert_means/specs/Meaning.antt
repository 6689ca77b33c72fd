-- What the answers of insertion and look-ahead mean: crate `insert`'s kinds read as crate `rules`' answers, refusals by document 01's number.
-- A reader may rely on: no two answers read alike (crate `queue`, proofs/OneMeaning).
use Rattle.handle.specs.Numbers.{refusal_number}
use Rattle.handle.specs.declared.Side as S
use Rattle.rules.specs.Answers.{Where, less, equal, greater, Inserted, new, replacing, not_inserted, Ahead, would_add, would_replace, would_refuse}
use Rattle.queue_of_store.specs.Handles.{plain}
use Rattle.handle.specs.declared.Inserted as I
use Rattle.handle.specs.declared.Ahead as A
use Rattle.std.specs.Prelude.{Result, Ok, Err}
use Rattle.handle.specs.declared.Refusal.{Refusal}

-- "Any insertion answers New or Replacing with the handle, and the old value if replacing."
abbrev pub inserted_means : Result I.Inserted Refusal → Inserted
inserted_means (Ok (I.TheVariants.New h)) = new (plain h)
inserted_means (Ok (I.TheVariants.Replacing h old)) = replacing (plain h) old
inserted_means (Err n) = not_inserted (refusal_number n)

-- "The look-ahead tells New or Replacing with the handle, or the refusal"
abbrev pub ahead_means : Result A.Ahead Refusal → Ahead
ahead_means (Ok (A.TheVariants.New h)) = would_add (plain h)
ahead_means (Ok (A.TheVariants.Replacing h)) = would_replace (plain h)
ahead_means (Err n) = would_refuse (refusal_number n)

-- Manual's sides
abbrev pub side_means : S.Side → Where
side_means S.TheVariants.Less = less
side_means S.TheVariants.Equal = equal
side_means S.TheVariants.Greater = greater
