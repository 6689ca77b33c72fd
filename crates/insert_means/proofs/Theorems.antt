-- Insertion and look-ahead on a store that holds a queue, the three kinds of each: the theorems that a reader is meant to cite.
-- A reader may rely on these for every store that holds a queue, every key, value, handle and side; refusals 1 and 2 are among the
-- answers, and 5 never is: crate `rules` does not give it.
use Prim.Native.Nat.{ℕ}
use mathlib.Core.Path.{◌≡◌}
use mathlib.Core.List.{List}
use lib.IntN.{ℤ}
use Rattle.handle.specs.declared.Handle.{Handle}
use Rattle.handle.specs.declared.Side.{Side}
use Rattle.arena.specs.Keys.{stored}
use Rattle.insert.specs.inner.Kinds.{prepared_normal, prepared_empty, prepared_manual}
use Rattle.insert.specs.inner.Place.{normal_inserted, empty_inserted, manual_inserted}
use Rattle.insert.specs.inner.Ahead.{ahead_normal, ahead_empty, ahead_manual}
use Rattle.insert.proofs.InsertLeaves.{insert-normal-within, insert-empty-within, insert-manual-within}
use Rattle.rules.specs.Queue.{Queue}
use Rattle.rules.specs.Insert.{normal, on_empty, manual}
use Rattle.rules.specs.Insert as Rules
use Rattle.rules.proofs.Insertions.{insert-sound}
use Rattle.queue_of_store.specs.Handles.{plain}
use Rattle.queue_of_store.specs.Holds.{Holds}
use Rattle.queue_of_store.proofs.Parts.{sound_of}
use Rattle.insert_means.specs.Meaning.{ahead_means, side_means}
use Rattle.insert_means.specs.inner.Inserts.{Inserts}
use Rattle.insert_means.proofs.Plans.{carries_out, foretells}
use Rattle.insert_means.proofs.Preparing.{normal_prepares, empty_prepares}
use Rattle.insert_means.proofs.Manual.{manual_prepares}

module _ {s : List ℕ} {q : Queue} (k : Holds s q) (key : ℤ) where
  abbrev cap : ℕ
  cap = q.capacity

  -- "Normal: search from the root .. Equal: the value is replaced .. Otherwise a new entry is placed there."
  pub normal-means : (value : ℕ) → Inserts s cap (normal_inserted s cap key value) (Rules.insert_normal (stored key) value q)
  unfolding normal_inserted
  normal-means value =
      carries_out k key value (prepared_normal s cap (stored key)) _ (normal_prepares k (stored key)) (insert-sound (stored key) value q (sound_of k) normal)
      (insert-normal-within s cap key value)

  pub normal-ahead : ahead_means (ahead_normal s cap key) ≡ Rules.foresee normal (stored key) q
  unfolding ahead_normal Rules.foresee
  normal-ahead = foretells k (stored key) (prepared_normal s cap (stored key)) _ (normal_prepares k (stored key))

  -- "Empty: only into an empty queue."
  pub empty-means : (value : ℕ) → Inserts s cap (empty_inserted s cap key value) (Rules.insert_empty (stored key) value q)
  unfolding empty_inserted
  empty-means value =
      carries_out k key value (prepared_empty s) _ (empty_prepares k (stored key)) (insert-sound (stored key) value q (sound_of k) on_empty)
      (insert-empty-within s cap key value)

  pub empty-ahead : ahead_means (ahead_empty s cap) ≡ Rules.foresee on_empty (stored key) q
  unfolding ahead_empty Rules.foresee
  empty-ahead = foretells k (stored key) (prepared_empty s) _ (empty_prepares k (stored key))

  -- "Manual: a live handle .. and a side."
  module _ (h : Handle) (side : Side) where
    pub manual-means : (value : ℕ) → Inserts s cap (manual_inserted s cap h side key value) (Rules.insert_manual (plain h) (side_means side) (stored key) value q)
    unfolding manual_inserted
    manual-means value =
        carries_out k key value (prepared_manual s cap h side (stored key)) _ (manual_prepares k (stored key) h side) (insert-sound (stored key) value q (sound_of k) (manual (plain h) (side_means side)))
        (insert-manual-within s cap key value h side)

    pub manual-ahead : ahead_means (ahead_manual s cap h side key) ≡ Rules.foresee (manual (plain h) (side_means side)) (stored key) q
    unfolding ahead_manual Rules.foresee
    manual-ahead = foretells k (stored key) (prepared_manual s cap h side (stored key)) _ (manual_prepares k (stored key) h side)
