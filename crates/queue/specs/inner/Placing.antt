-- Insertion by kind and the look-ahead, as functions of the store, for any words: the header's test, then the inner call's model.
use Rattle.std.specs.Prelude.{ℕ, List, ℤ, Result, Err}
use Rattle.handle.specs.declared.Handle.{Handle}
use Rattle.handle.specs.declared.Side.{Side}
use Rattle.handle.specs.declared.Refusal.TheVariants as R
use Rattle.arena.specs.Header.{header_of}
use Rattle.insert.specs.inner.Place.{normal_inserted, empty_inserted, manual_inserted}
use Rattle.insert.specs.inner.Ahead.{ahead_normal, ahead_empty, ahead_manual}
use Rattle.queue.specs.inner.Header.{on_header}
use Rattle.handle.specs.declared.Inserted.{Inserted}
use Rattle.handle.specs.declared.Ahead.{Ahead}
use Rattle.handle.specs.declared.Refusal.{Refusal}

unfoldable pub insert_call : List ℕ → ℤ → ℕ → List ℕ × Result Inserted Refusal
insert_call s key value = on_header (header_of s) (λ cap. normal_inserted s cap key value) (s, Err R.NotSound)

unfoldable pub empty_call : List ℕ → ℤ → ℕ → List ℕ × Result Inserted Refusal
empty_call s key value = on_header (header_of s) (λ cap. empty_inserted s cap key value) (s, Err R.NotSound)

unfoldable pub manual_call : List ℕ → Handle → Side → ℤ → ℕ → List ℕ × Result Inserted Refusal
manual_call s h side key value = on_header (header_of s) (λ cap. manual_inserted s cap h side key value) (s, Err R.NotSound)

unfoldable pub ahead_call : List ℕ → ℤ → Result Ahead Refusal
ahead_call s key = on_header (header_of s) (λ cap. ahead_normal s cap key) (Err R.NotSound)

unfoldable pub ahead_empty_call : List ℕ → Result Ahead Refusal
ahead_empty_call s = on_header (header_of s) (λ cap. ahead_empty s cap) (Err R.NotSound)

unfoldable pub ahead_manual_call : List ℕ → Handle → Side → ℤ → Result Ahead Refusal
ahead_manual_call s h side key = on_header (header_of s) (λ cap. ahead_manual s cap h side key) (Err R.NotSound)
