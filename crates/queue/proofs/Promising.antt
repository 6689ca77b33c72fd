-- The public promises, call by call, from the equality with the model.
use Prim.Native.Nat.{ℕ, ◌≤◌, ◌<◌}
use native.Mathlib.Omega.{arith}
use mathlib.Core.Path.{◌≡◌, refl}
use mathlib.Core.Logic.{◌↔◌}
use mathlib.Core.List.{List}
use lib.IntN.{ℤ}
use lib.ListN.{length}
use borrow.Author.Tests.{le-leb, leb-true}
use Rattle.handle.specs.Numbers.{limit}
use Rattle.handle.specs.declared.Handle.{Handle}
use Rattle.handle.specs.declared.Side.{Side}
use Rattle.handle.specs.declared.Refusal.TheVariants.{BadLayout}
use Rattle.arena.specs.Words.{need}
use Rattle.arena.specs.Laying.{GoodLayout}
use Rattle.arena.specs.inner.Laying.{lay_out_words}
use Rattle.chain.specs.inner.Steps.{end_of}
use Rattle.arena.specs.inner.Only.{Only}
use Rattle.arena.proofs.Only.{only_weaken}
use Rattle.insert.specs.inner.Place as I
use Rattle.insert.specs.inner.Ahead as A
use Rattle.insert.proofs.InsertLeaves.{insert-normal-within, insert-empty-within, insert-manual-within}
use Rattle.remove.specs.inner.Remove.{remove_by, read_by}
use Rattle.remove.proofs.RemoveLeaves.{remove-kept}
use Rattle.rules.specs.LayOut as Rules
use Rattle.insert_means.proofs.Theorems.{normal-means, normal-ahead, empty-means, empty-ahead, manual-means, manual-ahead}
use Rattle.remove_means.proofs.Means.{remove-means, read-means}
use Rattle.queue.specs.Promises.{enough_in}
use Rattle.queue.specs.Promised.{NeedPromise, LayOutPromise, InsertPromise, EmptyPromise, ManualPromise, AheadPromise, AheadEmptyPromise, AheadManualPromise, RemovePromise, ReadPromise, SearchPromise, FirstPromise, LastPromise, AtPromise, BackPromise, ForwardPromise}
use Rattle.queue.specs.inner.Looking.{search_call, read_call}
use Rattle.queue.specs.inner.Moving.{moved_to, start_call, stand_in, stand_call, step_in, step_call}
use Rattle.queue.specs.inner.Placing.{insert_call, empty_call, manual_call, ahead_call, ahead_empty_call, ahead_manual_call}
use Rattle.queue.specs.inner.Taking.{remove_call}
use Rattle.queue.proofs.Keeping.{Keeps, writes, looks}
use Rattle.queue.proofs.LayingOut.{laid_out, not_laid_lem, laid-means}
use Rattle.queue.proofs.Looked.{on_held, search-means, first-is, last-is, stand_is, back_is, forward_is}
use Rattle.handle.specs.declared.Inserted.{Inserted}
use Rattle.handle.specs.declared.Ahead.{Ahead}
use Rattle.handle.specs.declared.Removed.{Removed}
use Rattle.queue.specs.declared.looking.Searched.{Searched}
use Rattle.std.specs.Prelude.{Result, Ok, Err, Option, ⊤}
use Rattle.handle.specs.declared.Refusal.{Refusal}
use Rattle.handle.specs.declared.Entry.{Entry}
use Rattle.queue.specs.declared.cursor.Cursor.{Cursor}

-- how many numbers a capacity takes: out of its range on either side, and in it
module _ (capacity : ℕ) where
  pub needs_none : capacity < 1 → NeedPromise capacity (Err BadLayout)
  needs_none h = record { tells = λ low high. absurd (omega (arith, h, low)); refuses = λ out. refl }

  pub needs_beyond : limit < capacity → NeedPromise capacity (Err BadLayout)
  needs_beyond h = record { tells = λ low high. absurd (omega (arith, h, high)); refuses = λ out. refl }

  pub needs_told : 1 ≤ capacity → capacity ≤ limit → NeedPromise capacity (Ok (need capacity))
  needs_told low high = record { tells = λ l h. refl; refuses = λ out. absurd (out (low, high)) }

-- calls that look
module _ (s : List ℕ) where
  pub search-looks : (key : ℤ) (r : Result Searched Refusal) → r ≡ search_call s key → SearchPromise s key r
  unfolding search_call
  search-looks key r e = looks _ s _ _ _ r e (λ q k. search-means k key)

  pub read_looks : (h : Handle) (r : Result Entry Refusal) → r ≡ read_call s h → ReadPromise s h r
  unfolding read_call
  read_looks h r e = looks _ s (λ cap. read_by s cap h) _ _ r e (λ q k. rw (on_held k (λ cap. read_by s cap h) _) (read-means k h))

  pub first-looks : (r : Result (Option Cursor) Refusal) → r ≡ start_call s 0 → FirstPromise s r
  unfolding start_call
  first-looks r e = looks _ s (λ cap. moved_to (end_of s cap 0)) _ _ r e (λ q k. first-is k)

  pub last-looks : (r : Result (Option Cursor) Refusal) → r ≡ start_call s 1 → LastPromise s r
  unfolding start_call
  last-looks r e = looks _ s (λ cap. moved_to (end_of s cap 1)) _ _ r e (λ q k. last-is k)

  pub stand_looks : (h : Handle) (r : Result (Option Cursor) Refusal) → r ≡ stand_call s h → AtPromise s h r
  unfolding stand_call
  stand_looks h r e = looks _ s (λ cap. stand_in s cap h) _ _ r e (λ q k. stand_is k h)

  pub back-looks : (h : Handle) (r : Result (Option Cursor) Refusal) → r ≡ step_call s h 0 → BackPromise s h r
  unfolding step_call
  back-looks h r e = looks _ s (λ cap. step_in s cap h 0) _ _ r e (λ q k. back_is k h)

  pub forward_looks : (h : Handle) (r : Result (Option Cursor) Refusal) → r ≡ step_call s h 1 → ForwardPromise s h r
  unfolding step_call
  forward_looks h r e = looks _ s (λ cap. step_in s cap h 1) _ _ r e (λ q k. forward_is k h)

  pub ahead-looks : (key : ℤ) (r : Result Ahead Refusal) → r ≡ ahead_call s key → AheadPromise s key r
  unfolding ahead_call
  ahead-looks key r e = looks _ s (λ cap. A.ahead_normal s cap key) _ _ r e (λ q k. rw (on_held k (λ cap. A.ahead_normal s cap key) _) (normal-ahead k key))

  pub ahead-empty-looks : (r : Result Ahead Refusal) → r ≡ ahead_empty_call s → AheadEmptyPromise s r
  unfolding ahead_empty_call
  ahead-empty-looks r e key = looks _ s (λ cap. A.ahead_empty s cap) _ _ r e (λ q k. rw (on_held k (λ cap. A.ahead_empty s cap) _) (empty-ahead k key))

  pub ahead-manual-looks : (h : Handle) (side : Side) (key : ℤ) (r : Result Ahead Refusal) → r ≡ ahead_manual_call s h side key → AheadManualPromise s h side key r
  unfolding ahead_manual_call
  ahead-manual-looks h side key r e =
      looks _ s (λ cap. A.ahead_manual s cap h side key) _ _ r e (λ q k. rw (on_held k (λ cap. A.ahead_manual s cap h side key) _) (manual-ahead k key h side))

-- calls that write
kept : {s t : List ℕ} {cap : ℕ} {W : ℕ → ℕ → Type 0} {H : ℕ → Type 0} → Only s t cap W H → Keeps s t cap
kept o = only_weaken (λ j g hj w. tt) (λ h w. tt) o

module _ (s t : List ℕ) (r : Result Inserted Refusal) (key : ℤ) (value : ℕ) where
  pub insert-writes : (t, r) ≡ insert_call s key value → InsertPromise s t key value r
  unfolding insert_call
  insert-writes e =
      writes _ s (λ cap. I.normal_inserted s cap key value) _ _ (λ cap p. kept (insert-normal-within s cap key value))
      (λ q k. let m = normal-means k key value in (m.answer, m.holds)) t r e

  pub empty-writes : (t, r) ≡ empty_call s key value → EmptyPromise s t key value r
  unfolding empty_call
  empty-writes e =
      writes _ s (λ cap. I.empty_inserted s cap key value) _ _ (λ cap p. kept (insert-empty-within s cap key value))
      (λ q k. let m = empty-means k key value in (m.answer, m.holds)) t r e

  pub manual-writes : (h : Handle) (side : Side) → (t, r) ≡ manual_call s h side key value → ManualPromise s t h side key value r
  unfolding manual_call
  manual-writes h side e =
      writes _ s (λ cap. I.manual_inserted s cap h side key value) _ _ (λ cap p. kept (insert-manual-within s cap key value h side))
      (λ q k. let m = manual-means k key h side value in (m.answer, m.holds)) t r e

pub remove-writes : (s t : List ℕ) (r : Result Removed Refusal) (h : Handle) → (t, r) ≡ remove_call s h → RemovePromise s t h r
unfolding remove_call
remove-writes s t r h e =
    writes _ s (λ cap. remove_by s cap h) _ _ (λ cap p. kept (remove-kept s cap h))
    (λ q k. let m = remove-means k h in (m.answer, m.holds)) t r e

-- laying out: the store's good layouts are document 01's
pub good-one : (s : List ℕ) (cap top : ℕ) → GoodLayout (length s) cap top ↔ Rules.Good (enough_in s) cap top
good-one s cap top = (
  λ g. record { range = g.range; long = le-leb (need cap) (length s) g.room },
  λ g. record { range = g.range; room = leb-true (need cap) (length s) g.long },
)

module _ (s t : List ℕ) (r : Result ⊤ Refusal) (cap top : ℕ) (e : (t, r) ≡ lay_out_words s cap top) where
  pub lays : LayOutPromise s t cap top r
  lays = record {
    does = e;
    lays = laid_out s t r cap top e;
    refuses = not_laid_lem s t r cap top e;
    means = laid-means s t r cap top e (good-one s cap top) (Rules.good (enough_in s) cap top) refl;
  }
