-- What follows from the promises on a sound store: refusals come exactly when document 01's table says and change nothing, a sound
-- store stays sound, and a search's count is the length of the stored path, within its bound.
use Prim.Native.Nat.{ℕ, ◌+◌, ◌*◌, ◌^◌, ◌≤◌}
use mathlib.Core.Path.{◌≡◌, refl, sym, ◌∙◌, ap, subst}
use mathlib.Core.Logic.{◌⊎◌, inl, inr, ◌↔◌}
use mathlib.Core.Bool.{Bool, true, false}
use mathlib.Core.List.{List}
use native.Mathlib.Omega.{arith}
use lib.IntN.{ℤ}
use lib.ListN.{length}
use Rattle.handle.specs.Numbers.{InRange}
use Rattle.handle.specs.declared.Handle as H
use Rattle.handle.specs.declared.Side as D
use Rattle.arena.specs.Words.{need}
use Rattle.arena.specs.Keys.{stored}
use Rattle.arena.specs.Laying.{GoodLayout}
use Rattle.wavl.specs.Search.{path}
use Rattle.wavl.specs.Tree.{left, right}
use Rattle.rules.specs.Queue.{Queue, Live, Has, entries}
use Rattle.rules.specs.Answers.{laid, not_laid, not_inserted, would_refuse, not_removed, not_read, not_stepped, not_found, not_within_capacity, failed_ord_requirement, invalid_ptr, bad_layout}
use Rattle.rules.specs.LayOut as Rules
use Rattle.rules.specs.Insert.{Kind, normal, on_empty, manual, insert, foresee}
use Rattle.rules.specs.Table.{NoSlot, NoEntries, ManualFits, Adding, count_of}
use Rattle.rules.proofs.Refusals.{normal-refused_1, normal-refused-only, empty-refused_1, empty-refused_2, empty-refused-only, manual-refused_1, manual-refused_2, manual-refused-only, remove-refused_3, remove-refused-only, read-refused_3, read-refused-only, stand_refused_3, stand_refused-only, step-refused_3, step-refused-only, first-never, last-never, ahead-refused}
use Rattle.rules.proofs.History.{good_fact, not_good}
use Rattle.rules.proofs.Unchanged.{insert_unchanged, remove_unchanged}
use Rattle.rules.proofs.Looking.{search-path, search-bound, search-never}
use Rattle.queue_of_store.specs.Handles.{plain}
use Rattle.queue_of_store.specs.Holds.{Holds, SoundStore}
use Rattle.queue_of_store.proofs.Parts.{sound_of}
use Rattle.queue_of_store.proofs.SameStore.{same_store}
use Rattle.insert_means.specs.Meaning.{inserted_means, ahead_means, side_means}
use Rattle.remove_means.specs.Meaning.{removed_means, read_means}
use Rattle.queue.specs.Promises.{enough_in, Writes, Looks}
use Rattle.queue.specs.Readings.{laid_means, search_means, moved_means}
use Rattle.queue.specs.Promised.{NeedPromise, LayOutPromise, InsertPromise, EmptyPromise, ManualPromise, RemovePromise, ReadPromise, SearchPromise, FirstPromise, LastPromise, AtPromise, BackPromise, ForwardPromise}
use Rattle.queue.proofs.Promising.{good-one}
use Rattle.handle.specs.declared.Inserted as I
use Rattle.handle.specs.declared.Ahead as A
use Rattle.handle.specs.declared.Removed as X
use Rattle.queue.specs.declared.looking.Searched.{Searched}
use Rattle.std.specs.Prelude.{Result, Ok, Option, ⊤}
use Rattle.handle.specs.declared.Refusal.{Refusal}
use Rattle.handle.specs.declared.Entry.{Entry}
use Rattle.queue.specs.declared.cursor.Cursor.{Cursor}

-- a sound store stays sound
pub stays_sound : {A B : Type 0} {five : A} {model : List ℕ × A} {reads : A → B} {rule : Queue → B × Queue} {s t : List ℕ} {r : A}
    → Writes five model reads rule s t r → SoundStore s → SoundStore t
stays_sound {rule = rule} w x = ((rule x.0).1, (w.means x.0 x.1).1)

-- "Each refusal .. changes nothing": where document 01's queue stays, every number of the store stays
pub nothing_changes : {A B : Type 0} {five : A} {model : List ℕ × A} {reads : A → B} {rule : Queue → B × Queue} {s t : List ℕ} {r : A} {q : Queue}
    → Writes five model reads rule s t r → Holds s q → (rule q).1 ≡ q → t ≡ s
nothing_changes {t = t} {q = q} w k e =
    same_store (subst (λ (x : Queue). Holds t x) e (w.means q k).1) k w.long (w.rest q.capacity k.header.passes)

module _ {s : List ℕ} {q : Queue} (k : Holds s q) where
  -- Normal: "1: a new entry is needed and no slot is free", and no other number
  module _ (t : List ℕ) (key : ℤ) (value : ℕ) (r : Result I.Inserted Refusal) (w : InsertPromise s t key value r) where
    pub insert-refused-by_1 : (inserted_means r ≡ not_inserted not_within_capacity) ↔ ((¬ Has (stored key) q) × NoSlot q)
    insert-refused-by_1 = rw (w.means q k).0 (normal-refused_1 (stored key) value q (sound_of k))

    pub insert-refused-by : (n : ℕ) → inserted_means r ≡ not_inserted n → n ≡ not_within_capacity
    insert-refused-by n e = normal-refused-only (stored key) value q (sound_of k) n (sym (w.means q k).0 ∙ e)

    pub insert_stays : (n : ℕ) → inserted_means r ≡ not_inserted n → t ≡ s
    insert_stays n e = nothing_changes w k (insert_unchanged (stored key) q normal value n (sym (w.means q k).0 ∙ e))

  -- Empty: "2: Empty kind on a queue with entries"
  module _ (t : List ℕ) (key : ℤ) (value : ℕ) (r : Result I.Inserted Refusal) (w : EmptyPromise s t key value r) where
    pub empty-refused-by_2 : (inserted_means r ≡ not_inserted failed_ord_requirement) ↔ (¬ NoEntries q)
    empty-refused-by_2 = rw (w.means q k).0 (empty-refused_2 (stored key) value q)

    pub empty-refused-by_1 : (inserted_means r ≡ not_inserted not_within_capacity) ↔ (NoEntries q × NoSlot q)
    empty-refused-by_1 = rw (w.means q k).0 (empty-refused_1 (stored key) value q)

    pub empty-refused-by : (n : ℕ) → inserted_means r ≡ not_inserted n → (n ≡ failed_ord_requirement) ⊎ (n ≡ not_within_capacity)
    empty-refused-by n e = empty-refused-only (stored key) value q n (sym (w.means q k).0 ∙ e)

    pub empty_stays : (n : ℕ) → inserted_means r ≡ not_inserted n → t ≡ s
    empty_stays n e = nothing_changes w k (insert_unchanged (stored key) q on_empty value n (sym (w.means q k).0 ∙ e))

  -- Manual: "2: Manual with a handle that names no live entry, or a key that doesn't fit"
  module _ (t : List ℕ) (h : H.Handle) (side : D.Side) (key : ℤ) (value : ℕ) (r : Result I.Inserted Refusal) (w : ManualPromise s t h side key value r) where
    pub manual-refused-by_2 : (inserted_means r ≡ not_inserted failed_ord_requirement) ↔ (¬ ManualFits (plain h) (side_means side) (stored key) q)
    manual-refused-by_2 = rw (w.means q k).0 (manual-refused_2 (plain h) (side_means side) (stored key) value q (sound_of k))

    pub manual-refused-by_1 : (inserted_means r ≡ not_inserted not_within_capacity) ↔ (ManualFits (plain h) (side_means side) (stored key) q × Adding (side_means side) × NoSlot q)
    manual-refused-by_1 = rw (w.means q k).0 (manual-refused_1 (plain h) (side_means side) (stored key) value q (sound_of k))

    pub manual-refused-by : (n : ℕ) → inserted_means r ≡ not_inserted n → (n ≡ failed_ord_requirement) ⊎ (n ≡ not_within_capacity)
    manual-refused-by n e = manual-refused-only (plain h) (side_means side) (stored key) value q (sound_of k) n (sym (w.means q k).0 ∙ e)

    pub manual_stays : (n : ℕ) → inserted_means r ≡ not_inserted n → t ≡ s
    manual_stays n e = nothing_changes w k (insert_unchanged (stored key) q (manual (plain h) (side_means side)) value n (sym (w.means q k).0 ∙ e))

  -- "3: removal, reading or stepping with a handle that names no live entry"
  module _ (t : List ℕ) (h : H.Handle) (r : Result X.Removed Refusal) (w : RemovePromise s t h r) where
    pub remove-refused : (removed_means r ≡ not_removed invalid_ptr) ↔ (¬ Live (plain h) q)
    remove-refused = rw (w.means q k).0 (remove-refused_3 (plain h) q (sound_of k))

    pub remove-refused-by : (n : ℕ) → removed_means r ≡ not_removed n → n ≡ invalid_ptr
    remove-refused-by n e = remove-refused-only (plain h) q (sound_of k) n (sym (w.means q k).0 ∙ e)

    pub remove_stays : (n : ℕ) → removed_means r ≡ not_removed n → t ≡ s
    remove_stays n e = nothing_changes w k (remove_unchanged (plain h) q n (sym (w.means q k).0 ∙ e))

  -- Reading, standing and stepping: 3 exactly so, and no other number
  module _ (h : H.Handle) where
    pub read-refused : (r : Result Entry Refusal) → ReadPromise s h r → (read_means r ≡ not_read invalid_ptr) ↔ (¬ Live (plain h) q)
    read-refused r w = rw (w.means q k) (read-refused_3 (plain h) q (sound_of k))

    pub read-refused-by : (r : Result Entry Refusal) → ReadPromise s h r → (n : ℕ) → read_means r ≡ not_read n → n ≡ invalid_ptr
    read-refused-by r w n e = read-refused-only (plain h) q (sound_of k) n (sym (w.means q k) ∙ e)

    pub at-refused : (r : Result (Option Cursor) Refusal) → AtPromise s h r → (moved_means r ≡ not_stepped invalid_ptr) ↔ (¬ Live (plain h) q)
    at-refused r w = rw (w.means q k) (stand_refused_3 (plain h) q (sound_of k))

    pub at-refused-by : (r : Result (Option Cursor) Refusal) → AtPromise s h r → (n : ℕ) → moved_means r ≡ not_stepped n → n ≡ invalid_ptr
    at-refused-by r w n e = stand_refused-only (plain h) q (sound_of k) n (sym (w.means q k) ∙ e)

    pub back-refused : (r : Result (Option Cursor) Refusal) → BackPromise s h r → (moved_means r ≡ not_stepped invalid_ptr) ↔ (¬ Live (plain h) q)
    back-refused r w = rw (w.means q k) (step-refused_3 (plain h) q (sound_of k) left)

    pub back-refused-by : (r : Result (Option Cursor) Refusal) → BackPromise s h r → (n : ℕ) → moved_means r ≡ not_stepped n → n ≡ invalid_ptr
    back-refused-by r w n e = step-refused-only (plain h) q (sound_of k) left n (sym (w.means q k) ∙ e)

    pub forward_refused : (r : Result (Option Cursor) Refusal) → ForwardPromise s h r → (moved_means r ≡ not_stepped invalid_ptr) ↔ (¬ Live (plain h) q)
    forward_refused r w = rw (w.means q k) (step-refused_3 (plain h) q (sound_of k) right)

    pub forward_refused-by : (r : Result (Option Cursor) Refusal) → ForwardPromise s h r → (n : ℕ) → moved_means r ≡ not_stepped n → n ≡ invalid_ptr
    forward_refused-by r w n e = step-refused-only (plain h) q (sound_of k) right n (sym (w.means q k) ∙ e)

  -- "An absent key, an empty queue and the end of the chain are answers, no refusals."
  pub first_accepted : (r : Result (Option Cursor) Refusal) → FirstPromise s r → (n : ℕ) → ¬ (moved_means r ≡ not_stepped n)
  first_accepted r w n e = first-never q n (sym (w.means q k) ∙ e)

  pub last_accepted : (r : Result (Option Cursor) Refusal) → LastPromise s r → (n : ℕ) → ¬ (moved_means r ≡ not_stepped n)
  last_accepted r w n e = last-never q n (sym (w.means q k) ∙ e)

  -- A look-ahead of any kind foretells the refusal that the insertion would get, with any value, and no other
  pub ahead-refused-by : {five model : (Result A.Ahead Refusal)} (kind : Kind) (key value : ℕ) (r : Result A.Ahead Refusal) → Looks five model ahead_means (foresee kind key) s r
      → (n : ℕ) → (ahead_means r ≡ would_refuse n) ↔ ((insert kind key value q).0 ≡ not_inserted n)
  ahead-refused-by kind key value r w n = rw (w.means q k) (ahead-refused kind key value q n)

  -- the count is the length of the stored path, and 2^p ≤ (n+1)²; a search refuses nothing
  module _ (key : ℤ) (r : Result Searched Refusal) (w : SearchPromise s key r) where
    pub search_accepted : (n : ℕ) → ¬ (search_means r ≡ not_found n)
    search_accepted n e = search-never (stored key) q (sound_of k) n (sym (w.means q k) ∙ e)

    pub search-count : count_of (search_means r) ≡ length (path (stored key) q.tree)
    search-count = rw (w.means q k) (search-path (stored key) q)

    pub search-few : 2 ^ count_of (search_means r) ≤ (length (entries q) + 1) * (length (entries q) + 1)
    search-few = rw (w.means q k) (search-bound (stored key) q (sound_of k))

-- Laying out, on every store, sound or not: 4 exactly where the layout is not good, and no other number
module _ (s t : List ℕ) (capacity top : ℕ) (r : Result ⊤ Refusal) (w : LayOutPromise s t capacity top r) where
  good_or_not : GoodLayout (length s) capacity top ⊎ (¬ GoodLayout (length s) capacity top)
  good_or_not = go (Rules.good (enough_in s) capacity top) refl
    where
      go : (b : Bool) → Rules.good (enough_in s) capacity top ≡ b → GoodLayout (length s) capacity top ⊎ (¬ GoodLayout (length s) capacity top)
      go true e = inl ((good-one s capacity top).1 (good_fact (enough_in s) capacity top e))
      go false e = inr (λ g. not_good (enough_in s) capacity top e ((good-one s capacity top).0 g))

  pub layout_refused : (laid_means r ≡ not_laid bad_layout) ↔ (¬ GoodLayout (length s) capacity top)
  layout_refused = (λ e g. differ (sym (ap laid_means (w.lays g).0) ∙ e), λ n. ap laid_means (w.refuses n).1)
    where
      differ : ¬ (laid ≡ not_laid bad_layout)
      differ e = let z : ◌≡◌ {A = ℕ} 0 1 = cc in absurd (omega arith)

  pub layout_refused-by : (n : ℕ) → laid_means r ≡ not_laid n → n ≡ bad_layout
  layout_refused-by n e = go good_or_not
    where
      go : GoodLayout (length s) capacity top ⊎ (¬ GoodLayout (length s) capacity top) → n ≡ bad_layout
      go (inl g) = let f : laid ≡ not_laid n = sym (ap laid_means (w.lays g).0) ∙ e in absurd (let z : ◌≡◌ {A = ℕ} 0 1 = cc in omega arith)
      go (inr m) = let f : not_laid bad_layout ≡ not_laid n = sym (ap laid_means (w.refuses m).1) ∙ e in cc

-- a capacity's numbers are the least length at which laying out takes it
pub needed_lays : (len capacity top n : ℕ) → InRange capacity top → NeedPromise capacity (Ok n)
    → GoodLayout len capacity top ↔ (n ≤ len)
needed_lays len capacity top n g w =
    let e : Ok n ≡ Ok (need capacity) = w.tells g.capacity-from g.capacity-to in
    let z : n ≡ need capacity = cc in
    (λ x. rw z x.room, λ m. record { range = g; room = rw (sym z) m })
