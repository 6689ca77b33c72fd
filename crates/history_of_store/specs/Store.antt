-- A call of a history, made on a store: the models that the public functions are proved equal to (crates `queue` and `sound`), the answers
-- read in document 01's terms. A history names keys in stored form and handles as slot and generation; here they become a caller's.
-- A reader may rely on: `on_store` is what the public functions do, on any words; proofs/Linked draws demand 3 from it.
use Rattle.std.specs.Prelude.{ℕ, ◌≡◌, List, ℤ, length, Result}
use Rattle.handle.specs.declared.Handle as H
use Rattle.handle.specs.declared.Side as D
use Rattle.arena.specs.Keys.{signed}
use Rattle.arena.specs.inner.Laying.{lay_out_words}
use Rattle.rules.specs.Queue.{Handle, Queue}
use Rattle.rules.specs.Answers.{Where, less, equal, greater}
use Rattle.rules.specs.Insert.{Kind, normal, on_empty, manual}
use Rattle.rules.specs.Calls.{Look, foresees, reading, searching, to_first, to_last, standing, to_next, to_prev, checking, Seen, Call, inserts, removal, laying_out, looks, Answer}
use Rattle.queue_of_store.specs.Holds.{Holds}
use Rattle.insert_means.specs.Meaning.{inserted_means, ahead_means}
use Rattle.remove_means.specs.Meaning.{removed_means, read_means}
use Rattle.queue.specs.inner.Placing.{insert_call, empty_call, manual_call, ahead_call, ahead_empty_call, ahead_manual_call}
use Rattle.queue.specs.inner.Taking.{remove_call}
use Rattle.queue.specs.inner.Looking.{search_call, read_call}
use Rattle.queue.specs.inner.Moving.{start_call, stand_call, step_call}
use Rattle.queue.specs.Readings.{laid_means, search_means, moved_means}
use Rattle.sound.specs.inner.Check.{sound_model}
use Rattle.handle.specs.declared.Inserted as I
use Rattle.handle.specs.declared.Ahead as A
use Rattle.handle.specs.declared.Refusal.{Refusal}

-- a handle and a side of the history as the caller holds them
abbrev pub held : Handle → H.Handle
held h = record { slot = record { 0 = h.slot }; generation = record { 0 = h.generation } }

abbrev pub where_of_side : Where → D.Side
where_of_side less = D.TheVariants.Less
where_of_side equal = D.TheVariants.Equal
where_of_side greater = D.TheVariants.Greater

-- the public call of each kind, and of its look-ahead
abbrev pub insert_on : Kind → List ℕ → ℤ → ℕ → List ℕ × Result I.Inserted Refusal
insert_on normal s key value = insert_call s key value
insert_on on_empty s key value = empty_call s key value
insert_on (manual h w) s key value = manual_call s (held h) (where_of_side w) key value

abbrev pub ahead_on : Kind → List ℕ → ℤ → Result A.Ahead Refusal
ahead_on normal s key = ahead_call s key
ahead_on on_empty s key = ahead_empty_call s
ahead_on (manual h w) s key = ahead_manual_call s (held h) (where_of_side w) key

unfoldable pub look_on : (l : Look) → List ℕ → Seen l
look_on (foresees kind k) s = ahead_means (ahead_on kind s (signed k))
look_on (reading h) s = read_means (read_call s (held h))
look_on (searching k) s = search_means (search_call s (signed k))
look_on to_first s = moved_means (start_call s 0)
look_on to_last s = moved_means (start_call s 1)
look_on (standing h) s = moved_means (stand_call s (held h))
look_on (to_next h) s = moved_means (step_call s (held h) 1)
look_on (to_prev h) s = moved_means (step_call s (held h) 0)
look_on checking s = sound_model s

-- the answer read, then the store
abbrev pub told : {A B : Type 0} → (A → B) → List ℕ × A → B × List ℕ
told reads x = (reads x.1, x.0)

unfoldable pub on_store : (c : Call) → List ℕ → Answer c × List ℕ
on_store (inserts kind k v) s = told inserted_means (insert_on kind s (signed k) v)
on_store (removal h) s = told removed_means (remove_call s (held h))
on_store (laying_out capacity top) s = told laid_means (lay_out_words s capacity top)
on_store (looks l) s = (look_on l s, s)

-- a store of n numbers that holds the queue
pub record Keeps (n : ℕ) (s : List ℕ) (q : Queue) : Type 0 where
  pub holds : Holds s q
  pub long : length s ≡ n
