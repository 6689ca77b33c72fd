-- Demand 3 of the store: from a freshly laid out one, or from any that holds a queue, after any sequence of calls, refused ones included.
-- A reader may rely on: demand_3_of_the_store, for every store, capacity and top generation that can be laid out, and every list of
-- calls; demand_3_from. The public functions are proved equal to the models that `on_store` runs, so this speaks of the code.
use Prim.Native.Nat.{ℕ}
use mathlib.Core.Path.{◌≡◌, refl, ap, subst, ◌∙◌}
use mathlib.Core.Bool.{Bool, true, false}
use mathlib.Core.List.{List, []}
use lib.Dec.{leb}
use lib.ListN.{length}
use Rattle.arena.specs.Words.{need}
use Rattle.arena.specs.Keys.{signed}
use Rattle.arena.specs.Laying.{GoodLayout}
use Rattle.arena.specs.inner.Laying.{lay_out_words}
use Rattle.arena.proofs.KeyLaws.{signed_undone}
use Rattle.rules.specs.Queue.{Queue, fresh, entries}
use Rattle.rules.specs.Answers.{Where, less, equal, greater}
use Rattle.rules.specs.LayOut as Rules
use Rattle.rules.specs.Insert.{Kind, normal, on_empty, manual}
use Rattle.rules.specs.Calls.{Look, foresees, reading, searching, to_first, to_last, standing, to_next, to_prev, checking, look, Call, inserts, removal, laying_out, looks, answer, run_by, run}
use Rattle.rules.proofs.Kept.{fresh-sound}
use Rattle.rules.proofs.History.{good_fact, not_good}
use Rattle.queue_of_store.specs.Holds.{Holds}
use Rattle.queue_of_store.proofs.Parts.{sound_of}
use Rattle.insert_means.specs.Meaning.{side_means}
use Rattle.sound.specs.inner.Check.{sound_model}
use Rattle.sound.proofs.Decided.{decides}
use Rattle.queue.specs.Promises.{enough_in}
use Rattle.queue.proofs.Promising.{insert-writes, empty-writes, manual-writes, ahead-looks, ahead-empty-looks, ahead-manual-looks, remove-writes, read_looks, search-looks, first-looks, last-looks, stand_looks, back-looks, forward_looks, lays, good-one}
use Rattle.history.specs.Book.{begun, kept}
use Rattle.history.specs.Follow.{Follows, Demanded}
use Rattle.history.proofs.Followed.{follows-run, follows-demand, follows-fresh}
use Rattle.history_of_store.specs.Store.{held, where_of_side, look_on, on_store, Keeps}

side-back : (w : Where) → side_means (where_of_side w) ≡ w
side-back less = refl
side-back equal = refl
side-back greater = refl

-- one call on a store that holds a queue: document 01's answer, document 01's queue, and the length stays
pub record Same (c : Call) (s : List ℕ) (q : Queue) : Type 0 where
  pub answers : (on_store c s).0 ≡ (answer (enough_in s) c q).0
  pub holds : Holds (on_store c s).1 (answer (enough_in s) c q).1
  pub long : length (on_store c s).1 ≡ length s

module _ (s : List ℕ) (q : Queue) (h : Holds s q) where
  one-insert : (kind : Kind) (k v : ℕ) → Same (inserts kind k v) s q
  unfolding on_store answer
  one-insert normal k v =
      let w = insert-writes s _ _ (signed k) v refl in
      record { answers = rw (signed_undone k) at (w.means q h).0; holds = rw (signed_undone k) at (w.means q h).1; long = w.long }
  one-insert on_empty k v =
      let w = empty-writes s _ _ (signed k) v refl in
      record { answers = rw (signed_undone k) at (w.means q h).0; holds = rw (signed_undone k) at (w.means q h).1; long = w.long }
  one-insert (manual g w) k v =
      let m = manual-writes s _ _ (signed k) v (held g) (where_of_side w) refl in
      record { answers = rw (signed_undone k, side-back w) at (m.means q h).0; holds = rw (signed_undone k, side-back w) at (m.means q h).1; long = m.long }

  one-foresees : (kind : Kind) (k : ℕ) → look_on (foresees kind k) s ≡ look (foresees kind k) q
  unfolding look_on look
  one-foresees normal k = rw (signed_undone k) at ((ahead-looks s (signed k) _ refl).means q h)
  one-foresees on_empty k = rw (signed_undone k) at ((ahead-empty-looks s _ refl (signed k)).means q h)
  one-foresees (manual g w) k = rw (signed_undone k, side-back w) at ((ahead-manual-looks s (held g) (where_of_side w) (signed k) _ refl).means q h)

  one-look : (l : Look) → look_on l s ≡ look l q
  unfolding look_on look
  one-look (foresees kind k) = one-foresees kind k
  one-look (reading g) = (read_looks s (held g) _ refl).means q h
  one-look (searching k) = rw (signed_undone k) at ((search-looks s (signed k) _ refl).means q h)
  one-look to_first = (first-looks s _ refl).means q h
  one-look to_last = (last-looks s _ refl).means q h
  one-look (standing g) = (stand_looks s (held g) _ refl).means q h
  one-look (to_next g) = (forward_looks s (held g) _ refl).means q h
  one-look (to_prev g) = (back-looks s (held g) _ refl).means q h
  one-look checking = (decides s (sound_model s) refl).yes.1 (q, h)

  laid-long : (capacity top : ℕ) (b : Bool) → Rules.good (enough_in s) capacity top ≡ b → length (lay_out_words s capacity top).0 ≡ length s
  laid-long capacity top true e = ((lays s _ _ capacity top refl).lays ((good-one s capacity top).1 (good_fact (enough_in s) capacity top e))).1.long
  laid-long capacity top false e =
      ap (λ (x : List ℕ). length x) ((lays s _ _ capacity top refl).refuses (λ g. not_good (enough_in s) capacity top e ((good-one s capacity top).0 g))).0

  pub one-call : (c : Call) → Same c s q
  unfolding on_store answer
  one-call (inserts kind k v) = one-insert kind k v
  one-call (removal g) = let w = remove-writes s _ _ (held g) refl in record { answers = (w.means q h).0; holds = (w.means q h).1; long = w.long }
  one-call (laying_out capacity top) =
      let m = (lays s _ _ capacity top refl).means q h in
      record { answers = m.0; holds = m.1; long = laid-long capacity top (Rules.good (enough_in s) capacity top) refl }
  one-call (looks l) = record { answers = one-look l; holds = h; long = refl }

-- how long a store of n numbers is enough for
abbrev pub enough_of : ℕ → ℕ → Bool
enough_of n capacity = leb (need capacity) n

pub follows : (n : ℕ) → Follows (List ℕ) on_store (enough_of n) (Keeps n)
follows n = record {
  same_answer = λ c s q o k. subst (λ (m : ℕ). (on_store c s).0 ≡ (answer (enough_of m) c q).0) k.long (one-call s q k.holds c).answers;
  same_queue = λ c s q o k.
      let m = one-call s q k.holds c in
      record { holds = subst (λ (m : ℕ). Holds (on_store c s).1 (answer (enough_of m) c q).1) k.long m.holds; long = m.long ∙ k.long };
}

-- from any store that holds a queue: the book is begun with the entries and free slots found there
pub demand_3_from : (s : List ℕ) (q : Queue) → Holds s q → (l : List Call)
    → Demanded (List ℕ) on_store (enough_in s) (Keeps (length s)) (kept (begun (entries q) (length q.free)) (run_by on_store l s).0) (run_by on_store l s).1
demand_3_from s q h l = follows-demand (List ℕ) on_store (enough_in s) (Keeps (length s)) (follows (length s)) q (sound_of h) s (record { holds = h; long = refl }) l

-- a store freshly laid out, whatever it held
module _ (s : List ℕ) (capacity top : ℕ) (g : GoodLayout (length s) capacity top) where
  pub laid-keeps : Keeps (length s) (lay_out_words s capacity top).0 (fresh capacity top)
  laid-keeps = let m = (lays s _ _ capacity top refl).lays g in record { holds = m.2; long = m.1.long }

  pub demand_3_of_the_store : (l : List Call)
      → Demanded (List ℕ) on_store (enough_in s) (Keeps (length s)) (kept (begun [] capacity) (run_by on_store l (lay_out_words s capacity top).0).0) (run_by on_store l (lay_out_words s capacity top).0).1
  demand_3_of_the_store l =
      follows-fresh (List ℕ) on_store (enough_in s) (Keeps (length s)) (follows (length s)) capacity top g.range (lay_out_words s capacity top).0 laid-keeps l

  -- what comes of a list of calls on the fresh queue comes of it on the store
  pub run_on_the_store : (l : List Call) → ((run_by on_store l (lay_out_words s capacity top).0).0 ≡ (run (enough_in s) l (fresh capacity top)).0)
      × Keeps (length s) (run_by on_store l (lay_out_words s capacity top).0).1 (run (enough_in s) l (fresh capacity top)).1
  run_on_the_store l =
      follows-run (List ℕ) on_store (enough_in s) (Keeps (length s)) (follows (length s)) l (lay_out_words s capacity top).0 (fresh capacity top) (fresh-sound capacity top g.range) laid-keeps
