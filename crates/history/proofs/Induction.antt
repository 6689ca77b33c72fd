-- The induction over a list of calls: what holds of a book and the queue after a history, and that one call more keeps it.
-- A reader may rely on kept-start, for every sound queue, and on kept_run; kept_step asks nothing of a call but that its deed tells what it did.
use mathlib.Core.Path.{◌≡◌, refl, sym, ap, subst}
use mathlib.Core.Logic.{◌⊎◌, inl, inr}
use mathlib.Core.Bool.{Bool}
use mathlib.Core.List.{List, [], ◌∷◌}
use Prim.Native.Nat.{ℕ, zero, suc, ◌+◌}
use native.Mathlib.Omega.{arith}
use lib.ListN.{length}
use Rattle.handle.specs.Numbers.{InRange}
use Rattle.wavl.specs.Lists.{All, In, Once}
use Rattle.wavl.specs.Entry.{Entry, slots}
use Rattle.wavl.specs.Tree.{inorder}
use Rattle.wavl.proofs.Lists.{all_map, all_in, all_of, in_slots_lem}
use Rattle.rules.specs.Queue.{Handle, handle_of, entry_with, Queue, fresh_from, fresh, entries, HasEntry, Live}
use Rattle.rules.specs.Answers.{Note, no_note, generation_overflow}
use Rattle.rules.specs.Sound.{Sound}
use Rattle.rules.specs.inner.Changes.{Adds}
use Rattle.rules.specs.inner.Handles.{FreedBy}
use Rattle.rules.specs.Calls.{Call, answer, run_by, run}
use Rattle.rules.proofs.Kept.{fresh-sound}
use Rattle.rules.proofs.Removing.{live-once}
use Rattle.rules.proofs.Handles.{adds-handle, adds-free, swaps-free}
use Rattle.rules.proofs.History.{answer-sound}
use Rattle.history.specs.Deed.{Deed, adds, replaces, takes_out, begins, nothing, deed}
use Rattle.history.specs.Book.{Book, handles, begun, note_count, tell, kept, OnceEach, Shuffled}
use Rattle.history.proofs.After.{After, Swapped, Taken, answer-after}
use Rattle.history.proofs.Shuffle.{shuffled_self, shuffled_revalue, shuffled_without}
use Rattle.history.proofs.Same.{swaps-same, takes_same}
use Rattle.history.proofs.Passed.{Aged, live-aged, free_not_aged, adds-aged, swaps-aged, takes-aged, taken-passed}
use Rattle.history.proofs.Live.{Listed, adds-listed, swaps-listed, takes-listed, adds-live, swaps-live, takes-live}

-- what the induction carries
pub record Kept (b : Book) (q : Queue) : Type 0 where
  pub sound : Sound q
  pub same : Shuffled b.left (entries q)
  -- the slot of each handle given is at its generation or above, of each taken out above
  pub aged : All (Aged 0 q) b.given
  pub passed : All (Aged 1 q) b.gone
  -- an entry's handle was given, and a handle given is live or was taken out
  pub listed : All (Listed b.given) (entries q)
  pub live_or_gone : (g : Handle) → In g b.given → Live g q ⊎ In g b.gone
  pub once : OnceEach b.given
  pub count : length q.free + b.additions + b.noted ≡ b.start + b.removals

-- ---- the start: any sound queue, with its own entries and free slots

handles_in : (l : List Entry) (x : Entry) → In x l → In (handle_of x) (handles l)
unfolding handles
handles_in [] x i = absurd i
handles_in (y ∷ l) x (inl e) = inl (ap handle_of e)
handles_in (y ∷ l) x (inr i) = inr (handles_in l x i)

in_handles : (l : List Entry) (g : Handle) → In g (handles l) → (x : Entry) × In x l × (g ≡ handle_of x)
unfolding handles
in_handles [] g i = absurd i
in_handles (y ∷ l) g (inl e) = (y, inl refl, e)
in_handles (y ∷ l) g (inr i) = let r = in_handles l g i in (r.0, inr r.1, r.2)

handles_all : (P : Handle → Type 0) (l : List Entry) → ((x : Entry) → In x l → P (handle_of x)) → All P (handles l)
handles_all P l f = all_of P (handles l) (λ g i. let r = in_handles l g i in subst P (sym r.2) (f r.0 r.1))

-- entries in different slots have different handles
handles-once : (l : List Entry) → Once (slots l) → OnceEach (handles l)
unfolding handles slots
handles-once [] o = tt
handles-once (x ∷ l) o =
    (handles_all _ l (λ y i e. all_in _ (slots l) o.0 y.slot (in_slots_lem y l i) (ap (λ (h : Handle). h.slot) e)), handles-once l o.1)

handle-live : (q : Queue) (g : Handle) → (x : Entry) × HasEntry q x × (g ≡ handle_of x) → Live g q
handle-live q g r = (r.0, r.1, rw r.2 (refl, refl))

pub kept-start : (q : Queue) → Sound q → Kept (begun (entries q) (length q.free)) q
unfolding begun
kept-start q s = record {
  sound = s;
  same = shuffled_self (entries q);
  aged = handles_all (Aged 0 q) (entries q) (λ x i. live-aged s x i);
  passed = tt;
  listed = all_of (Listed (handles (entries q))) (entries q) (λ x i. handles_in (entries q) x i);
  live_or_gone = λ g i. inl (handle-live q g (in_handles (entries q) g i));
  once = handles-once (entries q) (live-once s);
  count = omega arith;
}

-- the fresh queue is the case with none
fresh_length : (s n : ℕ) → length (fresh_from s n) ≡ n
unfolding fresh_from
fresh_length s zero = refl
fresh_length s (suc n) = ap suc (fresh_length (suc s) n)

pub kept_fresh : (capacity top : ℕ) → InRange capacity top → Kept (begun [] capacity) (fresh capacity top)
unfolding fresh inorder
kept_fresh capacity top r = rw (fresh_length 0 capacity) at (kept-start (fresh capacity top) (fresh-sound capacity top r))

-- ---- one call more

note-count : (note : Note) (m n : ℕ) → FreedBy note m n → n + note_count note ≡ suc m
unfolding note_count
note-count no_note m n f = omega arith
note-count generation_overflow m n f = omega arith

module _ (b : Book) (q q' : Queue) (k : Kept b q) (s : Sound q') where
  kept-adds : (h : Handle) (key value : ℕ) → Adds q q' h key value → Kept (tell (adds h key value) b) q'
  unfolding tell
  kept-adds h key value c = record {
    sound = s;
    same = (c.smaller, c.greater, c.now, rw c.old at k.same);
    aged = (live-aged s (entry_with h key value) (adds-handle k.sound c).names-new, all_map _ _ (λ g a. adds-aged 0 (omega arith) g q q' a h key value c) b.given k.aged);
    passed = all_map _ _ (λ g a. adds-aged 1 (omega arith) g q q' a h key value c) b.gone k.passed;
    listed = adds-listed h key value b.given c k.listed;
    live_or_gone = λ g i. known g i;
    once = (all_map _ _ (λ g m e. free_not_aged {n = 0} {q = q} h (rw c.was_free (inl refl)) (rw e m)) b.given k.aged, k.once);
    count = let e = adds-free c in let n = k.count in omega arith;
  }
    where
      still : (g : Handle) → Live g q ⊎ In g b.gone → Live g q' ⊎ In g b.gone
      still g (inl l) = inl (adds-live h key value k.sound c g l)
      still g (inr i) = inr i

      known : (g : Handle) → In g (h ∷ b.given) → Live g q' ⊎ In g b.gone
      known g (inl e) = inl (entry_with h key value, (adds-handle k.sound c).names-new, rw e (refl, refl))
      known g (inr i) = still g (k.live_or_gone g i)

  kept-swaps : (h : Handle) (value : ℕ) → Swapped h value q q' → Kept (tell (replaces h value) b) q'
  unfolding tell
  kept-swaps h value w = let c = w.swaps in let y = w.old in record {
    sound = s;
    same = rw (← (swaps-same h value y k.sound w.named c)) (shuffled_revalue h value b.left (entries q) k.same);
    aged = all_map _ _ (λ g a. swaps-aged 0 (omega arith) g q q' a y value c) b.given k.aged;
    passed = all_map _ _ (λ g a. swaps-aged 1 (omega arith) g q q' a y value c) b.gone k.passed;
    listed = swaps-listed y value b.given c k.listed;
    live_or_gone = λ g i. still g (k.live_or_gone g i);
    once = k.once;
    count = let e = swaps-free c in let n = k.count in omega arith;
  }
    where
      still : (g : Handle) → Live g q ⊎ In g b.gone → Live g q' ⊎ In g b.gone
      still g (inl l) = inl (swaps-live w.old value w.swaps g l)
      still g (inr i) = inr i

  kept-takes : (h : Handle) (note : Note) → Taken h note q q' → Kept (tell (takes_out h note) b) q'
  unfolding tell
  kept-takes h note w = let c = w.takes in let y = w.out in record {
    sound = s;
    same = rw (← (takes_same h y k.sound w.named c)) (shuffled_without h b.left (entries q) k.same);
    aged = all_map _ _ (λ g a. takes-aged 0 (omega arith) g q q' a y c) b.given k.aged;
    passed = (taken-passed h y k.sound w.named c, all_map _ _ (λ g a. takes-aged 1 (omega arith) g q q' a y c) b.gone k.passed);
    listed = takes-listed y b.given c k.listed;
    live_or_gone = λ g i. still g (k.live_or_gone g i);
    once = k.once;
    count = let e = note-count note (length q.free) (length q'.free) w.freed in let n = k.count in omega arith;
  }
    where
      out : (g : Handle) → Live g q' ⊎ (g ≡ h) → Live g q' ⊎ In g (h ∷ b.gone)
      out g (inl l) = inl l
      out g (inr e) = inr (inl e)

      still : (g : Handle) → Live g q ⊎ In g b.gone → Live g q' ⊎ In g (h ∷ b.gone)
      still g (inl l) = out g (takes-live h w.out k.sound w.named w.takes g l)
      still g (inr i) = inr (inr i)

  pub kept_step : (d : Deed) → After d q q' → Kept (tell d b) q'
  unfolding tell
  kept_step (adds h key value) c = kept-adds h key value c
  kept_step (replaces h value) c = kept-swaps h value c
  kept_step (takes_out h note) c = kept-takes h note c
  kept_step (begins capacity) c = rw c.is-fresh (kept_fresh capacity c.top c.range)
  kept_step nothing c = rw c k

-- any list of calls, on top of any book
pub kept_run : (enough : ℕ → Bool) (l : List Call) (b : Book) (q : Queue) → Kept b q → Kept (kept b (run enough l q).0) (run enough l q).1
unfolding run_by kept
kept_run enough [] b q k = k
kept_run enough (c ∷ l) b q k =
    let r = answer enough c q in
    kept_run enough l (tell (deed c r.0) b) r.1 (kept_step b q r.1 k (answer-sound enough c q k.sound) (deed c r.0) (answer-after enough c q k.sound))
