-- Demand 3, from every sound queue and over every list of calls, refused ones included; from a fresh queue it is the customer's own.
-- A reader may rely on demand_3 and demand_3_fresh; after_each says that the queue after each call of a run is the end of a shorter run,
-- and all_told that a history holds each call.
use mathlib.Core.Path.{◌≡◌, refl, sym, ap, ◌∙◌}
use mathlib.Core.Logic.{◌⊎◌, inl, inr, ◌↔◌}
use mathlib.Core.Bool.{Bool}
use mathlib.Core.List.{List, [], ◌∷◌, ◌++◌}
use Prim.Native.Nat.{ℕ}
use lib.ListN.{length}
use Rattle.handle.specs.Numbers.{InRange}
use Rattle.wavl.specs.Lists.{In}
use Rattle.wavl.specs.Entry.{Entry}
use Rattle.wavl.specs.Tree.{left, right}
use Rattle.wavl.proofs.Lists.{all_in}
use Rattle.rules.specs.Queue.{Handle, handle_of, Queue, fresh, entries, HasEntry, Has, Names, Live}
use Rattle.rules.specs.Answers.{Where, not_inserted, Read, reads, not_read, Stepped, stands, at_end, not_stepped, SearchAnswer, equal_at, beside, no_entry, not_found, failed_ord_requirement}
use Rattle.rules.specs.Insert.{manual, insert}
use Rattle.rules.specs.Look.{read, search_for, stand_at}
use Rattle.rules.specs.Sound.{Sound}
use Rattle.rules.specs.Table.{ReadAnswers, StandAnswers, SearchAnswers}
use Rattle.rules.specs.Calls.{Call, History, answer, run_by, run}
use Rattle.rules.proofs.Places.{slot_unique}
use Rattle.rules.proofs.Removing.{live-once}
use Rattle.rules.proofs.Told.{read-answers, stand_answers, target-live, names-handle}
use Rattle.rules.proofs.Refusals.{remove-refused_3, read-refused_3, stand_refused_3, step-refused_3, manual-refused_2, ahead-refused}
use Rattle.rules.proofs.Looking.{search-answers, search-path, search-bound}
use Rattle.history.specs.Book.{Book, begun, kept}
use Rattle.history.specs.Demand.{Refused, HasLeft, Misses, Demand}
use Rattle.history.proofs.Shuffle.{shuffled_there, shuffled_back, shuffled_length}
use Rattle.history.proofs.Passed.{passed_not_live}
use Rattle.history.proofs.Induction.{Kept, kept-start, kept_fresh, kept_run}

-- a handle that names nothing is refused
pub not_live-refused : (g : Handle) (q : Queue) → Sound q → ¬ Live g q → Refused g q
not_live-refused g q s n =
    let m : (w : Where) (k v : ℕ) → (insert (manual g w) k v q).0 ≡ not_inserted failed_ord_requirement =
    λ w k v. (manual-refused_2 g w k v q s).1 (λ f. n (target-live g q s f.0)) in
    record {
      by-removal = (remove-refused_3 g q s).1 n;
      by-reading = (read-refused_3 g q s).1 n;
      by-standing = (stand_refused_3 g q s).1 n;
      by_next = (step-refused_3 g q s right).1 n;
      by-prev = (step-refused_3 g q s left).1 n;
      by-manual = m;
      by-look-ahead = λ w k. (ahead-refused (manual g w) k 0 q failed_ord_requirement).1 (m w k 0);
    }

-- the entry that a handle names is the one that it reads
reads_it : (q : Queue) → Sound q → (g : Handle) (x : Entry) → HasEntry q x → Names g x → (a : Read) → ReadAnswers g q a → a ≡ reads x.key x.value
reads_it q s g x i n (reads k v) f =
    let e = slot_unique (entries q) (live-once s) f.0 x f.1 i (f.2.0 ∙ sym n.0) in
    rw (← f.3, ← f.4, e)
reads_it q s g x i n (not_read m) f = absurd (f.1 (x, i, n))

-- and it can be stood at
stands-there : (q : Queue) (g : Handle) → Live g q → (a : Stepped) → StandAnswers g q a → a ≡ stands g
stands-there q g l (stands i) f = ap stands f.0
stands-there q g l at_end f = absurd f
stands-there q g l (not_stepped n) f = absurd (f.1 l)

-- a search misses exactly when no entry of the queue has the key
misses_is : (key : ℕ) (q : Queue) (a : SearchAnswer) → SearchAnswers key q a → Misses a ↔ (¬ Has key q)
misses_is key q (equal_at h n) f = (λ m. absurd m, λ m. m (f.0, f.1, f.3))
misses_is key q (beside h d n) f = (λ m. f.0, λ m. tt)
misses_is key q (no_entry n) f = (λ m i. rw f.1 at i.1, λ m. tt)
misses_is key q (not_found n) f = absurd f

module _ (b : Book) (q : Queue) (k : Kept b q) where
  holds-left : (x : Entry) → HasEntry q x → In x b.left
  holds-left x i = shuffled_back b.left (entries q) k.same x i

  left-holds : (x : Entry) → In x b.left → HasEntry q x
  left-holds x i = shuffled_there b.left (entries q) k.same x i

  live-given : (g : Handle) → Live g q → In g b.given
  live-given g l = rw (← (names-handle g l.0 l.2)) (all_in _ (entries q) k.listed l.0 l.1)

  gone_not_live : (g : Handle) → In g b.gone → ¬ Live g q
  gone_not_live g i = passed_not_live g (all_in _ b.gone k.passed g i)

  given-live : (g : Handle) → In g b.given → ¬ In g b.gone → Live g q
  given-live g i n = go (k.live_or_gone g i)
    where
      go : Live g q ⊎ In g b.gone → Live g q
      go (inl l) = l
      go (inr j) = absurd (n j)

  refused_not_live : (g : Handle) → (¬ In g b.given) ⊎ In g b.gone → ¬ Live g q
  refused_not_live g (inl n) l = n (live-given g l)
  refused_not_live g (inr i) l = gone_not_live g i l

  reading-is : (g : Handle) (x : Entry) → HasEntry q x → Names g x → read g q ≡ reads x.key x.value
  reading-is g x i n = (reads_it q k.sound g x i n (read g q) (read-answers g q k.sound))

  missing : (key : ℕ) → Misses (search_for key q) ↔ (¬ HasLeft key b)
  missing key =
      let m = misses_is key q (search_for key q) (search-answers key q k.sound) in
      (λ a i. m.0 a (i.0, left-holds i.0 i.1, i.2), λ n. m.1 (λ i. n (i.0, holds-left i.0 i.1, i.2)))

  -- a handle names an entry exactly when it was given and not taken out
  handle_lives : (g : Handle) → Live g q ↔ (In g b.given × (¬ In g b.gone))
  handle_lives g = (λ l. (live-given g l, λ i. gone_not_live g i l), λ i. given-live g i.0 i.1)

  -- what the induction carries is what demand 3 says
  pub kept-demand : Demand b q
  kept-demand =
      let s = k.sound in
      let same = shuffled_length b.left (entries q) k.same in
      record {
        sound = s;
        ranked = s.ranked;
        chain = refl;
        rising = s.rising;
        same_entries = k.same;
        entry-left = λ x. (holds-left x, left-holds x);
        number-left = same;
        handle-reads = λ x i. reading-is (handle_of x) x (left-holds x i) (refl, refl);
        handle-names = λ g i n. let l = given-live g i n in (l.0, holds-left l.0 l.1, l.2, reading-is g l.0 l.1 l.2, stands-there q g l (stand_at g q) (stand_answers g q s));
        handle-live = handle_lives;
        handle-refused = λ g r. not_live-refused g q s (refused_not_live g r);
        handle-once = k.once;
        conserved = k.count;
        search_misses = missing;
        search-path = λ key. search-path key q;
        search-bound = λ key. rw same at (search-bound key q s);
      }

-- Demand 3. The book is begun with the queue's entries and free slots and kept over the history; the queue is the one at the end of the run.
pub demand_3 : (enough : ℕ → Bool) (q : Queue) → Sound q → (l : List Call)
    → Demand (kept (begun (entries q) (length q.free)) (run enough l q).0) (run enough l q).1
demand_3 enough q s l = kept-demand _ _ (kept_run enough l _ q (kept-start q s))

-- "From a freshly laid out store": no entries, and as many free slots as the capacity has
pub demand_3_fresh : (enough : ℕ → Bool) (capacity top : ℕ) → InRange capacity top → (l : List Call)
    → Demand (kept (begun [] capacity) (run enough l (fresh capacity top)).0) (run enough l (fresh capacity top)).1
demand_3_fresh enough capacity top r l = kept-demand _ _ (kept_run enough l _ (fresh capacity top) (kept_fresh capacity top r))

-- "after any sequence of calls", so after each call of a longer one: a run stops after l where the run of l alone stops
pub after_each : (enough : ℕ → Bool) (l m : List Call) (q : Queue)
    → ((run enough (l ++ m) q).0 ≡ (run enough l q).0 ++ (run enough m (run enough l q).1).0) × ((run enough (l ++ m) q).1 ≡ (run enough m (run enough l q).1).1)
unfolding run_by
after_each enough [] m q = (refl, refl)
after_each enough (c ∷ l) m q = let i = after_each enough l m (answer enough c q).1 in (ap (λ (h : History). record { call = c; reply = (answer enough c q).0 } ∷ h) i.0, i.1)

-- no call of a run is missing from its history
pub calls : History → List Call
calls [] = []
calls (e ∷ h) = e.call ∷ calls h

pub all_told : (enough : ℕ → Bool) (l : List Call) (q : Queue) → calls (run enough l q).0 ≡ l
unfolding run_by calls
all_told enough [] q = refl
all_told enough (c ∷ l) q = ap (λ (m : List Call). c ∷ m) (all_told enough l (answer enough c q).1)
