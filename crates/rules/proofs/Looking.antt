-- Reading, removal, stepping and search on a sound queue, as equations and as document 01 words them.
-- A reader may rely on these: what a live handle reads, where the cursor goes, what a search answers and counts.
use mathlib.Core.Path.{◌≡◌, refl, sym, ap, ◌∙◌, subst}
use mathlib.Core.Logic.{◌↔◌}
use mathlib.Core.List.{List, [], ◌∷◌, ◌++◌}
use Prim.Native.Nat.{ℕ, suc, ◌+◌, ◌*◌, ◌^◌, ◌≤◌, ◌<◌}
use native.Mathlib.Decide.{dec_lt}
use native.Mathlib.Omega.{arith}
use lib.ListN.{length}
use Rattle.wavl.specs.Lists
use Rattle.wavl.specs.Entry.{Entry}
use Rattle.wavl.specs.Tree.{left, right, tip, fork, inorder}
use Rattle.wavl.specs.Way.{step, Place, place, neighbour}
use Rattle.wavl.specs.Search.{search, path, looked}
use Rattle.wavl.specs.Search
use Rattle.wavl.proofs.Lists.{last_of}
use Rattle.wavl.proofs.Rule.{ranked→ranks}
use Rattle.wavl.proofs.Size.{size_length}
use Rattle.wavl.proofs.Found.{looked-path, looked-bound, looked_tight}
use Rattle.wavl.proofs.Reply.{Answers, answer-right}
use Rattle.rules.specs.Queue.{Handle, handle, handle_of, Queue, entries, Has}
use Rattle.rules.specs.Answers.{no_note, generation_overflow, removed, reads, SearchAnswer, equal_at, beside, no_entry, not_found, stands, at_end}
use Rattle.rules.specs.Place.{Spot, nowhere, spot, spot_of}
use Rattle.rules.specs.Remove.{freed, note_of, free_after, remove_spot, remove}
use Rattle.rules.specs.Look.{read_spot, read, found_in, search_for, stands_at, stand_first, stand_last, step_spot, step_to, next, prev}
use Rattle.rules.specs.Sound.{Sound}
use Rattle.rules.specs.Table.{Target, NoEntries, SearchAnswers, count_of}
use Rattle.rules.proofs.Places.{SpotIs}
use Rattle.rules.proofs.Removing.{live-once, sound-spot}
use Rattle.rules.proofs.Told.{one_split, target_at, target-live}

-- A handle's target, wherever the chain is split, is the one at its spot.
module _ (h : Handle) (q : Queue) (s : Sound q) (t : Target h q) where
  pub same_target : (u : Target h q) → (t.smaller ≡ u.smaller) × (t.target ≡ u.target) × (t.greater ≡ u.greater)
  same_target u =
      one_split t.smaller t.target t.greater u.smaller u.target u.greater
      (rw t.chain at (live-once s)) (sym t.chain ∙ u.chain) (t.named.0 ∙ sym u.named.0)

  read_at : (c : Spot) → SpotIs h q c → read_spot c ≡ reads t.target.key t.target.value
  unfolding read_spot
  read_at nowhere n = absurd (n (target-live h q s t))
  read_at (spot a x r b p) n = let u = same_target (target_at h q a x r b p n) in rw u.1

  -- reading a live handle gives its entry's key and value
  pub read_is : read h q ≡ reads t.target.key t.target.value
  unfolding read
  read_is = read_at (spot_of h q) (sound-spot h s)

  remove-at : (c : Spot) → SpotIs h q c → (remove_spot c q).0 ≡ removed t.target.key t.target.value (note_of (dec_lt t.target.generation q.top))
  unfolding remove_spot
  remove-at nowhere n = absurd (n (target-live h q s t))
  remove-at (spot a x r b p) n = let u = same_target (target_at h q a x r b p n) in rw u.1

  -- removal of a live handle answers its entry's key and value
  pub remove-is : (remove h q).0 ≡ removed t.target.key t.target.value (note_of (dec_lt t.target.generation q.top))
  unfolding remove
  remove-is = remove-at (spot_of h q) (sound-spot h s)

  note-yes : {g top : ℕ} (d : Dec (g < top)) → g < top → note_of d ≡ no_note
  unfolding note_of
  note-yes (yes l) m = refl
  note-yes (no l) m = absurd (l m)

  note-no : {g top : ℕ} (d : Dec (g < top)) → ¬ (g < top) → note_of d ≡ generation_overflow
  unfolding note_of
  note-no (yes l) m = absurd (m l)
  note-no (no l) m = refl

  -- "At the top generation the entry is still removed and returned, with the note GenerationOverflow"; below it without
  pub remove-noted : h.generation ≡ q.top → (remove h q).0 ≡ removed t.target.key t.target.value generation_overflow
  remove-noted e =
      let n : ¬ (t.target.generation < q.top) = λ l. let g = t.named.1 in absurd (omega arith) in
      remove-is ∙ ap (removed t.target.key t.target.value) (note-no (dec_lt t.target.generation q.top) n)

  pub remove-plain : h.generation < q.top → (remove h q).0 ≡ removed t.target.key t.target.value no_note
  remove-plain l = remove-is ∙ ap (removed t.target.key t.target.value) (note-yes (dec_lt t.target.generation q.top) (rw t.named.1 l))

  freed-yes : (x : Entry) (d : Dec (x.generation < q.top)) → x.generation < q.top → freed d x.slot q.free ≡ handle x.slot (suc x.generation) ∷ q.free
  unfolding freed
  freed-yes x (yes l) m = refl
  freed-yes x (no l) m = absurd (l m)

  freed-no : (x : Entry) (d : Dec (x.generation < q.top)) → ¬ (x.generation < q.top) → freed d x.slot q.free ≡ q.free
  unfolding freed
  freed-no x (yes l) m = absurd (m l)
  freed-no x (no l) m = refl

  free-at : (c : Spot) → SpotIs h q c → (remove_spot c q).1.free ≡ free_after t.target q
  unfolding remove_spot
  free-at nowhere n = absurd (n (target-live h q s t))
  free-at (spot a x r b p) n = let u = same_target (target_at h q a x r b p n) in rw u.1

  -- below the top generation the slot goes to the front of the free list, one generation up; at the top it goes nowhere
  pub remove_frees : h.generation < q.top → (remove h q).1.free ≡ handle h.slot (suc h.generation) ∷ q.free
  unfolding remove
  remove_frees l =
      let x = t.target in
      let e : handle x.slot (suc x.generation) ∷ q.free ≡ handle h.slot (suc h.generation) ∷ q.free = rw (t.named.0, t.named.1) in
      free-at (spot_of h q) (sound-spot h s) ∙ freed-yes x (dec_lt x.generation q.top) (rw t.named.1 l) ∙ e

  pub remove_retires : h.generation ≡ q.top → (remove h q).1.free ≡ q.free
  unfolding remove
  remove_retires e =
      let n : ¬ (t.target.generation < q.top) = λ l. let g = t.named.1 in absurd (omega arith) in
      free-at (spot_of h q) (sound-spot h s) ∙ freed-no t.target (dec_lt t.target.generation q.top) n

  step_left : (c : Spot) → SpotIs h q c → step_spot left c ≡ stands_at (Lists.last t.smaller)
  unfolding step_spot neighbour
  step_left nowhere n = absurd (n (target-live h q s t))
  step_left (spot a x r b p) n = let u = same_target (target_at h q a x r b p n) in rw u.0

  step_right : (c : Spot) → SpotIs h q c → step_spot right c ≡ stands_at (Lists.first t.greater)
  unfolding step_spot neighbour
  step_right nowhere n = absurd (n (target-live h q s t))
  step_right (spot a x r b p) n = let u = same_target (target_at h q a x r b p n) in rw u.2

  -- the cursor goes to what stands next to the handle's entry in the chain
  pub prev-is : prev h q ≡ stands_at (Lists.last t.smaller)
  unfolding step_to
  prev-is = step_left (spot_of h q) (sound-spot h s)

  pub next-is : next h q ≡ stands_at (Lists.first t.greater)
  unfolding step_to
  next-is = step_right (spot_of h q) (sound-spot h s)

-- the same with the chain written out: x and y are neighbours, or x stands at an end
own : (q : Queue) (a : List Entry) (x : Entry) (b : List Entry) → entries q ≡ a ++ (x ∷ b) → Target (handle_of x) q
own q a x b e = record { smaller = a; target = x; greater = b; chain = e; named = (refl, refl) }

module _ (q : Queue) (s : Sound q) (a : List Entry) (x : Entry) (b : List Entry) where
  pub next-stands : (y : Entry) → entries q ≡ a ++ (x ∷ (y ∷ b)) → next (handle_of x) q ≡ stands (handle_of y)
  unfolding own stands_at Lists.first
  next-stands y e = next-is (handle_of x) q s (own q a x (y ∷ b) e)

  pub next-ends : entries q ≡ a ++ (x ∷ []) → next (handle_of x) q ≡ at_end
  unfolding own stands_at Lists.first
  next-ends e = next-is (handle_of x) q s (own q a x [] e)

  pub prev-stands : (y : Entry) → entries q ≡ (a ++ (y ∷ [])) ++ (x ∷ b) → prev (handle_of x) q ≡ stands (handle_of y)
  unfolding own stands_at
  prev-stands y e = prev-is (handle_of x) q s (own q (a ++ (y ∷ [])) x b e) ∙ ap stands_at (last_of a y)

  pub prev-ends : entries q ≡ x ∷ b → prev (handle_of x) q ≡ at_end
  unfolding own stands_at Lists.last
  prev-ends e = prev-is (handle_of x) q s (own q [] x b e)

-- first and last, on any queue
module _ (q : Queue) (a : List Entry) (x : Entry) where
  pub first-stands : entries q ≡ x ∷ a → stand_first q ≡ stands (handle_of x)
  unfolding stand_first stands_at Lists.first
  first-stands e = rw e

  pub last-stands : entries q ≡ a ++ (x ∷ []) → stand_last q ≡ stands (handle_of x)
  unfolding stand_last stands_at
  last-stands e = rw e (ap stands_at (last_of a x))

pub first_ends : (q : Queue) → NoEntries q → stand_first q ≡ at_end
unfolding stand_first stands_at Lists.first
first_ends q e = rw e

pub last-ends : (q : Queue) → NoEntries q → stand_last q ≡ at_end
unfolding stand_last stands_at Lists.last
last-ends q e = rw e

-- Search
module _ (key : ℕ) (q : Queue) (s : Sound q) where
  search-told : (a : Search.Found) → Answers key q.tree a → SearchAnswers key q (found_in a)
  unfolding found_in inorder
  search-told (Search.equal_to x n) f = (x, f.present, (refl, refl), f.key-is, f.count-is)
  search-told (Search.nearest x left n) f =
      (λ i. f.absent i.0 i.1 i.2, (x, f.present, (refl, refl), f.on_side, f.last-looked), f.count-is)
  search-told (Search.nearest x right n) f =
      (λ i. f.absent i.0 i.1 i.2, (x, f.present, (refl, refl), f.on_side, f.last-looked), f.count-is)
  search-told Search.empty_tree f = (refl, ap inorder f)

  pub search-answers : SearchAnswers key q (search_for key q)
  unfolding search_for
  search-answers = search-told (Search.answer_at (search key q.tree)) (answer-right key q.tree s.rising)

  -- Equal exactly when an entry has the key
  search-there : (a : SearchAnswer) → SearchAnswers key q a → Has key q → (h : Handle) × (n : ℕ) × (a ≡ equal_at h n)
  search-there (equal_at h n) f g = (h, n, refl)
  search-there (beside h d n) f g = absurd (f.0 g)
  search-there (no_entry n) f g = absurd (rw f.1 at g.1)
  search-there (not_found n) f g = absurd f

  pub search-never : (n : ℕ) → ¬ (search_for key q ≡ not_found n)
  search-never n e = subst (λ (a : SearchAnswer). SearchAnswers key q a) e search-answers

  pub search_finds : ((h : Handle) × (n : ℕ) × (search_for key q ≡ equal_at h n)) ↔ Has key q
  search_finds = (
    λ e. let f = subst (λ (a : SearchAnswer). SearchAnswers key q a) e.2 search-answers in (f.0, f.1, f.3),
    search-there (search_for key q) search-answers,
  )

-- the count is the length of the path, on any queue
count-is : (w : Place) → count_of (found_in (Search.answer_at w)) ≡ looked w
unfolding found_in Search.answer_at looked
count-is (place tip []) = refl
count-is (place tip (step d x r t ∷ p)) = refl
count-is (place (fork a x r b) p) = refl

pub search-path : (key : ℕ) (q : Queue) → count_of (search_for key q) ≡ length (path key q.tree)
unfolding search_for
search-path key q = count-is (search key q.tree) ∙ looked-path key q.tree

search-count : (key : ℕ) (q : Queue) → count_of (search_for key q) ≡ looked (search key q.tree)
unfolding search_for
search-count key q = count-is (search key q.tree)

-- with n entries and p nodes looked at, 2^p ≤ (n+1)²; and twice that with n at least 1
pub search-bound : (key : ℕ) (q : Queue) → Sound q → 2 ^ count_of (search_for key q) ≤ (length (entries q) + 1) * (length (entries q) + 1)
search-bound key q s = rw (search-count key q, ← (size_length q.tree)) (looked-bound key q.tree (ranked→ranks q.tree s.ranked))

pub search_tight : (key : ℕ) (q : Queue) → Sound q → 1 ≤ length (entries q)
    → 2 * 2 ^ count_of (search_for key q) ≤ (length (entries q) + 1) * (length (entries q) + 1)
search_tight key q s h =
    rw (search-count key q, ← (size_length q.tree))
    (looked_tight key q.tree (ranked→ranks q.tree s.ranked) (rw (size_length q.tree) h))
