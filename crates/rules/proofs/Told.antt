-- Each call's answer, for every input and every sound queue: specs/Table holds of it.
-- A reader may rely on the theorems named CALL-answers; proofs/Refusals draws document 01's table from them.
use mathlib.Core.Path.{◌≡◌, refl, sym, ap, ◌∙◌}
use mathlib.Core.Logic.{inl, inr}
use mathlib.Core.List.{List, [], ◌∷◌, ◌++◌, cons≢nil}
use mathlib.Core.Option.{some}
use Prim.Native.Nat.{ℕ, ◌<◌}
use native.Mathlib.Decide.{dec_lt, ℕ_discrete}
use Rattle.wavl.specs.Lists.{Once, first, last}
use Rattle.wavl.specs.Entry.{Entry, slots}
use Rattle.wavl.specs.Tree.{Side, left, right, Tree, tip, fork, inorder}
use Rattle.wavl.specs.Way.{Way, Place, place, neighbour}
use Rattle.wavl.specs.Search.{search, beside_of}
use Rattle.wavl.proofs.Lists.{in_middle}
use Rattle.wavl.proofs.Order.{choose_cases}
use Rattle.wavl.proofs.Found.{Searched, search-right}
use Rattle.wavl.proofs.Chain.{split_unique}
use Rattle.rules.specs.Queue.{Handle, handle_of, Queue, entries, HasEntry, Has, Names, Live}
use Rattle.rules.specs.Answers.{Where, less, equal, greater, Inserted, new, replacing, not_inserted, failed_ord_requirement, Stepped, stands, at_end, not_stepped}
use Rattle.rules.specs.Place.{Spot, nowhere, spot, spot_of}
use Rattle.rules.specs.Insert.{keyed, Between, dec_between, add_with, add_at, swap_at, add_beside, place_normal, insert_normal, place_empty, insert_empty, place_manual, insert_manual, Kind, normal, on_empty, manual, insert, ahead, foresee}
use Rattle.rules.specs.Remove.{note_of, remove_spot, remove}
use Rattle.rules.specs.Look.{read_spot, read, stands_at, stand_spot, stand_at, step_spot, step_to}
use Rattle.rules.specs.Look
use Rattle.rules.specs.Sound.{Sound}
use Rattle.rules.specs.Table.{NormalAnswers, NoEntries, EmptyAnswers, Target, KeyFits, ManualFits, Adding, ManualAnswers, NoteFits, RemoveAnswers, ReadAnswers, EndIs, FirstAnswers, LastAnswers, StandAnswers, Rest, StepAnswers, InsertAnswers, AheadAnswers}
use Rattle.rules.proofs.Places.{smaller_of, greater_of, entries-around, SpotIs, same-slot}
use Rattle.rules.proofs.Removing.{live-once, sound-spot}

-- Normal
module _ (key value : ℕ) (q : Queue) (s : Sound q) where
  normal-adds : (p : Way) → ¬ Has key q → (f : List Handle) → q.free ≡ f → NormalAnswers key q (add_with f key value p q).0
  unfolding add_with
  normal-adds p n [] e = (refl, n, e)
  normal-adds p n (h ∷ f) e = (n, (f, e))

  normal-place : (w : Place) → Searched key q.tree w → NormalAnswers key q (place_normal w key value q).0
  unfolding place_normal
  normal-place (place tip p) f = normal-adds p (λ i. f.absent i.0 i.1 i.2) q.free refl
  normal-place (place (fork a x r b) p) f = (x, f.present, (refl, refl), f.key-is, refl)

  pub normal-answers : NormalAnswers key q (insert_normal key value q).0
  unfolding insert_normal
  normal-answers = normal-place (search key q.tree) (search-right key q.tree s.rising)

-- Empty, on any queue
module _ (key value : ℕ) (q : Queue) where
  empty-adds : NoEntries q → (f : List Handle) → q.free ≡ f → EmptyAnswers q (add_with f key value [] q).0
  unfolding add_with
  empty-adds n [] e = inr (refl, n, e)
  empty-adds n (h ∷ f) e = (n, (f, e))

  has_entries : (a : Tree) (x : Entry) (r : ℕ) (b : Tree) → ¬ (inorder (fork a x r b) ≡ [])
  unfolding inorder
  has_entries a x r b = go (inorder a)
    where
      go : (l : List Entry) → ¬ (l ++ (x ∷ inorder b) ≡ [])
      go [] e = cons≢nil e
      go (y ∷ l) e = cons≢nil e

  empty-place : (t : Tree) → q.tree ≡ t → EmptyAnswers q (place_empty t key value q).0
  unfolding place_empty inorder
  empty-place tip e = empty-adds (ap inorder e) q.free refl
  empty-place (fork a x r b) e = inl (refl, λ n. has_entries a x r b (ap inorder (sym e) ∙ n))

  pub empty-answers : EmptyAnswers q (insert_empty key value q).0
  unfolding insert_empty
  empty-answers = empty-place q.tree refl

-- A handle has one target: with distinct slots a chain is split at a slot in one way.
pub one_split : (a : List Entry) (x : Entry) (b a' : List Entry) (x' : Entry) (b' : List Entry) → Once (slots (a ++ (x ∷ b)))
    → a ++ (x ∷ b) ≡ a' ++ (x' ∷ b') → x.slot ≡ x'.slot → (a ≡ a') × (x ≡ x') × (b ≡ b')
one_split a x b a' x' b' o e i =
    let j : x' ≡ x = same-slot a x b o x' (rw e (in_middle x' a' b')) (sym i) in
    let r = split_unique a x b a' b' o (e ∙ ap (λ z. a' ++ (z ∷ b')) j) in
    (r.0, sym j, r.1)

-- a handle that names an entry is that entry's
pub names-handle : (h : Handle) (x : Entry) → Names h x → handle_of x ≡ h
names-handle h x n = rw (n.0, n.1)

-- the target at a spot
abbrev pub target_at : (h : Handle) (q : Queue) (a : Tree) (x : Entry) (r : ℕ) (b : Tree) (p : Way) → SpotIs h q (spot a x r b p) → Target h q
target_at h q a x r b p n = record {
  smaller = smaller_of a p;
  target = x;
  greater = greater_of b p;
  chain = entries-around q a x r b p n.1;
  named = n.0;
}

module _ (h : Handle) (q : Queue) (s : Sound q) where
  pub target-holds : (t : Target h q) → HasEntry q t.target
  target-holds t = rw t.chain (in_middle t.target t.smaller t.greater)

  pub target-live : Target h q → Live h q
  target-live t = (t.target, target-holds t, t.named)

  -- what fits at one target of a handle fits at any other
  pub fits_move : (w : Where) (key : ℕ) (t u : Target h q) → KeyFits w key t.smaller t.target t.greater → KeyFits w key u.smaller u.target u.greater
  fits_move w key t u f =
      let r = one_split t.smaller t.target t.greater u.smaller u.target u.greater
      (rw t.chain at (live-once s)) (sym t.chain ∙ u.chain) (t.named.0 ∙ sym u.named.0) in
      rw (← r.0, ← r.1, ← r.2) f

-- Manual
module _ (h : Handle) (key value : ℕ) (q : Queue) (s : Sound q) where
  manual-adds : (w : Where) → Adding w → ManualFits h w key q → (p : Way) (f : List Handle) → q.free ≡ f → ManualAnswers h w key q (add_with f key value p q).0
  unfolding add_with
  manual-adds w k m p [] e = inr (refl, m, k, e)
  manual-adds w k m p (g ∷ f) e = (m, k, (f, e))

  module _ (a : Tree) (x : Entry) (r : ℕ) (b : Tree) (p : Way) (n : SpotIs h q (spot a x r b p)) where
    unfit : (w : Where) → ¬ KeyFits w key (smaller_of a p) x (greater_of b p) → ManualAnswers h w key q (not_inserted failed_ord_requirement)
    unfit w f = inl (refl, λ m. f (fits_move h q s w key m.0 (target_at h q a x r b p n) m.1))

    manual-beside : (w : Where) → Adding w → (d : Side)
        → (Between d (keyed key) x (neighbour d (place (fork a x r b) p)) → KeyFits w key (smaller_of a p) x (greater_of b p))
        → (KeyFits w key (smaller_of a p) x (greater_of b p) → Between d (keyed key) x (neighbour d (place (fork a x r b) p)))
        → ManualAnswers h w key q (add_beside d x (place (fork a x r b) p) key value q).0
    manual-beside w k d there back =
        let c = place (fork a x r b) p in
        choose_cases (λ o. ManualAnswers h w key q o.0) (dec_between d (keyed key) x (neighbour d c)) (add_at key value (beside_of d c) q) (not_inserted failed_ord_requirement, q)
        (λ f. manual-adds w k (target_at h q a x r b p n, there f) (beside_of d c) q.free refl)
        (λ f. unfit w (λ g. f (back g)))

    manual-at : (w : Where) → ManualAnswers h w key q (place_manual (spot a x r b p) w key value q).0
    unfolding place_manual neighbour
    manual-at less = manual-beside less tt left (λ f. f) (λ f. f)
    manual-at greater = manual-beside greater tt right (λ f. f) (λ f. f)
    manual-at equal =
        choose_cases (λ o. ManualAnswers h equal key q o.0) (ℕ_discrete key x.key) (swap_at value a x r b p q) (not_inserted failed_ord_requirement, q)
        (λ e.
        let t = target_at h q a x r b p n in
        ((t, e), refl, names-handle h x n.0, (x, target-holds h q s t, n.0, refl)))
        (λ e. unfit equal e)

  manual-spot : (c : Spot) → SpotIs h q c → (w : Where) → ManualAnswers h w key q (place_manual c w key value q).0
  unfolding place_manual
  manual-spot nowhere n w = inl (refl, λ m. n (target-live h q s m.0))
  manual-spot (spot a x r b p) n w = manual-at a x r b p n w

  pub manual-answers : (w : Where) → ManualAnswers h w key q (insert_manual h w key value q).0
  unfolding insert_manual
  manual-answers w = manual-spot (spot_of h q) (sound-spot h s) w

-- Every kind, and its look-ahead
module _ (key value : ℕ) (q : Queue) (s : Sound q) where
  pub insert-answers : (k : Kind) → InsertAnswers k key q (insert k key value q).0
  insert-answers normal = normal-answers key value q s
  insert-answers on_empty = empty-answers key value q
  insert-answers (manual h w) = manual-answers h key value q s w

ahead-told : (k : Kind) (key : ℕ) (q : Queue) (a : Inserted) → InsertAnswers k key q a → AheadAnswers k key q (ahead a)
unfolding ahead
ahead-told k key q (new h) f = f
ahead-told k key q (replacing h v) f = (v, f)
ahead-told k key q (not_inserted n) f = f

pub ahead-answers : (k : Kind) (key : ℕ) (q : Queue) → Sound q → AheadAnswers k key q (foresee k key q)
unfolding foresee
ahead-answers k key q s = ahead-told k key q (insert k key 0 q).0 (insert-answers key 0 q s k)

-- the ends of a chain
last-split : (z : Entry) (l : List Entry) → (k : List Entry) × (y : Entry) × (z ∷ l ≡ k ++ (y ∷ [])) × (last (z ∷ l) ≡ some y)
unfolding last
last-split z [] = ([], z, refl, refl)
last-split z (w ∷ l) = let i = last-split w l in (z ∷ i.0, i.1, ap (λ m. z ∷ m) i.2, i.3)

end_left : (l : List Entry) → EndIs left l (stands_at (last l))
unfolding stands_at last
end_left [] = refl
end_left (z ∷ l) = let i = last-split z l in rw i.3 (i.0, i.1, i.2, refl)

end_right : (l : List Entry) → EndIs right l (stands_at (first l))
unfolding stands_at first
end_right [] = refl
end_right (y ∷ l) = (l, y, refl, refl)

-- First and last, on any queue
pub first-answers : (q : Queue) → FirstAnswers q (Look.stand_first q)
unfolding Look.stand_first
first-answers q = end_right (entries q)

pub last-answers : (q : Queue) → LastAnswers q (Look.stand_last q)
unfolding Look.stand_last
last-answers q = end_left (entries q)

-- Removal, reading and stepping
module _ (h : Handle) (q : Queue) (s : Sound q) where
  note-fits : (x : Entry) (d : Dec (x.generation < q.top)) → NoteFits (note_of d) x q
  unfolding note_of
  note-fits x (yes l) = l
  note-fits x (no l) = l

  remove-spot : (c : Spot) → SpotIs h q c → RemoveAnswers h q (remove_spot c q).0
  unfolding remove_spot
  remove-spot nowhere n = (refl, n)
  remove-spot (spot a x r b p) n =
      (x, target-holds h q s (target_at h q a x r b p n), n.0, refl, refl, note-fits x (dec_lt x.generation q.top))

  pub remove-answers : RemoveAnswers h q (remove h q).0
  unfolding remove
  remove-answers = remove-spot (spot_of h q) (sound-spot h s)

  read-spot : (c : Spot) → SpotIs h q c → ReadAnswers h q (read_spot c)
  unfolding read_spot
  read-spot nowhere n = (refl, n)
  read-spot (spot a x r b p) n = (x, target-holds h q s (target_at h q a x r b p n), n.0, refl, refl)

  pub read-answers : ReadAnswers h q (read h q)
  unfolding read
  read-answers = read-spot (spot_of h q) (sound-spot h s)

  stand_spot_lem : (c : Spot) → SpotIs h q c → StandAnswers h q (stand_spot h c)
  unfolding stand_spot
  stand_spot_lem nowhere n = (refl, n)
  stand_spot_lem (spot a x r b p) n = (refl, target-live h q s (target_at h q a x r b p n))

  pub stand_answers : StandAnswers h q (stand_at h q)
  unfolding stand_at
  stand_answers = stand_spot_lem (spot_of h q) (sound-spot h s)

  step_end : (d : Side) (t : Target h q) (o : Stepped) → EndIs d (Rest d t) o → StepAnswers d h q o
  step_end d t (stands g) f = (t, f)
  step_end d t at_end f = (t, f)
  step_end d t (not_stepped n) f = absurd f

  step-spot : (d : Side) (c : Spot) → SpotIs h q c → StepAnswers d h q (step_spot d c)
  unfolding step_spot neighbour
  step-spot d nowhere n = (refl, n)
  step-spot left (spot a x r b p) n =
      step_end left (target_at h q a x r b p n) (stands_at (last (smaller_of a p))) (end_left (smaller_of a p))
  step-spot right (spot a x r b p) n =
      step_end right (target_at h q a x r b p n) (stands_at (first (greater_of b p))) (end_right (greater_of b p))

  pub step-answers : (d : Side) → StepAnswers d h q (step_to d h q)
  unfolding step_to
  step-answers d = step-spot d (spot_of h q) (sound-spot h s)
