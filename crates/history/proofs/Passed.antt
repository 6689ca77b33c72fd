-- Why no handle is given twice: the generation of a slot never falls, and a free handle lies above every one given before.
-- A reader may rely on adds-aged, swaps-aged and takes-aged, and on taken-passed and free_not_aged, for every sound queue.
use mathlib.Core.Path.{◌≡◌, refl, sym, ap, ◌∙◌}
use mathlib.Core.Logic.{◌⊎◌, inl, inr}
use mathlib.Core.List.{List, [], ◌∷◌, ◌++◌}
use Prim.Native.Nat.{ℕ, suc, ◌+◌, ◌≤◌, ◌<◌}
use native.Mathlib.Decide.{dec_lt}
use native.Mathlib.Omega.{arith}
use Rattle.wavl.specs.Lists.{In, Differ}
use Rattle.wavl.specs.Entry.{Entry, revalued, slots}
use Rattle.wavl.proofs.Lists.{in_middle, in_slots_lem, pairwise_across}
use Rattle.rules.specs.Queue.{Handle, handle, handle_of, entry_with, Queue, entries, HasEntry, Names, Live}
use Rattle.rules.specs.Remove.{freed}
use Rattle.rules.specs.Sound.{free_slots, Sound}
use Rattle.rules.specs.inner.Changes.{Adds, Swaps, Takes}
use Rattle.rules.specs.inner.Handles.{HandleGone}
use Rattle.rules.proofs.Lists.{in_put, in_drop}
use Rattle.rules.proofs.Places.{slot_unique}
use Rattle.rules.proofs.Removing.{live-once}
use Rattle.rules.proofs.Handles.{takes-handle}

-- the slot of a given handle is now at its generation or above (n = 0), or above it (n = 1); a free one is above it in any case
pub record Aged (n : ℕ) (q : Queue) (g : Handle) : Type 0 where
  pub live : (x : Entry) → HasEntry q x → x.slot ≡ g.slot → g.generation + n ≤ x.generation
  pub free : (f : Handle) → In f q.free → f.slot ≡ g.slot → g.generation < f.generation

in_free : (f : Handle) (l : List Handle) → In f l → In f.slot (free_slots l)
unfolding free_slots
in_free f [] i = absurd i
in_free f (g ∷ l) (inl e) = inl (ap (λ (k : Handle). k.slot) e)
in_free f (g ∷ l) (inr i) = inr (in_free f l i)

-- "Each slot is live, free or retired, one only."
pub live_not_free : {q : Queue} → Sound q → (x : Entry) → HasEntry q x → (f : Handle) → In f q.free → ¬ (x.slot ≡ f.slot)
live_not_free {q} s x i f j =
    pairwise_across Differ (slots (entries q)) (free_slots q.free) s.apart x.slot f.slot (in_slots_lem x (entries q) i) (in_free f q.free j)

-- the slot of a live entry is at the entry's generation
pub live-aged : {q : Queue} → Sound q → (x : Entry) → HasEntry q x → Aged 0 q (handle_of x)
live-aged {q} s x i = record {
  live = λ y j e. let z = ap (λ (w : Entry). w.generation) (slot_unique (entries q) (live-once s) y x j i e) in omega arith;
  free = λ f j e. absurd (live_not_free s x i f j (sym e));
}

-- a free handle has not been given
pub free_not_aged : {n : ℕ} {q : Queue} (f : Handle) → In f q.free → ¬ Aged n q f
free_not_aged f i a = let z = a.free f i refl in absurd (omega arith)

-- nor does one that is passed name an entry
pub passed_not_live : {q : Queue} (g : Handle) → Aged 1 q g → ¬ Live g q
passed_not_live g a l = let z = a.live l.0 l.1 l.2.0 in let e = l.2.1 in absurd (omega arith)

-- what holds of all free handles and of the one given back holds of the free list after a removal
freed_in : {g top : ℕ} (d : Dec (g < top)) (s : ℕ) (l : List Handle) (f : Handle) → In f (freed d s l) → (f ≡ handle s (suc g)) ⊎ In f l
unfolding freed
freed_in (yes h) s l f i = i
freed_in (no h) s l f i = inr i

module _ (n : ℕ) (small : n ≤ 1) (g : Handle) (q q' : Queue) (a : Aged n q g) where
  pub adds-aged : (h : Handle) (key value : ℕ) → Adds q q' h key value → Aged n q' g
  adds-aged h key value c = record {
    live = λ x i e. old x e (in_drop x c.smaller (entry_with h key value) c.greater (rw c.now at i));
    free = λ f i e. a.free f (rw c.was_free (inr i)) e;
  }
    where
      old : (x : Entry) → x.slot ≡ g.slot → (x ≡ entry_with h key value) ⊎ In x (c.smaller ++ c.greater) → g.generation + n ≤ x.generation
      old x e (inl i) =
          let z = a.free h (rw c.was_free (inl refl)) (ap (λ (w : Entry). w.slot) (sym i) ∙ e) in
          let y = ap (λ (w : Entry). w.generation) i in
          omega arith
      old x e (inr i) = a.live x (rw c.old i) e

  pub swaps-aged : (y : Entry) (value : ℕ) → Swaps q q' y value → Aged n q' g
  swaps-aged y value c = record {
    live = λ x i e. old x e (in_drop x c.smaller (revalued value y) c.greater (rw c.now at i));
    free = λ f i e. a.free f (rw c.same-free at i) e;
  }
    where
      old : (x : Entry) → x.slot ≡ g.slot → (x ≡ revalued value y) ⊎ In x (c.smaller ++ c.greater) → g.generation + n ≤ x.generation
      old x e (inl i) =
          let z = a.live y (rw c.old (in_middle y c.smaller c.greater)) (ap (λ (w : Entry). w.slot) (sym i) ∙ e) in
          let k = ap (λ (w : Entry). w.generation) i in
          omega arith
      old x e (inr i) = a.live x (rw c.old (in_put x c.smaller y c.greater i)) e

  pub takes-aged : (y : Entry) → Takes q q' y → Aged n q' g
  takes-aged y c = record {
    live = λ x i e. a.live x (rw c.old (in_put x c.smaller y c.greater (rw c.now at i))) e;
    free = λ f i e. old f e (freed_in (dec_lt y.generation q.top) y.slot q.free f (rw c.gives_back at i));
  }
    where
      old : (f : Handle) → f.slot ≡ g.slot → (f ≡ handle y.slot (suc y.generation)) ⊎ In f q.free → g.generation < f.generation
      old f e (inl i) =
          let z = a.live y (rw c.old (in_middle y c.smaller c.greater)) (ap (λ (w : Handle). w.slot) (sym i) ∙ e) in
          let k = ap (λ (w : Handle). w.generation) i in
          omega arith
      old f e (inr i) = a.free f i e

-- a handle just taken out is passed
pub taken-passed : {q q' : Queue} (h : Handle) (y : Entry) → Sound q → Names h y → Takes q q' y → Aged 1 q' h
taken-passed {q} {q'} h y s n c = record {
  live = λ x i e. absurd (((gone.others x).0 i).1 (same x i e));
  free = λ f i e. above f e (freed_in (dec_lt y.generation q.top) y.slot q.free f (rw c.gives_back at i));
}
  where
    gone : HandleGone q q' h y
    gone = takes-handle h s n c

    same : (x : Entry) → HasEntry q' x → x.slot ≡ h.slot → Names h x
    same x i e = rw (slot_unique (entries q) (live-once s) x y ((gone.others x).0 i).0 gone.was-there (e ∙ sym n.0)) n

    above : (f : Handle) → f.slot ≡ h.slot → (f ≡ handle y.slot (suc y.generation)) ⊎ In f q.free → h.generation < f.generation
    above f e (inl i) = let z = n.1 in let k = ap (λ (w : Handle). w.generation) i in omega arith
    above f e (inr i) = absurd (live_not_free s y gone.was-there f i (n.0 ∙ sym e))
