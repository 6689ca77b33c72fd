-- Handles through the three changes: given, kept, gone; and the length of the free list with them.
-- A reader may rely on these with normal-does, empty-does, manual-does and remove-does, which say which change an answer means.
use mathlib.Core.Path.{◌≡◌, refl, sym, ap, ◌∙◌}
use mathlib.Core.Logic.{◌⊎◌, inl, inr}
use mathlib.Core.List.{List, ◌∷◌, ◌++◌}
use Prim.Native.Nat.{ℕ, suc, ◌<◌}
use native.Mathlib.Decide.{dec_lt}
use lib.ListN.{length}
use Rattle.wavl.specs.Lists.{All, In, Differ, Once}
use Rattle.wavl.specs.Entry.{Entry, revalued, slots}
use Rattle.wavl.proofs.Lists.{all_left, all_in, in_slots_lem, in_middle, slots_append}
use Rattle.rules.specs.Queue.{Handle, entry_with, Queue, entries, Names}
use Rattle.rules.specs.Remove.{freed, note_of}
use Rattle.rules.specs.Sound.{free_slots, Sound}
use Rattle.rules.specs.inner.Changes.{Adds, Swaps, Takes}
use Rattle.rules.specs.inner.Handles.{HandleGiven, HandleKept, HandleGone, FreedBy}
use Rattle.rules.proofs.Lists.{in_put, in_drop, once-differ, slots-put}
use Rattle.rules.proofs.Removing.{live-once}

-- the slot of the free list's first handle is no live one
first-free : {q : Queue} {h : Handle} {f : List Handle} → Sound q → q.free ≡ h ∷ f → All (Differ h.slot) (slots (entries q))
unfolding free_slots
first-free {q} {h} {f} s e =
    all_left _ (slots (entries q)) (free_slots f) (once-differ (slots (entries q)) h.slot (free_slots f) (rw e at s.apart))

back_in : (y : Entry) (a : List Entry) (e : Entry) (b : List Entry) → (y ≡ e) ⊎ In y (a ++ b) → In y (a ++ (e ∷ b))
back_in y a e b (inl g) = rw g (in_middle e a b)
back_in y a e b (inr i) = in_put y a e b i

pub adds-handle : {q q' : Queue} {h : Handle} {key value : ℕ} → Sound q → Adds q q' h key value → HandleGiven q q' h key value
adds-handle {q} {q'} {h} {key} {value} s c =
    let a = c.smaller in
    let b = c.greater in
    let e = entry_with h key value in
    record {
      was_free = rw c.was_free (inl refl);
      named_none = λ l. all_in _ (slots (entries q)) (first-free s c.was_free) l.0.slot (in_slots_lem l.0 (entries q) l.1) (sym l.2.0);
      names-new = rw c.now (in_middle e a b);
      others = λ y. (λ i. rw c.old (in_drop y a e b (rw c.now at i)), λ i. rw c.now (back_in y a e b (rw c.old at i)));
    }

-- an entry of another slot stands in both chains or in neither
other_in : (y x z : Entry) (a b : List Entry) → ¬ (y.slot ≡ x.slot) → In y (a ++ (x ∷ b)) → In y (a ++ (z ∷ b))
other_in y x z a b n i = go (in_drop y a x b i)
  where
    go : (y ≡ x) ⊎ In y (a ++ b) → In y (a ++ (z ∷ b))
    go (inl e) = absurd (n (ap (λ (w : Entry). w.slot) e))
    go (inr j) = in_put y a z b j

pub swaps-handle : {q q' : Queue} {x : Entry} {value : ℕ} → Swaps q q' x value → HandleKept q q' x value
swaps-handle {q} {q'} {x} {value} c =
    let a = c.smaller in
    let b = c.greater in
    let z = revalued value x in
    record {
      was-there = rw c.old (in_middle x a b);
      names_it = rw c.now (in_middle z a b);
      others = λ y n. (λ i. rw c.old (other_in y z x a b n (rw c.now at i)), λ i. rw c.now (other_in y x z a b n (rw c.old at i)));
    }

-- with distinct slots no entry but x has x's slot
not_named : (h : Handle) (a : List Entry) (x : Entry) (b : List Entry) → Once (slots (a ++ (x ∷ b))) → Names h x → (y : Entry) → In y (a ++ b) → ¬ Names h y
not_named h a x b once n y i m =
    let differs = once-differ (slots a) x.slot (slots b) (rw (slots-put a x b) at once) in
    all_in _ (slots a ++ slots b) differs y.slot (rw (slots_append a b) at (in_slots_lem y (a ++ b) i)) (n.0 ∙ sym m.0)

stays_in : (h : Handle) (a : List Entry) (x : Entry) (b : List Entry) → Names h x → (y : Entry) → In y (a ++ (x ∷ b)) → ¬ Names h y → In y (a ++ b)
stays_in h a x b n y i m = go (in_drop y a x b i)
  where
    go : (y ≡ x) ⊎ In y (a ++ b) → In y (a ++ b)
    go (inl e) = absurd (m (rw e n))
    go (inr j) = j

pub takes-handle : {q q' : Queue} {x : Entry} (h : Handle) → Sound q → Names h x → Takes q q' x → HandleGone q q' h x
takes-handle {q} {q'} {x} h s n c =
    let a = c.smaller in
    let b = c.greater in
    let once : Once (slots (a ++ (x ∷ b))) = rw c.old at (live-once s) in
    record {
      was-there = rw c.old (in_middle x a b);
      names-none = λ l. not_named h a x b once n l.0 (rw c.now at l.1) l.2;
      others = λ y. (
        λ i. let j : In y (a ++ b) = rw c.now at i in (rw c.old (in_put y a x b j), not_named h a x b once n y j),
        λ i. rw c.now (stays_in h a x b n y (rw c.old at i.0) i.1),
      );
    }

-- The free list's length, in pieces: document 01's "Conserved".

-- one less at a new entry
pub adds-free : {q q' : Queue} {h : Handle} {key value : ℕ} → Adds q q' h key value → length q.free ≡ suc (length q'.free)
adds-free c = ap length c.was_free

-- the same at a replacement
pub swaps-free : {q q' : Queue} {x : Entry} {value : ℕ} → Swaps q q' x value → length q'.free ≡ length q.free
swaps-free c = ap length c.same-free

-- one more at a removal without the note, the same at one with it
freed_length : {g top : ℕ} (d : Dec (g < top)) (s : ℕ) (f : List Handle) → FreedBy (note_of d) (length f) (length (freed d s f))
unfolding freed note_of
freed_length (yes l) s f = refl
freed_length (no l) s f = refl

pub takes-free : {q q' : Queue} {x : Entry} → Takes q q' x → FreedBy (note_of (dec_lt x.generation q.top)) (length q.free) (length q'.free)
takes-free {q} {q'} {x} c = rw c.gives_back (freed_length (dec_lt x.generation q.top) x.slot q.free)
