-- What a new value and a removal do to the queue's entries is what they do to the book's.
-- A reader may rely on swaps-same and takes_same, and on others-unnamed: a handle names one entry of a sound queue.
use mathlib.Core.Path.{◌≡◌, sym, ◌∙◌}
use mathlib.Core.List.{List, ◌∷◌, ◌++◌}
use Prim.Native.Nat.{ℕ}
use Rattle.wavl.specs.Lists.{All}
use Rattle.wavl.specs.Entry.{Entry, revalued, slots}
use Rattle.wavl.proofs.Lists.{all_in, all_of, all_left, all_right, in_slots_lem, slots_append}
use Rattle.rules.specs.Queue.{Handle, Queue, entries, Names}
use Rattle.rules.specs.Sound.{Sound}
use Rattle.rules.specs.inner.Changes.{Swaps, Takes}
use Rattle.rules.proofs.Lists.{once-differ, slots-put}
use Rattle.rules.proofs.Removing.{live-once}
use Rattle.history.specs.Book.{revalue, without}
use Rattle.history.proofs.Shuffle.{revalue_append, revalue-none, revalue-one, without-none, without-one}

-- beside the entry that a handle names no other has its slot
pub others-unnamed : {q : Queue} (h : Handle) (a : List Entry) (x : Entry) (b : List Entry) → Sound q
    → entries q ≡ a ++ (x ∷ b) → Names h x → All (λ y. ¬ Names h y) (a ++ b)
others-unnamed h a x b s e n =
    let once = rw (slots-put a x b) at (rw e at (live-once s)) in
    let differ = once-differ (slots a) x.slot (slots b) once in
    all_of _ (a ++ b)
    (λ y i m. all_in _ (slots a ++ slots b) differ y.slot (rw (slots_append a b) at (in_slots_lem y (a ++ b) i)) (n.0 ∙ sym m.0))

pub swaps-same : {q q' : Queue} (h : Handle) (v : ℕ) (x : Entry) → Sound q → Names h x → Swaps q q' x v → revalue h v (entries q) ≡ entries q'
swaps-same {q} {q'} h v x s n c =
    let a = c.smaller in
    let b = c.greater in
    let o = others-unnamed h a x b s c.old n in
    let e : revalue h v (a ++ (x ∷ b)) ≡ a ++ (revalued v x ∷ b) =
    revalue_append h v a (x ∷ b) ∙ rw (revalue-none h v a (all_left _ a b o), revalue-one h v x b n, revalue-none h v b (all_right _ a b o)) in
    rw (c.old, c.now) e

pub takes_same : {q q' : Queue} (h : Handle) (x : Entry) → Sound q → Names h x → Takes q q' x → without h (entries q) ≡ entries q'
takes_same {q} {q'} h x s n c =
    let a = c.smaller in
    let b = c.greater in
    let o = others-unnamed h a x b s c.old n in
    let e : without h (a ++ (x ∷ b)) ≡ a ++ b = without-one h a x b n ∙ rw (without-none h a (all_left _ a b o), without-none h b (all_right _ a b o)) in
    rw (c.old, c.now) e
