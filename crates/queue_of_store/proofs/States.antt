-- The state of a slot, read off its words: live, free or retired.
-- A reader may rely on: every slot below the capacity has one of the three, with all that its words then are.
use Prim.Native.Nat.{ℕ, ◌≤◌, ◌<◌}
use mathlib.Core.Path.{◌≡◌, refl, sym}
use mathlib.Core.Logic.{◌⊎◌, inl, inr, ⊎_elim}
use mathlib.Core.List.{List, [], ◌∷◌}
use native.Mathlib.Omega.{arith}
use lib.ListN.{length}
use Rattle.arena.specs.Words.{field, RANK}
use Rattle.wavl.specs.Lists.{In}
use Rattle.wavl.specs.Entry.{Entry, slots}
use Rattle.wavl.specs.Tree.{Tree, tip, fork, inorder}
use Rattle.wavl.specs.Ranks.{Ranked}
use Rattle.wavl.proofs.Lists.{in_cases}
use Rattle.wavl.proofs.Rule.{rank_pos}
use Rattle.rules.specs.Queue.{Handle, Queue, entries}
use Rattle.rules.specs.Sound.{free_slots, used_slots}
use Rattle.queue_of_store.specs.Links.{Links}
use Rattle.queue_of_store.specs.Free.{FreeAt, FreeWords, Retired}
use Rattle.queue_of_store.specs.inner.Words.{Words}
use Rattle.queue_of_store.proofs.Has.{dec_in}

-- the entry of a slot
pub slot-entry : (i : ℕ) (l : List Entry) → In i (slots l) → (e : Entry) × In e l × (e.slot ≡ i)
unfolding slots
slot-entry i [] h = absurd h
slot-entry i (e ∷ l) (inl x) = (e, inl refl, sym x)
slot-entry i (e ∷ l) (inr x) = let y = slot-entry i l x in (y.0, inr y.1, y.2)

-- the free handle of a slot, and its place in the stack
pub record FreeSlot (s : List ℕ) (cap i : ℕ) (l : List Handle) : Type 0 where
  pub handle : Handle
  pub place : ℕ
  pub present : In handle l
  pub slot_is : handle.slot ≡ i
  pub place-low : place < length l
  pub words : FreeAt s cap handle place

pub free-slot : (s : List ℕ) (cap i : ℕ) (l : List Handle) → FreeWords s cap l → In i (free_slots l) → FreeSlot s cap i l
unfolding free_slots
free-slot s cap i [] w h = absurd h
free-slot s cap i (f ∷ l) w (inl x) =
    record { handle = f; place = length l; present = inl refl; slot_is = sym x; place-low = omega arith; words = w.0 }
free-slot s cap i (f ∷ l) w (inr x) =
    let y = free-slot s cap i l w.1 x in
    let h : y.place < length l = y.place-low in
    record { handle = y.handle; place = y.place; present = inr y.present; slot_is = y.slot_is; place-low = omega arith; words = y.words }

pub data State (s : List ℕ) (q : Queue) (i : ℕ) : Type 0 where
  live : (e : Entry) → In e (entries q) → e.slot ≡ i → State s q i
  free : FreeSlot s q.capacity i q.free → State s q i
  retired : Retired s q.capacity q.top i → State s q i

pub state_of : {s : List ℕ} {q : Queue} → Words s q → (i : ℕ) → i < q.capacity → State s q i
state_of {s} {q} w i low = go (dec_in i (used_slots q))
  where
    used : In i (slots (entries q)) ⊎ In i (free_slots q.free) → State s q i
    used (inl x) = let y = slot-entry i (entries q) x in live y.0 y.1 y.2
    used (inr x) = free (free-slot s q.capacity i q.free w.free.stacked x)

    go : Dec (In i (used_slots q)) → State s q i
    go (yes x) = used (in_cases i (slots (entries q)) (free_slots q.free) x)
    go (no x) = retired (w.retired i low x)

-- a live slot lies in the store and has a rank
pub record LiveNode (s : List ℕ) (cap i : ℕ) : Type 0 where
  pub low : i < cap
  pub ranked : 1 ≤ field s cap i RANK

pub live-node : (s : List ℕ) (cap back : ℕ) (t : Tree) → Links s cap back t → Ranked t → (e : Entry) → In e (inorder t) → LiveNode s cap e.slot
unfolding inorder
live-node s cap back tip l k e h = absurd h
live-node s cap back (fork a f r b) l k e h =
    let here : LiveNode s cap f.slot = record { low = l.0.low; ranked = rw l.0.rank_is (rank_pos a r b k.2) } in
    ⊎_elim (live-node s cap f.slot a l.1 k.0 e)
    (⊎_elim (λ x. rw x here) (live-node s cap f.slot b l.2 k.1 e))
    (in_cases e (inorder a) (f ∷ inorder b) h)
