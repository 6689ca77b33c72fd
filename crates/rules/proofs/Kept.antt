-- Rules 5 and 6 through the three changes: an entry put in, a value changed, an entry taken out. And a fresh queue is sound.
-- A reader may rely on this: distinct slots and generations are argued from the lists alone, never from keys.
use mathlib.Core.Path.{◌≡◌, sym}
use mathlib.Core.List.{List, ◌∷◌, ◌++◌, append_assoc}
use Prim.Native.Nat.{ℕ, zero, suc, ◌+◌, ◌≤◌, ◌<◌}
use native.Mathlib.Decide.{dec_lt}
use native.Mathlib.Omega.{arith}
use Rattle.wavl.specs.Lists.{All, Once}
use Rattle.wavl.specs.Entry.{Entry, revalued, Rising, slots}
use Rattle.wavl.specs.Tree.{inorder}
use Rattle.wavl.specs.Ranks.{Ranked}
use Rattle.wavl.proofs.Lists.{all_map, slots_append}
use Rattle.rules.specs.Queue.{Handle, entry_with, Queue, fresh_from, fresh, entries}
use Rattle.rules.specs.Remove.{freed}
use Rattle.handle.specs.Numbers.{InRange}
use Rattle.rules.specs.Sound.{free_slots, used_slots, Under, LiveGeneration, FreeGeneration, Sound}
use Rattle.rules.specs.inner.Changes.{SameHeader, Adds, Swaps, Takes}
use Rattle.rules.proofs.Lists.{all_put, all_drop, all_at, once_drop, once_move, all_move, slots-put}

-- live and free slots of a chain and a free list
abbrev used : List Entry → List Handle → List ℕ
used l f = slots l ++ free_slots f

-- a fresh queue
fresh-from : (s n : ℕ) → All (λ i. s ≤ i) (free_slots (fresh_from s n))
unfolding fresh_from free_slots
fresh-from s zero = tt
fresh-from s (suc n) = (omega arith, all_map _ _ (λ i h. omega arith) (free_slots (fresh_from (suc s) n)) (fresh-from (suc s) n))

fresh-once : (s n : ℕ) → Once (free_slots (fresh_from s n))
unfolding fresh_from free_slots
fresh-once s zero = tt
fresh-once s (suc n) =
    (all_map _ _ (λ i h e. let g : i ≡ s = sym e in omega arith) (free_slots (fresh_from (suc s) n)) (fresh-from (suc s) n), fresh-once (suc s) n)

fresh_under : (c s n : ℕ) → s + n ≤ c → All (Under c) (free_slots (fresh_from s n))
unfolding fresh_from free_slots
fresh_under c s zero h = tt
fresh_under c s (suc n) h = (omega arith, fresh_under c (suc s) n (omega arith))

fresh-generations : (t s n : ℕ) → 1 ≤ t → All (FreeGeneration t) (fresh_from s n)
unfolding fresh_from
fresh-generations t s zero h = tt
fresh-generations t s (suc n) h = (record { from_one = omega arith; to-top = h }, fresh-generations t (suc s) n h)

pub fresh-sound : (capacity top : ℕ) → InRange capacity top → Sound (fresh capacity top)
unfolding fresh inorder slots
fresh-sound c t r = record {
  in_range = r;
  ranked = tt;
  rising = tt;
  apart = fresh-once 0 c;
  within = fresh_under c 0 c (omega arith);
  live-generations = tt;
  free-generations = fresh-generations t 0 c r.top_from;
}

same-range : {q q' : Queue} → SameHeader q q' → InRange q.capacity q.top → InRange q'.capacity q'.top
same-range h r = rw (h.capacity, h.top) r

-- an entry put in
used-adds : (a b : List Entry) (h : Handle) (f : List Handle) → used (a ++ b) (h ∷ f) ≡ (slots a ++ slots b) ++ (h.slot ∷ free_slots f)
unfolding free_slots
used-adds a b h f = rw (slots_append a b)

used_added : (a b : List Entry) (x : Entry) (f : List Handle) → used (a ++ (x ∷ b)) f ≡ slots a ++ (x.slot ∷ (slots b ++ free_slots f))
used_added a b x f = rw (slots-put a x b) (append_assoc (slots a) (x.slot ∷ slots b) (free_slots f))

pub sound-adds : {q q' : Queue} {h : Handle} {key value : ℕ} → Sound q → Adds q q' h key value → Ranked q'.tree → Rising (entries q') → Sound q'
sound-adds {q} {q'} {h} {key} {value} s c ranked rising =
    let a = c.smaller in
    let b = c.greater in
    let f = q'.free in
    let e = entry_with h key value in
    let free : All (FreeGeneration q.top) (h ∷ f) = rw c.was_free at s.free-generations in
    let moved : (slots a ++ slots b) ++ free_slots f ≡ slots a ++ (slots b ++ free_slots f) = append_assoc (slots a) (slots b) (free_slots f) in
    let before : used_slots q ≡ (slots a ++ slots b) ++ (h.slot ∷ free_slots f) = rw (c.old, c.was_free) (used-adds a b h f) in
    let after : used_slots q' ≡ slots a ++ (h.slot ∷ (slots b ++ free_slots f)) = rw c.now (used_added a b e f) in
    record {
      in_range = same-range c.header s.in_range;
      ranked = ranked;
      rising = rising;
      apart = rw after (once_move (slots a ++ slots b) h.slot (free_slots f) (slots a) (slots b ++ free_slots f) moved (rw before at s.apart));
      within = rw (after, c.header.capacity) (all_move (Under q.capacity) (slots a ++ slots b) h.slot (free_slots f) (slots a) (slots b ++ free_slots f) moved (rw before at s.within));
      live-generations = rw (c.now, c.header.top) (all_put (LiveGeneration q.top) a e b free.0 (rw c.old at s.live-generations));
      free-generations = rw c.header.top free.1;
    }

-- a value changed
pub sound-swaps : {q q' : Queue} {x : Entry} {value : ℕ} → Sound q → Swaps q q' x value → Ranked q'.tree → Rising (entries q') → Sound q'
sound-swaps {q} {q'} {x} {value} s c ranked rising =
    let a = c.smaller in
    let b = c.greater in
    let y = revalued value x in
    let same : slots (entries q') ≡ slots (entries q) = rw (c.now, c.old, slots-put a y b, slots-put a x b) in
    let live : All (LiveGeneration q.top) (a ++ (x ∷ b)) = rw c.old at s.live-generations in
    record {
      in_range = same-range c.header s.in_range;
      ranked = ranked;
      rising = rising;
      apart = rw (same, c.same-free) s.apart;
      within = rw (same, c.same-free, c.header.capacity) s.within;
      live-generations = rw (c.now, c.header.top) (all_put (LiveGeneration q.top) a y b (all_at (LiveGeneration q.top) a x b live) (all_drop (LiveGeneration q.top) a x b live));
      free-generations = rw (c.same-free, c.header.top) s.free-generations;
    }

-- an entry taken out: its slot goes to the front of the free list, or nowhere
module _ (a b : List Entry) (x : Entry) (f : List Handle) (top : ℕ) where
  freed-once : (d : Dec (x.generation < top)) → Once (used (a ++ (x ∷ b)) f) → Once (used (a ++ b) (freed d x.slot f))
  unfolding freed free_slots
  freed-once (yes l) h =
      rw (slots_append a b)
      (once_move (slots a) x.slot (slots b ++ free_slots f) (slots a ++ slots b) (free_slots f) (sym (append_assoc (slots a) (slots b) (free_slots f))) (rw (used_added a b x f) at h))
  freed-once (no l) h =
      rw (slots_append a b, append_assoc (slots a) (slots b) (free_slots f)) (once_drop (slots a) x.slot (slots b ++ free_slots f) (rw (used_added a b x f) at h))

  freed_all : (P : ℕ → Type 0) (d : Dec (x.generation < top)) → All P (used (a ++ (x ∷ b)) f) → All P (used (a ++ b) (freed d x.slot f))
  unfolding freed free_slots
  freed_all P (yes l) h =
      rw (slots_append a b)
      (all_move P (slots a) x.slot (slots b ++ free_slots f) (slots a ++ slots b) (free_slots f) (sym (append_assoc (slots a) (slots b) (free_slots f))) (rw (used_added a b x f) at h))
  freed_all P (no l) h =
      rw (slots_append a b, append_assoc (slots a) (slots b) (free_slots f)) (all_drop P (slots a) x.slot (slots b ++ free_slots f) (rw (used_added a b x f) at h))

  freed-generations : (d : Dec (x.generation < top)) → All (FreeGeneration top) f → All (FreeGeneration top) (freed d x.slot f)
  unfolding freed
  freed-generations (yes l) h = (record { from_one = omega arith; to-top = l }, h)
  freed-generations (no l) h = h

pub sound-takes : {q q' : Queue} {x : Entry} → Sound q → Takes q q' x → Ranked q'.tree → Rising (entries q') → Sound q'
sound-takes {q} {q'} {x} s c ranked rising =
    let a = c.smaller in
    let b = c.greater in
    let d = dec_lt x.generation q.top in
    record {
      in_range = same-range c.header s.in_range;
      ranked = ranked;
      rising = rising;
      apart = rw (c.now, c.gives_back) (freed-once a b x q.free q.top d (rw c.old at s.apart));
      within = rw (c.now, c.gives_back, c.header.capacity) (freed_all a b x q.free q.top (Under q.capacity) d (rw c.old at s.within));
      live-generations = rw (c.now, c.header.top) (all_drop (LiveGeneration q.top) a x b (rw c.old at s.live-generations));
      free-generations = rw (c.gives_back, c.header.top) (freed-generations a b x q.free q.top d s.free-generations);
    }
