-- The slot of an entry that left tree and chain is freed or retired: the words of the queue without the entry.
-- A reader may rely on: released, by whether the generation is below the top, as in crate `rules`.
use Prim.Native.Nat.{ℕ, suc, ◌+◌, ◌≤◌, ◌<◌}
use mathlib.Core.Path.{◌≡◌, refl, ap, ◌∙◌}
use mathlib.Core.Logic.{◌⊎◌, inl, inr, ⊎_elim}
use mathlib.Core.List.{List, ◌∷◌, ◌++◌}
use native.Mathlib.Decide.{ℕ_discrete}
use native.Mathlib.Omega.{arith}
use lib.ListN.{length, length-append}
use Rattle.handle.specs.Numbers.{no_slot}
use Rattle.arena.specs.Words.{Long, field, KEY, PREV, NEXT, GENERATION, VALUE, STACK}
use Rattle.arena.specs.inner.Only.{Only, NoHead, IsHeight}
use Rattle.arena.proofs.Only.{only-blank, only-pushed}
use Rattle.arena.specs.inner.Laying.{blank_of}
use Rattle.arena.specs.inner.Slots.{pushed, free_slot}
use Rattle.wavl.specs.Lists.{All, In, Differ, Once}
use Rattle.wavl.specs.Entry.{Entry, slots}
use Rattle.wavl.specs.Tree.{Tree, inorder}
use Rattle.wavl.proofs.Lists.{all_in, in_left, in_right, in_cases, pairwise_left, slots_append}
use Rattle.rules.specs.Queue.{Handle, Queue, entries, changed}
use Rattle.rules.specs.Remove.{freed}
use Rattle.rules.specs.Sound.{free_slots, used_slots, Under}
use Rattle.rules.proofs.Lists.{all_at, all_drop, in_put, in_drop, once-differ, slots-put}
use Rattle.queue_of_store.specs.Links.{TreeWords}
use Rattle.queue_of_store.specs.Chain.{ChainWords}
use Rattle.queue_of_store.specs.Entries.{EntryWords, AllEntries}
use Rattle.queue_of_store.specs.Free.{Retired}
use Rattle.queue_of_store.specs.Holds.{HeaderWords, Unused}
use Rattle.queue_of_store.specs.inner.Words.{Words}
use Rattle.queue_of_store.proofs.Parts.{Separate, used-few, live-low, free-low, free_not_live}
use Rattle.queue_of_store.proofs.Groups.{unused_stays, tree_stays, chain_stays, entries_stay, stack_stays, retired_stays}
use Rattle.queue_of_store.proofs.Reshaped.{header_stays}
use Rattle.queue_of_store.proofs.Freed.{free-again, free-last, retire, push_first}
use Rattle.remove_means.proofs.Unchained.{Out}
use Rattle.arena.specs.declared.slots.Freed as F
use Rattle.std.specs.Prelude.{Result, Ok}
use Rattle.handle.specs.declared.Refusal.{Refusal}

-- the slot i, or a place of the stack
abbrev pub FreedAt : ℕ → ℕ → ℕ → Type 0
FreedAt i j g = (j ≡ i) ⊎ (g ≡ STACK)

-- the store and the answer, by whether the generation g is below the top
abbrev pub released_to : {g top : ℕ} → Dec (g < top) → List ℕ → ℕ → ℕ → ℕ → List ℕ
released_to {g} (yes k) u cap i h = pushed u cap i h g
released_to (no k) u cap i h = blank_of u cap i no_slot

abbrev pub released_as : {g top : ℕ} → Dec (g < top) → Result F.Freed Refusal
released_as (yes k) = Ok F.TheVariants.Again
released_as (no k) = Ok F.TheVariants.GenerationOverflow

module _ (s u : List ℕ) (q : Queue) (d : Separate q) (l : List Entry) (x : Entry) (m : List Entry) (old : entries q ≡ l ++ (x ∷ m)) (t : Tree)
    (now : inorder t ≡ l ++ m) (k : Out s u q l x m t) where
  abbrev cap : ℕ
  cap = q.capacity

  abbrev i : ℕ
  i = x.slot

  abbrev free : List Handle
  free = q.free

  abbrev after : {g top : ℕ} → Dec (g < top) → Queue
  after e = changed t (freed e x.slot q.free) q

  low_all : All (Under cap) (slots l ++ (i ∷ slots m))
  low_all = rw (old, slots-put l x m) at (live-low d)

  once_all : Once (slots l ++ (i ∷ slots m))
  once_all = rw (old, slots-put l x m) at (pairwise_left Differ (slots (entries q)) (free_slots free) d.apart)

  hi : i < cap
  hi = all_at (Under cap) (slots l) i (slots m) low_all

  low-rest : All (Under cap) (slots (l ++ m))
  low-rest = rw (slots_append l m) (all_drop (Under cap) (slots l) i (slots m) low_all)

  gone : ¬ (In i (slots (l ++ m)))
  gone z = all_in (Differ i) (slots l ++ slots m) (once-differ (slots l) i (slots m) once_all) i (rw (slots_append l m) at z) refl

  not_free : ¬ (In i (free_slots free))
  not_free z = free_not_live d i z (rw (old, slots-put l x m) (in_right i (slots l) (i ∷ slots m) (inl refl)))

  room : Long u cap
  room = k.header.passes.room.0

  -- a slot that was in use is i, or is still
  used-still : (j : ℕ) → In j (used_slots q) → (j ≡ i) ⊎ In j (slots (inorder t) ++ free_slots free)
  used-still j z = go (in_cases j (slots (entries q)) (free_slots free) z)
    where
      live : (j ≡ i) ⊎ In j (slots l ++ slots m) → (j ≡ i) ⊎ In j (slots (inorder t) ++ free_slots free)
      live (inl e) = inl e
      live (inr e) = inr (in_left j (slots (inorder t)) (free_slots free) (rw (now, slots_append l m) e))

      go : In j (slots (entries q)) ⊎ In j (free_slots free) → (j ≡ i) ⊎ In j (slots (inorder t) ++ free_slots free)
      go (inl e) = live (in_drop j (slots l) i (slots m) (rw (old, slots-put l x m) at e))
      go (inr e) = inr (in_right j (slots (inorder t)) (free_slots free) e)

  -- what both ways of freeing leave
  module _ (v : List ℕ) (o : Only u v cap (FreedAt i) IsHeight) where
    off : (j g : ℕ) → ¬ (j ≡ i) → g < STACK → ¬ (FreedAt i j g)
    off j g n h (inl z) = n z
    off j g n h (inr z) = omega arith

    header : HeaderWords v q
    header = header_stays u v q (FreedAt i) IsHeight o (λ h z e. omega arith) k.header

    tree : TreeWords v cap t
    tree = tree_stays u v cap (FreedAt i) IsHeight o t (λ z. omega arith) (λ j g h f. off j g (λ z. gone (rw now at (rw z at h))) (let y = f.to in omega arith)) k.tree

    chain : ChainWords v cap (inorder t)
    chain =
        rw now (chain_stays u v cap (FreedAt i) IsHeight o (l ++ m) low-rest (λ z. omega arith) (λ z. omega arith)
        (λ j h. (off j PREV (λ z. gone (rw z at h)) (omega arith), off j NEXT (λ z. gone (rw z at h)) (omega arith))) k.chain)

    live : AllEntries v cap (inorder t)
    live =
        rw now (entries_stay u v cap (FreedAt i) IsHeight o (l ++ m) low-rest
        (λ j h. (off j KEY (λ z. gone (rw z at h)) (omega arith), off j VALUE (λ z. gone (rw z at h)) (omega arith), off j GENERATION (λ z. gone (rw z at h)) (omega arith)))
        (all_drop (EntryWords u cap) l x m k.live))

    unused : Unused v
    unused = unused_stays u v cap (FreedAt i) IsHeight o (λ h z e. omega arith) k.unused

    others-retired : (j : ℕ) → j < cap → ¬ (j ≡ i) → ¬ (In j (slots (inorder t) ++ free_slots free)) → Retired v cap q.top j
    others-retired j h n f =
        retired_stays u v cap (FreedAt i) IsHeight o q.top j h (λ g z. off j g n z) (k.retired j h (λ z. ⊎_elim n f (used-still j z)))

  few-free : length free < cap
  few-free =
      let z = used-few d in
      let y : length (entries q) ≡ length l + suc (length m) = ap length old ∙ length-append l (x ∷ m) in
      omega arith

  generation : field u cap i GENERATION ≡ x.generation
  generation = (all_at (EntryWords u cap) l x m k.live).generation-is

  -- "Removal raises it by one and frees the slot."
  again-only : Only u (pushed u cap i (length free) x.generation) cap (FreedAt i) IsHeight
  again-only = only-pushed u i (length free) x.generation hi few-free (λ g z. inl refl) (inr refl) refl

  again : (e : x.generation < q.top) → Words (pushed u cap i (length free) x.generation) (after (yes e))
  unfolding freed free_slots
  again e =
      let v = pushed u cap i (length free) x.generation in
      let h = header v again-only in
      record {
        header = record { passes = h.passes; top-is = h.top-is };
        tree = tree v again-only;
        chain = chain v again-only;
        live = live v again-only;
        free = push_first u cap i x.generation free hi room few-free (free-low d) not_free k.free;
        retired = λ j z n. others-retired v again-only j z (λ y. n (in_right j (slots (inorder t)) (i ∷ free_slots free) (inl y))) (λ y. n (in_put j (slots (inorder t)) i (free_slots free) y));
        unused = unused v again-only;
      }

  -- "At the top generation .. the slot is retired for good."
  abbrev last : List ℕ
  last = blank_of u cap i no_slot

  last-only : Only u last cap (FreedAt i) IsHeight
  last-only = only-blank u i no_slot hi (λ g z n. inl refl)

  abbrev OwnAt : ℕ → ℕ → Type 0
  OwnAt j g = (j ≡ i) × (g < STACK)

  own-only : Only u last cap OwnAt NoHead
  own-only = only-blank u i no_slot hi (λ g z n. (refl, z))

  overflow : x.generation ≡ q.top → (e : ¬ (x.generation < q.top)) → Words last (after (no e))
  unfolding freed
  overflow g e =
      let h = header last last-only in
      record {
        header = record { passes = h.passes; top-is = h.top-is };
        tree = tree last last-only;
        chain = chain last last-only;
        live = live last last-only;
        free = stack_stays u last cap OwnAt NoHead own-only free (let z = few-free in omega arith) (free-low d) (λ z. z) (λ p z. let y = z.1 in omega arith)
            (λ j z f y w. not_free (rw w.0 at z)) k.free;
        retired = λ j z n. retired j z n (ℕ_discrete j i);
        unused = unused last last-only;
      }
    where
      retired : (j : ℕ) → j < cap → ¬ (In j (slots (inorder t) ++ free_slots free)) → Dec (j ≡ i) → Retired last cap q.top j
      retired j z n (yes y) = rw y (retire u cap i q.top hi room (generation ∙ g))
      retired j z n (no y) = others-retired last last-only j z y n

  -- the slot is freed as the definition says, and the words are the definition's queue's
  pub record Released (e : Dec (x.generation < q.top)) : Type 0 where
    pub is : free_slot u cap i ≡ (released_to e u cap i (length free), released_as e)
    pub words : Words (released_to e u cap i (length free)) (after e)
    pub only : Only u (released_to e u cap i (length free)) cap (FreedAt i) IsHeight

  pub released : x.generation ≤ q.top → (e : Dec (x.generation < q.top)) → Released e
  released g (yes e) = record {
    is = free-again u cap i (length free) q.top x.generation k.free.height k.header.top-is generation e few-free;
    words = again e;
    only = again-only;
  }
  released g (no e) = record {
    is = free-last u cap i (length free) q.top x.generation k.free.height k.header.top-is generation (omega arith);
    words = overflow (omega arith) e;
    only = last-only;
  }
