-- A new leaf at an empty place, in the words: every group of the store's words, by the places that were written.
-- A reader may rely on: hung: words of a queue become those of the queue with the leaf at the place and its handle taken.
use Prim.Native.Nat.{ℕ, suc, ◌≤◌, ◌<◌}
use mathlib.Core.Path.{◌≡◌, refl, sym, ap, ◌∙◌}
use mathlib.Core.Logic.{◌⊎◌, inl, inr, ⊎_elim}
use mathlib.Core.List.{List, [], ◌∷◌, ◌++◌}
use native.Mathlib.Omega.{arith}
use lib.Dec.{lit<}
use lib.ListN.{length}
use Rattle.handle.specs.Numbers.{no_slot}
use Rattle.arena.proofs.WordLaws.{length_put}
use Rattle.arena.specs.Words.{Long, field, put, KEY, LEFT, NEXT, GENERATION, VALUE, STACK, ROOT}
use Rattle.arena.specs.inner.Only.{Only, NoHead, IsHeight}
use Rattle.arena.specs.inner.Slots.{popped}
use Rattle.arena.proofs.Only.{only_trans, only-popped}
use Rattle.tree.specs.inner.Links.{with_child}
use Rattle.tree.specs.inner.Kept.{TreeField, IsRoot, TreeOnly}
use Rattle.tree.proofs.Keeps.{only_child_lem}
use Rattle.wavl.specs.Lists.{All, In, Differ, Once}
use Rattle.wavl.specs.Entry.{Entry, slots}
use Rattle.wavl.specs.Tree.{left, tip, leaf, inorder}
use Rattle.wavl.specs.Way.{step, Way, plug, before, after}
use Rattle.wavl.proofs.Lists.{in_left, in_right, in_cases, pairwise_left, slots_append}
use Rattle.wavl.proofs.Order.{plug-around, empty-place-order}
use Rattle.rules.specs.Queue.{Handle, Queue, entry_with, entries, changed}
use Rattle.rules.specs.Sound.{free_slots, used_slots, Under}
use Rattle.rules.proofs.Lists.{all_put, slots-put, in_put}
use Rattle.insert.specs.inner.Place.{childless}
use Rattle.queue_of_store.specs.Ends.{first_slot, last_slot}
use Rattle.queue_of_store.specs.Links.{Links, TreeWords}
use Rattle.queue_of_store.specs.inner.Ways.{parent, side_in}
use Rattle.queue_of_store.specs.Chain.{ChainWords}
use Rattle.queue_of_store.specs.Entries.{EntryWords, AllEntries}
use Rattle.queue_of_store.specs.Free.{FreeStack, AllRetired}
use Rattle.queue_of_store.specs.Holds.{HeaderWords, Unused}
use Rattle.queue_of_store.specs.inner.Words.{Words}
use Rattle.queue_of_store.proofs.Has.{Has, Distinct, has_cases}
use Rattle.queue_of_store.proofs.Trees.{SameLinks, node-keep, number_small}
use Rattle.queue_of_store.proofs.Ways.{HasWay, has_way}
use Rattle.queue_of_store.proofs.Parts.{Separate, used-few, live-low, free-low, free_not_live, few-slots, room_of}
use Rattle.queue_of_store.proofs.Groups.{unused_stays, chain_stays, entries_stay, stack_stays, all_retired_stay}
use Rattle.queue_of_store.proofs.Reshaped.{header_stays}
use Rattle.queue_of_store.proofs.NodeWrites.{node-new}
use Rattle.queue_of_store.proofs.WayWrites.{grown}
use Rattle.queue_of_store.proofs.Stack.{PlaceOf, pop_rest}
use Rattle.queue_of_store.proofs.Segments.{last-live, first_live}
use Rattle.queue_of_store.proofs.Linked.{Linked, chain_in}
use Rattle.insert_means.proofs.Hanging.{OwnOf, leafed, leaf-only, leaf-key, leaf-value, ChainOf, EndHead, link-only, HangsAt, own, other, HangHead, hang_own, hang_chain, hang_child}

-- the queue with the leaf x at the place, and the handles `rest` left
abbrev pub hung_queue : Queue → Entry → Way → List Handle → Queue
hung_queue q x p rest = changed (plug (leaf x) p) rest q

module _ {s : List ℕ} {q : Queue} (dq : Separate q) (w : Words s q) (h : Handle) (rest : List Handle) (free : q.free ≡ h ∷ rest) (k v : ℕ)
    (p : Way) (e : plug tip p ≡ q.tree) (sep : Separate (hung_queue q (entry_with h k v) p rest)) where
  abbrev cap : ℕ
  cap = q.capacity

  abbrev i : ℕ
  i = h.slot

  abbrev x : Entry
  x = entry_with h k v

  abbrev live : List ℕ
  live = slots (entries q)

  -- the handle taken, the leaf written
  abbrev pub taken_store : List ℕ
  taken_store = popped s cap (length rest)

  abbrev pub leaf_store : List ℕ
  leaf_store = leafed taken_store cap i k v (parent p)

  pub few : cap ≤ no_slot
  few = few-slots w

  pub old : entries q ≡ before p ++ after p
  old = ap inorder (sym e) ∙ empty-place-order p

  now : inorder (plug (leaf x) p) ≡ before p ++ (x ∷ after p)
  unfolding inorder
  now = plug-around p (leaf x)

  free-parts : All (Under cap) (i ∷ free_slots rest)
  unfolding free_slots
  free-parts = rw free at (free-low dq)

  pub low : i < cap
  low = free-parts.0

  pub places : suc (length rest) ≤ cap
  places = let u = used-few dq in let z : length q.free ≡ suc (length rest) = ap length free in omega arith

  pub not_live : ¬ (In i live)
  unfolding free_slots
  not_live = free_not_live dq i (rw free (inl refl))

  here : In i (slots (inorder (plug (leaf x) p)))
  here = rw (now, slots-put (before p) x (after p)) (in_right i (slots (before p)) (i ∷ slots (after p)) (inl refl))

  not_rest : ¬ (In i (free_slots rest))
  not_rest z = free_not_live sep i z here

  rest_not_live : (j : ℕ) → In j (free_slots rest) → ¬ (In j live)
  unfolding free_slots
  rest_not_live j z = free_not_live dq j (rw free (inr z))

  -- what is written up to the leaf, of the other slots
  taken-only : Only s taken_store cap (PlaceOf (length rest)) IsHeight
  taken-only = only-popped s (length rest) places (refl, refl) refl

  room_a : Long taken_store cap
  room_a = rw taken-only.long (room_of w)

  leaf-writes : Only taken_store leaf_store cap (OwnOf i) NoHead
  leaf-writes = leaf-only taken_store cap i k v (parent p) low

  pub leaf_room : Long leaf_store cap
  leaf_room = rw leaf-writes.long room_a

  -- the chain before the new entry stands in it
  pub leaf-chain : ChainWords leaf_store cap (before p ++ after p)
  leaf-chain =
      rw old at (chain_stays taken_store leaf_store cap (OwnOf i) NoHead leaf-writes (entries q) (live-low dq) (λ z. z) (λ z. z) (λ j n. (λ z. not_live (rw z.0 at n), λ z. not_live (rw z.0 at n)))
      (chain_stays s taken_store cap (PlaceOf (length rest)) IsHeight taken-only (entries q) (live-low dq) (λ z. omega arith) (λ z. omega arith)
      (λ j n. (λ z. let y = z.1 in omega arith, λ z. let y = z.1 in omega arith)) w.chain))

  module _ (t : List ℕ) (K : Linked leaf_store t cap (last_slot (before p)) i (first_slot (after p))) where
    -- the parent's link, or ROOT, is written last
    abbrev pub hung_store : List ℕ
    hung_store = with_child t cap (parent p) (side_in p) i

    in_old : (j : ℕ) → In j (slots (before p)) ⊎ In j (slots (after p)) → In j live
    in_old j z = rw (old, slots_append (before p) (after p)) (⊎_elim (in_left j (slots (before p)) (slots (after p))) (in_right j (slots (before p)) (slots (after p))) z)

    chain-writes : Only leaf_store t cap (ChainOf i live) EndHead
    chain-writes =
        link-only leaf_store t cap (last_slot (before p)) i (first_slot (after p)) live K
        (λ j lj z. in_old j (inl (last-live cap (before p) j few lj z))) (λ j lj z. in_old j (inr (first_live cap (after p) j few lj z)))

    parent_live : (p' : Way) → plug tip p' ≡ q.tree → parent p' < cap → In (parent p') live
    parent_live [] z l = let f = few in absurd (omega arith)
    parent_live (step d f r u ∷ p') z l = rw (← z) (has_way f.slot (step d f r u ∷ p') tip (inl refl))

    side-low : (p' : Way) → side_in p' ≤ 1
    side-low [] = omega arith
    side-low (step d f r u ∷ p') = number_small d

    all_writes : Only taken_store hung_store cap (HangsAt i live) HangHead
    all_writes =
        only_trans (hang_own taken_store leaf_store cap i live leaf-writes)
        (only_trans (hang_chain leaf_store t cap i live chain-writes)
        (hang_child t t cap i live (parent p) (side_in p) (side-low p) (parent_live p e)))

    child-writes : TreeOnly t hung_store cap
    child-writes = let m = side-low p in only_child_lem t (parent p) (side_in p) i m (λ l. (omega arith, omega arith)) (λ l. refl)

    -- no live slot's key, value or generation; nothing of the other slots without an entry
    not_entry : (j g : ℕ) → In j live → (g < LEFT) ⊎ (NEXT < g) → ¬ (HangsAt i live j g)
    not_entry j g n z (own a b c) = not_live (rw a at n)
    not_entry j g n (inl z) (other a b c) = omega arith
    not_entry j g n (inr z) (other a b c) = omega arith

    not_blank : (j g : ℕ) → ¬ (j ≡ i) → ¬ (In j live) → ¬ (HangsAt i live j g)
    not_blank j g n m (own a b c) = n a
    not_blank j g n m (other a b c) = m a

    not_stack : (j : ℕ) → ¬ (HangsAt i live j STACK)
    not_stack j (own a b c) = omega arith
    not_stack j (other a b c) = omega arith

    not_generation : ¬ (HangsAt i live i GENERATION)
    not_generation (own a b c) = c refl
    not_generation (other a b c) = omega arith

    header-new : HeaderWords hung_store q
    header-new =
        header_stays taken_store hung_store q (HangsAt i live) HangHead all_writes (λ n z y. omega arith)
        (header_stays s taken_store q (PlaceOf (length rest)) IsHeight taken-only (λ n z y. omega arith) w.header)

    unused-new : Unused hung_store
    unused-new =
        unused_stays taken_store hung_store cap (HangsAt i live) HangHead all_writes (λ n z y. omega arith)
        (unused_stays s taken_store cap (PlaceOf (length rest)) IsHeight taken-only (λ n z y. omega arith) w.unused)

    free_new : FreeStack hung_store cap rest
    free_new =
        let f : FreeStack s cap (h ∷ rest) = rw free at w.free in
        stack_stays taken_store hung_store cap (HangsAt i live) HangHead all_writes rest (let z = places in omega arith) free-parts.1 (λ z. omega arith) not_stack
        (λ j n g y. not_blank j g (λ z. not_rest (rw z at n)) (rest_not_live j n))
        (pop_rest s cap h rest (room_of w) places free-parts.1 f)

    -- what was in use before is in use now
    still-used : (j : ℕ) → In j (used_slots q) → In j (used_slots (hung_queue q x p rest))
    unfolding free_slots
    still-used j n = ⊎_elim (λ z. in_left j (slots (inorder (plug (leaf x) p))) (free_slots rest) (lived z)) (λ z. freed (rw free at z)) (in_cases j live (free_slots q.free) n)
      where
        lived : In j live → In j (slots (inorder (plug (leaf x) p)))
        lived z = rw (now, slots-put (before p) x (after p)) (in_put j (slots (before p)) i (slots (after p)) (rw (old, slots_append (before p) (after p)) at z))

        freed : In j (free_slots (h ∷ rest)) → In j (used_slots (hung_queue q x p rest))
        freed (inl z) = in_left j (slots (inorder (plug (leaf x) p))) (free_slots rest) (rw z here)
        freed (inr z) = in_right j (slots (inorder (plug (leaf x) p))) (free_slots rest) z

    retired-new : AllRetired hung_store cap q.top (used_slots (hung_queue q x p rest))
    unfolding free_slots
    retired-new j lj n =
        all_retired_stay taken_store hung_store cap (HangsAt i live) HangHead all_writes q.top (used_slots q)
        (λ m y g z. not_blank m g (λ u. y (rw u used-here)) (λ u. y (in_left m live (free_slots q.free) u)))
        (all_retired_stay s taken_store cap (PlaceOf (length rest)) IsHeight taken-only q.top (used_slots q) (λ m y g z u. let r = u.1 in omega arith) w.retired)
        j lj (λ z. n (still-used j z))
      where
        used-here : In i (used_slots q)
        used-here = in_right i live (free_slots q.free) (rw free (inl refl))

    entries-new : AllEntries hung_store cap (before p ++ (x ∷ after p))
    entries-new = all_put (EntryWords hung_store cap) (before p) x (after p) mine (rw old at kept)
      where
        kept : AllEntries hung_store cap (entries q)
        kept =
            entries_stay taken_store hung_store cap (HangsAt i live) HangHead all_writes (entries q) (live-low dq)
            (λ j n. (not_entry j KEY n (inl (lit< tt)), not_entry j VALUE n (inr (lit< tt)), not_entry j GENERATION n (inr (lit< tt))))
            (entries_stay s taken_store cap (PlaceOf (length rest)) IsHeight taken-only (entries q) (live-low dq)
            (λ j n. (λ z. let y = z.1 in omega arith, λ z. let y = z.1 in omega arith, λ z. let y = z.1 in omega arith)) w.live)

        -- behind the leaf nothing but links is written
        later : (g : ℕ) → g < STACK → ¬ ((LEFT ≤ g) × (g ≤ NEXT)) → field hung_store cap i g ≡ field leaf_store cap i g
        later g z n =
            child-writes.slots i g low (omega arith) (λ y. n (y.0, omega arith)) ∙ chain-writes.slots i g low (omega arith) (λ y. n (omega arith, y.2))

        mine : EntryWords hung_store cap x
        mine =
            let f : FreeStack s cap (h ∷ rest) = rw free at w.free in
            record {
              key-is = later KEY (lit< tt) (λ z. omega arith) ∙ leaf-key taken_store cap i k v (parent p) low room_a;
              value-is = later VALUE (lit< tt) (λ z. omega arith) ∙ leaf-value taken_store cap i k v (parent p) low room_a;
              generation-is = all_writes.slots i GENERATION low (lit< tt) not_generation
                  ∙ taken-only.slots i GENERATION low (lit< tt) (λ z. let y = z.1 in omega arith) ∙ f.stacked.0.generation-is;
            }

    chain-new : ChainWords hung_store cap (before p ++ (x ∷ after p))
    chain-new =
        let l = before p ++ (x ∷ after p) in
        let once : Once (slots l) = rw now at (pairwise_left Differ (slots (inorder (plug (leaf x) p))) (free_slots rest) sep.apart) in
        let lows : All (Under cap) (slots l) = rw now at (live-low sep) in
        chain_stays t hung_store cap TreeField IsRoot child-writes l lows (λ z. omega arith) (λ z. omega arith) (λ j n. (λ z. omega arith, λ z. omega arith))
        (chain_in leaf_store t cap (before p) x (after p) few once lows K leaf-chain)

    -- the way up is as it was, and the leaf hangs below its end
    way-kept : (j : ℕ) → j < cap → HasWay j p → SameLinks s t cap j
    way-kept j lj z g f =
        let n : In j live = rw (← e) (has_way j p tip z) in
        chain-writes.slots j g lj (omega arith) (λ y. omega arith) ∙ leaf-writes.slots j g lj (omega arith) (λ y. not_live (rw y.0 at n))
        ∙ taken-only.slots j g lj (omega arith) (λ y. omega arith)

    leaf-links : Links t cap (parent p) (leaf x)
    leaf-links =
        let a = put taken_store cap i KEY k in
        let b = put a cap i VALUE v in
        let rb : Long b cap = rw (length_put a cap i VALUE v, length_put taken_store cap i KEY k) room_a in (
          node-keep leaf_store t cap 0 (parent p) no_slot i 1 no_slot (omega arith) (λ g f. chain-writes.slots i g low (omega arith) (λ y. omega arith))
              (node-new b cap 0 i (childless (parent p)) (omega arith) low rb),
          tt,
          tt,
        )

    not_parent : ¬ (Has (parent p) (leaf x))
    unfolding inorder slots
    not_parent z = ⊎_elim (λ y. not_live (rw y at (parent_live p e (rw y low)))) (λ y. ⊎_elim (λ u. u) (λ u. u) y) (has_cases tip x 1 tip left (parent p) z)

    tree-new : TreeWords hung_store cap (plug (leaf x) p)
    tree-new =
        let D : Distinct (plug tip p) = rw e (pairwise_left Differ live (free_slots q.free) dq.apart) in
        let root = chain-writes.heads ROOT (lit< tt) (λ z. omega arith) ∙ leaf-writes.heads ROOT (lit< tt) (λ z. z) ∙ taken-only.heads ROOT (lit< tt) (λ z. omega arith) in
        grown s t cap p tip (leaf x) few (rw K.only.long leaf_room) D (rw e w.tree) way-kept root leaf-links not_parent

    pub hung : Words hung_store (hung_queue q x p rest)
    hung = record {
      header = record { passes = header-new.passes; top-is = header-new.top-is };
      tree = tree-new;
      chain = rw now chain-new;
      live = rw now entries-new;
      free = free_new;
      retired = retired-new;
      unused = unused-new;
    }
