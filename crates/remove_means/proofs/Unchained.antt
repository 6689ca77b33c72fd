-- An entry that left the tree leaves the chain: every group of the store's words after the two, with its slot's own words still there.
-- A reader may rely on: only links of live slots, and ROOT, FIRST and LAST, are written.
use Prim.Native.Nat.{ℕ, ◌≤◌, ◌<◌}
use mathlib.Core.Path.{◌≡◌, ap, ◌∙◌}
use mathlib.Core.Logic.{inr}
use mathlib.Core.List.{List, ◌∷◌, ◌++◌}
use native.Mathlib.Omega.{arith}
use native.Mathlib.Decide.{ℕ_discrete}
use Rattle.handle.specs.Numbers.{no_slot}
use Rattle.arena.specs.Words.{Long, LEFT, PREV, NEXT, FIRST, ROOT}
use Rattle.arena.specs.inner.Only.{Only}
use Rattle.arena.proofs.Only.{only_trans, only-room, only_weaken}
use Rattle.wavl.specs.Lists.{All, In, Differ, Once}
use Rattle.wavl.specs.Entry.{Entry, slots}
use Rattle.wavl.specs.Tree.{Tree}
use Rattle.wavl.proofs.Lists.{in_left, in_right, pairwise_left}
use Rattle.chain.specs.inner.Links.{joined, unlink_slot}
use Rattle.chain.specs.declared.Neighbours.{Neighbours}
use Rattle.chain.proofs.LinkLaws.{unlink_is}
use Rattle.rules.specs.Queue.{Queue, entries}
use Rattle.rules.specs.Sound.{free_slots, used_slots, Under}
use Rattle.rules.proofs.Lists.{slots-put}
use Rattle.queue_of_store.specs.Ends.{first_slot, last_slot}
use Rattle.queue_of_store.specs.Links.{TreeWords}
use Rattle.queue_of_store.specs.Chain.{ChainWords}
use Rattle.queue_of_store.specs.Entries.{AllEntries}
use Rattle.queue_of_store.specs.Free.{FreeStack, AllRetired}
use Rattle.queue_of_store.specs.Holds.{HeaderWords, Unused}
use Rattle.queue_of_store.specs.inner.Words.{Words}
use Rattle.queue_of_store.proofs.Parts.{Separate, used-few, live-low, free-low, free_not_live, few-slots, room_of}
use Rattle.queue_of_store.proofs.Groups.{unused_stays, tree_stays, chain_stays, entries_stay, stack_stays, all_retired_stay}
use Rattle.tree.specs.inner.Kept.{IsRoot}
use Rattle.queue_of_store.proofs.Reshaped.{header_stays}
use Rattle.queue_of_store.proofs.Trees.{LinkOf}
use Rattle.remove_means.proofs.Kept.{LinksOnly}
use Rattle.queue_of_store.proofs.Chains.{end_last, chain-at}
use Rattle.queue_of_store.proofs.Segments.{last-live, first_live}
use Rattle.queue_of_store.proofs.Linked.{JoinedAt, EndsAt, joined-unlinks, chain-out}

-- a link of a live slot, of the tree or of the chain; the header's words that name ends
abbrev pub LinkAt : List ℕ → ℕ → ℕ → Type 0
LinkAt l j g = In j l × (LEFT ≤ g) × (g ≤ NEXT)

abbrev pub NamesEnd : ℕ → Type 0
NamesEnd h = (FIRST ≤ h) × (h ≤ ROOT)

-- x stands between l and m; t is what is left of the tree
pub record Out (s u : List ℕ) (q : Queue) (l : List Entry) (x : Entry) (m : List Entry) (t : Tree) : Type 0 where
  pub only : Only s u q.capacity (LinkAt (slots (entries q))) NamesEnd
  pub header : HeaderWords u q
  pub tree : TreeWords u q.capacity t
  pub chain : ChainWords u q.capacity (l ++ m)
  pub live : AllEntries u q.capacity (l ++ (x ∷ m))
  pub free : FreeStack u q.capacity q.free
  pub retired : AllRetired u q.capacity q.top (used_slots q)
  pub unused : Unused u

module _ (s s1 : List ℕ) (q : Queue) (d : Separate q) (w : Words s q) (l : List Entry) (x : Entry) (m : List Entry) (old : entries q ≡ l ++ (x ∷ m)) (t : Tree)
    (tree : TreeWords s1 q.capacity t) (o1 : LinksOnly s s1 q.capacity (slots (entries q))) where
  abbrev cap : ℕ
  cap = q.capacity

  abbrev L : List ℕ
  L = slots (entries q)

  abbrev a : ℕ
  a = last_slot l

  abbrev b : ℕ
  b = first_slot m

  abbrev u : List ℕ
  u = joined s1 cap a b

  few : cap ≤ no_slot
  few = few-slots w

  room1 : Long s1 cap
  room1 = only-room o1 (room_of w)

  low : All (Under cap) (slots (l ++ (x ∷ m)))
  low = rw old at (live-low d)

  once : Once (slots (l ++ (x ∷ m)))
  once = rw old at (pairwise_left Differ L (free_slots q.free) d.apart)

  chain1 : ChainWords s1 cap (l ++ (x ∷ m))
  chain1 =
      rw old at (chain_stays s s1 cap (LinkOf L) IsRoot o1 (entries q) (live-low d) (λ z. omega arith) (λ z. omega arith)
      (λ j h. ((λ z. let k = z.field_is in omega arith), (λ z. let k = z.field_is in omega arith))) w.chain)

  pub unlinks : (unlink_slot s1 cap x.slot).0 ≡ u
  unlinks =
      let k = chain-at s1 cap l x m no_slot chain1.chain in
      ap (λ (y : List ℕ × Neighbours). y.0) (unlink_is s1 cap x.slot a b (k.prev-is ∙ end_last l) k.next-is)

  o2 : Only s1 u cap (JoinedAt a b) (EndsAt cap a b)
  o2 = (joined-unlinks s1 cap a b room1).only

  joined-live : (j g : ℕ) → j < cap → JoinedAt a b j g → Dec (g ≡ PREV) → LinkAt L j g
  joined-live j g h z (yes e) =
      (rw (old, slots-put l x m) (in_right j (slots l) (x.slot ∷ slots m) (inr (first_live cap m j few h (z.2 e)))), omega arith, omega arith)
  joined-live j g h z (no n) =
      let lo = z.0 in
      let up = z.1 in
      (rw (old, slots-put l x m) (in_left j (slots l) (x.slot ∷ slots m) (last-live cap l j few h (z.3 (omega arith)))), omega arith, omega arith)

  o : Only s u cap (LinkAt L) NamesEnd
  o =
      only_trans (only_weaken (λ j g hj z. let k = z.field_is in (z.slot_in, omega arith, omega arith)) (λ h z. omega arith) o1)
      (only_weaken (λ j g hj z. joined-live j g hj z (ℕ_discrete g PREV)) (λ h z. omega arith) o2)

  pub unchained : Out s u q l x m t
  unchained = record {
    only = o;
    header = header_stays s u q (LinkAt L) NamesEnd o (λ h k z. let n = z.0 in omega arith) w.header;
    tree = tree_stays s1 u cap (JoinedAt a b) (EndsAt cap a b) o2 t (λ z. let k = z.1 in omega arith) (λ j g h f z. let k = z.0 in omega arith) tree;
    chain = chain-out s1 u cap l x m few once low (joined-unlinks s1 cap a b room1) chain1;
    live = rw old at (entries_stay s u cap (LinkAt L) NamesEnd o (entries q) (live-low d)
        (λ j h. ((λ z. let k = z.1 in omega arith), (λ z. let k = z.2 in omega arith), (λ z. let k = z.2 in omega arith))) w.live);
    free = stack_stays s u cap (LinkAt L) NamesEnd o q.free (let k = used-few d in omega arith) (free-low d) (λ z. let k = z.0 in omega arith)
        (λ p z. let k = z.2 in omega arith) (λ j h g f z. free_not_live d j h z.0) w.free;
    retired = all_retired_stay s u cap (LinkAt L) NamesEnd o q.top (used_slots q) (λ j n g f z. n (in_left j L (free_slots q.free) z.0)) w.retired;
    unused = unused_stays s u cap (LinkAt L) NamesEnd o (λ h k z. let n = z.1 in omega arith) w.unused;
  }
