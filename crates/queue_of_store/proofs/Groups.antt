-- What writes leave of each group of a queue's words: a group stays where none of its own places is written.
-- A reader may rely on: one law per group, over any writes; the places that a group has are its premise.
use Prim.Native.Nat.{ℕ, ◌<◌, ◌≤◌}
use mathlib.Core.Path.{◌≡◌, refl, ◌∙◌}
use mathlib.Core.Logic.{inl, inr}
use mathlib.Core.List.{List, [], ◌∷◌}
use native.Mathlib.Omega.{arith}
use lib.Dec.{lit<}
use lib.ListN.{length}
use Rattle.arena.specs.Words.{field, KEY, LEFT, RIGHT, RANK, BACK, PREV, NEXT, GENERATION, VALUE, STACK, CAPACITY, HEIGHT, FIRST, LAST, ROOT}
use Rattle.arena.specs.Header.{Passing}
use Rattle.arena.specs.inner.Only.{Only}
use Rattle.wavl.specs.Lists.{All, In}
use Rattle.wavl.specs.Entry.{Entry, slots}
use Rattle.wavl.specs.Tree.{Tree}
use Rattle.rules.specs.Queue.{Handle}
use Rattle.rules.specs.Sound.{free_slots, Under}
use Rattle.queue_of_store.specs.Links.{Links, TreeWords}
use Rattle.queue_of_store.specs.Chain.{Chain, ChainWords}
use Rattle.queue_of_store.specs.Entries.{EntryWords, AllEntries}
use Rattle.queue_of_store.specs.Free.{Blank, FreeWords, FreeStack, Retired, AllRetired}
use Rattle.queue_of_store.specs.Holds.{Unused}
use Rattle.queue_of_store.proofs.Has.{Has}
use Rattle.queue_of_store.proofs.Trees.{LinkField, SameLinks, links-keep}

module _ (s t : List ℕ) (cap : ℕ) (W : ℕ → ℕ → Type 0) (H : ℕ → Type 0) (o : Only s t cap W H) where
  -- the header
  pub passing_stays : ¬ (H CAPACITY) → Passing s cap → Passing t cap
  passing_stays n p = record { capacity = o.heads CAPACITY (lit< tt) n ∙ p.capacity; some = p.some; few = p.few; room = rw o.long p.room }

  pub unused_stays : ((h : ℕ) → ROOT < h → ¬ (H h)) → Unused s → Unused t
  unused_stays n u h l m = o.heads h m (n h l) ∙ u h l m

  -- the tree's links
  pub same-links : (j : ℕ) → j < cap → ((g : ℕ) → LinkField g → ¬ (W j g)) → SameLinks s t cap j
  same-links j l n g f = o.slots j g l (omega arith) (n g f)

  pub links_stay : (x : Tree) (back : ℕ) → ((j g : ℕ) → Has j x → LinkField g → ¬ (W j g)) → Links s cap back x → Links t cap back x
  links_stay x back n = links-keep s t cap x back (λ j l h. same-links j l (λ g f. n j g h f))

  pub tree_stays : (x : Tree) → ¬ (H ROOT) → ((j g : ℕ) → Has j x → LinkField g → ¬ (W j g)) → TreeWords s cap x → TreeWords t cap x
  tree_stays x h n w = record { root = o.heads ROOT (lit< tt) h ∙ w.root; links = links_stay x _ n w.links }

  -- the chain
  chain-links : (l : List Entry) (p : ℕ) → All (Under cap) (slots l) → ((j : ℕ) → In j (slots l) → ¬ (W j PREV) × ¬ (W j NEXT)) → Chain s cap p l → Chain t cap p l
  unfolding slots
  chain-links [] p u n c = tt
  chain-links (e ∷ l) p u n c =
      let m = n e.slot (inl refl) in (
        record {
          prev-is = o.slots e.slot PREV u.0 (lit< tt) m.0 ∙ c.0.prev-is;
          next-is = o.slots e.slot NEXT u.0 (lit< tt) m.1 ∙ c.0.next-is;
        },
        chain-links l e.slot u.1 (λ j h. n j (inr h)) c.1,
      )

  pub chain_stays : (l : List Entry) → All (Under cap) (slots l) → ¬ (H FIRST) → ¬ (H LAST) → ((j : ℕ) → In j (slots l) → ¬ (W j PREV) × ¬ (W j NEXT))
      → ChainWords s cap l → ChainWords t cap l
  chain_stays l u f b n c =
      record { first-is = o.heads FIRST (lit< tt) f ∙ c.first-is; last-is = o.heads LAST (lit< tt) b ∙ c.last-is; chain = chain-links l _ u n c.chain }

  -- the entries
  pub entry_stays : (e : Entry) → e.slot < cap → ¬ (W e.slot KEY) → ¬ (W e.slot VALUE) → ¬ (W e.slot GENERATION) → EntryWords s cap e → EntryWords t cap e
  entry_stays e u k v g w = record {
    key-is = o.slots e.slot KEY u (lit< tt) k ∙ w.key-is;
    value-is = o.slots e.slot VALUE u (lit< tt) v ∙ w.value-is;
    generation-is = o.slots e.slot GENERATION u (lit< tt) g ∙ w.generation-is;
  }

  pub entries_stay : (l : List Entry) → All (Under cap) (slots l) → ((j : ℕ) → In j (slots l) → ¬ (W j KEY) × ¬ (W j VALUE) × ¬ (W j GENERATION))
      → AllEntries s cap l → AllEntries t cap l
  unfolding slots
  entries_stay [] u n w = tt
  entries_stay (e ∷ l) u n w =
      let m = n e.slot (inl refl) in
      (entry_stays e u.0 m.0 m.1 m.2 w.0, entries_stay l u.1 (λ j h. n j (inr h)) w.1)

  -- slots without an entry: all their fields but STACK
  abbrev Untouched : ℕ → Type 0
  Untouched i = (g : ℕ) → g < STACK → ¬ (W i g)

  kept : (i : ℕ) → i < cap → Untouched i → (g : ℕ) → g < STACK → field t cap i g ≡ field s cap i g
  kept i l n g h = o.slots i g l (omega arith) (n g h)

  pub blank_stays : (i back : ℕ) → i < cap → Untouched i → Blank s cap i back → Blank t cap i back
  blank_stays i back l n b = record {
    key-is = kept i l n KEY (lit< tt) ∙ b.key-is;
    left_is = kept i l n LEFT (lit< tt) ∙ b.left_is;
    right_is = kept i l n RIGHT (lit< tt) ∙ b.right_is;
    rank_is = kept i l n RANK (lit< tt) ∙ b.rank_is;
    back_is = kept i l n BACK (lit< tt) ∙ b.back_is;
    prev-is = kept i l n PREV (lit< tt) ∙ b.prev-is;
    next-is = kept i l n NEXT (lit< tt) ∙ b.next-is;
    value-is = kept i l n VALUE (lit< tt) ∙ b.value-is;
  }

  -- the free stack: its places are below the capacity
  pub free-words_stay : (l : List Handle) → length l ≤ cap → All (Under cap) (free_slots l) → ((p : ℕ) → p < length l → ¬ (W p STACK))
      → ((j : ℕ) → In j (free_slots l) → Untouched j) → FreeWords s cap l → FreeWords t cap l
  unfolding free_slots
  free-words_stay [] m u n k w = tt
  free-words_stay (h ∷ l) m u n k w = (
    record {
      stack_is = o.slots (length l) STACK (omega arith) (lit< tt) (n (length l) (omega arith)) ∙ w.0.stack_is;
      blank = blank_stays h.slot (length l) u.0 (k h.slot (inl refl)) w.0.blank;
      generation-is = kept h.slot u.0 (k h.slot (inl refl)) GENERATION (lit< tt) ∙ w.0.generation-is;
    },
    free-words_stay l (omega arith) u.1 (λ p x. n p (omega arith)) (λ j x. k j (inr x)) w.1,
  )

  pub stack_stays : (l : List Handle) → length l ≤ cap → All (Under cap) (free_slots l) → ¬ (H HEIGHT) → ((p : ℕ) → ¬ (W p STACK))
      → ((j : ℕ) → In j (free_slots l) → Untouched j) → FreeStack s cap l → FreeStack t cap l
  stack_stays l m u h n k w = record {
    height = o.heads HEIGHT (lit< tt) h ∙ w.height;
    stacked = free-words_stay l m u (λ p x. n p) k w.stacked;
    unused = λ p x y. o.slots p STACK y (lit< tt) (n p) ∙ w.unused p x y;
  }

  -- the retired slots
  pub retired_stays : (top i : ℕ) → i < cap → Untouched i → Retired s cap top i → Retired t cap top i
  retired_stays top i l n r = record { blank = blank_stays i _ l n r.blank; generation-is = kept i l n GENERATION (lit< tt) ∙ r.generation-is }

  pub all_retired_stay : (top : ℕ) (used : List ℕ) → ((j : ℕ) → ¬ (In j used) → Untouched j) → AllRetired s cap top used → AllRetired t cap top used
  all_retired_stay top used n r i l x = retired_stays top i l (n i x) (r i l x)
