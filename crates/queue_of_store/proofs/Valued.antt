-- A value replaced: the word VALUE of a live slot is written, and the store holds the queue with the new value.
-- A reader may rely on: new-value, for the node of any entry.
use Prim.Native.Nat.{ℕ, ◌<◌}
use mathlib.Core.Path.{◌≡◌, refl, sym, ◌∙◌}
use mathlib.Core.Logic.{inl}
use mathlib.Core.List.{List, [], ◌∷◌, ◌++◌}
use native.Mathlib.Omega.{arith}
use lib.Dec.{lit<}
use Rattle.arena.specs.Words.{put, KEY, GENERATION, VALUE}
use Rattle.arena.specs.inner.Only.{Only, NoHead}
use Rattle.arena.proofs.WordLaws.{field-same}
use Rattle.arena.proofs.Only.{only-put}
use Rattle.wavl.specs.Lists.{All, In, Differ, Once}
use Rattle.wavl.specs.Entry.{Entry, revalued, slots}
use Rattle.wavl.specs.Tree.{Tree, fork, inorder}
use Rattle.wavl.specs.Way.{Way, plug}
use Rattle.wavl.proofs.Lists.{all_left, all_right, all_both, all_in, in_left, in_right, below_one, above-one, pairwise_left}
use Rattle.wavl.proofs.Rising.{node-around}
use Rattle.rules.specs.Queue.{Queue, entries}
use Rattle.rules.specs.Sound.{free_slots, used_slots, Under}
use Rattle.rules.proofs.Lists.{slots-put}
use Rattle.rules.proofs.Places.{smaller_of, greater_of, entries-around}
use Rattle.queue_of_store.specs.Ends.{first_slot, last_slot}
use Rattle.queue_of_store.specs.Chain.{Chain, ChainWords}
use Rattle.queue_of_store.specs.Entries.{EntryWords, AllEntries}
use Rattle.queue_of_store.specs.inner.Words.{Words}
use Rattle.queue_of_store.proofs.Parts.{Separate, used-few, live-low, free-low, free_not_live, room_of}
use Rattle.queue_of_store.proofs.Ways.{unplugged, plugged}
use Rattle.queue_of_store.proofs.Groups.{tree_stays, chain_stays, entries_stay, stack_stays, all_retired_stay, unused_stays}
use Rattle.queue_of_store.proofs.Reshaped.{header_stays, with_tree}

-- the chain's words do not see values
module _ (s : List ℕ) (cap v : ℕ) (x : Entry) (m : List Entry) where
  first_alike : (l : List Entry) → first_slot (l ++ (x ∷ m)) ≡ first_slot (l ++ (revalued v x ∷ m))
  first_alike [] = refl
  first_alike (e ∷ l) = refl

  last_alike : (l : List Entry) → last_slot (l ++ (x ∷ m)) ≡ last_slot (l ++ (revalued v x ∷ m))
  last_alike [] = go m
    where
      go : (m : List Entry) → last_slot (x ∷ m) ≡ last_slot (revalued v x ∷ m)
      go [] = refl
      go (e ∷ m) = refl
  last_alike (e ∷ []) = last_alike []
  last_alike (e ∷ (f ∷ l)) = last_alike (f ∷ l)

  chain_alike : (l : List Entry) (p : ℕ) → Chain s cap p (l ++ (x ∷ m)) → Chain s cap p (l ++ (revalued v x ∷ m))
  chain_alike [] p c = c
  chain_alike (e ∷ l) p c = (rw (first_alike l) at c.0, chain_alike l e.slot c.1)

  words_alike : (l : List Entry) → ChainWords s cap (l ++ (x ∷ m)) → ChainWords s cap (l ++ (revalued v x ∷ m))
  words_alike l c = record { first-is = c.first-is ∙ first_alike l; last-is = c.last-is ∙ last_alike l; chain = chain_alike l _ c.chain }

-- the place that is written
abbrev ValueOf : ℕ → ℕ → ℕ → Type 0
ValueOf i j g = (j ≡ i) × (g ≡ VALUE)

module _ {s : List ℕ} {q : Queue} (d : Separate q) (w : Words s q) (a : Tree) (x : Entry) (r : ℕ) (b : Tree) (p : Way) (e : plug (fork a x r b) p ≡ q.tree) (v : ℕ) where
  abbrev cap : ℕ
  cap = q.capacity

  abbrev i : ℕ
  i = x.slot

  abbrev l : List Entry
  l = smaller_of a p

  abbrev m : List Entry
  m = greater_of b p

  abbrev t : List ℕ
  t = put s cap i VALUE v

  whole : entries q ≡ l ++ (x ∷ m)
  whole = entries-around q a x r b p e

  whole-new : inorder (plug (fork a (revalued v x) r b) p) ≡ l ++ (revalued v x ∷ m)
  whole-new = node-around a (revalued v x) r b p

  same-slots : slots (inorder (plug (fork a (revalued v x) r b) p)) ≡ slots (entries q)
  same-slots = rw (whole, whole-new, slots-put l (revalued v x) m, slots-put l x m)

  live_here : In i (slots (entries q))
  live_here = rw (whole, slots-put l x m) (in_right i (slots l) (i ∷ slots m) (inl refl))

  low : i < cap
  low = all_in (Under cap) (slots (entries q)) (live-low d) i live_here

  o : Only s t cap (ValueOf i) NoHead
  o = only-put s i VALUE v low (lit< tt) (refl, refl)

  once : Once (slots l ++ (i ∷ slots m))
  once = rw (whole, slots-put l x m) at (pairwise_left Differ (slots (entries q)) (free_slots q.free) d.apart)

  lows : All (Under cap) (slots l ++ (i ∷ slots m))
  lows = rw (whole, slots-put l x m) at (live-low d)

  part : (k : List Entry) → All (Under cap) (slots k) → ((j : ℕ) → In j (slots k) → ¬ (j ≡ i)) → AllEntries s cap k → AllEntries t cap k
  part k u n = entries_stay s t cap (ValueOf i) NoHead o k u (λ j h. (λ z. let y = z.1 in omega arith, λ z. n j h z.0, λ z. let y = z.1 in omega arith))

  entries-new : AllEntries t cap (l ++ (revalued v x ∷ m))
  entries-new =
      let old : AllEntries s cap (l ++ (x ∷ m)) = rw whole at w.live in
      let rest = all_right (EntryWords s cap) l (x ∷ m) old in
      let here = rest.0 in
      all_both (EntryWords t cap) l (revalued v x ∷ m)
      (part l (all_left (Under cap) (slots l) (i ∷ slots m) lows) (λ j h z. all_in _ (slots l) (below_one Differ (slots l) i (slots m) once) j h z) (all_left (EntryWords s cap) l (x ∷ m) old)) (
        record {
          key-is = o.slots i KEY low (lit< tt) (λ z. let y = z.1 in omega arith) ∙ here.key-is;
          value-is = field-same s cap i VALUE v low (lit< tt) (room_of w);
          generation-is = o.slots i GENERATION low (lit< tt) (λ z. let y = z.1 in omega arith) ∙ here.generation-is;
        },
        part m (all_right (Under cap) (slots l) (i ∷ slots m) lows).1 (λ j h z. all_in _ (slots m) (above-one Differ (slots l) i (slots m) once) j h (sym z)) rest.1,
      )

  pub new-value : Words t (with_tree (plug (fork a (revalued v x) r b) p) q)
  new-value =
      let T = tree_stays s t cap (ValueOf i) NoHead o q.tree (λ z. z) (λ j g h k z. let y = z.1 in omega arith) w.tree in
      let P = unplugged t cap p (fork a x r b) (rw e T) in
      let h = header_stays s t q (ValueOf i) NoHead o (λ n y z. z) w.header in
      record {
        header = record { passes = h.passes; top-is = h.top-is };
        tree = plugged t cap p (fork a (revalued v x) r b) (record { below = P.below; hook = P.hook; way = P.way });
        chain = rw whole-new (words_alike t cap v x m l (rw whole at
            (chain_stays s t cap (ValueOf i) NoHead o (entries q) (live-low d) (λ z. z) (λ z. z) (λ j n. (λ z. let y = z.1 in omega arith, λ z. let y = z.1 in omega arith)) w.chain)));
        live = rw whole-new entries-new;
        free = stack_stays s t cap (ValueOf i) NoHead o q.free (let n = used-few d in omega arith) (free-low d) (λ z. z) (λ n z. let y = z.1 in omega arith)
            (λ j n g y z. free_not_live d j n (rw z.0 live_here)) w.free;
        retired = rw same-slots (all_retired_stay s t cap (ValueOf i) NoHead o q.top (used_slots q)
            (λ j n g y z. n (in_left j (slots (entries q)) (free_slots q.free) (rw z.0 live_here))) w.retired);
        unused = unused_stays s t cap (ValueOf i) NoHead o (λ n y z. z) w.unused;
      }
