-- One store for a queue: two stores of one length that hold the same queue and agree past the needed numbers are the same.
-- A reader may rely on: every header word and every field of every slot, live, free or retired, follows from the queue.
use Prim.Native.Nat.{ℕ, zero, suc, ◌≤◌, ◌<◌}
use mathlib.Core.Path.{◌≡◌, sym, ◌∙◌}
use mathlib.Core.Logic.{◌⊎◌, inl, inr, ⊎_elim}
use mathlib.Core.List.{List, [], ◌∷◌}
use native.Mathlib.Decide.{dec_lt, ℕ_discrete}
use native.Mathlib.Omega.{arith}
use lib.ListN.{length, get_or}
use Rattle.arena.specs.Words.{need, head_words, fields, field, head, KEY, LEFT, RIGHT, RANK, BACK, PREV, NEXT, GENERATION, VALUE, STACK, ROOT}
use Rattle.arena.proofs.OneStore.{one_store}
use Rattle.arena.proofs.FreshStore.{each_field}
use Rattle.wavl.specs.Lists.{In}
use Rattle.wavl.specs.Entry.{Entry, slots}
use Rattle.wavl.specs.Tree.{left, Tree, tip, fork, inorder}
use Rattle.wavl.proofs.Lists.{all_in, in_cases}
use Rattle.rules.specs.Queue.{Handle, Queue, entries}
use Rattle.rules.specs.Sound.{free_slots, used_slots}
use Rattle.queue_of_store.specs.Links.{Links}
use Rattle.queue_of_store.specs.Chain.{Chain}
use Rattle.queue_of_store.specs.Entries.{EntryWords}
use Rattle.queue_of_store.specs.Free.{Blank, FreeWords}
use Rattle.queue_of_store.specs.Holds.{Holds}
use Rattle.queue_of_store.specs.inner.Words.{Words}
use Rattle.queue_of_store.proofs.Has.{Has, dec_in, has_cases}
use Rattle.queue_of_store.proofs.Parts.{words_of}
use Rattle.queue_of_store.proofs.States.{slot-entry}

module _ (s t : List ℕ) (cap : ℕ) where
  -- the word of one place is the same in both
  abbrev Same : ℕ → ℕ → Type 0
  Same i g = field s cap i g ≡ field t cap i g

  meet : {a b c : ℕ} → a ≡ c → b ≡ c → a ≡ b
  meet x y = x ∙ sym y

  -- the four words of a node
  record SameNode (i : ℕ) : Type 0 where
    left-same : Same i LEFT
    right-same : Same i RIGHT
    rank_same : Same i RANK
    back-same : Same i BACK

  links-same : (x : Tree) (b : ℕ) → Links s cap b x → Links t cap b x → (j : ℕ) → Has j x → SameNode j
  unfolding inorder slots
  links-same tip b l m j h = absurd h
  links-same (fork a e r d) b l m j h =
      let here : SameNode e.slot = record {
        left-same = meet l.0.near-is m.0.near-is;
        right-same = meet l.0.far-is m.0.far-is;
        rank_same = meet l.0.rank_is m.0.rank_is;
        back-same = meet l.0.back_is m.0.back_is;
      } in
      ⊎_elim (λ z. rw z here) (⊎_elim (links-same a e.slot l.1 m.1 j) (links-same d e.slot l.2 m.2 j)) (has_cases a e r d left j h)

  chain_same : (l : List Entry) (p : ℕ) → Chain s cap p l → Chain t cap p l → (j : ℕ) → In j (slots l) → Same j PREV × Same j NEXT
  unfolding slots
  chain_same [] p c d j h = absurd h
  chain_same (e ∷ l) p c d j (inl z) = rw z (meet c.0.prev-is d.0.prev-is, meet c.0.next-is d.0.next-is)
  chain_same (e ∷ l) p c d j (inr z) = chain_same l e.slot c.1 d.1 j z

  -- a slot without an entry: all its words but STACK
  blank-same : (i back gen : ℕ) → Blank s cap i back → Blank t cap i back → field s cap i GENERATION ≡ gen → field t cap i GENERATION ≡ gen
      → Same i STACK → (g : ℕ) → g < fields → Same i g
  blank-same i back gen b c x y z =
      each_field (Same i) (meet b.key-is c.key-is) (meet b.left_is c.left_is) (meet b.right_is c.right_is) (meet b.rank_is c.rank_is)
      (meet b.back_is c.back_is) (meet b.prev-is c.prev-is) (meet b.next-is c.next-is) (meet x y) (meet b.value-is c.value-is) z

  free-same : (l : List Handle) → FreeWords s cap l → FreeWords t cap l → (j : ℕ) → In j (free_slots l) → Same j STACK → (g : ℕ) → g < fields → Same j g
  unfolding free_slots
  free-same [] v w j h = absurd h
  free-same (f ∷ l) v w j (inl z) = rw z (blank-same f.slot (length l) f.generation v.0.blank w.0.blank v.0.generation-is w.0.generation-is)
  free-same (f ∷ l) v w j (inr z) = free-same l v.1 w.1 j z

  stack_same : (l : List Handle) → FreeWords s cap l → FreeWords t cap l → (p : ℕ) → p < length l → Same p STACK
  stack_same [] v w p h = absurd (omega arith)
  stack_same (f ∷ l) v w p h = go (ℕ_discrete p (length l)) (stack_same l v.1 w.1 p)
    where
      go : Dec (p ≡ length l) → (p < length l → Same p STACK) → Same p STACK
      go (yes e) rest = rw e (meet v.0.stack_is w.0.stack_is)
      go (no e) rest = rest (omega arith)

module _ {s t : List ℕ} {q : Queue} (v : Words s q) (w : Words t q) where
  abbrev cap : ℕ
  cap = q.capacity

  same_stack : (p : ℕ) → p < cap → Same s t cap p STACK
  same_stack p l = go (dec_lt p (length q.free))
    where
      go : Dec (p < length q.free) → Same s t cap p STACK
      go (yes h) = stack_same s t cap q.free v.free.stacked w.free.stacked p h
      go (no h) = v.free.unused p (omega arith) l ∙ sym (w.free.unused p (omega arith) l)

  same_live : (i : ℕ) → i < cap → In i (slots (entries q)) → (g : ℕ) → g < fields → Same s t cap i g
  same_live i l h =
      let n = links-same s t cap q.tree _ v.tree.links w.tree.links i h in
      let c = chain_same s t cap (entries q) _ v.chain.chain w.chain.chain i h in
      let e = slot-entry i (entries q) h in
      let a = all_in (EntryWords s cap) (entries q) v.live e.0 e.1 in
      let b = all_in (EntryWords t cap) (entries q) w.live e.0 e.1 in
      let k : Same s t cap i KEY = rw e.2 at (a.key-is ∙ sym b.key-is) in
      let x : Same s t cap i VALUE = rw e.2 at (a.value-is ∙ sym b.value-is) in
      let y : Same s t cap i GENERATION = rw e.2 at (a.generation-is ∙ sym b.generation-is) in
      each_field (Same s t cap i) k n.left-same n.right-same n.rank_same n.back-same c.0 c.1 y x (same_stack i l)

  same-slot : (i g : ℕ) → i < cap → g < fields → Same s t cap i g
  same-slot i g l m = go (dec_in i (used_slots q))
    where
      used : In i (slots (entries q)) ⊎ In i (free_slots q.free) → Same s t cap i g
      used (inl h) = same_live i l h g m
      used (inr h) = free-same s t cap q.free v.free.stacked w.free.stacked i h (same_stack i l) g m

      go : Dec (In i (used_slots q)) → Same s t cap i g
      go (yes h) = used (in_cases i (slots (entries q)) (free_slots q.free) h)
      go (no h) =
          let a = v.retired i l h in
          let b = w.retired i l h in
          blank-same s t cap i _ q.top a.blank b.blank a.generation-is b.generation-is (same_stack i l) g m

  same_head : (h : ℕ) → h < head_words → head s h ≡ head t h
  same_head zero l = v.header.passes.capacity ∙ sym w.header.passes.capacity
  same_head (suc zero) l = v.header.top-is ∙ sym w.header.top-is
  same_head (suc (suc zero)) l = v.free.height ∙ sym w.free.height
  same_head (suc (suc (suc zero))) l = v.chain.first-is ∙ sym w.chain.first-is
  same_head (suc (suc (suc (suc zero)))) l = v.chain.last-is ∙ sym w.chain.last-is
  same_head (suc (suc (suc (suc (suc zero))))) l = v.tree.root ∙ sym w.tree.root
  same_head (suc (suc (suc (suc (suc (suc h)))))) l =
      let m : ROOT < suc (suc (suc (suc (suc (suc h))))) = omega arith in v.unused _ m l ∙ sym (w.unused _ m l)

pub same_store : {s t : List ℕ} {q : Queue} → Holds s q → Holds t q → length s ≡ length t
    → ((k : ℕ) → need q.capacity ≤ k → get_or s k 0 ≡ get_or t k 0) → s ≡ t
same_store {s} {t} {q} h k long rest =
    one_store s t q.capacity
    (record { long = long; heads = λ i l n. same_head (words_of h) (words_of k) i l; slots = λ i g l m n. same-slot (words_of h) (words_of k) i g l m; rest = rest })
