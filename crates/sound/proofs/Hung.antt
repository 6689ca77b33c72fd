-- The words of a sound store pass the tests of every slot and of every place of the free stack.
use Prim.Native.Nat.{ℕ, ◌≤◌, ◌<◌}
use mathlib.Core.Path.{◌≡◌, refl, sym, ◌∙◌}
use mathlib.Core.Logic.{◌⊎◌, inl, inr, ⊎_elim}
use mathlib.Core.List.{List, [], ◌∷◌}
use native.Mathlib.Decide.{ℕ_discrete}
use native.Mathlib.Omega.{arith}
use lib.ListN.{length}
use Rattle.handle.specs.Numbers.{no_slot}
use Rattle.arena.specs.Words.{field, LEFT, RIGHT, RANK, BACK, GENERATION}
use Rattle.arena.specs.inner.Budget.{budget}
use Rattle.wavl.specs.Lists.{In}
use Rattle.wavl.specs.Entry.{slots}
use Rattle.wavl.specs.Tree.{Tree, tip, fork, left, rank, inorder}
use Rattle.wavl.specs.Ranks.{Ranks}
use Rattle.wavl.proofs.Lists.{all_in, in_slots_lem}
use Rattle.wavl.proofs.Rule.{ranked→ranks}
use Rattle.rules.specs.Queue.{Handle, Queue, entries}
use Rattle.rules.specs.Sound.{free_slots, Under, FreeGeneration}
use Rattle.queue_of_store.specs.Ends.{top_slot}
use Rattle.queue_of_store.specs.Links.{Links}
use Rattle.queue_of_store.specs.Free.{Blank, FreeAt, FreeWords}
use Rattle.queue_of_store.specs.Holds.{Holds}
use Rattle.queue_of_store.proofs.Has.{Has, has_cases}
use Rattle.queue_of_store.proofs.Parts.{sound_of, words_of, few-slots, separate_of, used-few, free-low, size_few, under_budget}
use Rattle.queue_of_store.proofs.States.{State, live, free, retired, state_of, live-node}
use Rattle.sound.proofs.SlotFacts.{Hangs, GoodSlot, GoodPlace, Good}
use Rattle.sound.proofs.Grown.{rank-some}
use Rattle.sound.proofs.Walks.{top-rank}

-- the slot i is a child of a slot of a greater rank
record Below (s : List ℕ) (cap i : ℕ) : Type 0 where
  low : field s cap i BACK < cap
  rises : field s cap i RANK < field s cap (field s cap i BACK) RANK
  child : (field s cap (field s cap i BACK) LEFT ≡ i) ⊎ (field s cap (field s cap i BACK) RIGHT ≡ i)

has_none : {A : Type 0} (i : ℕ) → Has i tip → A
unfolding inorder slots
has_none i h = absurd h

module _ (s : List ℕ) (cap : ℕ) (few : cap ≤ no_slot) where
  -- a child of the slot p, on the side that c tells
  hooked : (t : Tree) (p r i : ℕ) → p < cap → field s cap p RANK ≡ r → rank t < r → i < cap → Links s cap p t → (field s cap i BACK ≡ p) × (top_slot t ≡ i)
      → (field s cap p LEFT ≡ i) ⊎ (field s cap p RIGHT ≡ i) → Below s cap i
  hooked t p r i l e k m w h c =
      let n : field s cap i RANK ≡ rank t = sym (rank-some s cap i m few) ∙ (rw h.1 at (top-rank s cap few t p w)) in
      record { low = rw h.0 l; rises = rw h.0 (omega arith); child = rw h.0 c }

  -- a member of a tree is its top, or hangs below another member
  hung : (t : Tree) (back i : ℕ) → Links s cap back t → Ranks t → Has i t → i < cap → ((field s cap i BACK ≡ back) × (top_slot t ≡ i)) ⊎ Below s cap i
  hung tip back i w k h m = has_none i h
  hung (fork a e r b) back i w k h m =
      ⊎_elim (λ x. inl (rw x w.0.back_is, sym x))
      (⊎_elim (λ x. near (hung a e.slot i w.1 k.0 x m)) (λ x. far (hung b e.slot i w.2 k.1 x m)))
      (has_cases a e r b left i h)
    where
      near : ((field s cap i BACK ≡ e.slot) × (top_slot a ≡ i)) ⊎ Below s cap i → ((field s cap i BACK ≡ back) × (top_slot (fork a e r b) ≡ i)) ⊎ Below s cap i
      near (inl x) = inr (hooked a e.slot r i w.0.low w.0.rank_is k.2.over_a m w.1 x (inl (w.0.near-is ∙ x.1)))
      near (inr x) = inr x

      far : ((field s cap i BACK ≡ e.slot) × (top_slot b ≡ i)) ⊎ Below s cap i → ((field s cap i BACK ≡ back) × (top_slot (fork a e r b) ≡ i)) ⊎ Below s cap i
      far (inl x) = inr (hooked b e.slot r i w.0.low w.0.rank_is k.2.over_b m w.2 x (inr (w.0.far-is ∙ x.1)))
      far (inr x) = inr x

  -- no member's rank is above the top's
  under_top : (t : Tree) (back i : ℕ) → Links s cap back t → Ranks t → Has i t → field s cap i RANK ≤ rank t
  under_top tip back i w k h = has_none i h
  under_top (fork a e r b) back i w k h =
      ⊎_elim (λ x. let y : field s cap i RANK ≡ r = rw x w.0.rank_is in omega arith)
      (⊎_elim (λ x. let y = under_top a e.slot i w.1 k.0 x in let z = k.2.over_a in omega arith)
      (λ x. let y = under_top b e.slot i w.2 k.1 x in let z = k.2.over_b in omega arith)) (has_cases a e r b left i h)

-- the free handle at a place
record At (s : List ℕ) (cap : ℕ) (l : List Handle) (p : ℕ) : Type 0 where
  handle : Handle
  present : In handle.slot (free_slots l)
  words : FreeAt s cap handle p

at : (s : List ℕ) (cap : ℕ) (l : List Handle) (p : ℕ) → FreeWords s cap l → p < length l → At s cap l p
unfolding free_slots
at s cap [] p w l = absurd (omega arith)
at s cap (h ∷ f) p w l = go (ℕ_discrete p (length f)) (at s cap f p w.1)
  where
    go : Dec (p ≡ length f) → (p < length f → At s cap f p) → At s cap (h ∷ f) p
    go (yes e) k = record { handle = h; present = inl refl; words = rw e w.0 }
    go (no e) k = let z = k (omega arith) in record { handle = z.handle; present = inr z.present; words = z.words }

module _ {s : List ℕ} {q : Queue} (k : Holds s q) where
  abbrev cap : ℕ
  cap = q.capacity

  abbrev height : ℕ
  height = length q.free

  few : cap ≤ no_slot
  few = few-slots (words_of k)

  pub high : height ≤ cap
  high = let h = used-few (separate_of (sound_of k)) in omega arith

  ranks : Ranks q.tree
  ranks = ranked→ranks q.tree k.rule_2

  pub shallow : rank q.tree < budget
  shallow = under_budget q.tree ranks (size_few (sound_of k))

  hangs : (i : ℕ) → i < cap → Has i q.tree → Hangs s cap i
  hangs i l h = go (hung s cap few q.tree no_slot i k.rule_1.links ranks h l)
    where
      small : field s cap i RANK < budget
      small = let a = under_top s cap few q.tree no_slot i k.rule_1.links ranks h in let b = shallow in omega arith

      go : ((field s cap i BACK ≡ no_slot) × (top_slot q.tree ≡ i)) ⊎ Below s cap i → Hangs s cap i
      go (inl x) = let e : field s cap i BACK ≡ no_slot = x.0 in let f = few in
          record { small = small; root = λ m. k.rule_1.root ∙ x.1; rises = λ m. absurd (omega arith); child = λ m. absurd (omega arith) }
      go (inr x) = let b = x.low in record { small = small; root = λ m. absurd (omega arith); rises = λ m. x.rises; child = λ m. x.child }

  good-slot : (i : ℕ) → i < cap → State s q i → GoodSlot s cap q.top height i
  good-slot i l (live e x y) =
      let n = live-node s cap no_slot q.tree k.rule_1.links k.rule_2 e x in
      let r : 1 ≤ field s cap i RANK = rw y at n.ranked in
      record { live = λ z. hangs i l (rw y at (in_slots_lem e (entries q) x)); rest = λ z. absurd (omega arith) }
  good-slot i l (free f) =
      let b : Blank s cap i f.place = rw f.slot_is at f.words.blank in
      let g : field s cap i GENERATION ≡ f.handle.generation = rw f.slot_is at f.words.generation-is in
      let p : f.place < height = f.place-low in
      let h = high in
      let m = few in
      let e : field s cap i BACK ≡ f.place = b.back_is in
      let r : field s cap i RANK ≡ 0 = b.rank_is in
      record {
        live = λ z. absurd (z r);
        rest = λ z. record {
          blank = rw e b;
          retired = λ n. absurd (omega arith);
          low = λ n. omega arith;
          stacked = λ n. rw e (f.words.stack_is ∙ f.slot_is);
          generation = λ n. rw g (all_in (FreeGeneration q.top) q.free k.rule_6.free f.handle f.present);
        };
      }
  good-slot i l (retired x) =
      let e : field s cap i BACK ≡ no_slot = x.blank.back_is in
      record {
        live = λ z. absurd (z x.blank.rank_is);
        rest = λ z. record {
          blank = rw e x.blank;
          retired = λ n. x.generation-is;
          low = λ n. absurd (n e);
          stacked = λ n. absurd (n e);
          generation = λ n. absurd (n e);
        };
      }

  good-place : (p : ℕ) → p < cap → GoodPlace s cap height p
  good-place p l = record {
    empty = λ m. k.rule_5.free.unused p m l;
    low = λ m. let a = at s cap q.free p k.rule_5.free.stacked m in
        rw a.words.stack_is (all_in (Under cap) (free_slots q.free) (free-low (separate_of (sound_of k))) a.handle.slot a.present);
    rest = λ m. let a = at s cap q.free p k.rule_5.free.stacked m in rw a.words.stack_is a.words.blank.rank_is;
    back_is = λ m. let a = at s cap q.free p k.rule_5.free.stacked m in rw a.words.stack_is a.words.blank.back_is;
  }

  pub good : (i : ℕ) → i < cap → Good s cap q.top height i
  good i l = record { slot = good-slot i l (state_of (words_of k) i l); place = good-place i l }
