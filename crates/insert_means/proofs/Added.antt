-- A new entry at an empty place: taking the slot, writing the entry, the chain, the tree and its ranks, together.
-- A reader may rely on: adds: at every empty place the model answers and leaves what crate `rules` says of adding there, full or not.
use Prim.Native.Nat.{ℕ, ◌≤◌, ◌<◌}
use mathlib.Core.Path.{◌≡◌, refl, sym}
use mathlib.Core.List.{List, [], ◌∷◌}
use borrow.Author.Tests.{le-ltb}
use lib.IntN.{ℤ}
use Rattle.handle.specs.Numbers.{no_slot}
use Rattle.arena.specs.Keys.{stored}
use Rattle.arena.specs.inner.Entries.{entry_put}
use Rattle.arena.specs.inner.Slots.{handle_with, take_slot}
use Rattle.tree.specs.inner.Links.{with_child}
use Rattle.chain.specs.inner.Links.{link_alone, link_beside}
use Rattle.insert.specs.inner.Place.{stand_alone, placed_alone, hung, hung_below, placed_beside}
use Rattle.wavl.specs.Lists.{In}
use Rattle.wavl.specs.Entry.{Entry, slots}
use Rattle.wavl.specs.Tree.{Side, Tree, tip, leaf}
use Rattle.wavl.specs.Way.{step, Way, plug, before, after}
use Rattle.wavl.specs.Placing.{insert_at}
use Rattle.wavl.proofs.Lists.{in_left, in_right, pairwise_left, slots_append}
use Rattle.wavl.proofs.Order.{insert_at-same}
use Rattle.wavl.proofs.Rule.{ranked→ranks}
use Rattle.rules.specs.Answers.{new}
use Rattle.rules.specs.Queue.{Handle, Queue, entry_with, entries, changed}
use Rattle.rules.specs.Insert.{add_with}
use Rattle.rules.specs.Sound.{Sound, free_slots}
use Rattle.wavl.specs.Lists.{Differ}
use Rattle.queue_of_store.specs.Ends.{number}
use Rattle.queue_of_store.specs.inner.Words.{Words}
use Rattle.queue_of_store.proofs.Parts.{Separate, separate_of, size_few, few-slots}
use Rattle.queue_of_store.proofs.Ways.{unplugged}
use Rattle.queue_of_store.proofs.Reshaped.{reshaped}
use Rattle.queue_of_store.proofs.Stack.{peek_none, take-first}
use Rattle.queue_of_store.proofs.Linked.{alone_links}
use Rattle.insert_means.proofs.AnswerWords.{Answers}
use Rattle.insert_means.proofs.Restructured.{Stands}
use Rattle.insert_means.proofs.Rebalanced.{rebalances}
use Rattle.insert_means.proofs.Hung as Hung
use Rattle.insert_means.proofs.Hung.{hung_queue}
use Rattle.insert_means.proofs.Beside.{beside-links}
use Rattle.handle.specs.declared.Inserted as I
use Rattle.std.specs.Prelude.{Result, Ok}
use Rattle.handle.specs.declared.Refusal.{Refusal}

-- the model of a new entry at the place: the whole queue, or beside the place's parent
abbrev pub placed_at : List ℕ → ℕ → Way → ℤ → ℕ → List ℕ × Result I.Inserted Refusal
placed_at s cap [] key value = placed_alone s cap key value
placed_at s cap (step d e r u ∷ p) key value = placed_beside s cap e.slot (number d) key value

-- the queue with the entry added
abbrev pub added_queue : Queue → Entry → Way → List Handle → Queue
added_queue q x p rest = changed (insert_at x p) rest q

sep_of : (q : Queue) (x : Entry) (p : Way) (rest : List Handle) → Sound (added_queue q x p rest) → Separate (hung_queue q x p rest)
sep_of q x p rest d = let e = sym (insert_at-same x p) in record { apart = rw e d.apart; within = rw e d.within }

module _ {s : List ℕ} {q : Queue} (dq : Sound q) (w : Words s q) (key : ℤ) (value : ℕ) where
  abbrev cap : ℕ
  cap = q.capacity

  -- "a new entry is needed and no slot is free"
  full : q.free ≡ [] → (p : Way) → Answers (placed_at s cap p key value) (add_with [] (stored key) value p q)
  unfolding add_with placed_alone placed_beside take_slot
  full free [] = rw (peek_none s cap (rw free at w.free)) (record { answer = refl; words = w })
  full free (step d e r u ∷ p) = rw (peek_none s cap (rw free at w.free)) (record { answer = refl; words = w })

  module _ (h : Handle) (rest : List Handle) (free : q.free ≡ h ∷ rest) where
    abbrev x : Entry
    x = entry_with h (stored key) value

    module _ (p : Way) (e : plug tip p ≡ q.tree) (d : Sound (added_queue q x p rest)) where
      sep : Separate (hung_queue q x p rest)
      sep = sep_of q x p rest d

      abbrev leaf_store : List ℕ
      leaf_store = Hung.leaf_store (separate_of dq) w h rest free (stored key) value p e sep

      few : cap ≤ no_slot
      few = few-slots w

      low : h.slot < cap
      low = Hung.low (separate_of dq) w h rest free (stored key) value p e sep

      not_live : ¬ (In h.slot (slots (entries q)))
      not_live = Hung.not_live (separate_of dq) w h rest free (stored key) value p e sep

      not_around : ¬ (In h.slot (slots (before p))) × ¬ (In h.slot (slots (after p)))
      not_around =
          let o = Hung.old (separate_of dq) w h rest free (stored key) value p e sep in
          let n = rw (o, slots_append (before p) (after p)) at not_live in
          (λ z. n (in_left h.slot (slots (before p)) (slots (after p)) z), λ z. n (in_right h.slot (slots (before p)) (slots (after p)) z))

      taken : take_slot s cap ≡ (Hung.taken_store (separate_of dq) w h rest free (stored key) value p e sep, Ok (handle_with h.slot h.generation))
      taken = take-first s cap h rest (Hung.places (separate_of dq) w h rest free (stored key) value p e sep) low (rw free at w.free)

    -- the first entry of an empty queue
    alone_adds : (e : plug tip [] ≡ q.tree) (d : Sound (added_queue q x [] rest)) → Answers (placed_alone s cap key value) (new h, added_queue q x [] rest)
    unfolding placed_alone stand_alone entry_put with_child insert_at plug before after
    alone_adds e d =
        let t₀ = leaf_store [] e d in
        let room = Hung.leaf_room (separate_of dq) w h rest free (stored key) value [] e (sep [] e d) in
        let t = link_alone t₀ cap h.slot in
        let y = Hung.hung (separate_of dq) w h rest free (stored key) value [] e (sep [] e d) t (alone_links t₀ cap h.slot (few [] e d) room (low [] e d)) in
        rw (taken [] e d) (record { answer = refl; words = rw (le-ltb no_slot cap (few [] e d)) at y })

    -- below the parent e1 of an empty place, and beside it in the chain
    beside-adds : (c : Side) (e1 : Entry) (r1 : ℕ) (s0 : Tree) (p : Way) (e : plug tip (step c e1 r1 s0 ∷ p) ≡ q.tree) (d : Sound (added_queue q x (step c e1 r1 s0 ∷ p) rest))
        → Answers (placed_beside s cap e1.slot (number c) key value) (new h, added_queue q x (step c e1 r1 s0 ∷ p) rest)
    unfolding placed_beside hung_below hung entry_put plug
    beside-adds c e1 r1 s0 p e d =
        let way = step c e1 r1 s0 ∷ p in
        let t₀ = leaf_store way e d in
        let i = h.slot in
        let room = Hung.leaf_room (separate_of dq) w h rest free (stored key) value way e (sep way e d) in
        let chain = Hung.leaf-chain (separate_of dq) w h rest free (stored key) value way e (sep way e d) in
        let hp : e1.slot < cap = (unplugged s cap way tip (rw e w.tree)).way.0.low in
        let n = not_around way e d in
        let t = link_beside t₀ cap i e1.slot (number c) in
        let K = beside-links t₀ cap i (few way e d) room (low way e d) c e1 r1 s0 p hp n.0 n.1 chain in
        let y = Hung.hung (separate_of dq) w h rest free (stored key) value way e (sep way e d) t K in
        let u = Hung.hung_store (separate_of dq) w h rest free (stored key) value way e (sep way e d) t K in
        let q₁ = hung_queue q x way rest in
        let stands : Stands u cap (slots (entries q₁)) (plug (leaf x) way) =
        record { words = y.tree; apart = pairwise_left Differ (slots (entries q₁)) (free_slots rest) (sep way e d).apart; within = λ j z. z } in
        let z = rebalances cap (slots (entries q₁)) (few way e d) u x c e1 r1 s0 p y.header.passes.room.0 stands (rw e (ranked→ranks q.tree dq.ranked)) (rw e (size_few dq)) in
        let v = reshaped (insert_at x way) (sep way e d) y z.only (insert_at-same x way) z.words in
        rw (taken way e d, z.yes) (record { answer = refl; words = v })

  -- at every empty place, full or not
  pub adds : (f : List Handle) → q.free ≡ f → (p : Way) → plug tip p ≡ q.tree → Sound (add_with f (stored key) value p q).1
      → Answers (placed_at s cap p key value) (add_with f (stored key) value p q)
  unfolding add_with
  adds [] e p z d = full e p
  adds (h ∷ rest) e [] z d = alone_adds h rest e z d
  adds (h ∷ rest) e (step c e1 r1 s0 ∷ p) z d = beside-adds h rest e c e1 r1 s0 p z d
