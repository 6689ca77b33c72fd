-- A sound store holds exactly one queue: links and words give the tree, the stack gives the free list, the header the rest.
-- A reader may rely on: one-queue, with no premise but the two relations.
use Prim.Native.Nat.{ℕ, ◌≤◌, ◌<◌}
use mathlib.Core.Path.{◌≡◌, refl, sym, ◌∙◌}
use mathlib.Core.List.{List, [], ◌∷◌}
use native.Mathlib.Omega.{arith}
use lib.ListN.{length}
use Rattle.handle.specs.Numbers.{no_slot}
use Rattle.wavl.specs.Entry.{Entry}
use Rattle.wavl.specs.Tree.{Tree, tip, fork, inorder}
use Rattle.wavl.proofs.Lists.{all_left, all_right}
use Rattle.rules.specs.Queue.{Handle, Queue, queue_of}
use Rattle.queue_of_store.specs.Ends.{top_slot}
use Rattle.queue_of_store.specs.Links.{Links}
use Rattle.queue_of_store.specs.Entries.{EntryWords, AllEntries}
use Rattle.queue_of_store.specs.Free.{FreeWords}
use Rattle.queue_of_store.specs.Holds.{Holds, SoundStore}
use Rattle.queue_of_store.proofs.Parts.{words_of, few-slots}

module _ (s : List ℕ) (cap : ℕ) where
  entry-one : (e f : Entry) → EntryWords s cap e → EntryWords s cap f → e.slot ≡ f.slot → e ≡ f
  entry-one e f v w i =
      let k : e.key ≡ f.key = sym v.key-is ∙ rw i w.key-is in
      let x : e.value ≡ f.value = sym v.value-is ∙ rw i w.value-is in
      let g : e.generation ≡ f.generation = sym v.generation-is ∙ rw i w.generation-is in
      λ j. record { slot = i j; generation = g j; key = k j; value = x j }

  tree-one : cap ≤ no_slot → (t u : Tree) (b c : ℕ) → Links s cap b t → Links s cap c u → AllEntries s cap (inorder t) → AllEntries s cap (inorder u)
      → top_slot t ≡ top_slot u → t ≡ u
  unfolding inorder
  tree-one few tip tip b c l m v w i = refl
  tree-one few tip (fork a e r d) b c l m v w i = absurd (let h : e.slot < cap = m.0.low in omega arith)
  tree-one few (fork a e r d) tip b c l m v w i = absurd (let h : e.slot < cap = l.0.low in omega arith)
  tree-one few (fork a e r d) (fork a' e' r' d') b c l m v w i =
      let v₀ = all_left (EntryWords s cap) (inorder a) (e ∷ inorder d) v in
      let v₁ = all_right (EntryWords s cap) (inorder a) (e ∷ inorder d) v in
      let w₀ = all_left (EntryWords s cap) (inorder a') (e' ∷ inorder d') w in
      let w₁ = all_right (EntryWords s cap) (inorder a') (e' ∷ inorder d') w in
      let x : e ≡ e' = entry-one e e' v₁.0 w₁.0 i in
      let n : top_slot a ≡ top_slot a' = sym l.0.near-is ∙ rw i m.0.near-is in
      let f : top_slot d ≡ top_slot d' = sym l.0.far-is ∙ rw i m.0.far-is in
      let k : r ≡ r' = sym l.0.rank_is ∙ rw i m.0.rank_is in
      let y : a ≡ a' = tree-one few a a' e.slot e'.slot l.1 m.1 v₀ w₀ n in
      let z : d ≡ d' = tree-one few d d' e.slot e'.slot l.2 m.2 v₁.1 w₁.1 f in
      λ j. fork (y j) (x j) (k j) (z j)

  free_one : (l m : List Handle) → FreeWords s cap l → FreeWords s cap m → length l ≡ length m → l ≡ m
  free_one [] [] v w e = refl
  free_one [] (h ∷ m) v w e = absurd (omega arith)
  free_one (h ∷ l) [] v w e = absurd (omega arith)
  free_one (h ∷ l) (k ∷ m) v w e =
      let n : length l ≡ length m = omega arith in
      let i : h.slot ≡ k.slot = sym v.0.stack_is ∙ rw n w.0.stack_is in
      let g : h.generation ≡ k.generation = sym v.0.generation-is ∙ rw i w.0.generation-is in
      let r = free_one l m v.1 w.1 n in
      let x : h ≡ k = λ j. record { slot = i j; generation = g j } in
      λ j. x j ∷ r j

pub one-queue : {s : List ℕ} {q q' : Queue} → Holds s q → Holds s q' → q ≡ q'
one-queue {s} {q} {q'} h k =
    let c : q.capacity ≡ q'.capacity = sym h.header.passes.capacity ∙ k.header.passes.capacity in
    let t : q.top ≡ q'.top = sym h.header.top-is ∙ k.header.top-is in
    let x : q.tree ≡ q'.tree =
    tree-one s q.capacity (few-slots (words_of h)) q.tree q'.tree no_slot no_slot h.rule_1.links (rw c k.rule_1.links) h.live (rw c k.live)
    (sym h.rule_1.root ∙ k.rule_1.root) in
    let f : q.free ≡ q'.free =
    free_one s q.capacity q.free q'.free h.rule_5.free.stacked (rw c k.rule_5.free.stacked) (sym h.rule_5.free.height ∙ k.rule_5.free.height) in
    λ j. queue_of (c j) (t j) (x j) (f j)

-- so the store's soundness says which queue it holds
pub same_queue : {s : List ℕ} (x y : SoundStore s) → x.0 ≡ y.0
same_queue x y = one-queue x.1 y.1
