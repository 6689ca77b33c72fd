-- The chain's neighbours of an empty place: its parent on one side, and what the parent's link on the place's side leads to.
-- A reader may rely on: beside-links: crate `chain`'s linking beside the parent puts the new slot where crate `wavl` has the place.
use Prim.Native.Nat.{ℕ, ◌+◌, ◌≤◌, ◌<◌}
use mathlib.Core.Path.{◌≡◌, sym, ap, ◌∙◌}
use mathlib.Core.Logic.{inl}
use mathlib.Core.List.{List, [], ◌∷◌, ◌++◌, append_assoc}
use Rattle.handle.specs.Numbers.{no_slot}
use Rattle.arena.specs.Words.{Long, field, PREV}
use Rattle.chain.specs.inner.Links.{link_beside}
use Rattle.chain.proofs.LinkLaws.{beside-is}
use Rattle.wavl.specs.Lists.{In}
use Rattle.wavl.specs.Entry.{Entry, slots}
use Rattle.wavl.specs.Tree.{Side, left, right, Tree, inorder}
use Rattle.wavl.specs.Way.{step, Way, before, after}
use Rattle.queue_of_store.specs.Ends.{first_slot, last_slot, number}
use Rattle.queue_of_store.specs.Chain.{Chain, ChainWords}
use Rattle.queue_of_store.proofs.Chains.{end_last, chain-at}
use Rattle.queue_of_store.proofs.Segments.{last_append, last-live, first_live}
use Rattle.queue_of_store.proofs.Linked.{Linked, after-links, before-links}

-- the neighbour of the place on the side d: what the parent's link on that side leads to
abbrev pub neighbour_slot : Side → Way → ℕ
neighbour_slot left p = last_slot (before p)
neighbour_slot right p = first_slot (after p)

-- the parent stands on the other side
before-right : (e1 : Entry) (r1 : ℕ) (s0 : Tree) (p : Way) → before (step right e1 r1 s0 ∷ p) ≡ (before p ++ inorder s0) ++ (e1 ∷ [])
unfolding before
before-right e1 r1 s0 p = sym (append_assoc (before p) (inorder s0) (e1 ∷ []))

pub link_at : (s : List ℕ) (cap : ℕ) (d : Side) (e1 : Entry) (r1 : ℕ) (s0 : Tree) (p : Way)
    → ChainWords s cap (before (step d e1 r1 s0 ∷ p) ++ after (step d e1 r1 s0 ∷ p)) → field s cap e1.slot (PREV + number d) ≡ neighbour_slot d (step d e1 r1 s0 ∷ p)
unfolding before after
link_at s cap left e1 r1 s0 p c = (chain-at s cap (before p) e1 (inorder s0 ++ after p) no_slot c.chain).prev-is ∙ end_last (before p)
link_at s cap right e1 r1 s0 p c =
    let l = before p ++ inorder s0 in
    let z : Chain s cap no_slot (l ++ (e1 ∷ after p)) = simp append_assoc (simp append_assoc at c.chain) in
    (chain-at s cap l e1 (after p) no_slot z).next-is

module _ (s : List ℕ) (cap i : ℕ) (few : cap ≤ no_slot) (room : Long s cap) (hi : i < cap) where
  pub beside-links : (d : Side) (e1 : Entry) (r1 : ℕ) (s0 : Tree) (p : Way) → e1.slot < cap
      → ¬ (In i (slots (before (step d e1 r1 s0 ∷ p)))) → ¬ (In i (slots (after (step d e1 r1 s0 ∷ p))))
      → ChainWords s cap (before (step d e1 r1 s0 ∷ p) ++ after (step d e1 r1 s0 ∷ p))
      → Linked s (link_beside s cap i e1.slot (number d)) cap (last_slot (before (step d e1 r1 s0 ∷ p))) i (first_slot (after (step d e1 r1 s0 ∷ p)))
  unfolding after slots
  beside-links left e1 r1 s0 p hp nb na c =
      let q = last_slot (before (step left e1 r1 s0 ∷ p)) in
      rw (beside-is s cap i e1.slot 0 q (link_at s cap left e1 r1 s0 p c))
      (before-links s cap i e1.slot q room hi hp (λ z. na (inl z)) (λ z. nb (last-live cap (before (step left e1 r1 s0 ∷ p)) i few hi z)))
  beside-links right e1 r1 s0 p hp nb na c =
      let l = before p ++ inorder s0 in
      let q = first_slot (after (step right e1 r1 s0 ∷ p)) in
      let last : last_slot (before (step right e1 r1 s0 ∷ p)) ≡ e1.slot = ap last_slot (before-right e1 r1 s0 p) ∙ last_append l e1 [] in
      rw (last, beside-is s cap i e1.slot 1 q (link_at s cap right e1 r1 s0 p c))
      (after-links s cap i e1.slot q room hi hp (λ z. nb (last-live cap (before (step right e1 r1 s0 ∷ p)) i few hi (z ∙ sym last)))
      (λ z. na (first_live cap (after (step right e1 r1 s0 ∷ p)) i few hi z)))
