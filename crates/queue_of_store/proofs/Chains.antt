-- The chain of the words around an entry, and what a step and an end mean on a store that holds a queue.
-- A reader may rely on: step-means, over the side, first-means and last-means; chain-at, for an entry anywhere in the chain.
use Prim.Native.Nat.{ℕ, ◌<◌}
use mathlib.Core.Path.{◌≡◌, refl, ap}
use mathlib.Core.Logic.{inl, inr}
use mathlib.Core.List.{List, [], ◌∷◌, ◌++◌}
use mathlib.Core.Option.{Option, some, none}
use Rattle.handle.specs.Numbers.{no_slot}
use Rattle.handle.specs.declared.Handle as H
use Rattle.arena.specs.Words.{field, PREV}
use Rattle.arena.specs.inner.Slots.{handle_with}
use Rattle.chain.specs.inner.Steps.{followed, step_from, end_of}
use Rattle.chain.proofs.StepLaws.{follow-none, follow-at}
use Rattle.wavl.specs.Lists.{In, first, last}
use Rattle.wavl.specs.Entry.{Entry, slots}
use Rattle.wavl.specs.Tree.{Side, left, right, Tree, fork}
use Rattle.wavl.specs.Way.{Way, place, neighbour, plug}
use Rattle.wavl.proofs.Lists.{all_in, in_left, in_right, in_middle, in_slots_lem, first-split, last-split}
use Rattle.rules.specs.Queue.{Queue, entries, Names}
use Rattle.rules.specs.Place.{Spot, nowhere, spot, spot_of}
use Rattle.rules.specs.Sound.{Under}
use Rattle.rules.specs.Look as Look
use Rattle.rules.specs.Look.{stands_at, step_to, step_spot}
use Rattle.rules.proofs.Places.{smaller_of, greater_of, entries-around, SpotIs, spot_is}
use Rattle.rules.proofs.Removing.{live-once}
use Rattle.queue_of_store.specs.Ends.{first_slot, last_slot, number}
use Rattle.queue_of_store.specs.Chain.{LinkedBetween, Chain}
use Rattle.queue_of_store.specs.Holds.{Holds}
use Rattle.queue_of_store.specs.Handles.{plain}
use Rattle.queue_of_store.specs.inner.Meanings.{step_means}
use Rattle.queue_of_store.proofs.Parts.{sound_of, words_of, few-slots, separate_of, live-low}
use Rattle.queue_of_store.proofs.Live.{live-entry}
use Rattle.std.specs.Prelude.{Ok, Some}

-- the slot of an end, if there is one
abbrev pub slot_of : Option Entry → ℕ
slot_of none = no_slot
slot_of (some e) = e.slot

pub first-slot : (l : List Entry) → first_slot l ≡ slot_of (first l)
unfolding first
first-slot [] = refl
first-slot (e ∷ l) = refl

pub last-slot : (l : List Entry) → last_slot l ≡ slot_of (last l)
unfolding last
last-slot [] = refl
last-slot (e ∷ []) = refl
last-slot (e ∷ (f ∷ l)) = last-slot (f ∷ l)

-- the slot before what follows l: l's last, or p
abbrev pub end_or : ℕ → List Entry → ℕ
end_or p [] = p
end_or p (e ∷ l) = end_or e.slot l

end_some : (p : ℕ) (e : Entry) (l : List Entry) → end_or p (e ∷ l) ≡ last_slot (e ∷ l)
end_some p e [] = refl
end_some p e (f ∷ l) = end_some e.slot f l

pub end_last : (l : List Entry) → end_or no_slot l ≡ last_slot l
end_last [] = refl
end_last (e ∷ l) = end_some no_slot e l

-- the words of an entry between what stands before it and after it
module _ (s : List ℕ) (cap : ℕ) where
  pub chain-at : (l : List Entry) (x : Entry) (m : List Entry) (p : ℕ) → Chain s cap p (l ++ (x ∷ m)) → LinkedBetween s cap (end_or p l) x.slot (first_slot m)
  chain-at [] x m p c = c.0
  chain-at (e ∷ l) x m p c = chain-at l x m e.slot c.1

module _ {s : List ℕ} {q : Queue} (h : Holds s q) where
  abbrev cap : ℕ
  cap = q.capacity

  -- a link to an entry of the queue, or to none
  link-means : (o : Option Entry) → ((y : Entry) → o ≡ some y → In y (entries q)) → step_means (followed s cap (slot_of o)) ≡ stands_at o
  unfolding stands_at
  link-means none i = rw (follow-none s cap no_slot refl)
  link-means (some y) i =
      let j = i y refl in
      let low : y.slot < cap = all_in (Under cap) (slots (entries q)) (live-low (separate_of (sound_of h))) y.slot (in_slots_lem y (entries q) j) in
      let at : followed s cap y.slot ≡ Ok (Some (handle_with y.slot y.generation)) =
      rw (← (live-entry h y j).generation-is) (follow-at s cap y.slot (few-slots (words_of h)) low) in
      ap step_means at

  first_in : (l : List Entry) (y : Entry) → first l ≡ some y → In y l
  first_in l y e = let i = first-split l y e in rw i.1 (inl refl)

  last_in : (l : List Entry) (y : Entry) → last l ≡ some y → In y l
  last_in l y e = let i = last-split l y e in rw i.1 (in_middle y i.0 [])

  -- "It starts at first, last or a live handle; on an empty queue first and last answer End."
  pub first-means : step_means (end_of s cap 0) ≡ Look.stand_first q
  unfolding end_of Look.stand_first
  first-means = rw (h.rule_3.first-is, first-slot (entries q)) (link-means (first (entries q)) (first_in (entries q)))

  pub last-means : step_means (end_of s cap 1) ≡ Look.stand_last q
  unfolding end_of Look.stand_last
  last-means = rw (h.rule_3.last-is, last-slot (entries q)) (link-means (last (entries q)) (last_in (entries q)))

  module _ (a : Tree) (x : Entry) (r : ℕ) (b : Tree) (p : Way) (e : plug (fork a x r b) p ≡ q.tree) where
    whole : entries q ≡ smaller_of a p ++ (x ∷ greater_of b p)
    whole = entries-around q a x r b p e

    around : LinkedBetween s cap (end_or no_slot (smaller_of a p)) x.slot (first_slot (greater_of b p))
    around = chain-at s cap (smaller_of a p) x (greater_of b p) no_slot (rw whole at h.rule_3.chain)

    -- "a chain cursor steps forward or back and is handed back moved, by handle; at an end the answer is End"
    step-spot : (d : Side) → step_means (step_from s cap x.slot (number d)) ≡ stands_at (neighbour d (place (fork a x r b) p))
    unfolding step_from neighbour
    step-spot left =
        let back : field s cap x.slot PREV ≡ end_or no_slot (smaller_of a p) = around.prev-is in
        rw (back, end_last (smaller_of a p), last-slot (smaller_of a p))
        (link-means (last (smaller_of a p)) (λ y f. rw whole (in_left y (smaller_of a p) _ (last_in (smaller_of a p) y f))))
    step-spot right =
        rw (around.next-is, first-slot (greater_of b p))
        (link-means (first (greater_of b p)) (λ y f. rw whole (in_right y (smaller_of a p) _ (inr (first_in (greater_of b p) y f)))))

  pub step-means : (k : H.Handle) (x : Entry) → In x (entries q) → Names (plain k) x → (d : Side)
      → step_means (step_from s cap k.slot.0 (number d)) ≡ step_to d (plain k) q
  unfolding step_to step_spot
  step-means k x i n d = go (spot_of (plain k) q) (spot_is (plain k) q (live-once (sound_of h)))
    where
      go : (w : Spot) → SpotIs (plain k) q w → step_means (step_from s cap k.slot.0 (number d)) ≡ step_spot d w
      go nowhere f = absurd (f (x, i, n))
      go (spot a y r b p) f = rw (← f.0.0) (step-spot a y r b p f.1 d)
