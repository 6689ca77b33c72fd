-- Search, reading and the cursor on a store that holds a queue: their models' answers are document 01's.
use Prim.Native.Nat.{ℕ}
use mathlib.Core.Path.{◌≡◌, refl, ◌∙◌, ap}
use mathlib.Core.Bool.{true}
use mathlib.Core.List.{List}
use lib.IntN.{ℤ}
use Rattle.handle.specs.declared.Handle as H
use Rattle.handle.specs.declared.Refusal.TheVariants as R
use Rattle.arena.specs.Branch.{ifte}
use Rattle.arena.specs.Header.{header_of}
use Rattle.arena.specs.Keys.{stored}
use Rattle.arena.specs.inner.Entries.{is_live}
use Rattle.arena.proofs.Theorems.{passes}
use Rattle.chain.specs.inner.Steps.{step_from, end_of}
use Rattle.wavl.specs.Tree.{Side, left, right}
use Rattle.wavl.specs.Search.{equal_to, nearest, empty_tree, answer_at, search}
use Rattle.wavl.specs.Search as Search
use Rattle.rules.specs.Queue.{Queue}
use Rattle.rules.specs.Place.{Spot, nowhere, spot, spot_of}
use Rattle.rules.specs.Look.{search_for, stand_first, stand_last, stand_spot, stand_at, step_spot, step_to}
use Rattle.queue_of_store.specs.Ends.{number}
use Rattle.queue_of_store.specs.Handles.{plain}
use Rattle.queue_of_store.specs.inner.Meanings.{is_spot}
use Rattle.queue_of_store.specs.Holds.{Holds}
use Rattle.queue_of_store.specs.inner.Meanings.{in_slots, found_means, step_means}
use Rattle.queue_of_store.proofs.Seeks.{seek_is, seek-means}
use Rattle.queue_of_store.proofs.Chains.{first-means, last-means, step-means}
use Rattle.queue_of_store.proofs.Live.{live-is, live_iff}
use Rattle.queue.specs.inner.Header.{on_header}
use Rattle.queue.specs.inner.Looking.{handle_at, as_searched, searched, search_call}
use Rattle.queue.specs.inner.Moving.{moved_to, cursor_at, start_call, stand_in, stand_call, step_in, step_call}
use Rattle.queue.specs.Readings.{search_means, moved_means}
use Rattle.std.specs.Prelude.{Result, Ok, Err, Option, Some, None}
use Rattle.handle.specs.declared.Refusal.{Refusal}
use Rattle.handle.specs.declared.Handle.{Handle}

-- a store that holds a queue has a header that passes
pub on_held : {A : Type 0} {s : List ℕ} {q : Queue} → Holds s q → (f : ℕ → A) (a : A) → on_header (header_of s) f a ≡ f q.capacity
on_held {s = s} {q = q} k f a = rw (passes s q.capacity k.header.passes)

-- a search found by a tree reads the same here and in crate holds
found_reads : (s : List ℕ) (cap : ℕ) (x : Search.Found) → search_means (as_searched s cap (in_slots x)) ≡ found_means s cap (in_slots x)
unfolding handle_at
found_reads s cap (equal_to e n) = refl
found_reads s cap (nearest e left n) = refl
found_reads s cap (nearest e right n) = refl
found_reads s cap empty_tree = refl

-- a step reads the same
step-reads : (p : Result (Option Handle) Refusal) → moved_means (moved_to p) ≡ step_means p
step-reads (Ok (Some h)) = refl
step-reads (Ok None) = refl
step-reads (Err n) = refl

module _ {s : List ℕ} {q : Queue} (k : Holds s q) where
  pub search-means : (key : ℤ) → search_means (search_call s key) ≡ search_for (stored key) q
  unfolding search_call searched
  search-means key =
      rw (on_held k (λ cap. searched s cap (stored key)) _, seek_is k (stored key), found_reads s q.capacity (answer_at (search (stored key) q.tree)), ← seek_is k (stored key))
      (seek-means k (stored key))

  pub first-is : moved_means (start_call s 0) ≡ stand_first q
  unfolding start_call
  first-is = rw (on_held k (λ cap. moved_to (end_of s cap 0)) _) (step-reads (end_of s q.capacity 0) ∙ first-means k)

  pub last-is : moved_means (start_call s 1) ≡ stand_last q
  unfolding start_call
  last-is = rw (on_held k (λ cap. moved_to (end_of s cap 1)) _) (step-reads (end_of s q.capacity 1) ∙ last-means k)

  module _ (h : H.Handle) where
    pub stand_is : moved_means (stand_call s h) ≡ stand_at (plain h) q
    unfolding stand_call stand_in stand_at stand_spot
    stand_is = rw (on_held k (λ cap. stand_in s cap h) _, live-is k h) (go (spot_of (plain h) q))
      where
        go : (w : Spot) → moved_means (ifte (is_spot w) (Ok (Some (cursor_at h))) (Err R.InvalidPtr)) ≡ stand_spot (plain h) w
        go nowhere = refl
        go (spot a x r b p) = refl

    step_in_lem : (d : Side) → moved_means (step_in s q.capacity h (number d)) ≡ step_to d (plain h) q
    unfolding step_in step_to step_spot
    step_in_lem d = rw (live-is k h) (go (spot_of (plain h) q) refl)
      where
        go : (w : Spot) → spot_of (plain h) q ≡ w
            → moved_means (ifte (is_spot w) (moved_to (step_from s q.capacity h.slot.0 (number d))) (Err R.InvalidPtr)) ≡ step_spot d w
        go nowhere e = refl
        go (spot a x r b p) e =
            let t : is_live s q.capacity h ≡ true = live-is k h ∙ ap is_spot e in
            let l = (live_iff k h).0 t in
            step-reads (step_from s q.capacity h.slot.0 (number d)) ∙ step-means k h l.0 l.1 l.2 d ∙ ap (step_spot d) e

    pub back_is : moved_means (step_call s h 0) ≡ step_to left (plain h) q
    unfolding step_call
    back_is = rw (on_held k (λ cap. step_in s cap h 0) _) (step_in_lem left)

    pub forward_is : moved_means (step_call s h 1) ≡ step_to right (plain h) q
    unfolding step_call
    forward_is = rw (on_held k (λ cap. step_in s cap h 1) _) (step_in_lem right)
