-- Holds taken apart into a sound queue and words, and put together again; and the bounds that follow.
-- A reader may rely on: a proof of a call shows Sound by crate `rules` and Words by the writes, and ends with holds_of.
use Prim.Native.Nat.{ℕ, ◌+◌, ◌≤◌, ◌<◌}
use mathlib.Core.Path.{refl}
use mathlib.Core.List.{List}
use native.Mathlib.Omega.{arith}
use lib.ListN.{length, length-append}
use Rattle.handle.specs.Numbers.{no_slot, limit}
use Rattle.handle.proofs.Limits.{limit-fits}
use Rattle.arena.specs.Words.{Long}
use Rattle.arena.specs.inner.Budget.{budget}
use Rattle.arena.proofs.Budget.{budget_deep}
use Rattle.wavl.specs.Lists.{All, In, Differ, Once}
use Rattle.wavl.specs.Entry.{slots}
use Rattle.wavl.specs.Tree.{Tree, rank, size}
use Rattle.wavl.specs.Ranks.{Ranks}
use Rattle.wavl.proofs.Lists.{all_left, all_right, pairwise_across}
use Rattle.wavl.proofs.Size.{size_length, rank-le_31}
use Rattle.rules.specs.Queue.{Queue, entries}
use Rattle.rules.specs.Sound.{free_slots, used_slots, Under, Sound}
use Rattle.queue_of_store.specs.Holds.{Holds}
use Rattle.queue_of_store.specs.inner.Words.{Words}
use Rattle.queue_of_store.proofs.Counting.{at_most, length_slots, length_free_slots}

pub sound_of : {s : List ℕ} {q : Queue} → Holds s q → Sound q
sound_of h = record {
  in_range = record {
    capacity-from = h.header.passes.some;
    capacity-to = h.header.passes.few;
    top_from = h.rule_6.top_from;
    top_to = h.rule_6.top_to;
  };
  ranked = h.rule_2;
  rising = h.rule_4;
  apart = h.rule_5.apart;
  within = h.rule_5.within;
  live-generations = h.rule_6.live;
  free-generations = h.rule_6.free;
}

pub words_of : {s : List ℕ} {q : Queue} → Holds s q → Words s q
words_of h = record {
  header = h.header;
  tree = h.rule_1;
  chain = h.rule_3;
  live = h.live;
  free = h.rule_5.free;
  retired = h.rule_5.retired;
  unused = h.rule_7;
}

pub holds_of : {s : List ℕ} {q : Queue} → Sound q → Words s q → Holds s q
holds_of d w = record {
  header = w.header;
  rule_1 = w.tree;
  rule_2 = d.ranked;
  rule_3 = w.chain;
  rule_4 = d.rising;
  rule_5 = record { apart = d.apart; within = d.within; free = w.free; retired = w.retired };
  rule_6 = record {
    top_from = d.in_range.top_from;
    top_to = d.in_range.top_to;
    live = d.live-generations;
    free = d.free-generations;
  };
  rule_7 = w.unused;
  live = w.live;
}

-- what a capacity is never above, and the room for it
pub few-slots : {s : List ℕ} {q : Queue} → Words s q → q.capacity ≤ no_slot
few-slots w = w.header.passes.room.1

pub room_of : {s : List ℕ} {q : Queue} → Words s q → Long s q.capacity
room_of w = w.header.passes.room.0

-- rule 5 as far as it speaks of the queue: it holds between the steps of a call too, where ranks may not
pub record Separate (q : Queue) : Type 0 where
  pub apart : Once (used_slots q)
  pub within : All (Under q.capacity) (used_slots q)

pub separate_of : {q : Queue} → Sound q → Separate q
separate_of d = record { apart = d.apart; within = d.within }

module _ {q : Queue} (d : Separate q) where
  -- live and free slots together are no more than the capacity
  pub used-few : length (entries q) + length q.free ≤ q.capacity
  used-few =
      let h = at_most q.capacity (used_slots q) d.apart d.within in
      let e = length-append (slots (entries q)) (free_slots q.free) in
      let f = length_slots (entries q) in
      let g = length_free_slots q.free in
      omega arith

  pub live-low : All (Under q.capacity) (slots (entries q))
  live-low = all_left (Under q.capacity) (slots (entries q)) (free_slots q.free) d.within

  pub free-low : All (Under q.capacity) (free_slots q.free)
  free-low = all_right (Under q.capacity) (slots (entries q)) (free_slots q.free) d.within

  -- a free slot is no live one
  pub free_not_live : (j : ℕ) → In j (free_slots q.free) → ¬ (In j (slots (entries q)))
  free_not_live j f l = pairwise_across Differ (slots (entries q)) (free_slots q.free) d.apart j j l f refl

-- no tree with so few entries reaches the budget
pub under_budget : (t : Tree) → Ranks t → size t ≤ no_slot → rank t < budget
under_budget t x h = let a = rank-le_31 t x h in let b = budget_deep in omega arith

pub size_few : {q : Queue} → Sound q → size q.tree ≤ no_slot
size_few {q} d =
    let h = used-few (separate_of d) in
    let e = size_length q.tree in
    let f : q.capacity ≤ limit = d.in_range.capacity-to in
    let l = limit-fits in
    omega arith
