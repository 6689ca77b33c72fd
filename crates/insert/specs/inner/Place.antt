-- Placing, as a function of the store, for any words: the store afterwards and the answer.
-- Document 01: "Any insertion answers New or Replacing with the handle, and the old value if replacing."
use Rattle.std.specs.Prelude.{ℕ, List, ℤ, Result, Ok, Err, ⊤}
use Rattle.handle.specs.Numbers.{no_slot}
use Rattle.handle.specs.declared.Handle.{Handle}
use Rattle.handle.specs.declared.Side.{Side}
use Rattle.arena.specs.inner.Entries.{entry_put}
use Rattle.arena.specs.Keys.{stored}
use Rattle.arena.specs.inner.Slots.{handle_with, take_slot}
use Rattle.arena.specs.Words.{field, put, put_head, GENERATION, VALUE, ROOT}
use Rattle.tree.specs.inner.Links.{with_node, with_child}
use Rattle.tree.specs.declared.Node.{Node}
use Rattle.chain.specs.inner.Links.{link_alone, link_beside}
use Rattle.raise.specs.inner.Ranks.{rebalanced}
use Rattle.insert.specs.inner.Kinds.{prepared_normal, prepared_empty, prepared_manual}
use Rattle.insert.specs.declared.kinds.Prepared.{Prepared}
use Rattle.insert.specs.declared.kinds.Prepared.TheVariants.{Alone, Beside, Replace}
use Rattle.handle.specs.declared.Inserted.{Inserted}
use Rattle.handle.specs.declared.Inserted.TheVariants.{New, Replacing}
use Rattle.handle.specs.declared.Ahead.{Ahead}
use Rattle.handle.specs.declared.Ahead as A
use Rattle.handle.specs.declared.Refusal.{Refusal}

-- a new node below p, or below no slot: it has no child, and rank 1
abbrev pub childless : ℕ → Node
childless p = record { back = p; near = no_slot; far = no_slot; rank = 1 }

-- the slot i as the whole queue
unfoldable pub stand_alone : List ℕ → ℕ → ℕ → ℤ → ℕ → List ℕ
stand_alone s cap i key value = put_head (link_alone (with_node (entry_put s cap i key value) cap 0 i (childless no_slot)) cap i) ROOT i

-- by the slot that was taken
abbrev pub alone_as : ℕ → ℤ → ℕ → List ℕ → Result Handle Refusal → List ℕ × Result Inserted Refusal
alone_as cap key value s (Ok h) = (stand_alone s cap h.slot.0 key value, Ok (New h))
alone_as cap key value s (Err n) = (s, Err n)

unfoldable pub placed_alone : List ℕ → ℕ → ℤ → ℕ → List ℕ × Result Inserted Refusal
placed_alone s cap key value = let x = take_slot s cap in alone_as cap key value x.0 x.1

-- the slot i as the child of p on the side d and its neighbour there
unfoldable pub hung : List ℕ → ℕ → ℕ → ℕ → ℕ → ℤ → ℕ → List ℕ
hung s cap i p d key value = with_child (link_beside (with_node (entry_put s cap i key value) cap 0 i (childless p)) cap i p d) cap p d i

unfoldable pub hung_below : List ℕ → ℕ → ℕ → ℕ → ℕ → ℤ → ℕ → List ℕ × Result ⊤ Refusal
hung_below s cap i p d key value = rebalanced (hung s cap i p d key value) cap i p

-- by how the ranks came out
abbrev pub hung_as : Handle → List ℕ → Result ⊤ Refusal → List ℕ × Result Inserted Refusal
hung_as h s (Ok u) = (s, Ok (New h))
hung_as h s (Err n) = (s, Err n)

-- by the slot that was taken
abbrev pub beside_as : ℕ → ℕ → ℕ → ℤ → ℕ → List ℕ → Result Handle Refusal → List ℕ × Result Inserted Refusal
beside_as cap p d key value s (Ok h) = let x = hung_below s cap h.slot.0 p d key value in hung_as h x.0 x.1
beside_as cap p d key value s (Err n) = (s, Err n)

unfoldable pub placed_beside : List ℕ → ℕ → ℕ → ℕ → ℤ → ℕ → List ℕ × Result Inserted Refusal
placed_beside s cap p d key value = let x = take_slot s cap in beside_as cap p d key value x.0 x.1

-- "Equal: the value is replaced, the old one returned, the handle kept, no slot used."
unfoldable pub value_replaced : List ℕ → ℕ → ℕ → ℕ → List ℕ × Result Inserted Refusal
value_replaced s cap i value = (put s cap i VALUE value, Ok (Replacing (handle_with i (field s cap i GENERATION)) (field s cap i VALUE)))

abbrev pub applied : List ℕ → ℕ → Result Prepared Refusal → ℤ → ℕ → List ℕ × Result Inserted Refusal
applied s cap (Ok Alone) key value = placed_alone s cap key value
applied s cap (Ok (Beside p d)) key value = placed_beside s cap p d key value
applied s cap (Ok (Replace p)) key value = value_replaced s cap p value
applied s cap (Err n) key value = (s, Err n)

unfoldable pub normal_inserted : List ℕ → ℕ → ℤ → ℕ → List ℕ × Result Inserted Refusal
normal_inserted s cap key value = applied s cap (prepared_normal s cap (stored key)) key value

unfoldable pub empty_inserted : List ℕ → ℕ → ℤ → ℕ → List ℕ × Result Inserted Refusal
empty_inserted s cap key value = applied s cap (prepared_empty s) key value

unfoldable pub manual_inserted : List ℕ → ℕ → Handle → Side → ℤ → ℕ → List ℕ × Result Inserted Refusal
manual_inserted s cap h side key value = applied s cap (prepared_manual s cap h side (stored key)) key value

-- what a look-ahead says of an answer
abbrev pub as_ahead : Result Inserted Refusal → Result Ahead Refusal
as_ahead (Ok (New h)) = Ok (A.TheVariants.New h)
as_ahead (Ok (Replacing h old)) = Ok (A.TheVariants.Replacing h)
as_ahead (Err r) = Err r
