-- Document 01, "Runs on the bench": the starred runs A to K as one table, and what is claimed of it, the record `Starred`.
-- A reader may rely on this: what comes of a run is written out here by hand; proofs/Starred computes the calls and compares.
use Rattle.std.specs.Prelude.{◌≡◌, Bool, List, [], ◌∷◌, ◌++◌, map, ℕ, ◌+◌, ◌-◌, ◌^◌, length, pos}
use Rattle.wavl.specs.Lists.{All}
use Rattle.wavl.specs.Entry.{Entry}
use Rattle.wavl.specs.Tree.{Tree, tip, fork, leaf, size}
use Rattle.rules.specs.Queue.{Handle, handle, Queue, queue_of, fresh}
use Rattle.rules.specs.Answers.{less, Inserted, new, replacing, not_inserted, Note, no_note, generation_overflow, removed}
use Rattle.rules.specs.Insert.{Kind, normal, on_empty, manual}
use Rattle.rules.specs.Calls.{Call, inserts, removal, Event, History, run}
use Rattle.due.specs.Due.{minus, from_key, time_is}

-- ---- shorthand: keys, calls with their answers, entries, slots

-- the stored form of document 01's key n
abbrev pub key : ℕ → ℕ
key n = 2 ^ 63 + n

abbrev pub inserted : Kind → ℕ → ℕ → Inserted → Event
inserted kind k v a = record { call = inserts kind (key k) v; reply = a }

-- Normal insertion of a key and a value, answered New with the first handle of slot s
abbrev pub puts : ℕ → ℕ → ℕ → Event
puts k v s = inserted normal k v (new (handle s 1))

-- removal of the first entry of slot s, answered by its key, its value and the note
abbrev pub take : ℕ → ℕ → ℕ → Note → Event
take s k v n = record { call = removal (handle s 1); reply = removed (key k) v n }

abbrev pub ent : ℕ → ℕ → ℕ → Entry
ent k v s = record { slot = s; generation = 1; key = key k; value = v }

-- slots that were never used
abbrev pub unused_slots : List ℕ → List Handle
unused_slots = map (λ s. handle s 1)

-- ---- a run: the calls with their answers, and the tree, the free list in its order and the counts that they leave

-- "counts": live, free and retired slots
abbrev pub counts : Queue → ℕ × ℕ × ℕ
counts q = (size q.tree, length q.free, q.capacity - (size q.tree + length q.free))

pub record Run : Type 0 where
  pub capacity : ℕ
  pub top : ℕ
  pub steps : History
  pub tree : Tree
  pub free : List Handle
  pub counted : ℕ × ℕ × ℕ

abbrev pub calls : Run → List Call
calls r = map (λ e. e.call) r.steps

abbrev pub leaves : Run → Queue
leaves r = queue_of r.capacity r.top r.tree r.free

-- on a fresh queue the calls have these answers and leave this queue
abbrev pub Comes : Run → Type 0
Comes r = ((enough : ℕ → Bool) → run enough (calls r) (fresh r.capacity r.top) ≡ (r.steps, leaves r)) × (counts (leaves r) ≡ r.counted)

abbrev pub comes : ℕ → ℕ → History → Tree → List Handle → ℕ × ℕ × ℕ → Run
comes capacity top steps tree free n = record { capacity = capacity; top = top; steps = steps; tree = tree; free = free; counted = n }

-- "Capacity 8, top 3"
abbrev pub bench : History → Tree → List Handle → ℕ × ℕ × ℕ → Run
bench = comes 8 3

-- the calls of A, with which C to G begin
abbrev pub steps_a : History
steps_a = puts 10 1 0 ∷ puts 20 2 1 ∷ puts 30 3 2 ∷ []

abbrev pub run_a : Run
run_a = bench steps_a (fork (leaf (ent 10 1 0)) (ent 20 2 1) 2 (leaf (ent 30 3 2))) (unused_slots (3 ∷ 4 ∷ 5 ∷ 6 ∷ 7 ∷ [])) (3, 5, 0)

-- "*A: 10, 20, 30: root 20 rank 2, both others rank 1."
-- "*B: 10, 30, 20: the same tree."
-- "*C: A and 40: ranks 20:3, 10:1, 30:2, 40:1."
-- "*D: A, remove 20: root 10 rank 2, right child 30."
-- "*E: D, remove 10: root 30 rank 1."
-- "*F: C, remove 10: root 30 rank 3, children 20 and 40 rank 1."
-- "*G: F, remove 20: root 30 rank 2, right child 40."
-- "*H: Capacity 1, top 1: insert 5, remove it (GenerationOverflow), insert 5: refused 1, queue empty."
-- "*I: Capacity 1, insert 5 twice: the second replaces. Then 6: refused 1."
-- "*J: Manual on an empty queue: 2. Empty kind there: placed."
abbrev pub runs : List Run
runs =
    run_a
    ∷ bench (puts 10 1 0 ∷ puts 30 2 1 ∷ puts 20 3 2 ∷ []) (fork (leaf (ent 10 1 0)) (ent 20 3 2) 2 (leaf (ent 30 2 1))) (unused_slots (3 ∷ 4 ∷ 5 ∷ 6 ∷ 7 ∷ [])) (3, 5, 0)
    ∷ bench (steps_a ++ (puts 40 4 3 ∷ [])) (fork (leaf (ent 10 1 0)) (ent 20 2 1) 3 (fork tip (ent 30 3 2) 2 (leaf (ent 40 4 3)))) (unused_slots (4 ∷ 5 ∷ 6 ∷ 7 ∷ [])) (4, 4, 0)
    ∷ bench (steps_a ++ (take 1 20 2 no_note ∷ [])) (fork tip (ent 10 1 0) 2 (leaf (ent 30 3 2))) (handle 1 2 ∷ unused_slots (3 ∷ 4 ∷ 5 ∷ 6 ∷ 7 ∷ [])) (2, 6, 0)
    ∷ bench (steps_a ++ (take 1 20 2 no_note ∷ take 0 10 1 no_note ∷ [])) (leaf (ent 30 3 2)) (handle 0 2 ∷ handle 1 2 ∷ unused_slots (3 ∷ 4 ∷ 5 ∷ 6 ∷ 7 ∷ [])) (1, 7, 0)
    ∷ bench (steps_a ++ (puts 40 4 3 ∷ take 0 10 1 no_note ∷ [])) (fork (leaf (ent 20 2 1)) (ent 30 3 2) 3 (leaf (ent 40 4 3))) (handle 0 2 ∷ unused_slots (4 ∷ 5 ∷ 6 ∷ 7 ∷ [])) (3, 5, 0)
    ∷ bench (steps_a ++ (puts 40 4 3 ∷ take 0 10 1 no_note ∷ take 1 20 2 no_note ∷ [])) (fork tip (ent 30 3 2) 2 (leaf (ent 40 4 3))) (handle 1 2 ∷ handle 0 2 ∷ unused_slots (4 ∷ 5 ∷ 6 ∷ 7 ∷ [])) (2, 6, 0)
    ∷ comes 1 1 (puts 5 1 0 ∷ take 0 5 1 generation_overflow ∷ inserted normal 5 2 (not_inserted 1) ∷ []) tip [] (0, 0, 1)
    ∷ comes 1 3 (puts 5 1 0 ∷ inserted normal 5 2 (replacing (handle 0 1) 1) ∷ inserted normal 6 3 (not_inserted 1) ∷ []) (leaf (ent 5 2 0)) [] (1, 0, 0)
    ∷ bench (inserted (manual (handle 0 1) less) 10 1 (not_inserted 2) ∷ inserted on_empty 10 2 (new (handle 0 1)) ∷ []) (leaf (ent 10 2 0)) (unused_slots (1 ∷ 2 ∷ 3 ∷ 4 ∷ 5 ∷ 6 ∷ 7 ∷ [])) (1, 7, 0)
    ∷ []

-- "key, value, slot, generation, rank", a line for each entry
unfoldable pub listing : Tree → List (ℕ × ℕ × ℕ × ℕ × ℕ)
listing tip = []
listing (fork a x r b) = listing a ++ ((x.key, x.value, x.slot, x.generation, r) ∷ listing b)

-- "The starred runs are a single table under a single theorem"
pub record Starred : Type 0 where
  pub queue : All Comes runs
  -- "Listing of A, whole"
  pub listed : listing run_a.tree ≡ (key 10, 1, 0, 1, 1) ∷ (key 20, 2, 1, 1, 2) ∷ (key 30, 3, 2, 1, 1) ∷ []
  -- "*K: Key -1 is at day -1, second 86,399."; by request 1 it "reads day -1, second 86,399, drum 7 at offset 0"
  pub times : from_key (minus 1) (pos 0) ≡ time_is (minus 1) (pos 86_399) (pos 7)
