-- A change of the tree's shape and ranks alone: writes to links of live slots and to ROOT leave every other group as it was.
-- A reader may rely on: after a climb or a restructure the new tree's words are all that is left to show.
use Prim.Native.Nat.{ℕ, ◌≤◌}
use mathlib.Core.Path.{◌≡◌, ◌∙◌}
use mathlib.Core.List.{List}
use native.Mathlib.Omega.{arith}
use lib.Dec.{lit<}
use Rattle.arena.specs.Words.{PREV, TOP}
use Rattle.arena.specs.inner.Only.{Only}
use Rattle.tree.specs.inner.Kept.{IsRoot}
use Rattle.wavl.specs.Entry.{slots}
use Rattle.wavl.specs.Tree.{Tree, inorder}
use Rattle.wavl.proofs.Lists.{in_left}
use Rattle.rules.specs.Queue.{Queue, entries, changed}
use Rattle.rules.specs.Sound.{free_slots, used_slots}
use Rattle.queue_of_store.specs.Links.{TreeWords}
use Rattle.queue_of_store.specs.Holds.{HeaderWords}
use Rattle.queue_of_store.specs.inner.Words.{Words}
use Rattle.queue_of_store.proofs.Parts.{Separate, used-few, live-low, free-low, free_not_live}
use Rattle.queue_of_store.proofs.Trees.{LinkOf}
use Rattle.queue_of_store.proofs.Groups.{passing_stays, unused_stays, chain_stays, entries_stay, stack_stays, all_retired_stay}

-- the header's words of a queue stay where neither CAPACITY nor TOP is written
pub header_stays : (s t : List ℕ) (q : Queue) (W : ℕ → ℕ → Type 0) (H : ℕ → Type 0) → Only s t q.capacity W H → ((h : ℕ) → h ≤ TOP → ¬ (H h))
    → HeaderWords s q → HeaderWords t q
header_stays s t q W H o n w =
    record { passes = passing_stays s t q.capacity W H o (n _ (omega arith)) w.passes; top-is = o.heads TOP (lit< tt) (n _ (omega arith)) ∙ w.top-is }

abbrev pub with_tree : Tree → Queue → Queue
with_tree x q = changed x q.free q

not_link : (l : List ℕ) (j g : ℕ) → PREV ≤ g → ¬ (LinkOf l j g)
not_link l j g h k = let m = k.field_is in omega arith

not_key : (l : List ℕ) (j : ℕ) → ¬ (LinkOf l j 0)
not_key l j k = let m = k.field_is in omega arith

pub reshaped : {s t : List ℕ} {q : Queue} (x : Tree) → Separate q → Words s q → Only s t q.capacity (LinkOf (slots (entries q))) IsRoot
    → inorder x ≡ entries q → TreeWords t q.capacity x → Words t (with_tree x q)
reshaped {s} {t} {q} x d w o e T =
    let cap = q.capacity in
    let l = slots (entries q) in
    let W = LinkOf l in
    record {
      header = let h = header_stays s t q W IsRoot o (λ h m z. omega arith) w.header in record { passes = h.passes; top-is = h.top-is };
      tree = T;
      chain = rw e (chain_stays s t cap W IsRoot o (entries q) (live-low d) (λ z. omega arith) (λ z. omega arith) (λ j h. (not_link l j _ (omega arith), not_link l j _ (omega arith))) w.chain);
      live = rw e (entries_stay s t cap W IsRoot o (entries q) (live-low d) (λ j h. (not_key l j, not_link l j _ (omega arith), not_link l j _ (omega arith))) w.live);
      free = stack_stays s t cap W IsRoot o q.free (let m = used-few d in omega arith) (free-low d) (λ z. omega arith) (λ p. not_link l p _ (omega arith))
          (λ j h g z k. free_not_live d j h k.slot_in) w.free;
      retired = rw e (all_retired_stay s t cap W IsRoot o q.top (used_slots q) (λ j n g z k. n (in_left j l (free_slots q.free) k.slot_in)) w.retired);
      unused = unused_stays s t cap W IsRoot o (λ h m z. omega arith) w.unused;
    }
