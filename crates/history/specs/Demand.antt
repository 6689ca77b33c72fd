-- Demand 3 as one record: what is claimed of the book kept over a history and of the queue that stands after it, a part for each sentence.
-- A reader may rely on this: proofs/Demand3 proves it of every list of calls from every sound queue, refused calls included.
use Rattle.std.specs.Prelude.{◌≡◌, ◌⊎◌, ◌↔◌, ℕ, ◌+◌, ◌*◌, ◌^◌, ◌≤◌, length}
use Rattle.wavl.specs.Lists.{In}
use Rattle.wavl.specs.Entry.{Entry, Rising}
use Rattle.wavl.specs.Tree.{inorder}
use Rattle.wavl.specs.Ranks.{Ranked}
use Rattle.wavl.specs.Search.{path}
use Rattle.rules.specs.Queue.{Handle, handle_of, Queue, entries, HasEntry, Names, Live}
use Rattle.rules.specs.Answers.{Where, not_inserted, would_refuse, not_removed, reads, not_read, stands, not_stepped, SearchAnswer, equal_at, beside, no_entry, not_found, failed_ord_requirement, invalid_ptr}
use Rattle.rules.specs.Insert.{manual, insert, foresee}
use Rattle.rules.specs.Remove.{remove}
use Rattle.rules.specs.Look.{read, search_for, stand_at, next, prev}
use Rattle.rules.specs.Sound.{Sound}
use Rattle.rules.specs.Table.{count_of}
use Rattle.history.specs.Book.{Book, OnceEach, Shuffled}

-- a handle that names nothing: 3 by removal, reading, standing and stepping, 2 by Manual and its look-ahead
pub record Refused (g : Handle) (q : Queue) : Type 0 where
  pub by-removal : (remove g q).0 ≡ not_removed invalid_ptr
  pub by-reading : read g q ≡ not_read invalid_ptr
  pub by-standing : stand_at g q ≡ not_stepped invalid_ptr
  pub by_next : next g q ≡ not_stepped invalid_ptr
  pub by-prev : prev g q ≡ not_stepped invalid_ptr
  pub by-manual : (w : Where) (key value : ℕ) → (insert (manual g w) key value q).0 ≡ not_inserted failed_ord_requirement
  pub by-look-ahead : (w : Where) (key : ℕ) → foresee (manual g w) key q ≡ would_refuse failed_ord_requirement

-- an entry with that key is left
abbrev pub HasLeft : ℕ → Book → Type 0
HasLeft key b = (x : Entry) × In x b.left × (x.key ≡ key)

-- a search that answers no equal entry; a refusal is no answer of a search
abbrev pub Misses : SearchAnswer → Type 0
Misses (equal_at h n) = ⊥
Misses (beside h w n) = Unit {0}
Misses (no_entry n) = Unit {0}
Misses (not_found n) = ⊥

pub record Demand (b : Book) (q : Queue) : Type 0 where
  -- "the tree keeps its rank rules"; with rules 4 to 6
  pub sound : Sound q
  pub ranked : Ranked q.tree
  -- "the chain is the tree read left to right, keys strictly rising"
  pub chain : entries q ≡ inorder q.tree
  pub rising : Rising (entries q)
  -- "the entries are those that the history of answers leaves"
  pub same_entries : Shuffled b.left (entries q)
  pub entry-left : (x : Entry) → HasEntry q x ↔ In x b.left
  pub number-left : length (entries q) ≡ length b.left
  -- "the handle of each entry added and not since removed names it": it reads the key and the latest value, and can be stood at
  pub handle-reads : (x : Entry) → In x b.left → read (handle_of x) q ≡ reads x.key x.value
  pub handle-names : (g : Handle) → In g b.given → ¬ In g b.gone
      → (x : Entry) × In x b.left × Names g x × (read g q ≡ reads x.key x.value) × (stand_at g q ≡ stands g)
  -- and no other handle names anything
  pub handle-live : (g : Handle) → Live g q ↔ (In g b.given × (¬ In g b.gone))
  pub handle-refused : (g : Handle) → (¬ In g b.given) ⊎ In g b.gone → Refused g q
  -- "no two additions ever get the same handle", nor one that was there at the start
  pub handle-once : OnceEach b.given
  -- "the free list's length equals capacity, less new insertions, plus removals, less removals noted GenerationOverflow"
  pub conserved : length q.free + b.additions + b.noted ≡ b.start + b.removals
  -- "A search misses exactly when the key is absent"
  pub search_misses : (key : ℕ) → Misses (search_for key q) ↔ (¬ HasLeft key b)
  -- "and looks at p nodes of the stored path with 2^p ≤ (n+1)²"
  pub search-path : (key : ℕ) → count_of (search_for key q) ≡ length (path key q.tree)
  pub search-bound : (key : ℕ) → 2 ^ count_of (search_for key q) ≤ (length b.left + 1) * (length b.left + 1)
