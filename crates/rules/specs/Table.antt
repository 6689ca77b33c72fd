-- Document 01's table "When the queue says no", and beside it each yes: for each call, which facts of the queue before it
-- belong to which answer. A reader may rely on this: on a sound queue no two answers of a call have facts that can hold
-- together (proofs/Single), so that these facts leave no second answer.
use Rattle.std.specs.Prelude.{◌≡◌, ◌⊎◌, Bool, List, [], ◌∷◌, ◌++◌, ℕ, ◌<◌, length}
use Rattle.std.proofs.Math.Option.{some}
use Rattle.wavl.specs.Lists.{first, last}
use Rattle.wavl.specs.Entry.{Entry}
use Rattle.wavl.specs.Tree.{Side, left, right, pick}
use Rattle.wavl.specs.Search.{path}
use Rattle.rules.specs.Queue.{Handle, handle_of, Queue, entries, HasEntry, Has, Names, Live}
use Rattle.rules.specs.Answers.{Where, less, equal, greater, Laid, laid, not_laid, Inserted, new, replacing, not_inserted, Ahead, would_add, would_replace, would_refuse, Note, no_note, generation_overflow, Removed, removed, not_removed, Read, reads, not_read, Stepped, stands, at_end, not_stepped, SearchAnswer, equal_at, beside, no_entry, not_found, not_within_capacity, failed_ord_requirement, invalid_ptr, bad_layout}
use Rattle.rules.specs.LayOut.{Good}
use Rattle.rules.specs.Insert.{keyed, Between, Kind, normal, on_empty, manual}

-- "no slot is free"; or h is the next to be handed out
abbrev pub NoSlot : Queue → Type 0
NoSlot q = q.free ≡ []

abbrev pub NextFree : Queue → Handle → Type 0
NextFree q h = (rest : List Handle) × (q.free ≡ h ∷ rest)

-- Normal: refused 1 exactly when "a new entry is needed and no slot is free", and never otherwise
abbrev pub NormalAnswers : ℕ → Queue → Inserted → Type 0
NormalAnswers key q (new h) = (¬ Has key q) × NextFree q h
NormalAnswers key q (replacing h v) = (x : Entry) × HasEntry q x × Names h x × (x.key ≡ key) × (x.value ≡ v)
NormalAnswers key q (not_inserted n) = (n ≡ not_within_capacity) × (¬ Has key q) × NoSlot q

-- Empty: refused 2 on "a queue with entries"
abbrev pub NoEntries : Queue → Type 0
NoEntries q = entries q ≡ []

abbrev pub EmptyAnswers : Queue → Inserted → Type 0
EmptyAnswers q (new h) = NoEntries q × NextFree q h
EmptyAnswers q (replacing h v) = ⊥
EmptyAnswers q (not_inserted n) =
    ((n ≡ failed_ord_requirement) × (¬ NoEntries q)) ⊎ ((n ≡ not_within_capacity) × NoEntries q × NoSlot q)

-- Manual: the entry that the handle names, with the chain before and after it
pub record Target (h : Handle) (q : Queue) : Type 0 where
  pub smaller : List Entry
  pub target : Entry
  pub greater : List Entry
  pub chain : entries q ≡ smaller ++ (target ∷ greater)
  pub named : Names h target

-- "strictly between the target's and its chain neighbour's on that side (if there is one), or equal the target's for Equal"
abbrev pub KeyFits : Where → ℕ → List Entry → Entry → List Entry → Type 0
KeyFits less key a x b = Between left (keyed key) x (last a)
KeyFits equal key a x b = key ≡ x.key
KeyFits greater key a x b = Between right (keyed key) x (first b)

abbrev pub ManualFits : Handle → Where → ℕ → Queue → Type 0
ManualFits h w key q = (t : Target h q) × KeyFits w key t.smaller t.target t.greater

-- a new entry is needed: not for Equal, which replaces
abbrev pub Adding : Where → Type 0
Adding less = Unit {0}
Adding equal = ⊥
Adding greater = Unit {0}

-- Manual: refused 2 "with a handle that names no live entry, or a key that doesn't fit"; that comes before 1
abbrev pub ManualAnswers : Handle → Where → ℕ → Queue → Inserted → Type 0
ManualAnswers h w key q (new g) = ManualFits h w key q × Adding w × NextFree q g
ManualAnswers h w key q (replacing g v) =
    ManualFits h w key q × (w ≡ equal) × (g ≡ h) × ((x : Entry) × HasEntry q x × Names h x × (x.value ≡ v))
ManualAnswers h w key q (not_inserted n) =
    ((n ≡ failed_ord_requirement) × (¬ ManualFits h w key q)) ⊎ ((n ≡ not_within_capacity) × ManualFits h w key q × Adding w × NoSlot q)

-- an insertion of any kind, and its look-ahead: "New or Replacing with the handle, or the refusal, that the same insertion would get"
abbrev pub InsertAnswers : Kind → ℕ → Queue → Inserted → Type 0
InsertAnswers normal key q a = NormalAnswers key q a
InsertAnswers on_empty key q a = EmptyAnswers q a
InsertAnswers (manual h w) key q a = ManualAnswers h w key q a

abbrev pub AheadAnswers : Kind → ℕ → Queue → Ahead → Type 0
AheadAnswers kind key q (would_add h) = InsertAnswers kind key q (new h)
AheadAnswers kind key q (would_replace h) = (v : ℕ) × InsertAnswers kind key q (replacing h v)
AheadAnswers kind key q (would_refuse n) = InsertAnswers kind key q (not_inserted n)

-- "laying out with capacity or top generation out of range, or a store too short": 4, and never otherwise
abbrev pub LayAnswers : (ℕ → Bool) → ℕ → ℕ → Laid → Type 0
LayAnswers enough capacity top laid = Good enough capacity top
LayAnswers enough capacity top (not_laid n) = (n ≡ bad_layout) × (¬ Good enough capacity top)

-- "removal, reading or stepping with a handle that names no live entry": 3, and never otherwise
-- "At the top generation the entry is still removed and returned, with the note GenerationOverflow"
abbrev pub NoteFits : Note → Entry → Queue → Type 0
NoteFits no_note x q = x.generation < q.top
NoteFits generation_overflow x q = ¬ (x.generation < q.top)

abbrev pub RemoveAnswers : Handle → Queue → Removed → Type 0
RemoveAnswers h q (removed k v note) = (x : Entry) × HasEntry q x × Names h x × (x.key ≡ k) × (x.value ≡ v) × NoteFits note x q
RemoveAnswers h q (not_removed n) = (n ≡ invalid_ptr) × (¬ Live h q)

abbrev pub ReadAnswers : Handle → Queue → Read → Type 0
ReadAnswers h q (reads k v) = (x : Entry) × HasEntry q x × Names h x × (x.key ≡ k) × (x.value ≡ v)
ReadAnswers h q (not_read n) = (n ≡ invalid_ptr) × (¬ Live h q)

-- the entry at the end of a chain, the last of it for left and the first for right; End where it has none
abbrev pub EndIs : Side → List Entry → Stepped → Type 0
EndIs d l (stands g) = (m : List Entry) × (y : Entry) × (l ≡ pick d (m ++ (y ∷ [])) (y ∷ m)) × (g ≡ handle_of y)
EndIs d l at_end = l ≡ []
EndIs d l (not_stepped n) = ⊥

-- "on an empty queue first and last answer End": the chain seen from before its first entry, and from behind its last
abbrev pub FirstAnswers : Queue → Stepped → Type 0
FirstAnswers q a = EndIs right (entries q) a

abbrev pub LastAnswers : Queue → Stepped → Type 0
LastAnswers q a = EndIs left (entries q) a

-- "It starts at .. a live handle": there, or 3
abbrev pub StandAnswers : Handle → Queue → Stepped → Type 0
StandAnswers h q (stands g) = (g ≡ h) × Live h q
StandAnswers h q at_end = ⊥
StandAnswers h q (not_stepped n) = (n ≡ invalid_ptr) × (¬ Live h q)

-- Stepping: the entry next to the handle's in the chain; End where none is there
abbrev pub Rest : Side → {h : Handle} {q : Queue} → Target h q → List Entry
Rest d t = pick d t.smaller t.greater

abbrev pub StepAnswers : Side → Handle → Queue → Stepped → Type 0
StepAnswers d h q (stands g) = (t : Target h q) × EndIs d (Rest d t) (stands g)
StepAnswers d h q at_end = (t : Target h q) × EndIs d (Rest d t) at_end
StepAnswers d h q (not_stepped n) = (n ≡ invalid_ptr) × (¬ Live h q)

-- Search as a call: the equal entry, or the last node of the path with the side of it on which the key would stand, or Empty; the
-- count is "the length of that path in the stored tree; 0 when empty". No refusal.
abbrev pub KeyOn : Where → ℕ → Entry → Type 0
KeyOn less key x = key < x.key
KeyOn equal key x = ⊥
KeyOn greater key x = x.key < key

abbrev pub SearchAnswers : ℕ → Queue → SearchAnswer → Type 0
SearchAnswers key q (equal_at h n) = (x : Entry) × HasEntry q x × Names h x × (x.key ≡ key) × (n ≡ length (path key q.tree))
SearchAnswers key q (beside h d n) =
    (¬ Has key q) × ((x : Entry) × HasEntry q x × Names h x × KeyOn d key x × (last (path key q.tree) ≡ some x)) × (n ≡ length (path key q.tree))
SearchAnswers key q (no_entry n) = (n ≡ 0) × NoEntries q
SearchAnswers key q (not_found n) = ⊥

-- the count that each answer carries
abbrev pub count_of : SearchAnswer → ℕ
count_of (equal_at h n) = n
count_of (beside h d n) = n
count_of (no_entry n) = n
count_of (not_found n) = 0
