-- What a history leaves, kept as with pencil and paper: the entries, the handles given and taken out, and document 01's counts.
-- A reader may rely on this: all of it is read off calls and answers; a queue, a tree or a store is nowhere named here.
use Rattle.std.specs.Prelude.{◌≡◌, List, [], ◌∷◌, ◌++◌, ℕ, suc, ◌+◌}
use Rattle.std.proofs.Math.Decide.{ℕ_discrete}
use Rattle.wavl.specs.Lists.{Pairwise, choose}
use Rattle.wavl.specs.Entry.{Entry, revalued}
use Rattle.rules.specs.Queue.{Handle, handle_of, entry_with, Names, dec_both}
use Rattle.rules.specs.Answers.{Note, no_note, generation_overflow}
use Rattle.rules.specs.Calls.{Event, History}
use Rattle.history.specs.Deed.{Deed, adds, replaces, takes_out, begins, nothing, deed}

pub record Book : Type 0 where
  -- "the entries .. that the history of answers leaves"; the one added last stands first
  pub left : List Entry
  -- the handles of the entries found at the start and of each one added since, and the handles taken out since
  pub given : List Handle
  pub gone : List Handle
  -- the slots free at the start; "new insertions", "removals", "removals noted GenerationOverflow, counted over the history"
  pub start : ℕ
  pub additions : ℕ
  pub removals : ℕ
  pub noted : ℕ

unfoldable pub handles : List Entry → List Handle
handles [] = []
handles (x ∷ l) = handle_of x ∷ handles l

-- a history begins with the entries found and so many free slots: with none and the capacity, where a store was laid out
unfoldable pub begun : List Entry → ℕ → Book
begun found free = record { left = found; given = handles found; gone = []; start = free; additions = 0; removals = 0; noted = 0 }

-- whether a handle names an entry
abbrev pub dec_names : (h : Handle) (x : Entry) → Dec (Names h x)
dec_names h x = dec_both (ℕ_discrete x.slot h.slot) (ℕ_discrete x.generation h.generation)

-- the entry with that handle gets the value; all others stay
unfoldable pub revalue : Handle → ℕ → List Entry → List Entry
revalue h value [] = []
revalue h value (x ∷ l) = choose (dec_names h x) (revalued value x) x ∷ revalue h value l

-- the entry with that handle goes; all others stay
unfoldable pub without : Handle → List Entry → List Entry
without h [] = []
without h (x ∷ l) = choose (dec_names h x) (without h l) (x ∷ without h l)

unfoldable pub note_count : Note → ℕ
note_count no_note = 0
note_count generation_overflow = 1

-- an addition adds, a replacement changes the value, a removal takes out, laying out begins anew, and nothing else changes anything
unfoldable pub tell : Deed → Book → Book
tell (adds h key value) b =
    record { left = entry_with h key value ∷ b.left; given = h ∷ b.given; gone = b.gone; start = b.start; additions = suc b.additions; removals = b.removals; noted = b.noted }
tell (replaces h value) b =
    record { left = revalue h value b.left; given = b.given; gone = b.gone; start = b.start; additions = b.additions; removals = b.removals; noted = b.noted }
tell (takes_out h note) b =
    record { left = without h b.left; given = b.given; gone = h ∷ b.gone; start = b.start; additions = b.additions; removals = suc b.removals; noted = note_count note + b.noted }
tell (begins capacity) b = begun [] capacity
tell nothing b = b

abbrev pub note : Event → Book → Book
note e b = tell (deed e.call e.reply) b

-- the book after a history that found it as b
unfoldable pub kept : Book → History → Book
kept b [] = b
kept b (e ∷ h) = kept (note e b) h

-- no handle stands twice in the list
abbrev pub OnceEach : List Handle → Type 0
OnceEach l = Pairwise (λ g h. ¬ (g ≡ h)) l

-- the same entries in any order: the first of l stands somewhere in m, and the rest of l is m without it
abbrev pub Shuffled : List Entry → List Entry → Type 0
Shuffled [] m = m ≡ []
Shuffled (x ∷ l) m = (a : List Entry) × (b : List Entry) × (m ≡ a ++ (x ∷ b)) × Shuffled l (a ++ b)
