-- What a call has done to the queue, told by the deed alone: rules' theorems about each call, brought to one form.
-- A reader may rely on answer-after, for every call and every sound queue; the induction over a list of calls stands on it.
use mathlib.Core.Path.{◌≡◌, refl, sym, ◌∙◌}
use mathlib.Core.Bool.{Bool, true, false}
use Prim.Native.Nat.{ℕ, ◌<◌}
use native.Mathlib.Decide.{dec_lt}
use lib.ListN.{length}
use Rattle.handle.specs.Numbers.{InRange}
use Rattle.wavl.specs.Entry.{Entry}
use Rattle.rules.specs.Queue.{Handle, Queue, fresh, Names}
use Rattle.rules.specs.Answers.{Inserted, new, replacing, not_inserted, Note, no_note, generation_overflow, Removed, removed, not_removed}
use Rattle.rules.specs.LayOut.{good, laid_by, lay_out}
use Rattle.rules.specs.Insert.{Kind, insert}
use Rattle.rules.specs.Remove.{note_of, remove}
use Rattle.rules.specs.Sound.{Sound}
use Rattle.rules.specs.inner.Changes.{Adds, Swaps, Takes, AfterInserting, AfterRemoving}
use Rattle.rules.specs.inner.Handles.{FreedBy}
use Rattle.rules.specs.Table.{NoteFits, RemoveAnswers}
use Rattle.rules.specs.Calls.{Call, inserts, removal, laying_out, looks, answer}
use Rattle.rules.proofs.Told.{remove-answers}
use Rattle.rules.proofs.Insertions.{insert-does}
use Rattle.rules.proofs.Removing.{remove-does}
use Rattle.rules.proofs.Handles.{takes-free}
use Rattle.rules.proofs.History.{good_fact}
use Rattle.history.specs.Deed.{Deed, adds, replaces, takes_out, begins, nothing, deed}

-- a removal of h: which entry went, and what the note says of the free list
pub record Taken (h : Handle) (note : Note) (q q' : Queue) : Type 0 where
  pub out : Entry
  pub named : Names h out
  pub takes : Takes q q' out
  pub freed : FreedBy note (length q.free) (length q'.free)

pub record Swapped (h : Handle) (value : ℕ) (q q' : Queue) : Type 0 where
  pub old : Entry
  pub named : Names h old
  pub swaps : Swaps q q' old value

pub record Laid (capacity : ℕ) (q' : Queue) : Type 0 where
  pub top : ℕ
  pub range : InRange capacity top
  pub is-fresh : q' ≡ fresh capacity top

abbrev pub After : Deed → Queue → Queue → Type 0
After (adds h key value) q q' = Adds q q' h key value
After (replaces h value) q q' = Swapped h value q q'
After (takes_out h note) q q' = Taken h note q q'
After (begins capacity) q q' = Laid capacity q'
After nothing q q' = q' ≡ q

inserting-after : (kind : Kind) (key value : ℕ) (q : Queue) (a : Inserted) (q' : Queue) → AfterInserting key value q a q'
    → After (deed (inserts kind key value) a) q q'
unfolding deed
inserting-after kind key value q (new h) q' f = f
inserting-after kind key value q (replacing h v) q' f = record { old = f.0; named = f.1; swaps = f.4 }
inserting-after kind key value q (not_inserted n) q' f = f

-- the note is that of the generation, so it says what became of the free list
note-freed : (note : Note) (q : Queue) (x y : Entry) → x.generation ≡ y.generation → NoteFits note x q
    → (d : Dec (y.generation < q.top)) (m n : ℕ) → FreedBy (note_of d) m n → FreedBy note m n
unfolding note_of
note-freed no_note q x y e f (yes l) m n g = g
note-freed no_note q x y e f (no l) m n g = absurd (l (rw e at f))
note-freed generation_overflow q x y e f (yes l) m n g = absurd (f (rw e l))
note-freed generation_overflow q x y e f (no l) m n g = g

removing-after : (h : Handle) (q : Queue) (a : Removed) (q' : Queue) → RemoveAnswers h q a → AfterRemoving h q a q'
    → After (deed (removal h) a) q q'
unfolding deed
removing-after h q (removed k v note) q' t f =
    let x = f.0 in
    let e : t.0.generation ≡ x.generation = t.2.1 ∙ sym f.1.1 in
    record {
      out = x;
      named = f.1;
      takes = f.4;
      freed = note-freed note q t.0 x e t.5 (dec_lt x.generation q.top) (length q.free) (length q'.free) (takes-free f.4);
    }
removing-after h q (not_removed n) q' t f = f

laying-after : (enough : ℕ → Bool) (capacity top : ℕ) (q : Queue) (b : Bool) → good enough capacity top ≡ b
    → After (deed (laying_out capacity top) (laid_by b capacity top q).0) q (laid_by b capacity top q).1
unfolding deed
laying-after enough capacity top q true e = record { top = top; range = (good_fact enough capacity top e).range; is-fresh = refl }
laying-after enough capacity top q false e = refl

-- every call: its deed says what was done
pub answer-after : (enough : ℕ → Bool) (c : Call) (q : Queue) → Sound q → After (deed c (answer enough c q).0) q (answer enough c q).1
unfolding deed answer lay_out
answer-after enough (inserts kind k v) q s = inserting-after kind k v q (insert kind k v q).0 (insert kind k v q).1 (insert-does k v q s kind)
answer-after enough (removal h) q s = removing-after h q (remove h q).0 (remove h q).1 (remove-answers h q s) (remove-does h q s)
answer-after enough (laying_out capacity top) q s = laying-after enough capacity top q (good enough capacity top) refl
answer-after enough (looks l) q s = refl
