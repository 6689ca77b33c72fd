-- No second answer: two answers of a call for which specs/Table's facts hold on one sound queue are the same answer.
-- A reader may rely on these with the theorems CALL-answers of proofs/Told and proofs/Looking: the facts pin the answer down.
use mathlib.Core.Path.{◌≡◌, refl, sym, ap, ◌∙◌, subst}
use mathlib.Core.Logic.{inl, inr}
use mathlib.Core.Bool.{Bool}
use mathlib.Core.List.{List, head-eq_of_cons-eq}
use mathlib.Core.Option.{Option, some-injective}
use Prim.Native.Nat.{ℕ}
use native.Mathlib.Omega.{arith}
use Rattle.wavl.specs.Lists.{first, last}
use Rattle.wavl.specs.Entry.{Entry}
use Rattle.wavl.specs.Tree.{Side, left, right}
use Rattle.wavl.proofs.Lists.{last_of}
use Rattle.wavl.proofs.Strict.{rising_unique}
use Rattle.rules.specs.Queue.{Handle, handle_of, Queue, entries, HasEntry, Names}
use Rattle.rules.specs.Answers.{Where, less, equal, greater, Laid, laid, not_laid, Ahead, would_add, would_replace, would_refuse, Inserted, new, replacing, not_inserted, Note, no_note, generation_overflow, Removed, removed, not_removed, Read, reads, not_read, SearchAnswer, equal_at, beside, no_entry, not_found, Stepped, stands, at_end, not_stepped}
use Rattle.rules.specs.Insert.{Kind, normal, on_empty, manual, ahead}
use Rattle.rules.specs.Look.{stands_at}
use Rattle.rules.specs.Sound.{Sound}
use Rattle.rules.specs.Table.{NextFree, NormalAnswers, NoEntries, EmptyAnswers, Target, ManualAnswers, InsertAnswers, AheadAnswers, LayAnswers, NoteFits, RemoveAnswers, ReadAnswers, EndIs, StandAnswers, Rest, StepAnswers, KeyOn, SearchAnswers}
use Rattle.rules.proofs.Places.{slot_unique}
use Rattle.rules.proofs.Removing.{live-once}
use Rattle.rules.proofs.Told.{names-handle, target-live}
use Rattle.rules.proofs.Refusals.{no-next, equal-adds_not}
use Rattle.rules.proofs.Looking.{same_target}

abbrev end_of : Side → List Entry → Option Entry
end_of left l = last l
end_of right l = first l

next_unique : (q : Queue) {g h : Handle} → NextFree q g → NextFree q h → g ≡ h
next_unique q f k = head-eq_of_cons-eq (sym f.1 ∙ k.1)

-- one handle names one entry, and so one key and one value
module _ (h : Handle) (q : Queue) (s : Sound q) where
  pub one_entry : (x y : Entry) → HasEntry q x → HasEntry q y → Names h x → Names h y → x ≡ y
  one_entry x y i j m n = slot_unique (entries q) (live-once s) x y i j (m.0 ∙ sym n.0)

-- Normal
module _ (key : ℕ) (q : Queue) (s : Sound q) where
  pub normal_single : (a b : Inserted) → NormalAnswers key q a → NormalAnswers key q b → a ≡ b
  normal_single (new g) (new h) f k = ap new (next_unique q f.1 k.1)
  normal_single (new g) (replacing h v) f k = absurd (f.0 (k.0, k.1, k.3))
  normal_single (new g) (not_inserted n) f k = absurd (no-next q f.1 k.2)
  normal_single (replacing g u) (new h) f k = absurd (k.0 (f.0, f.1, f.3))
  normal_single (replacing g u) (replacing h v) f k =
      let e : f.0 ≡ k.0 = rising_unique (entries q) s.rising f.0 k.0 f.1 k.1 (f.3 ∙ sym k.3) in
      let i : g ≡ h = sym (names-handle g f.0 f.2) ∙ ap handle_of e ∙ names-handle h k.0 k.2 in
      let j : u ≡ v = sym f.4 ∙ ap (λ (x : Entry). x.value) e ∙ k.4 in
      cc
  normal_single (replacing g u) (not_inserted n) f k = absurd (k.1 (f.0, f.1, f.3))
  normal_single (not_inserted m) (new h) f k = absurd (no-next q k.1 f.2)
  normal_single (not_inserted m) (replacing h v) f k = absurd (f.1 (k.0, k.1, k.3))
  normal_single (not_inserted m) (not_inserted n) f k = ap not_inserted (f.0 ∙ sym k.0)

-- Empty, on any queue
module _ (q : Queue) where
  pub empty_single : (a b : Inserted) → EmptyAnswers q a → EmptyAnswers q b → a ≡ b
  empty_single (new g) (new h) f k = ap new (next_unique q f.1 k.1)
  empty_single (new g) (replacing h v) f k = absurd k
  empty_single (new g) (not_inserted n) f (inl k) = absurd (k.1 f.0)
  empty_single (new g) (not_inserted n) f (inr k) = absurd (no-next q f.1 k.2)
  empty_single (replacing g u) b f k = absurd f
  empty_single (not_inserted m) (new h) (inl f) k = absurd (f.1 k.0)
  empty_single (not_inserted m) (new h) (inr f) k = absurd (no-next q k.1 f.2)
  empty_single (not_inserted m) (replacing h v) f k = absurd k
  empty_single (not_inserted m) (not_inserted n) (inl f) (inl k) = ap not_inserted (f.0 ∙ sym k.0)
  empty_single (not_inserted m) (not_inserted n) (inl f) (inr k) = absurd (f.1 k.1)
  empty_single (not_inserted m) (not_inserted n) (inr f) (inl k) = absurd (k.1 f.1)
  empty_single (not_inserted m) (not_inserted n) (inr f) (inr k) = ap not_inserted (f.0 ∙ sym k.0)

-- Manual
module _ (h : Handle) (w : Where) (key : ℕ) (q : Queue) (s : Sound q) where
  pub manual_single : (a b : Inserted) → ManualAnswers h w key q a → ManualAnswers h w key q b → a ≡ b
  manual_single (new g) (new i) f k = ap new (next_unique q f.2 k.2)
  manual_single (new g) (replacing i v) f k = absurd (equal-adds_not w k.1 f.1)
  manual_single (new g) (not_inserted n) f (inl k) = absurd (k.1 f.0)
  manual_single (new g) (not_inserted n) f (inr k) = absurd (no-next q f.2 k.3)
  manual_single (replacing g u) (new i) f k = absurd (equal-adds_not w f.1 k.1)
  manual_single (replacing g u) (replacing i v) f k =
      let x = f.3 in
      let y = k.3 in
      let e : x.0 ≡ y.0 = one_entry h q s x.0 y.0 x.1 y.1 x.2 y.2 in
      let c : g ≡ i = f.2 ∙ sym k.2 in
      let d : u ≡ v = sym x.3 ∙ ap (λ (z : Entry). z.value) e ∙ y.3 in
      ap (λ l. replacing l u) c ∙ ap (replacing i) d
  manual_single (replacing g u) (not_inserted n) f (inl k) = absurd (k.1 f.0)
  manual_single (replacing g u) (not_inserted n) f (inr k) = absurd (equal-adds_not w f.1 k.2)
  manual_single (not_inserted m) (new i) (inl f) k = absurd (f.1 k.0)
  manual_single (not_inserted m) (new i) (inr f) k = absurd (no-next q k.2 f.3)
  manual_single (not_inserted m) (replacing i v) (inl f) k = absurd (f.1 k.0)
  manual_single (not_inserted m) (replacing i v) (inr f) k = absurd (equal-adds_not w k.1 f.2)
  manual_single (not_inserted m) (not_inserted n) (inl f) (inl k) = ap not_inserted (f.0 ∙ sym k.0)
  manual_single (not_inserted m) (not_inserted n) (inl f) (inr k) = absurd (f.1 k.1)
  manual_single (not_inserted m) (not_inserted n) (inr f) (inl k) = absurd (k.1 f.1)
  manual_single (not_inserted m) (not_inserted n) (inr f) (inr k) = ap not_inserted (f.0 ∙ sym k.0)

-- Every kind, and its look-ahead
module _ (key : ℕ) (q : Queue) (s : Sound q) where
  pub insert_single : (k : Kind) (a b : Inserted) → InsertAnswers k key q a → InsertAnswers k key q b → a ≡ b
  insert_single normal a b f g = normal_single key q s a b f g
  insert_single on_empty a b f g = empty_single q a b f g
  insert_single (manual h w) a b f g = manual_single h w key q s a b f g

  -- an insertion that would be told so
  told_as : (k : Kind) (a : Ahead) → AheadAnswers k key q a → (i : Inserted) × InsertAnswers k key q i × (ahead i ≡ a)
  unfolding ahead
  told_as k (would_add h) f = (new h, f, refl)
  told_as k (would_replace h) f = (replacing h f.0, f.1, refl)
  told_as k (would_refuse n) f = (not_inserted n, f, refl)

  pub ahead_single : (k : Kind) (a b : Ahead) → AheadAnswers k key q a → AheadAnswers k key q b → a ≡ b
  ahead_single k a b f g =
      let i = told_as k a f in
      let j = told_as k b g in
      sym i.2 ∙ ap ahead (insert_single k i.0 j.0 i.1 j.1) ∙ j.2

-- Laying out
pub lay_single : (enough : ℕ → Bool) (capacity top : ℕ) (a b : Laid) → LayAnswers enough capacity top a → LayAnswers enough capacity top b → a ≡ b
lay_single enough capacity top laid laid f g = refl
lay_single enough capacity top laid (not_laid n) f g = absurd (g.1 f)
lay_single enough capacity top (not_laid m) laid f g = absurd (f.1 g)
lay_single enough capacity top (not_laid m) (not_laid n) f g = ap not_laid (f.0 ∙ sym g.0)

-- the end of a chain is one, so first and last have one answer
end_is : (d : Side) (l : List Entry) (o : Stepped) → EndIs d l o → o ≡ stands_at (end_of d l)
unfolding stands_at last first
end_is left l (stands g) f = ap stands f.3 ∙ ap stands_at (sym (last_of f.0 f.1)) ∙ ap (λ m. stands_at (last m)) (sym f.2)
end_is right l (stands g) f = ap stands f.3 ∙ ap (λ m. stands_at (first m)) (sym f.2)
end_is left l at_end f = ap (λ m. stands_at (last m)) (sym f)
end_is right l at_end f = ap (λ m. stands_at (first m)) (sym f)
end_is d l (not_stepped n) f = absurd f

pub end_one : (d : Side) (l : List Entry) (a b : Stepped) → EndIs d l a → EndIs d l b → a ≡ b
end_one d l a b f g = end_is d l a f ∙ sym (end_is d l b g)

-- Removal, reading, standing and stepping
module _ (h : Handle) (q : Queue) (s : Sound q) where
  one-note : (m n : Note) (x : Entry) → NoteFits m x q → NoteFits n x q → m ≡ n
  one-note no_note no_note x f k = refl
  one-note no_note generation_overflow x f k = absurd (k f)
  one-note generation_overflow no_note x f k = absurd (f k)
  one-note generation_overflow generation_overflow x f k = refl

  pub remove_single : (a b : Removed) → RemoveAnswers h q a → RemoveAnswers h q b → a ≡ b
  remove_single (removed k u m) (removed l v n) f g =
      let e : f.0 ≡ g.0 = one_entry h q s f.0 g.0 f.1 g.1 f.2 g.2 in
      let c : k ≡ l = sym f.3 ∙ ap (λ (z : Entry). z.key) e ∙ g.3 in
      let d : u ≡ v = sym f.4 ∙ ap (λ (z : Entry). z.value) e ∙ g.4 in
      let o : m ≡ n = one-note m n g.0 (subst (λ (z : Entry). NoteFits m z q) e f.5) g.5 in
      ap (λ z. removed z u m) c ∙ ap (λ z. removed l z m) d ∙ ap (removed l v) o
  remove_single (removed k u m) (not_removed n) f g = absurd (g.1 (f.0, f.1, f.2))
  remove_single (not_removed m) (removed l v n) f g = absurd (f.1 (g.0, g.1, g.2))
  remove_single (not_removed m) (not_removed n) f g = ap not_removed (f.0 ∙ sym g.0)

  pub read_single : (a b : Read) → ReadAnswers h q a → ReadAnswers h q b → a ≡ b
  read_single (reads k u) (reads l v) f g =
      let e : f.0 ≡ g.0 = one_entry h q s f.0 g.0 f.1 g.1 f.2 g.2 in
      let c : k ≡ l = sym f.3 ∙ ap (λ (z : Entry). z.key) e ∙ g.3 in
      let d : u ≡ v = sym f.4 ∙ ap (λ (z : Entry). z.value) e ∙ g.4 in
      ap (λ z. reads z u) c ∙ ap (reads l) d
  read_single (reads k u) (not_read n) f g = absurd (g.1 (f.0, f.1, f.2))
  read_single (not_read m) (reads l v) f g = absurd (f.1 (g.0, g.1, g.2))
  read_single (not_read m) (not_read n) f g = ap not_read (f.0 ∙ sym g.0)

  both_face : (d : Side) (t u : Target h q) (a b : Stepped) → EndIs d (Rest d t) a → EndIs d (Rest d u) b → a ≡ b
  both_face left t u a b f g = end_one left t.smaller a b f (rw (same_target h q s t u).0 g)
  both_face right t u a b f g = end_one right t.greater a b f (rw (same_target h q s t u).2 g)

  pub stand_single : (a b : Stepped) → StandAnswers h q a → StandAnswers h q b → a ≡ b
  stand_single (stands g) (stands i) f k = ap stands (f.0 ∙ sym k.0)
  stand_single (stands g) at_end f k = absurd k
  stand_single (stands g) (not_stepped n) f k = absurd (k.1 f.1)
  stand_single at_end b f k = absurd f
  stand_single (not_stepped m) (stands i) f k = absurd (f.1 k.1)
  stand_single (not_stepped m) at_end f k = absurd k
  stand_single (not_stepped m) (not_stepped n) f k = ap not_stepped (f.0 ∙ sym k.0)

  pub step_single : (d : Side) (a b : Stepped) → StepAnswers d h q a → StepAnswers d h q b → a ≡ b
  step_single d (stands g) (stands i) f k = both_face d f.0 k.0 (stands g) (stands i) f.1 k.1
  step_single d (stands g) at_end f k = both_face d f.0 k.0 (stands g) at_end f.1 k.1
  step_single d (stands g) (not_stepped n) f k = absurd (k.1 (target-live h q s f.0))
  step_single d at_end (stands i) f k = both_face d f.0 k.0 at_end (stands i) f.1 k.1
  step_single d at_end at_end f k = refl
  step_single d at_end (not_stepped n) f k = absurd (k.1 (target-live h q s f.0))
  step_single d (not_stepped m) (stands i) f k = absurd (f.1 (target-live h q s k.0))
  step_single d (not_stepped m) at_end f k = absurd (f.1 (target-live h q s k.0))
  step_single d (not_stepped m) (not_stepped n) f k = ap not_stepped (f.0 ∙ sym k.0)

-- Search
module _ (key : ℕ) (q : Queue) (s : Sound q) where
  one_side_lem : (c d : Where) (x : Entry) → KeyOn c key x → KeyOn d key x → c ≡ d
  one_side_lem less less x f g = refl
  one_side_lem less equal x f g = absurd g
  one_side_lem less greater x f g = absurd (omega arith)
  one_side_lem equal d x f g = absurd f
  one_side_lem greater less x f g = absurd (omega arith)
  one_side_lem greater equal x f g = absurd g
  one_side_lem greater greater x f g = refl

  no-entry : NoEntries q → (x : Entry) → ¬ HasEntry q x
  no-entry n x i = rw n at i

  pub search_single : (a b : SearchAnswer) → SearchAnswers key q a → SearchAnswers key q b → a ≡ b
  search_single (equal_at g m) (equal_at h n) f k =
      let e : f.0 ≡ k.0 = rising_unique (entries q) s.rising f.0 k.0 f.1 k.1 (f.3 ∙ sym k.3) in
      let i : g ≡ h = sym (names-handle g f.0 f.2) ∙ ap handle_of e ∙ names-handle h k.0 k.2 in
      ap (λ l. equal_at l m) i ∙ ap (equal_at h) (f.4 ∙ sym k.4)
  search_single (equal_at g m) (beside h d n) f k = absurd (k.0 (f.0, f.1, f.3))
  search_single (equal_at g m) (no_entry n) f k = absurd (no-entry k.1 f.0 f.1)
  search_single (beside g c m) (equal_at h n) f k = absurd (f.0 (k.0, k.1, k.3))
  search_single (beside g c m) (beside h d n) f k =
      let x = f.1 in
      let y = k.1 in
      let e : x.0 ≡ y.0 = some-injective x.0 y.0 (sym x.4 ∙ y.4) in
      let i : g ≡ h = sym (names-handle g x.0 x.2) ∙ ap handle_of e ∙ names-handle h y.0 y.2 in
      let j : c ≡ d = one_side_lem c d y.0 (subst (λ (z : Entry). KeyOn c key z) e x.3) y.3 in
      ap (λ l. beside l c m) i ∙ ap (λ l. beside h l m) j ∙ ap (beside h d) (f.2 ∙ sym k.2)
  search_single (equal_at g m) (not_found n) f k = absurd k
  search_single (beside g c m) (not_found n) f k = absurd k
  search_single (no_entry m) (not_found n) f k = absurd k
  search_single (not_found m) b f k = absurd f
  search_single (beside g c m) (no_entry n) f k = absurd (no-entry k.1 f.1.0 f.1.1)
  search_single (no_entry m) (equal_at h n) f k = absurd (no-entry f.1 k.0 k.1)
  search_single (no_entry m) (beside h d n) f k = absurd (no-entry f.1 k.1.0 k.1.1)
  search_single (no_entry m) (no_entry n) f k = ap no_entry (f.0 ∙ sym k.0)
