-- Document 01's table "When the queue says no": each refusal of each call, exactly when the table says, and no other number.
-- A reader may rely on these for sound queues. Number 5 is the store's; 4 stands in proofs/History (lay_answers), 6 in crate `due`.
use mathlib.Core.Path.{◌≡◌, refl, sym, ap, ◌∙◌, subst}
use mathlib.Core.Logic.{◌⊎◌, inl, inr, ◌↔◌}
use mathlib.Core.List.{cons≢nil}
use Prim.Native.Nat.{ℕ}
use native.Mathlib.Omega.{arith}
use Rattle.wavl.specs.Tree.{Side}
use Rattle.rules.specs.Queue.{Handle, Queue, Has, Live}
use Rattle.rules.specs.Answers.{Where, Inserted, new, replacing, not_inserted, would_refuse, Removed, removed, not_removed, Read, reads, not_read, Stepped, stands, at_end, not_stepped, not_within_capacity, failed_ord_requirement, invalid_ptr}
use Rattle.rules.specs.Insert.{insert_normal, insert_empty, insert_manual, Kind, insert, ahead, foresee}
use Rattle.rules.specs.Remove.{remove}
use Rattle.rules.specs.Look.{read, stand_first, stand_last, stand_at, step_to}
use Rattle.rules.specs.Sound.{Sound}
use Rattle.rules.specs.Table.{NoSlot, NextFree, NormalAnswers, NoEntries, EmptyAnswers, ManualFits, Adding, ManualAnswers, RemoveAnswers, ReadAnswers, FirstAnswers, LastAnswers, StandAnswers, StepAnswers}
use Rattle.rules.proofs.Told.{normal-answers, empty-answers, manual-answers, remove-answers, read-answers, first-answers, last-answers, stand_answers, step-answers, target-live}
use Rattle.rules.proofs.Unchanged.{insert-ahead}

pub no-next : (q : Queue) {h : Handle} → NextFree q h → ¬ NoSlot q
no-next q f n = cons≢nil (sym f.1 ∙ n)

-- Equal needs no new entry
pub equal-adds_not : (v : Where) → v ≡ Where.equal → ¬ Adding v
equal-adds_not v e k = subst (λ (u : Where). Adding u) e k

-- Normal: "1: a new entry is needed and no slot is free"
module _ (key value : ℕ) (q : Queue) (s : Sound q) where
  told : NormalAnswers key q (insert_normal key value q).0
  told = normal-answers key value q s

  normal-one : (a : Inserted) → NormalAnswers key q a → ((¬ Has key q) × NoSlot q) → a ≡ not_inserted not_within_capacity
  normal-one (new h) f g = absurd (no-next q f.1 g.1)
  normal-one (replacing h v) f g = absurd (g.0 (f.0, f.1, f.3))
  normal-one (not_inserted n) f g = ap not_inserted f.0

  pub normal-refused_1 : ((insert_normal key value q).0 ≡ not_inserted not_within_capacity) ↔ ((¬ Has key q) × NoSlot q)
  normal-refused_1 = (
    λ e. let f = subst (λ (a : Inserted). NormalAnswers key q a) e told in (f.1, f.2),
    λ g. normal-one (insert_normal key value q).0 told g,
  )

  pub normal-refused-only : (n : ℕ) → (insert_normal key value q).0 ≡ not_inserted n → n ≡ not_within_capacity
  normal-refused-only n e = (subst (λ (a : Inserted). NormalAnswers key q a) e told).0

  -- "An insertion that replaces never meets 1": with the key there, it replaces
  normal-there : (a : Inserted) → NormalAnswers key q a → Has key q → (h : Handle) × (v : ℕ) × (a ≡ replacing h v)
  normal-there (new h) f g = absurd (f.0 g)
  normal-there (replacing h v) f g = (h, v, refl)
  normal-there (not_inserted n) f g = absurd (f.1 g)

  pub normal-replaces : ((h : Handle) × (v : ℕ) × ((insert_normal key value q).0 ≡ replacing h v)) ↔ Has key q
  normal-replaces = (
    λ e. let f = subst (λ (a : Inserted). NormalAnswers key q a) e.2 told in (f.0, f.1, f.3),
    normal-there (insert_normal key value q).0 told,
  )

-- Empty: "2: Empty kind on a queue with entries"; on any queue
module _ (key value : ℕ) (q : Queue) where
  empty-told : EmptyAnswers q (insert_empty key value q).0
  empty-told = empty-answers key value q

  empty_two : (a : Inserted) → EmptyAnswers q a → ¬ NoEntries q → a ≡ not_inserted failed_ord_requirement
  empty_two (new h) f g = absurd (g f.0)
  empty_two (replacing h v) f g = absurd f
  empty_two (not_inserted n) (inl f) g = ap not_inserted f.0
  empty_two (not_inserted n) (inr f) g = absurd (g f.1)

  empty-one : (a : Inserted) → EmptyAnswers q a → NoEntries q × NoSlot q → a ≡ not_inserted not_within_capacity
  empty-one (new h) f g = absurd (no-next q f.1 g.1)
  empty-one (replacing h v) f g = absurd f
  empty-one (not_inserted n) (inl f) g = absurd (f.1 g.0)
  empty-one (not_inserted n) (inr f) g = ap not_inserted f.0

  two_means : EmptyAnswers q (not_inserted failed_ord_requirement) → ¬ NoEntries q
  two_means (inl f) = f.1
  two_means (inr f) = absurd (let e : ◌≡◌ {A = ℕ} 2 1 = f.0 in omega arith)

  one-means : EmptyAnswers q (not_inserted not_within_capacity) → NoEntries q × NoSlot q
  one-means (inl f) = absurd (let e : ◌≡◌ {A = ℕ} 1 2 = f.0 in omega arith)
  one-means (inr f) = (f.1, f.2)

  pub empty-refused_2 : ((insert_empty key value q).0 ≡ not_inserted failed_ord_requirement) ↔ (¬ NoEntries q)
  empty-refused_2 = (λ e. two_means (subst (λ (a : Inserted). EmptyAnswers q a) e empty-told), empty_two (insert_empty key value q).0 empty-told)

  pub empty-refused_1 : ((insert_empty key value q).0 ≡ not_inserted not_within_capacity) ↔ (NoEntries q × NoSlot q)
  empty-refused_1 = (λ e. one-means (subst (λ (a : Inserted). EmptyAnswers q a) e empty-told), empty-one (insert_empty key value q).0 empty-told)

  empty_numbers : (n : ℕ) → EmptyAnswers q (not_inserted n) → (n ≡ failed_ord_requirement) ⊎ (n ≡ not_within_capacity)
  empty_numbers n (inl f) = inl f.0
  empty_numbers n (inr f) = inr f.0

  pub empty-refused-only : (n : ℕ) → (insert_empty key value q).0 ≡ not_inserted n → (n ≡ failed_ord_requirement) ⊎ (n ≡ not_within_capacity)
  empty-refused-only n e = empty_numbers n (subst (λ (a : Inserted). EmptyAnswers q a) e empty-told)

-- Manual: "2: Manual with a handle that names no live entry, or a key that doesn't fit"
module _ (h : Handle) (w : Where) (key value : ℕ) (q : Queue) (s : Sound q) where
  manual-told : ManualAnswers h w key q (insert_manual h w key value q).0
  manual-told = manual-answers h key value q s w

  manual_two : (a : Inserted) → ManualAnswers h w key q a → ¬ ManualFits h w key q → a ≡ not_inserted failed_ord_requirement
  manual_two (new g) f n = absurd (n f.0)
  manual_two (replacing g v) f n = absurd (n f.0)
  manual_two (not_inserted m) (inl f) n = ap not_inserted f.0
  manual_two (not_inserted m) (inr f) n = absurd (n f.1)

  manual-one : (a : Inserted) → ManualAnswers h w key q a → ManualFits h w key q × Adding w × NoSlot q → a ≡ not_inserted not_within_capacity
  manual-one (new g) f n = absurd (no-next q f.2 n.2)
  manual-one (replacing g v) f n = absurd (equal-adds_not w f.1 n.1)
  manual-one (not_inserted m) (inl f) n = absurd (f.1 n.0)
  manual-one (not_inserted m) (inr f) n = ap not_inserted f.0

  manual_two_means : ManualAnswers h w key q (not_inserted failed_ord_requirement) → ¬ ManualFits h w key q
  manual_two_means (inl f) = f.1
  manual_two_means (inr f) = absurd (let e : ◌≡◌ {A = ℕ} 2 1 = f.0 in omega arith)

  manual-one-means : ManualAnswers h w key q (not_inserted not_within_capacity) → ManualFits h w key q × Adding w × NoSlot q
  manual-one-means (inl f) = absurd (let e : ◌≡◌ {A = ℕ} 1 2 = f.0 in omega arith)
  manual-one-means (inr f) = (f.1, f.2, f.3)

  pub manual-refused_2 : ((insert_manual h w key value q).0 ≡ not_inserted failed_ord_requirement) ↔ (¬ ManualFits h w key q)
  manual-refused_2 =
      (λ e. manual_two_means (subst (λ (a : Inserted). ManualAnswers h w key q a) e manual-told), manual_two (insert_manual h w key value q).0 manual-told)

  pub manual-refused_1 : ((insert_manual h w key value q).0 ≡ not_inserted not_within_capacity) ↔ (ManualFits h w key q × Adding w × NoSlot q)
  manual-refused_1 =
      (λ e. manual-one-means (subst (λ (a : Inserted). ManualAnswers h w key q a) e manual-told), manual-one (insert_manual h w key value q).0 manual-told)

  manual_numbers : (n : ℕ) → ManualAnswers h w key q (not_inserted n) → (n ≡ failed_ord_requirement) ⊎ (n ≡ not_within_capacity)
  manual_numbers n (inl f) = inl f.0
  manual_numbers n (inr f) = inr f.0

  pub manual-refused-only : (n : ℕ) → (insert_manual h w key value q).0 ≡ not_inserted n → (n ≡ failed_ord_requirement) ⊎ (n ≡ not_within_capacity)
  manual-refused-only n e = manual_numbers n (subst (λ (a : Inserted). ManualAnswers h w key q a) e manual-told)

-- "3: removal, reading or stepping with a handle that names no live entry"
module _ (h : Handle) (q : Queue) (s : Sound q) where
  remove_three : (a : Removed) → RemoveAnswers h q a → ¬ Live h q → a ≡ not_removed invalid_ptr
  remove_three (removed k v n) f l = absurd (l (f.0, f.1, f.2))
  remove_three (not_removed n) f l = ap not_removed f.0

  pub remove-refused_3 : ((remove h q).0 ≡ not_removed invalid_ptr) ↔ (¬ Live h q)
  remove-refused_3 =
      (λ e. (subst (λ (a : Removed). RemoveAnswers h q a) e (remove-answers h q s)).1, remove_three (remove h q).0 (remove-answers h q s))

  pub remove-refused-only : (n : ℕ) → (remove h q).0 ≡ not_removed n → n ≡ invalid_ptr
  remove-refused-only n e = (subst (λ (a : Removed). RemoveAnswers h q a) e (remove-answers h q s)).0

  read_three : (a : Read) → ReadAnswers h q a → ¬ Live h q → a ≡ not_read invalid_ptr
  read_three (reads k v) f l = absurd (l (f.0, f.1, f.2))
  read_three (not_read n) f l = ap not_read f.0

  pub read-refused_3 : (read h q ≡ not_read invalid_ptr) ↔ (¬ Live h q)
  read-refused_3 = (λ e. (subst (λ (a : Read). ReadAnswers h q a) e (read-answers h q s)).1, read_three (read h q) (read-answers h q s))

  pub read-refused-only : (n : ℕ) → read h q ≡ not_read n → n ≡ invalid_ptr
  read-refused-only n e = (subst (λ (a : Read). ReadAnswers h q a) e (read-answers h q s)).0

  step_three : (d : Side) (a : Stepped) → StepAnswers d h q a → ¬ Live h q → a ≡ not_stepped invalid_ptr
  step_three d (stands g) f l = absurd (l (target-live h q s f.0))
  step_three d at_end f l = absurd (l (target-live h q s f.0))
  step_three d (not_stepped n) f l = ap not_stepped f.0

  pub step-refused_3 : (d : Side) → (step_to d h q ≡ not_stepped invalid_ptr) ↔ (¬ Live h q)
  step-refused_3 d =
      (λ e. (subst (λ (a : Stepped). StepAnswers d h q a) e (step-answers h q s d)).1, step_three d (step_to d h q) (step-answers h q s d))

  pub step-refused-only : (d : Side) (n : ℕ) → step_to d h q ≡ not_stepped n → n ≡ invalid_ptr
  step-refused-only d n e = (subst (λ (a : Stepped). StepAnswers d h q a) e (step-answers h q s d)).0

  -- standing at a handle
  stand_three : (a : Stepped) → StandAnswers h q a → ¬ Live h q → a ≡ not_stepped invalid_ptr
  stand_three (stands g) f l = absurd (l f.1)
  stand_three at_end f l = absurd f
  stand_three (not_stepped n) f l = ap not_stepped f.0

  pub stand_refused_3 : (stand_at h q ≡ not_stepped invalid_ptr) ↔ (¬ Live h q)
  stand_refused_3 =
      (λ e. (subst (λ (a : Stepped). StandAnswers h q a) e (stand_answers h q s)).1, stand_three (stand_at h q) (stand_answers h q s))

  pub stand_refused-only : (n : ℕ) → stand_at h q ≡ not_stepped n → n ≡ invalid_ptr
  stand_refused-only n e = (subst (λ (a : Stepped). StandAnswers h q a) e (stand_answers h q s)).0

-- "An absent key, an empty queue and the end of the chain are answers, no refusals."
pub first-never : (q : Queue) (n : ℕ) → ¬ (stand_first q ≡ not_stepped n)
first-never q n e = subst (λ (a : Stepped). FirstAnswers q a) e (first-answers q)

pub last-never : (q : Queue) (n : ℕ) → ¬ (stand_last q ≡ not_stepped n)
last-never q n e = subst (λ (a : Stepped). LastAnswers q a) e (last-answers q)

-- the look-ahead foretells the refusal that the same insertion would get, and no other
module _ (k : Kind) (key value : ℕ) (q : Queue) where
  refuses_as : (a : Inserted) (n : ℕ) → (ahead a ≡ would_refuse n) ↔ (a ≡ not_inserted n)
  unfolding ahead
  refuses_as (new h) n = (λ e. absurd (let z : ◌≡◌ {A = ℕ} 0 1 = cc in omega arith), λ e. absurd (let z : ◌≡◌ {A = ℕ} 0 1 = cc in omega arith))
  refuses_as (replacing h v) n = (λ e. absurd (let z : ◌≡◌ {A = ℕ} 0 1 = cc in omega arith), λ e. absurd (let z : ◌≡◌ {A = ℕ} 0 1 = cc in omega arith))
  refuses_as (not_inserted m) n = (λ e. let z : m ≡ n = cc in ap not_inserted z, λ e. let z : m ≡ n = cc in ap would_refuse z)

  pub ahead-refused : (n : ℕ) → (foresee k key q ≡ would_refuse n) ↔ ((insert k key value q).0 ≡ not_inserted n)
  ahead-refused n = let i = refuses_as (insert k key value q).0 n in (λ e. i.0 (insert-ahead key q k value ∙ e), λ e. sym (insert-ahead key q k value) ∙ i.1 e)
