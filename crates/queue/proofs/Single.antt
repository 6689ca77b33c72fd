-- No second answer: two answers, and two stores, that meet one promise are the same. On an unsound store too: there the model alone
-- decides, and docs/EXCEPTIONS.md says what escapes.
use Prim.Native.Nat.{ℕ, ◌≤◌}
use native.Mathlib.Decide.{dec_le}
use mathlib.Core.Path.{◌≡◌, sym, ◌∙◌}
use mathlib.Core.List.{List}
use Rattle.handle.specs.Numbers.{limit}
use Rattle.rules.specs.Queue.{Queue}
use Rattle.queue.specs.Promises.{Writes, Looks}
use Rattle.queue.specs.Promised.{NeedPromise, LayOutPromise}
use Rattle.std.specs.Prelude.{Result, ⊤}
use Rattle.handle.specs.declared.Refusal.{Refusal}

-- every call that writes, but laying out: InsertPromise, EmptyPromise, ManualPromise and RemovePromise are of this form
pub writes_one : {A B : Type 0} (five : A) (model : List ℕ × A) (reads : A → B) (rule : Queue → B × Queue) (s t u : List ℕ) (r p : A)
    → Writes five model reads rule s t r → Writes five model reads rule s u p → ◌≡◌ {A = List ℕ × A} (t, r) (u, p)
writes_one five model reads rule s t u r p a b = a.does ∙ sym b.does

-- every call that looks
pub looks-one : {A B : Type 0} (five : A) (model : A) (reads : A → B) (rule : Queue → B) (s : List ℕ) (r p : A)
    → Looks five model reads rule s r → Looks five model reads rule s p → r ≡ p
looks-one five model reads rule s r p a b = a.does ∙ sym b.does

pub lays_one : (s t u : List ℕ) (cap top : ℕ) (r p : Result ⊤ Refusal) → LayOutPromise s t cap top r → LayOutPromise s u cap top p → ◌≡◌ {A = List ℕ × Result ⊤ Refusal} (t, r) (u, p)
lays_one s t u cap top r p a b = a.does ∙ sym b.does

-- how many numbers a capacity takes
pub needed_one : (capacity : ℕ) (r p : Result ℕ Refusal) → NeedPromise capacity r → NeedPromise capacity p → r ≡ p
needed_one capacity r p a b = go (dec_le 1 capacity) (dec_le capacity limit)
  where
    go : Dec (1 ≤ capacity) → Dec (capacity ≤ limit) → r ≡ p
    go (yes l) (yes h) = a.tells l h ∙ sym (b.tells l h)
    go (no l) x = a.refuses (λ y. l y.0) ∙ sym (b.refuses (λ y. l y.0))
    go (yes l) (no h) = a.refuses (λ y. h y.1) ∙ sym (b.refuses (λ y. h y.1))
