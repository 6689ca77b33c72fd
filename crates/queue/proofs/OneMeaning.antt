-- No second answer and no second store by document 01's meaning alone, with no word of the models: on a store that holds a queue an answer
-- is known by its reading, and a store by the queue that it holds.
-- A reader may rely on: one-look and one-write with the theorem of each reading (laid_one to moved-one). Keys are signed 64-bit numbers.
use Prim.Native.Nat.{ℕ, zero, suc}
use mathlib.Core.Path.{◌≡◌, refl, sym, ap, ◌∙◌}
use mathlib.Core.List.{List}
use native.Mathlib.Omega.{arith}
use mir.Syntax.{w64}
use mir.Val.{SFits}
use Rattle.handle.specs.Numbers.{refusal_number}
use Rattle.handle.specs.declared.Handle.{Handle}
use Rattle.handle.specs.declared.Side.{Side}
use Rattle.handle.specs.declared.Side.TheVariants.{Less, Equal, Greater}
use Rattle.handle.specs.declared.Refusal.{Refusal}
use Rattle.handle.specs.declared.Refusal.TheVariants.{NotWithinCapacity, FailedOrdRequirement, InvalidPtr, BadLayout, NotSound, BadTime}
use Rattle.arena.specs.Keys.{stored, signed}
use Rattle.handle.specs.declared.Entry.{Entry}
use Rattle.arena.proofs.KeyLaws.{stored_undone}
use Rattle.rules.specs.Queue.{Queue}
use Rattle.queue_of_store.specs.Handles.{plain}
use Rattle.queue_of_store.proofs.SameStore.{same_store}
use Rattle.insert_means.specs.Meaning.{inserted_means, ahead_means, side_means}
use Rattle.remove_means.specs.Meaning.{removed_means, read_means}
use Rattle.queue.specs.Promises.{Meant}
use Rattle.queue.specs.Readings.{laid_means, search_means, moved_means}
use Rattle.queue.specs.declared.cursor.Cursor.{Cursor}
use Rattle.handle.specs.declared.Inserted as I
use Rattle.handle.specs.declared.Ahead as A
use Rattle.handle.specs.declared.Removed as X
use Rattle.queue.specs.declared.looking.Searched as S
use Rattle.std.specs.Prelude.{Result, Ok, Err, Option, Some, None, ⊤}

-- ---- from readings to answers and stores

module _ {A B : Type 0} (reads : A → B) (r p : A) (one : reads r ≡ reads p → r ≡ p) where
  pub one-look : (x : B) → reads r ≡ x → reads p ≡ x → r ≡ p
  one-look x e f = one (e ∙ sym f)

  pub one-write : (s t u : List ℕ) (x : B × Queue) → Meant reads s t x r → Meant reads s u x p → ◌≡◌ {A = List ℕ × A} (t, r) (u, p)
  one-write s t u x a b =
      let m : t ≡ u = same_store a.holds b.holds (a.long ∙ sym b.long) (λ k l. a.rest k l ∙ sym (b.rest k l)) in
      let e = one (a.answer ∙ sym b.answer) in
      λ i. (m i, e i)

-- ---- each reading tells answers apart

refusal_of : ℕ → Refusal
refusal_of zero = NotSound
refusal_of (suc zero) = NotWithinCapacity
refusal_of (suc (suc zero)) = FailedOrdRequirement
refusal_of (suc (suc (suc zero))) = InvalidPtr
refusal_of (suc (suc (suc (suc zero)))) = BadLayout
refusal_of (suc (suc (suc (suc (suc zero))))) = NotSound
refusal_of (suc (suc (suc (suc (suc (suc n)))))) = BadTime

refusal_back : (n : Refusal) → refusal_of (refusal_number n) ≡ n
unfolding refusal_of
refusal_back NotWithinCapacity = refl
refusal_back FailedOrdRequirement = refl
refusal_back InvalidPtr = refl
refusal_back BadLayout = refl
refusal_back NotSound = refl
refusal_back BadTime = refl

-- document 01's numbers tell the refusals apart
pub refusal_one : (m n : Refusal) → refusal_number m ≡ refusal_number n → m ≡ n
refusal_one m n e = sym (refusal_back m) ∙ ap refusal_of e ∙ refusal_back n

handle-one : (h g : Handle) → plain h ≡ plain g → h ≡ g
handle-one h g e = λ i. record { slot = record { 0 = (e i).slot }; generation = record { 0 = (e i).generation } }

apart : {A : Type 0} → ◌≡◌ {A = ℕ} 0 1 → A
apart z = absurd (omega arith)

pub laid_one : (a b : Result ⊤ Refusal) → laid_means a ≡ laid_means b → a ≡ b
laid_one (Ok u) (Ok v) e = refl
laid_one (Ok u) (Err n) e = apart cc
laid_one (Err m) (Ok u) e = apart cc
laid_one (Err m) (Err n) e = ap Err (refusal_one m n cc)

pub inserted-one : (a b : Result I.Inserted Refusal) → inserted_means a ≡ inserted_means b → a ≡ b
inserted-one (Ok (I.TheVariants.New h)) (Ok (I.TheVariants.New g)) e = ap (λ z. Ok (I.TheVariants.New z)) (handle-one h g cc)
inserted-one (Ok (I.TheVariants.New h)) (Ok (I.TheVariants.Replacing g v)) e = apart cc
inserted-one (Ok (I.TheVariants.New h)) (Err n) e = apart cc
inserted-one (Ok (I.TheVariants.Replacing h u)) (Ok (I.TheVariants.New g)) e = apart cc
inserted-one (Ok (I.TheVariants.Replacing h u)) (Ok (I.TheVariants.Replacing g v)) e = let p : h ≡ g = handle-one h g cc in let r : u ≡ v = cc in rw (p, r)
inserted-one (Ok (I.TheVariants.Replacing h u)) (Err n) e = apart cc
inserted-one (Err m) (Ok (I.TheVariants.New g)) e = apart cc
inserted-one (Err m) (Ok (I.TheVariants.Replacing g v)) e = apart cc
inserted-one (Err m) (Err n) e = ap Err (refusal_one m n cc)

pub ahead-one : (a b : Result A.Ahead Refusal) → ahead_means a ≡ ahead_means b → a ≡ b
ahead-one (Ok (A.TheVariants.New h)) (Ok (A.TheVariants.New g)) e = ap (λ z. Ok (A.TheVariants.New z)) (handle-one h g cc)
ahead-one (Ok (A.TheVariants.New h)) (Ok (A.TheVariants.Replacing g)) e = apart cc
ahead-one (Ok (A.TheVariants.New h)) (Err n) e = apart cc
ahead-one (Ok (A.TheVariants.Replacing h)) (Ok (A.TheVariants.New g)) e = apart cc
ahead-one (Ok (A.TheVariants.Replacing h)) (Ok (A.TheVariants.Replacing g)) e = ap (λ z. Ok (A.TheVariants.Replacing z)) (handle-one h g cc)
ahead-one (Ok (A.TheVariants.Replacing h)) (Err n) e = apart cc
ahead-one (Err m) (Ok (A.TheVariants.New g)) e = apart cc
ahead-one (Err m) (Ok (A.TheVariants.Replacing g)) e = apart cc
ahead-one (Err m) (Err n) e = ap Err (refusal_one m n cc)

-- an entry whose key is one of 64 bits, as every key that code holds is
abbrev pub Fits : Entry → Type 0
Fits x = SFits w64 x.key.0

entry-one : (x y : Entry) → Fits x → Fits y → stored x.key.0 ≡ stored y.key.0 → x.value ≡ y.value → x ≡ y
entry-one x y f g e v =
    let k = sym (stored_undone x.key.0 f) ∙ ap signed e ∙ stored_undone y.key.0 g in
    λ i. record { key = record { 0 = k i }; value = v i }

abbrev pub FitsRemoved : Result X.Removed Refusal → Type 0
FitsRemoved (Ok (X.TheVariants.Entry x)) = Fits x
FitsRemoved (Ok (X.TheVariants.GenerationOverflow x)) = Fits x
FitsRemoved (Err n) = Unit {0}

pub removed-one : (a b : Result X.Removed Refusal) → FitsRemoved a → FitsRemoved b → removed_means a ≡ removed_means b → a ≡ b
removed-one (Ok (X.TheVariants.Entry x)) (Ok (X.TheVariants.Entry y)) f g e =
    let k : stored x.key.0 ≡ stored y.key.0 = cc in
    let v : x.value ≡ y.value = cc in
    ap (λ z. Ok (X.TheVariants.Entry z)) (entry-one x y f g k v)
removed-one (Ok (X.TheVariants.Entry x)) (Ok (X.TheVariants.GenerationOverflow y)) f g e = apart cc
removed-one (Ok (X.TheVariants.Entry x)) (Err n) f g e = apart cc
removed-one (Ok (X.TheVariants.GenerationOverflow x)) (Ok (X.TheVariants.Entry y)) f g e = apart cc
removed-one (Ok (X.TheVariants.GenerationOverflow x)) (Ok (X.TheVariants.GenerationOverflow y)) f g e =
    let k : stored x.key.0 ≡ stored y.key.0 = cc in
    let v : x.value ≡ y.value = cc in
    ap (λ z. Ok (X.TheVariants.GenerationOverflow z)) (entry-one x y f g k v)
removed-one (Ok (X.TheVariants.GenerationOverflow x)) (Err n) f g e = apart cc
removed-one (Err m) (Ok (X.TheVariants.Entry y)) f g e = apart cc
removed-one (Err m) (Ok (X.TheVariants.GenerationOverflow y)) f g e = apart cc
removed-one (Err m) (Err n) f g e = ap Err (refusal_one m n cc)

abbrev pub FitsRead : Result Entry Refusal → Type 0
FitsRead (Ok x) = Fits x
FitsRead (Err n) = Unit {0}

pub read_one : (a b : Result Entry Refusal) → FitsRead a → FitsRead b → read_means a ≡ read_means b → a ≡ b
read_one (Ok x) (Ok y) f g e =
    let k : stored x.key.0 ≡ stored y.key.0 = cc in
    let v : x.value ≡ y.value = cc in
    ap Ok (entry-one x y f g k v)
read_one (Ok x) (Err n) f g e = apart cc
read_one (Err m) (Ok y) f g e = apart cc
read_one (Err m) (Err n) f g e = ap Err (refusal_one m n cc)

side-one : (c d : Side) → side_means c ≡ side_means d → c ≡ d
side-one Less Less e = refl
side-one Less Equal e = apart cc
side-one Less Greater e = apart cc
side-one Equal Less e = apart cc
side-one Equal Equal e = refl
side-one Equal Greater e = apart cc
side-one Greater Less e = apart cc
side-one Greater Equal e = apart cc
side-one Greater Greater e = refl

pub searched-one : (a b : Result S.Searched Refusal) → search_means a ≡ search_means b → a ≡ b
searched-one (Ok (S.TheVariants.Equal h m)) (Ok (S.TheVariants.Equal g n)) e = let p : h ≡ g = handle-one h g cc in let r : m ≡ n = cc in rw (p, r)
searched-one (Ok (S.TheVariants.Equal h m)) (Ok (S.TheVariants.Beside g d n)) e = apart cc
searched-one (Ok (S.TheVariants.Equal h m)) (Ok (S.TheVariants.Empty n)) e = apart cc
searched-one (Ok (S.TheVariants.Equal h m)) (Err n) e = apart cc
searched-one (Ok (S.TheVariants.Beside h c m)) (Ok (S.TheVariants.Equal g n)) e = apart cc
searched-one (Ok (S.TheVariants.Beside h c m)) (Ok (S.TheVariants.Beside g d n)) e =
    let p : h ≡ g = handle-one h g cc in
    let o : c ≡ d = side-one c d cc in
    let r : m ≡ n = cc in
    rw (p, o, r)
searched-one (Ok (S.TheVariants.Beside h c m)) (Ok (S.TheVariants.Empty n)) e = apart cc
searched-one (Ok (S.TheVariants.Beside h c m)) (Err n) e = apart cc
searched-one (Ok (S.TheVariants.Empty m)) (Ok (S.TheVariants.Equal g n)) e = apart cc
searched-one (Ok (S.TheVariants.Empty m)) (Ok (S.TheVariants.Beside g d n)) e = apart cc
searched-one (Ok (S.TheVariants.Empty m)) (Ok (S.TheVariants.Empty n)) e = let p : m ≡ n = cc in ap (λ z. Ok (S.TheVariants.Empty z)) p
searched-one (Ok (S.TheVariants.Empty m)) (Err n) e = apart cc
searched-one (Err m) (Ok (S.TheVariants.Equal g n)) e = apart cc
searched-one (Err m) (Ok (S.TheVariants.Beside g d n)) e = apart cc
searched-one (Err m) (Ok (S.TheVariants.Empty n)) e = apart cc
searched-one (Err m) (Err n) e = ap Err (refusal_one m n cc)

cursor_one : (c d : Cursor) → plain c.handle ≡ plain d.handle → c ≡ d
cursor_one c d e = let h = handle-one c.handle d.handle e in λ i. record { handle = h i }

pub moved-one : (a b : Result (Option Cursor) Refusal) → moved_means a ≡ moved_means b → a ≡ b
moved-one (Ok (Some c)) (Ok (Some d)) e = ap (λ z. Ok (Some z)) (cursor_one c d cc)
moved-one (Ok (Some c)) (Ok None) e = apart cc
moved-one (Ok (Some c)) (Err n) e = apart cc
moved-one (Ok None) (Ok (Some d)) e = apart cc
moved-one (Ok None) (Ok None) e = refl
moved-one (Ok None) (Err n) e = apart cc
moved-one (Err m) (Ok (Some d)) e = apart cc
moved-one (Err m) (Ok None) e = apart cc
moved-one (Err m) (Err n) e = ap Err (refusal_one m n cc)
