-- What holds of every answer on any words: a refusal other than NotSound changes nothing, and the look-ahead tells the answer.
-- Document 01: "Each refusal returns its number alone and changes nothing"; the look-ahead tells what "the same insertion would get next".
-- A reader may rely on: refused-same, normal-told, empty-told and manual-told, ends in themselves. They hold on unsound stores too.
use Prim.Native.Nat.{ℕ}
use mathlib.Core.Path.{◌≡◌, refl, ap}
use Rattle.tree.proofs.Climb.{Plain}
use Rattle.raise.proofs.RaiseLeaves.{rebalanced-plain}
use mathlib.Core.List.{List}
use native.Mathlib.Omega.{arith}
use lib.IntN.{ℤ}
use Rattle.handle.specs.declared.Handle.{Handle}
use Rattle.handle.specs.declared.Side.{Side}
use Rattle.handle.specs.declared.Refusal.{Refusal}
use Rattle.handle.specs.declared.Refusal as R
use Rattle.arena.specs.Keys.{stored}
use Rattle.arena.specs.inner.Slots.{peek_slot, taken_as, take_slot}
use Rattle.insert.specs.inner.Ahead.{new_as, next_new, looked_ahead, ahead_normal, ahead_empty, ahead_manual}
use Rattle.insert.specs.inner.Kinds.{prepared_normal, prepared_empty, prepared_manual}
use Rattle.insert.specs.inner.Place.{alone_as, placed_alone, hung, hung_below, hung_as, beside_as, placed_beside, value_replaced, applied, normal_inserted, empty_inserted, manual_inserted, as_ahead}
use Rattle.insert.specs.declared.kinds.Prepared.{Prepared}
use Rattle.insert.specs.declared.kinds.Prepared.TheVariants.{Alone, Beside, Replace}
use Rattle.handle.specs.declared.Inserted.{Inserted}
use Rattle.handle.specs.declared.Inserted.TheVariants.{New, Replacing}
use Rattle.std.specs.Prelude.{Result, Ok, Err, ⊤}

-- the refusal 5, which an insertion may give after it has written
abbrev pub Unsound : Result Inserted Refusal → Type 0
Unsound a = a ≡ Err R.TheVariants.NotSound

new-no : {A : Type 0} (h : Handle) (r : Refusal) → ◌≡◌ {A = Result Inserted Refusal} (Ok (New h)) (Err r) → A
new-no h r e = let z : ◌≡◌ {A = ℕ} 0 1 = cc in absurd (omega arith)

old-no : {A : Type 0} (h : Handle) (v : ℕ) (r : Refusal) → ◌≡◌ {A = Result Inserted Refusal} (Ok (Replacing h v)) (Err r) → A
old-no h v r e = let z : ◌≡◌ {A = ℕ} 0 1 = cc in absurd (omega arith)

below-plain : (s : List ℕ) (cap i p d : ℕ) (key : ℤ) (value : ℕ) → Plain (hung_below s cap i p d key value).1
unfolding hung_below
below-plain s cap i p d key value = (rebalanced-plain (hung s cap i p d key value) cap i p).plain

module _ (s : List ℕ) (cap : ℕ) (key : ℤ) (value : ℕ) (r : Refusal) (sound : r ≡ R.TheVariants.NotSound → ⊥) where
  -- by the slot that was found
  alone_same : (q : Result Handle Refusal) → let x = taken_as s cap q in (alone_as cap key value x.0 x.1).1 ≡ Err r → (alone_as cap key value x.0 x.1).0 ≡ s
  alone_same (Ok h) e = new-no h r e
  alone_same (Err n) e = refl

  hung-same : (h : Handle) (t : List ℕ) (b : Result ⊤ Refusal) → Plain b → (hung_as h t b).1 ≡ Err r → (hung_as h t b).0 ≡ s
  hung-same h t (Ok u) i e = new-no h r e
  hung-same h t (Err n) i e = absurd (sound (cc))

  beside_same : (p d : ℕ) (q : Result Handle Refusal) → let x = taken_as s cap q in (beside_as cap p d key value x.0 x.1).1 ≡ Err r → (beside_as cap p d key value x.0 x.1).0 ≡ s
  beside_same p d (Ok h) e =
      let t = (taken_as s cap (Ok h)).0 in
      let y = hung_below t cap h.slot.0 p d key value in
      hung-same h y.0 y.1 (below-plain _ _ _ _ _ _ _) e
  beside_same p d (Err n) e = refl

  pub refused-same : (p : Result Prepared Refusal) → (applied s cap p key value).1 ≡ Err r → (applied s cap p key value).0 ≡ s
  unfolding placed_alone placed_beside take_slot value_replaced
  refused-same (Ok Alone) e = alone_same (peek_slot s cap) e
  refused-same (Ok (Beside p d)) e = beside_same p d (peek_slot s cap) e
  refused-same (Ok (Replace p)) e = old-no _ _ r e
  refused-same (Err n) e = refl

module _ (s : List ℕ) (cap : ℕ) (key : ℤ) (value : ℕ) where
  alone_told : (q : Result Handle Refusal) → let x = taken_as s cap q in new_as q ≡ as_ahead (alone_as cap key value x.0 x.1).1
  alone_told (Ok h) = refl
  alone_told (Err n) = refl

  hung-told : (h : Handle) (t : List ℕ) (b : Result ⊤ Refusal) → Plain b → (Unsound (hung_as h t b).1 → ⊥) → new_as (Ok h) ≡ as_ahead (hung_as h t b).1
  hung-told h t (Ok u) i n = refl
  hung-told h t (Err m) i n = absurd (n (ap Err i))

  beside-told : (p d : ℕ) (q : Result Handle Refusal) → let x = taken_as s cap q in (Unsound (beside_as cap p d key value x.0 x.1).1 → ⊥)
      → new_as q ≡ as_ahead (beside_as cap p d key value x.0 x.1).1
  beside-told p d (Ok h) n =
      let t = (taken_as s cap (Ok h)).0 in
      let y = hung_below t cap h.slot.0 p d key value in
      hung-told h y.0 y.1 (below-plain _ _ _ _ _ _ _) n
  beside-told p d (Err m) n = refl

  -- where the insertion doesn't find the store unsound, the look-ahead told its answer
  pub ahead-told : (p : Result Prepared Refusal) → (Unsound (applied s cap p key value).1 → ⊥) → looked_ahead s cap p ≡ as_ahead (applied s cap p key value).1
  unfolding next_new placed_alone placed_beside take_slot value_replaced
  ahead-told (Ok Alone) n = alone_told (peek_slot s cap)
  ahead-told (Ok (Beside p d)) n = beside-told p d (peek_slot s cap) n
  ahead-told (Ok (Replace p)) n = refl
  ahead-told (Err m) n = refl

  pub normal-told : (Unsound (normal_inserted s cap key value).1 → ⊥) → ahead_normal s cap key ≡ as_ahead (normal_inserted s cap key value).1
  unfolding ahead_normal normal_inserted
  normal-told n = ahead-told (prepared_normal s cap (stored key)) n

  pub empty-told : (Unsound (empty_inserted s cap key value).1 → ⊥) → ahead_empty s cap ≡ as_ahead (empty_inserted s cap key value).1
  unfolding ahead_empty empty_inserted
  empty-told n = ahead-told (prepared_empty s) n

  pub manual-told : (h : Handle) (side : Side) → (Unsound (manual_inserted s cap h side key value).1 → ⊥)
      → ahead_manual s cap h side key ≡ as_ahead (manual_inserted s cap h side key value).1
  unfolding ahead_manual manual_inserted
  manual-told h side n = ahead-told (prepared_manual s cap h side (stored key)) n
