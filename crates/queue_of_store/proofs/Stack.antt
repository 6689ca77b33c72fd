-- Taking a slot from the free stack and giving one back, on a store whose stack holds a free list.
-- A reader may rely on: the answers of crate `arena` are the list's first handle, and the note by the generation; what is written
-- is told by Only, so that the other groups stay.
use Prim.Native.Nat.{ℕ, suc, ◌-◌, ◌≤◌, ◌<◌}
use mathlib.Core.Path.{◌≡◌, refl, ◌∙◌}
use mathlib.Core.List.{List, [], ◌∷◌}
use native.Mathlib.Decide.{ℕ_discrete}
use native.Mathlib.Omega.{arith}
use borrow.Author.Tests.{le-ltb, lt-leb}
use lib.Dec.{lit<}
use lib.ListN.{length}
use Rattle.handle.specs.Numbers.{no_slot}
use Rattle.arena.specs.Words.{Long, field, put, STACK, HEIGHT}
use Rattle.arena.specs.inner.Only.{Only, IsHeight}
use Rattle.arena.specs.inner.Slots.{handle_with, found_at, peek_from, peek_slot, popped, take_slot}
use Rattle.arena.proofs.WordLaws.{length_put, field-same, head-same, field-put_head}
use Rattle.arena.proofs.Only.{only-popped}
use Rattle.wavl.specs.Lists.{All}
use Rattle.rules.specs.Queue.{Handle}
use Rattle.rules.specs.Sound.{free_slots, Under}
use Rattle.queue_of_store.specs.Free.{FreeStack}
use Rattle.queue_of_store.proofs.Groups.{free-words_stay}
use Rattle.std.specs.Prelude.{Ok, Err}
use Rattle.handle.specs.declared.Refusal.TheVariants.{NotWithinCapacity}

-- "no slot is free"
pub peek_none : (s : List ℕ) (cap : ℕ) → FreeStack s cap [] → peek_slot s cap ≡ Err NotWithinCapacity
unfolding peek_slot peek_from
peek_none s cap w = rw w.height

module _ (s : List ℕ) (cap : ℕ) (h : Handle) (l : List Handle) (few : suc (length l) ≤ cap) (low : h.slot < cap) (w : FreeStack s cap (h ∷ l)) where
  -- the list's first handle
  pub peek_first : peek_slot s cap ≡ Ok (handle_with h.slot h.generation)
  unfolding peek_slot peek_from found_at
  peek_first =
      let a : 1 ≤ suc (length l) = omega arith in
      let m : suc (length l) - 1 ≡ length l = omega arith in
      let i : field s cap (length l) STACK ≡ h.slot = w.stacked.0.stack_is in
      rw (w.height, le-ltb (suc (length l)) 1 a, le-ltb cap (suc (length l)) few, m, i, lt-leb cap h.slot low, w.stacked.0.generation-is)

  pub take-first : take_slot s cap ≡ (popped s cap (length l), Ok (handle_with h.slot h.generation))
  unfolding take_slot
  take-first = let m : suc (length l) - 1 ≡ length l = omega arith in rw (peek_first, w.height, m)

-- the place p of the stack
abbrev pub PlaceOf : ℕ → ℕ → ℕ → Type 0
PlaceOf p j g = (j ≡ p) × (g ≡ STACK)

-- the rest of the list, after its first handle is taken
pub pop_rest : (s : List ℕ) (cap : ℕ) (h : Handle) (l : List Handle) → Long s cap → suc (length l) ≤ cap → All (Under cap) (free_slots l)
    → FreeStack s cap (h ∷ l) → FreeStack (popped s cap (length l)) cap l
unfolding popped
pop_rest s cap h l room few low w =
    record {
      height = head-same (put s cap p STACK no_slot) HEIGHT p (lit< tt) (let e = length_put s cap p STACK no_slot in omega arith);
      stacked = free-words_stay s (popped s cap p) cap (PlaceOf p) IsHeight o l (omega arith) low (λ j x e. let z = e.0 in omega arith) (λ j x g y e. let z = e.1 in omega arith) w.stacked.1;
      unused = λ j x y. go j x y (ℕ_discrete j p);
    }
  where
    p : ℕ
    p = length l

    o : Only s (popped s cap p) cap (PlaceOf p) IsHeight
    o = only-popped s p few (refl, refl) refl

    go : (j : ℕ) → length l ≤ j → j < cap → Dec (j ≡ p) → field (popped s cap p) cap j STACK ≡ no_slot
    go j x y (yes e) =
        field-put_head (put s cap p STACK no_slot) HEIGHT p (lit< tt) cap j STACK y (lit< tt) ∙ rw e (field-same s cap p STACK no_slot few (lit< tt) room)
    go j x y (no e) = o.slots j STACK y (lit< tt) (λ z. e z.0) ∙ w.unused j (omega arith) y
