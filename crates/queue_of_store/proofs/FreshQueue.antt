-- A laid out store holds the fresh queue.
-- A reader may rely on: with laid-is of crate `arena`, laying out gives a store that holds `fresh`.
use Prim.Native.Nat.{ℕ, zero, suc, ◌+◌, ◌-◌, ◌≤◌, ◌<◌}
use mathlib.Core.Path.{◌≡◌, refl, sym, ap, ◌∙◌}
use mathlib.Core.Logic.{inl, inr}
use mathlib.Core.List.{List}
use native.Mathlib.Decide.{ℕ_discrete}
use native.Mathlib.Omega.{arith}
use lib.Dec.{lit<}
use lib.ListN.{length, get_or}
use Rattle.arena.specs.Words.{fields, field, KEY, LEFT, RIGHT, RANK, BACK, PREV, NEXT, GENERATION, VALUE, STACK, CAPACITY, TOP, HEIGHT, FIRST, LAST, ROOT}
use Rattle.arena.specs.Laying.{GoodLayout, Fresh, header_words, slot_words}
use Rattle.wavl.specs.Lists.{In}
use Rattle.wavl.specs.Entry.{slots}
use Rattle.wavl.specs.Tree.{inorder}
use Rattle.rules.specs.Queue.{fresh_from, fresh}
use Rattle.handle.specs.Numbers.{InRange, limit}
use Rattle.handle.proofs.Limits.{limit-fits}
use Rattle.rules.specs.Sound.{free_slots}
use Rattle.rules.proofs.Kept.{fresh-sound}
use Rattle.queue_of_store.specs.Free.{Blank, FreeWords}
use Rattle.queue_of_store.specs.Holds.{Holds, Unused}
use Rattle.queue_of_store.proofs.Parts.{holds_of}

length_from : (i n : ℕ) → length (fresh_from i n) ≡ n
unfolding fresh_from
length_from i zero = refl
length_from i (suc n) = ap suc (length_from (suc i) n)

-- every slot is free
in_fresh : (j i n : ℕ) → i ≤ j → j < i + n → In j (free_slots (fresh_from i n))
unfolding fresh_from free_slots
in_fresh j i zero l h = absurd (omega arith)
in_fresh j i (suc n) l h = go (ℕ_discrete j i) (λ e. in_fresh j (suc i) n (omega arith) (omega arith))
  where
    go : Dec (j ≡ i) → (¬ (j ≡ i) → In j (free_slots (fresh_from (suc i) n))) → In j (free_slots (fresh_from i (suc n)))
    go (yes e) rest = inl e
    go (no e) rest = inr (rest e)

-- behind ROOT a fresh header holds 0
past : (cap top h : ℕ) → ROOT < h → get_or (header_words cap top) h 0 ≡ 0
past cap top zero l = absurd (omega arith)
past cap top (suc zero) l = absurd (omega arith)
past cap top (suc (suc zero)) l = absurd (omega arith)
past cap top (suc (suc (suc zero))) l = absurd (omega arith)
past cap top (suc (suc (suc (suc zero)))) l = absurd (omega arith)
past cap top (suc (suc (suc (suc (suc zero))))) l = absurd (omega arith)
past cap top (suc (suc (suc (suc (suc (suc h)))))) l = refl

module _ (s t : List ℕ) (cap top : ℕ) (f : Fresh s t cap top) where
  -- a word by its number; the two lists of words compute
  word : (i g : ℕ) → i < cap → g < fields → field t cap i g ≡ get_or (slot_words cap i) g 0
  word i g h k = f.slots i g h k

  blank-fresh : (i p : ℕ) → i < cap → p ≡ cap - 1 - i → Blank t cap i p
  blank-fresh i p h e = record {
    key-is = word i KEY h (lit< tt);
    left_is = word i LEFT h (lit< tt);
    right_is = word i RIGHT h (lit< tt);
    rank_is = word i RANK h (lit< tt);
    back_is = word i BACK h (lit< tt) ∙ sym e;
    prev-is = word i PREV h (lit< tt);
    next-is = word i NEXT h (lit< tt);
    value-is = word i VALUE h (lit< tt);
  }

  free-fresh : (i n : ℕ) → i + n ≡ cap → FreeWords t cap (fresh_from i n)
  unfolding fresh_from
  free-fresh i zero e = tt
  free-fresh i (suc n) e =
      let h : i < cap = omega arith in
      let l : n < cap = omega arith in
      let p : cap - 1 - n ≡ i = omega arith in
      let b : n ≡ cap - 1 - i = omega arith in (
        rw (length_from (suc i) n) (record {
          stack_is = word n STACK l (lit< tt) ∙ p;
          blank = blank-fresh i n h b;
          generation-is = word i GENERATION h (lit< tt);
        }),
        free-fresh (suc i) n (omega arith),
      )

  unused-fresh : Unused t
  unused-fresh h l m = f.heads h m ∙ past cap top h l

  pub fresh_holds : GoodLayout (length s) cap top → Holds t (fresh cap top)
  unfolding fresh inorder slots
  fresh_holds g =
      let r : InRange cap top = g.range in
      let to : cap ≤ limit = r.capacity-to in
      let fits = limit-fits in
      holds_of (fresh-sound cap top r) (record {
        header = record {
          passes = record { capacity = f.heads CAPACITY (lit< tt); some = r.capacity-from; few = to; room = (rw f.long g.room, omega arith) };
          top-is = f.heads TOP (lit< tt);
        };
        tree = record { root = f.heads ROOT (lit< tt); links = tt };
        chain = record { first-is = f.heads FIRST (lit< tt); last-is = f.heads LAST (lit< tt); chain = tt };
        live = tt;
        free = record {
          height = f.heads HEIGHT (lit< tt) ∙ sym (length_from 0 cap);
          stacked = free-fresh 0 cap (omega arith);
          unused = λ p l m. absurd (let e = length_from 0 cap in omega arith);
        };
        retired = λ i l n. absurd (n (in_fresh i 0 cap (omega arith) (omega arith)));
        unused = unused-fresh;
      })
