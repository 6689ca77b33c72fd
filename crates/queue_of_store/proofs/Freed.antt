-- A slot given back: blank, on the free stack with its generation raised, or retired at the top generation.
-- A reader may rely on: free-again and free-last are the two answers of crate `arena`; push_first and retire are their words.
use Prim.Native.Nat.{ℕ, suc, ◌+◌, ◌≤◌, ◌<◌}
use mathlib.Core.Path.{◌≡◌, refl, ◌∙◌}
use mathlib.Core.List.{List, ◌∷◌}
use native.Mathlib.Omega.{arith}
use borrow.Author.Tests.{lt-ltb, le-ltb}
use lib.Dec.{lit<}
use lib.ListN.{length}
use Rattle.handle.specs.Numbers.{no_slot}
use Rattle.arena.specs.Words.{Long, field, put, head, KEY, LEFT, RIGHT, RANK, BACK, PREV, NEXT, GENERATION, VALUE, STACK, TOP, HEIGHT}
use Rattle.arena.specs.inner.Laying.{unlinked, blank_of}
use Rattle.arena.specs.inner.Only.{Only, IsHeight}
use Rattle.arena.specs.inner.Slots.{pushed, free_with, free_slot}
use Rattle.arena.proofs.WordLaws.{lit≢, length_put, field_at, field-same, field_off, head-same, field-put_head}
use Rattle.arena.proofs.Only.{only-pushed}
use Rattle.wavl.specs.Lists.{All, In}
use Rattle.rules.specs.Queue.{Handle, handle}
use Rattle.rules.specs.Sound.{free_slots, Under}
use Rattle.queue_of_store.specs.Free.{Blank, FreeAt, FreeStack, Retired}
use Rattle.queue_of_store.proofs.Groups.{free-words_stay}
use Rattle.arena.specs.declared.slots.Freed as F
use Rattle.std.specs.Prelude.{Ok}

-- a slot without an entry
module _ (s : List ℕ) (cap i b : ℕ) (hi : i < cap) where
  pub length_blank : length (blank_of s cap i b) ≡ length s
  unfolding blank_of unlinked
  length_blank = simp length_put

  pub blank-new : Long s cap → Blank (blank_of s cap i b) cap i b
  unfolding blank_of unlinked
  blank-new room = record {
    key-is = simp (field_at cap (length s) room, field_off, lit<, lit≢, tt {0});
    left_is = simp (field_at cap (length s) room, field_off, length_put, lit<, lit≢, tt {0});
    right_is = simp (field_at cap (length s) room, field_off, length_put, lit<, lit≢, tt {0});
    rank_is = simp (field_at cap (length s) room, field_off, length_put, lit<, lit≢, tt {0});
    back_is = simp (field_at cap (length s) room, field_off, length_put, lit<, lit≢, tt {0});
    prev-is = simp (field_at cap (length s) room, field_off, length_put, lit<, lit≢, tt {0});
    next-is = simp (field_at cap (length s) room, length_put, lit<, tt {0});
    value-is = simp (field_at cap (length s) room, field_off, length_put, lit<, lit≢, tt {0});
  }

-- "Removal raises it by one and frees the slot."
module _ (s : List ℕ) (cap i h top g : ℕ) (eh : head s HEIGHT ≡ h) (et : head s TOP ≡ top) (eg : field s cap i GENERATION ≡ g) where
  pub free-again : g < top → h < cap → free_slot s cap i ≡ (pushed s cap i h g, (Ok F.TheVariants.Again))
  unfolding free_slot free_with
  free-again l m = rw (eh, et, eg, lt-ltb g top l, lt-ltb h cap m)

  -- "At the top generation .. the slot is retired for good."
  pub free-last : top ≤ g → free_slot s cap i ≡ (blank_of s cap i no_slot, (Ok F.TheVariants.GenerationOverflow))
  unfolding free_slot free_with
  free-last l = rw (eh, et, eg, le-ltb g top l)

pub retire : (s : List ℕ) (cap i top : ℕ) → i < cap → Long s cap → field s cap i GENERATION ≡ top → Retired (blank_of s cap i no_slot) cap top i
unfolding blank_of unlinked
retire s cap i top hi room e = record { blank = blank-new s cap i no_slot hi room; generation-is = simp (field_off, lit<, lit≢, tt {0}) e }

-- the slot i, and the place h of the stack
abbrev pub PushedAt : ℕ → ℕ → ℕ → ℕ → Type 0
PushedAt i h j g = (g < STACK → j ≡ i) × (g ≡ STACK → j ≡ h)

module _ (s : List ℕ) (cap i h g : ℕ) (hi : i < cap) (hh : h < cap) where
  abbrev pa : List ℕ
  pa = blank_of s cap i h

  abbrev pb : List ℕ
  pb = put pa cap i GENERATION (g + 1)

  abbrev pc : List ℕ
  pc = put pb cap h STACK i

  room-pb : Long s cap → Long pb cap
  room-pb room = rw (length_put pa cap i GENERATION (g + 1), length_blank s cap i h hi) room

  -- a field of i other than STACK, behind the last two writes
  own-field : (f : ℕ) → f < STACK → field (pushed s cap i h g) cap i f ≡ field pb cap i f
  unfolding pushed
  own-field f l = field-put_head pc HEIGHT (h + 1) (lit< tt) cap i f hi (omega arith) ∙ field_off pb cap h STACK i hh (lit< tt) i f hi (omega arith) (λ e. omega arith)

  blank-field : (f : ℕ) → f < STACK → ¬ (f ≡ GENERATION) → field (pushed s cap i h g) cap i f ≡ field pa cap i f
  blank-field f l n = own-field f l ∙ field_off pa cap i GENERATION (g + 1) hi (lit< tt) i f hi (omega arith) n

  pushed_at : Long s cap → FreeAt (pushed s cap i h g) cap (handle i (suc g)) h
  unfolding pushed
  pushed_at room =
      let b = blank-new s cap i h hi room in
      record {
        stack_is = field-put_head pc HEIGHT (h + 1) (lit< tt) cap h STACK hh (lit< tt) ∙ field-same pb cap h STACK i hh (lit< tt) (room-pb room);
        blank = record {
          key-is = blank-field KEY (lit< tt) (λ e. omega arith) ∙ b.key-is;
          left_is = blank-field LEFT (lit< tt) (λ e. omega arith) ∙ b.left_is;
          right_is = blank-field RIGHT (lit< tt) (λ e. omega arith) ∙ b.right_is;
          rank_is = blank-field RANK (lit< tt) (λ e. omega arith) ∙ b.rank_is;
          back_is = blank-field BACK (lit< tt) (λ e. omega arith) ∙ b.back_is;
          prev-is = blank-field PREV (lit< tt) (λ e. omega arith) ∙ b.prev-is;
          next-is = blank-field NEXT (lit< tt) (λ e. omega arith) ∙ b.next-is;
          value-is = blank-field VALUE (lit< tt) (λ e. omega arith) ∙ b.value-is;
        };
        generation-is = own-field GENERATION (lit< tt) ∙ field-same pa cap i GENERATION (g + 1) hi (lit< tt) (rw (length_blank s cap i h hi) room) ∙ omega arith;
      }

-- "the slot freed last is taken first"
pub push_first : (s : List ℕ) (cap i g : ℕ) (l : List Handle) → i < cap → Long s cap → length l < cap → All (Under cap) (free_slots l) → ¬ (In i (free_slots l))
    → FreeStack s cap l → FreeStack (pushed s cap i (length l) g) cap (handle i (suc g) ∷ l)
unfolding pushed
push_first s cap i g l hi room few low new w =
    let h = length l in
    let t = pushed s cap i h g in
    let o : Only s t cap (PushedAt i h) IsHeight = only-pushed s i h g hi few (λ f z. (λ y. refl, λ y. omega arith)) (λ y. omega arith, λ y. refl) refl in
    record {
      height = head-same (pc s cap i h g hi few) HEIGHT (h + 1) (lit< tt) (let e = length_put (pb s cap i h g hi few) cap h STACK i in let z = room-pb s cap i h g hi few room in omega arith) ∙ omega arith;
      stacked = (pushed_at s cap i h g hi few room, free-words_stay s t cap (PushedAt i h) IsHeight o l (omega arith) low (λ p x z. let e = z.1 refl in omega arith) (λ j x f y z. new (rw (z.0 y) at x)) w.stacked);
      unused = λ p x y. o.slots p STACK y (lit< tt) (λ z. let e = z.1 refl in omega arith) ∙ w.unused p (omega arith) y;
    }
