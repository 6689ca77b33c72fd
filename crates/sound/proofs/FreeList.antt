-- The free list that the stack of the words holds, of any height: its words, its slots below the capacity and apart.
-- A reader may rely on: a slot names its place, so that no slot stands twice.
use Prim.Native.Nat.{ℕ, zero, suc, ◌≤◌, ◌<◌}
use mathlib.Core.Path.{◌≡◌, refl, ap}
use mathlib.Core.Logic.{◌⊎◌, inl, inr}
use mathlib.Core.List.{List, [], ◌∷◌, ◌++◌}
use native.Mathlib.Decide.{ℕ_discrete}
use native.Mathlib.Omega.{arith}
use lib.ListN.{length}
use Rattle.handle.specs.Numbers.{no_slot}
use Rattle.arena.specs.Words.{field, RANK, BACK, GENERATION, STACK}
use Rattle.wavl.specs.Lists.{All, In, Differ, Once}
use Rattle.wavl.proofs.Lists.{all_both, all_of}
use Rattle.rules.specs.Queue.{Handle, handle}
use Rattle.rules.specs.Sound.{free_slots, Under, FreeGeneration}
use Rattle.queue_of_store.specs.Free.{Blank, FreeWords}
use Rattle.sound.proofs.SlotFacts.{AtRest, GoodPlace, Good}

-- the handles of the first n places, the topmost first
unfoldable pub free_list : List ℕ → ℕ → ℕ → List Handle
free_list s cap zero = []
free_list s cap (suc n) = handle (field s cap n STACK) (field s cap (field s cap n STACK) GENERATION) ∷ free_list s cap n

pub free_length : (s : List ℕ) (cap n : ℕ) → length (free_list s cap n) ≡ n
unfolding free_list
free_length s cap zero = refl
free_length s cap (suc n) = ap suc (free_length s cap n)

-- a place's slot is in the list
pub free_in : (s : List ℕ) (cap n p : ℕ) → p < n → In (field s cap p STACK) (free_slots (free_list s cap n))
unfolding free_list free_slots
free_in s cap zero p l = absurd (omega arith)
free_in s cap (suc n) p l = go (ℕ_discrete p n) (free_in s cap n p)
  where
    go : Dec (p ≡ n) → (p < n → In (field s cap p STACK) (free_slots (free_list s cap n)))
        → (field s cap p STACK ≡ field s cap n STACK) ⊎ In (field s cap p STACK) (free_slots (free_list s cap n))
    go (yes e) k = inl (rw e)
    go (no e) k = inr (k (omega arith))

-- two lists of numbers apart from each other
pub once-both : (a b : List ℕ) → Once a → Once b → ((j : ℕ) → In j a → ¬ (In j b)) → Once (a ++ b)
once-both [] b o u f = u
once-both (i ∷ a) b o u f =
    (all_both (Differ i) a b o.0 (all_of (Differ i) b (λ j h e. f i (inl refl) (rw e h))), once-both a b o.1 u (λ j h. f j (inr h)))

module _ (s : List ℕ) (cap top h : ℕ) (few : cap ≤ no_slot) (high : h ≤ cap) (good : (i : ℕ) → i < cap → Good s cap top h i) where
  -- the slot at the place n, below the height
  module _ (n : ℕ) (l : n < h) where
    abbrev slot : ℕ
    slot = field s cap n STACK

    place : GoodPlace s cap h n
    place = (good n (omega arith)).place

    rest : AtRest s cap top h slot
    rest = (good slot (place.low l)).slot.rest (place.rest l)

    names : ¬ (field s cap slot BACK ≡ no_slot)
    names e = let f = place.back_is l in omega arith

    blank : Blank s cap slot n
    blank = rw (place.back_is l) at rest.blank

  pub free-words : (n : ℕ) → n ≤ h → FreeWords s cap (free_list s cap n)
  unfolding free_list
  free-words zero l = tt
  free-words (suc n) l = (
    record {
      stack_is = ap (λ k. field s cap k STACK) (free_length s cap n);
      blank = rw (free_length s cap n) (blank n l);
      generation-is = refl;
    },
    free-words n (omega arith),
  )

  pub free-low : (n : ℕ) → n ≤ h → All (Under cap) (free_slots (free_list s cap n))
  unfolding free_list free_slots
  free-low zero l = tt
  free-low (suc n) l = ((place n l).low l, free-low n (omega arith))

  pub free-generations : (n : ℕ) → n ≤ h → All (FreeGeneration top) (free_list s cap n)
  unfolding free_list
  free-generations zero l = tt
  free-generations (suc n) l = ((rest n l).generation (names n l), free-generations n (omega arith))

  -- no slot of the list has a rank
  pub free-rank : (n : ℕ) → n ≤ h → (j : ℕ) → In j (free_slots (free_list s cap n)) → field s cap j RANK ≡ 0
  unfolding free_list free_slots
  free-rank zero l j x = absurd x
  free-rank (suc n) l j (inl e) = rw e ((place n l).rest l)
  free-rank (suc n) l j (inr x) = free-rank n (omega arith) j x

  -- slots at places below n name them, so the slot at n is another
  below : (n : ℕ) → n ≤ h → All (λ j. field s cap j BACK < n) (free_slots (free_list s cap n))
  unfolding free_list free_slots
  below zero l = tt
  below (suc n) l = (let e = (place n l).back_is l in omega arith, raise (free_slots (free_list s cap n)) (below n (omega arith)))
    where
      raise : (a : List ℕ) → All (λ j. field s cap j BACK < n) a → All (λ j. field s cap j BACK < suc n) a
      raise [] x = tt
      raise (i ∷ a) x = (let y : field s cap i BACK < n = x.0 in omega arith, raise a x.1)

  pub free-once : (n : ℕ) → n ≤ h → Once (free_slots (free_list s cap n))
  unfolding free_list free_slots
  free-once zero l = tt
  free-once (suc n) l = (differ (free_slots (free_list s cap n)) (below n (omega arith)), free-once n (omega arith))
    where
      differ : (a : List ℕ) → All (λ j. field s cap j BACK < n) a → All (Differ (field s cap n STACK)) a
      differ [] x = tt
      differ (i ∷ a) x = (
        λ e. let y : field s cap i BACK < n = x.0 in let z : field s cap i BACK ≡ n = rw (← e) ((place n l).back_is l) in absurd (omega arith),
        differ a x.1,
      )
