-- A part of the chain between two slots: split, kept, and joined to another slot at either end.
-- A reader may rely on: only PREV and NEXT of the part's own slots matter.
use Prim.Native.Nat.{ℕ, ◌≤◌, ◌<◌}
use mathlib.Core.Path.{◌≡◌, refl, sym, ◌∙◌}
use mathlib.Core.Logic.{inl, inr}
use mathlib.Core.List.{List, [], ◌∷◌, ◌++◌}
use native.Mathlib.Omega.{arith}
use Rattle.handle.specs.Numbers.{no_slot}
use Rattle.arena.specs.Words.{field, PREV, NEXT}
use Rattle.wavl.specs.Lists.{In, Once}
use Rattle.wavl.specs.Entry.{Entry, slots}
use Rattle.wavl.proofs.Lists.{all_in}
use Rattle.queue_of_store.specs.Ends.{first_slot, last_slot}
use Rattle.queue_of_store.specs.Chain.{LinkedBetween, Chain}
use Rattle.queue_of_store.proofs.Chains.{end_or}

-- the slot after what l follows: l's first, or n
abbrev pub first_or : ℕ → List Entry → ℕ
first_or n [] = n
first_or n (e ∷ l) = e.slot

-- the entries l stand in a row behind p and before n
abbrev pub Row : List ℕ → ℕ → ℕ → List Entry → ℕ → Type 0
Row s cap p [] n = Unit {0}
Row s cap p (e ∷ l) n = LinkedBetween s cap p e.slot (first_or n l) × Row s cap e.slot l n

pub first-none : (l : List Entry) → first_or no_slot l ≡ first_slot l
first-none [] = refl
first-none (e ∷ l) = refl

pub first_append : (l m : List Entry) (n : ℕ) → first_or n (l ++ m) ≡ first_or (first_or n m) l
first_append [] m n = refl
first_append (e ∷ l) m n = refl

pub last_append : (l : List Entry) (e : Entry) (m : List Entry) → last_slot (l ++ (e ∷ m)) ≡ last_slot (e ∷ m)
last_append [] e m = refl
last_append (f ∷ []) e m = refl
last_append (f ∷ (g ∷ l)) e m = last_append (g ∷ l) e m

pub last_in_slots : (e : Entry) (l : List Entry) → In (last_slot (e ∷ l)) (slots (e ∷ l))
unfolding slots
last_in_slots e [] = inl refl
last_in_slots e (f ∷ l) = inr (last_in_slots f l)

-- a link to a slot leads to one of the entries
pub last-live : (cap : ℕ) (l : List Entry) (j : ℕ) → cap ≤ no_slot → j < cap → j ≡ last_slot l → In j (slots l)
last-live cap [] j few low e = absurd (omega arith)
last-live cap (x ∷ l) j few low e = rw e (last_in_slots x l)

pub first_live : (cap : ℕ) (l : List Entry) (j : ℕ) → cap ≤ no_slot → j < cap → j ≡ first_slot l → In j (slots l)
unfolding slots
first_live cap [] j few low e = absurd (omega arith)
first_live cap (x ∷ l) j few low e = inl e

module _ (s : List ℕ) (cap : ℕ) where
  pub row_of : (l : List Entry) (p : ℕ) → Chain s cap p l → Row s cap p l no_slot
  row_of [] p c = tt
  row_of (e ∷ l) p c = (rw (first-none l) c.0, row_of l e.slot c.1)

  pub chain_of : (l : List Entry) (p : ℕ) → Row s cap p l no_slot → Chain s cap p l
  chain_of [] p c = tt
  chain_of (e ∷ l) p c = (rw (first-none l) at c.0, chain_of l e.slot c.1)

  pub row-left : (l m : List Entry) (p n : ℕ) → Row s cap p (l ++ m) n → Row s cap p l (first_or n m)
  row-left [] m p n c = tt
  row-left (e ∷ l) m p n c = (rw (first_append l m n) at c.0, row-left l m e.slot n c.1)

  pub row-right : (l m : List Entry) (p n : ℕ) → Row s cap p (l ++ m) n → Row s cap (end_or p l) m n
  row-right [] m p n c = c
  row-right (e ∷ l) m p n c = row-right l m e.slot n c.1

  pub row-both : (l m : List Entry) (p n : ℕ) → Row s cap p l (first_or n m) → Row s cap (end_or p l) m n → Row s cap p (l ++ m) n
  row-both [] m p n a b = b
  row-both (e ∷ l) m p n a b = (rw (first_append l m n) a.0, row-both l m e.slot n a.1 b)

-- both links of a slot are the same in both stores
pub record SameEnds (s t : List ℕ) (cap j : ℕ) : Type 0 where
  pub prev-same : field t cap j PREV ≡ field s cap j PREV
  pub next-same : field t cap j NEXT ≡ field s cap j NEXT

module _ (s t : List ℕ) (cap : ℕ) where
  pub row_keep : (l : List Entry) (p n : ℕ) → ((j : ℕ) → In j (slots l) → SameEnds s t cap j) → Row s cap p l n → Row t cap p l n
  unfolding slots
  row_keep [] p n k c = tt
  row_keep (e ∷ l) p n k c =
      let x = k e.slot (inl refl) in
      (record { prev-is = x.prev-same ∙ c.0.prev-is; next-is = x.next-same ∙ c.0.next-is }, row_keep l e.slot n (λ j h. k j (inr h)) c.1)

  -- another slot after the part: its last's NEXT alone is another
  pub row_next : (l : List Entry) (p n new : ℕ) → Once (slots l) → ((j : ℕ) → In j (slots l) → field t cap j PREV ≡ field s cap j PREV)
      → ((j : ℕ) → In j (slots l) → ¬ (j ≡ last_slot l) → field t cap j NEXT ≡ field s cap j NEXT)
      → ((j : ℕ) → In j (slots l) → j ≡ last_slot l → field t cap j NEXT ≡ new) → Row s cap p l n → Row t cap p l new
  unfolding slots
  row_next [] p n new o a b d c = tt
  row_next (e ∷ []) p n new o a b d c =
      (record { prev-is = a e.slot (inl refl) ∙ c.0.prev-is; next-is = d e.slot (inl refl) refl }, tt)
  row_next (e ∷ (f ∷ l)) p n new o a b d c = (
    record {
      prev-is = a e.slot (inl refl) ∙ c.0.prev-is;
      next-is = b e.slot (inl refl) (λ z. all_in _ (slots (f ∷ l)) o.0 (last_slot (f ∷ l)) (last_in_slots f l) z) ∙ c.0.next-is;
    },
    row_next (f ∷ l) e.slot n new o.1 (λ j h. a j (inr h)) (λ j h. b j (inr h)) (λ j h. d j (inr h)) c.1,
  )

  -- another slot before the part: its first's PREV alone is another
  pub row-prev : (l : List Entry) (p new n : ℕ) → Once (slots l) → ((j : ℕ) → In j (slots l) → field t cap j NEXT ≡ field s cap j NEXT)
      → ((j : ℕ) → In j (slots l) → ¬ (j ≡ first_slot l) → field t cap j PREV ≡ field s cap j PREV)
      → ((j : ℕ) → In j (slots l) → j ≡ first_slot l → field t cap j PREV ≡ new) → Row s cap p l n → Row t cap new l n
  unfolding slots
  row-prev [] p new n o a b d c = tt
  row-prev (e ∷ l) p new n o a b d c = (
    record { prev-is = d e.slot (inl refl) refl; next-is = a e.slot (inl refl) ∙ c.0.next-is },
    row_keep l e.slot n (λ j h. record { prev-same = b j (inr h) (λ z. all_in _ (slots l) o.0 j h (sym z)); next-same = a j (inr h) }) c.1,
  )
