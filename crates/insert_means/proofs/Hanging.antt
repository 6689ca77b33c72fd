-- The writes that hang a new leaf at an empty place: the stack's top place, the new slot's own words, the chain's, the parent's link.
-- A reader may rely on: link-only and hang-only tell what a slot that was taken and linked in leaves of all other slots.
use Prim.Native.Nat.{ℕ, ◌≤◌, ◌<◌}
use mathlib.Core.Path.{◌≡◌, refl, ◌∙◌}
use mathlib.Core.Logic.{◌⊎◌, inl, inr}
use mathlib.Core.List.{List}
use native.Mathlib.Decide.{ℕ_discrete}
use native.Mathlib.Omega.{arith}
use lib.Dec.{lit<}
use Rattle.arena.specs.Words.{Long, field, put, KEY, LEFT, BACK, PREV, NEXT, GENERATION, VALUE, STACK, FIRST, LAST, ROOT}
use Rattle.arena.specs.inner.Only.{Only, NoHead}
use Rattle.arena.proofs.WordLaws.{length_put, field-same, field_off}
use Rattle.arena.proofs.Only.{only_trans, only-put, only_weaken}
use Rattle.tree.specs.inner.Links.{with_child, with_node}
use Rattle.tree.proofs.Keeps.{only-node, only_child_lem}
use Rattle.insert.specs.inner.Place.{childless}
use Rattle.wavl.specs.Lists.{In}
use Rattle.queue_of_store.proofs.Linked.{Linked, LinkedAt}

-- the slot's own words, all but its generation
abbrev pub OwnOf : ℕ → ℕ → ℕ → Type 0
OwnOf i j g = (j ≡ i) × (g < STACK) × ¬ (g ≡ GENERATION)

-- its key, value, links and rank, without a child
abbrev pub leafed : List ℕ → ℕ → ℕ → ℕ → ℕ → ℕ → List ℕ
leafed s cap i k v back = with_node (put (put s cap i KEY k) cap i VALUE v) cap 0 i (childless back)

module _ (s : List ℕ) (cap i k v back : ℕ) (hi : i < cap) where
  pub leaf-only : Only s (leafed s cap i k v back) cap (OwnOf i) NoHead
  leaf-only =
      let a = put s cap i KEY k in
      let b = put a cap i VALUE v in
      only_trans (only-put s i KEY k hi (lit< tt) (refl, lit< tt, λ e. omega arith))
      (only_trans (only-put a i VALUE v hi (lit< tt) (refl, lit< tt, λ e. omega arith))
      (only-node b 0 i (childless back) (omega arith) hi (λ g lo up. (refl, omega arith, λ e. omega arith))))

  pub leaf-key : Long s cap → field (leafed s cap i k v back) cap i KEY ≡ k
  leaf-key room =
      let a = put s cap i KEY k in
      let b = put a cap i VALUE v in
      (only-node {W = λ j g. LEFT ≤ g} {H = NoHead} b 0 i (childless back) (omega arith) hi (λ g lo up. lo)).slots i KEY hi (lit< tt) (λ z. omega arith)
      ∙ field_off a cap i VALUE v hi (lit< tt) i KEY hi (lit< tt) (λ e. omega arith) ∙ field-same s cap i KEY k hi (lit< tt) room

  pub leaf-value : Long s cap → field (leafed s cap i k v back) cap i VALUE ≡ v
  leaf-value room =
      let a = put s cap i KEY k in
      let b = put a cap i VALUE v in
      (only-node {W = λ j g. g ≤ BACK} {H = NoHead} b 0 i (childless back) (omega arith) hi (λ g lo up. up)).slots i VALUE hi (lit< tt) (λ z. omega arith)
      ∙ field-same a cap i VALUE v hi (lit< tt) (rw (length_put s cap i KEY k) room)

-- PREV and NEXT of the slot i and of the slots l
abbrev pub ChainOf : ℕ → List ℕ → ℕ → ℕ → Type 0
ChainOf i l j g = ((j ≡ i) ⊎ In j l) × (PREV ≤ g) × (g ≤ NEXT)

abbrev pub EndHead : ℕ → Type 0
EndHead h = (FIRST ≤ h) × (h ≤ LAST)

module _ (s t : List ℕ) (cap a i b : ℕ) (l : List ℕ) (K : Linked s t cap a i b)
    (la : (j : ℕ) → j < cap → j ≡ a → In j l) (lb : (j : ℕ) → j < cap → j ≡ b → In j l) where
  pub link-only : Only s t cap (ChainOf i l) EndHead
  link-only = only_weaken (λ j g hj z. at j g hj z (ℕ_discrete j i) (ℕ_discrete g PREV)) (λ h z. (z.0, z.1)) K.only
    where
      at : (j g : ℕ) → j < cap → LinkedAt a i b j g → Dec (j ≡ i) → Dec (g ≡ PREV) → ChainOf i l j g
      at j g hj z (yes e) d = (inl e, z.0, z.1)
      at j g hj z (no n) (yes e) = (inr (lb j hj ((z.2 n).2 e)), z.0, z.1)
      at j g hj z (no n) (no m) = let lo = z.0 in let up = z.1 in (inr (la j hj ((z.2 n).3 (omega arith))), lo, up)

-- all writes behind the stack's: the slot i, and links of the slots l
pub data HangsAt (i : ℕ) (l : List ℕ) (j g : ℕ) : Type 0 where
  own : j ≡ i → g < STACK → ¬ (g ≡ GENERATION) → HangsAt i l j g
  other : In j l → LEFT ≤ g → g ≤ NEXT → HangsAt i l j g

abbrev pub HangHead : ℕ → Type 0
HangHead h = (FIRST ≤ h) × (h ≤ ROOT)

module _ (s t : List ℕ) (cap i : ℕ) (l : List ℕ) where
  pub hang_own : Only s t cap (OwnOf i) NoHead → Only s t cap (HangsAt i l) HangHead
  hang_own o = only_weaken (λ j g hj x. own x.0 x.1 x.2) (λ h z. absurd z) o

  pub hang_chain : Only s t cap (ChainOf i l) EndHead → Only s t cap (HangsAt i l) HangHead
  hang_chain o = only_weaken (λ j g hj x. by j g x.0 x.1 x.2) (λ h z. omega arith) o
    where
      by : (j g : ℕ) → (j ≡ i) ⊎ In j l → PREV ≤ g → g ≤ NEXT → HangsAt i l j g
      by j g (inl e) lo up = own e (omega arith) (λ z. omega arith)
      by j g (inr e) lo up = other e (omega arith) up

  pub hang_child : (p d : ℕ) → d ≤ 1 → (p < cap → In p l) → Only s (with_child s cap p d i) cap (HangsAt i l) HangHead
  hang_child p d hd n = only_child_lem s p d i hd (λ low. other (n low) (omega arith) (omega arith)) (λ z. omega arith)
