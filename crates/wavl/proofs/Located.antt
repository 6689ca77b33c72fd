-- Finding a node by its slot.
-- A reader may rely on: locate-right, for every tree; keys play no part in it.
use mathlib.Core.Logic.{inl, inr}
use mathlib.Core.Path.{◌≡◌, refl}
use mathlib.Core.List.{List, [], ◌∷◌, ◌++◌}
use Prim.Native.Nat.{ℕ}
use native.Mathlib.Decide.{ℕ_discrete}
use Rattle.wavl.specs.Lists.{All, In}
use Rattle.wavl.specs.Entry.{Entry}
use Rattle.wavl.specs.Tree.{left, right, Tree, tip, fork, inorder}
use Rattle.wavl.specs.Way.{step, Way, Place, place, plug}
use Rattle.wavl.specs.Search.{or_else, find_slot, locate}
use Rattle.wavl.proofs.Lists.{all_both, in_left, in_right}
use Rattle.wavl.proofs.Order.{choose_cases}

-- no entry of the list holds the slot i
abbrev pub Away : ℕ → List Entry → Type 0
Away i l = All (λ (e : Entry). ¬ (e.slot ≡ i)) l

-- a node of u, with an entry of the list l, holds the slot i
pub record Spotted (i : ℕ) (u : Tree) (l : List Entry) (a : Tree) (e : Entry) (r : ℕ) (b : Tree) (p : Way) : Type 0 where
  pub back : plug (fork a e r b) p ≡ u
  pub slot_is : e.slot ≡ i
  pub present : In e l

-- that node's place; or none of the entries l holds the slot
abbrev pub Spot : ℕ → Tree → List Entry → Place → Type 0
Spot i u l (place tip p) = Away i l
Spot i u l (place (fork a e r b) p) = Spotted i u l a e r b p

find_slot-spot : (i : ℕ) (t : Tree) (p : Way) → Spot i (plug t p) (inorder t) (find_slot i t p)
unfolding find_slot inorder plug
find_slot-spot i tip p = tt
find_slot-spot i (fork a e r b) p =
    choose_cases (Spot i (plug (fork a e r b) p) (inorder a ++ (e ∷ inorder b))) (ℕ_discrete e.slot i) _ _
    (λ h. record { back = refl; slot_is = h; present = in_right e (inorder a) (e ∷ inorder b) (inl refl) })
    (λ h. go h (find_slot i a (step left e r b ∷ p)) (find_slot i b (step right e r a ∷ p)) (find_slot-spot i a (step left e r b ∷ p)) (find_slot-spot i b (step right e r a ∷ p)))
  where
    go : ¬ (e.slot ≡ i) → (x y : Place) → Spot i (plug (fork a e r b) p) (inorder a) x → Spot i (plug (fork a e r b) p) (inorder b) y
        → Spot i (plug (fork a e r b) p) (inorder a ++ (e ∷ inorder b)) (or_else x y)
    go h (place (fork _ g _ _) q) y f z = record { back = f.back; slot_is = f.slot_is; present = in_left g (inorder a) (e ∷ inorder b) f.present }
    go h (place tip q) (place (fork _ g _ _) s) f z =
        record { back = z.back; slot_is = z.slot_is; present = in_right g (inorder a) (e ∷ inorder b) (inr z.present) }
    go h (place tip q) (place tip s) f z = all_both _ (inorder a) (e ∷ inorder b) f (h, z)

-- what locate answers is right, for every tree
pub locate-right : (i : ℕ) (t : Tree) → Spot i t (inorder t) (locate i t)
unfolding plug
locate-right i t = find_slot-spot i t []
