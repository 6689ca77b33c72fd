-- The chain of a queue around a node, and the place that a handle names.
-- A reader may rely on this: on a queue with distinct slots spot_of finds a handle's entry exactly when the handle is live.
use mathlib.Core.Path.{◌≡◌, sym, ap, ◌∙◌}
use mathlib.Core.Logic.{inl, inr}
use mathlib.Core.List.{List, [], ◌∷◌, ◌++◌}
use Prim.Native.Nat.{ℕ}
use Rattle.wavl.specs.Lists.{In, Once}
use Rattle.wavl.specs.Entry.{Entry, slots}
use Rattle.wavl.specs.Tree.{Tree, tip, fork, inorder}
use Rattle.wavl.specs.Way.{Way, Place, place, plug, before, after}
use Rattle.wavl.specs.Search.{locate}
use Rattle.wavl.proofs.Lists.{all_in, in_middle, in_slots_lem}
use Rattle.wavl.proofs.Order.{choose_cases}
use Rattle.wavl.proofs.Rising.{node-around}
use Rattle.wavl.proofs.Located.{Spot as SlotAt, locate-right}
use Rattle.rules.specs.Queue.{Handle, Queue, entries, Names, Live}
use Rattle.rules.specs.Place.{Spot, nowhere, spot, of_generation, spot_of}

-- the entries before a node with the left child a, and after one with the right child b
abbrev pub smaller_of : Tree → Way → List Entry
smaller_of a p = before p ++ inorder a

abbrev pub greater_of : Tree → Way → List Entry
greater_of b p = inorder b ++ after p

-- the chain of a queue around a node of its tree
pub entries-around : (q : Queue) (a : Tree) (x : Entry) (r : ℕ) (b : Tree) (p : Way) → plug (fork a x r b) p ≡ q.tree
    → entries q ≡ smaller_of a p ++ (x ∷ greater_of b p)
entries-around q a x r b p e = ap inorder (sym e) ∙ node-around a x r b p

-- with distinct slots, two entries with one slot are one
pub slot_unique : (l : List Entry) → Once (slots l) → (x y : Entry) → In x l → In y l → x.slot ≡ y.slot → x ≡ y
unfolding slots
slot_unique [] o x y i j e = absurd i
slot_unique (z ∷ l) o x y (inl i) (inl j) e = i ∙ sym j
slot_unique (z ∷ l) o x y (inl i) (inr j) e =
    absurd (all_in _ (slots l) o.0 y.slot (in_slots_lem y l j) (ap (λ (w : Entry). w.slot) (sym i) ∙ e))
slot_unique (z ∷ l) o x y (inr i) (inl j) e =
    absurd (all_in _ (slots l) o.0 x.slot (in_slots_lem x l i) (ap (λ (w : Entry). w.slot) (sym j) ∙ sym e))
slot_unique (z ∷ l) o x y (inr i) (inr j) e = slot_unique l o.1 x y i j e

pub same-slot : (a : List Entry) (x : Entry) (b : List Entry) → Once (slots (a ++ (x ∷ b))) → (y : Entry) → In y (a ++ (x ∷ b)) → y.slot ≡ x.slot → y ≡ x
same-slot a x b once y i e = slot_unique (a ++ (x ∷ b)) once y x i (in_middle x a b) e

-- where the handle's entry stands, or that it names none
abbrev pub SpotIs : Handle → Queue → Spot → Type 0
SpotIs h q nowhere = ¬ Live h q
SpotIs h q (spot a x r b p) = Names h x × (plug (fork a x r b) p ≡ q.tree)

module _ (h : Handle) (q : Queue) (once : Once (slots (entries q))) where
  of_place : (w : Place) → SlotAt h.slot q.tree (entries q) w → SpotIs h q (of_generation h.generation w)
  unfolding of_generation
  of_place (place tip w) f = λ l. all_in _ (entries q) f l.0 l.1 l.2.0
  of_place (place (fork a x r b) w) f =
      let whole = entries-around q a x r b w f.back in
      choose_cases (SpotIs h q) _ _ _ (λ e. ((f.slot_is, e), f.back))
      (λ e l.
      let one = same-slot (smaller_of a w) x (greater_of b w) (rw whole at once) l.0 (rw whole at l.1) (l.2.0 ∙ sym f.slot_is) in
      e (ap (λ (y : Entry). y.generation) (sym one) ∙ l.2.1))

  pub spot_is : SpotIs h q (spot_of h q)
  unfolding spot_of
  spot_is = of_place (locate h.slot q.tree) (locate-right h.slot q.tree)
