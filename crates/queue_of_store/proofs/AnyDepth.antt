-- A subtree replaced at any depth by another with the same entries: the whole tree's words, and that nothing else was written.
-- A reader may rely on: steps of a climb follow one another by came_on; `reshaped` then carries all other groups over.
use Prim.Native.Nat.{ℕ, ◌≤◌, ◌<◌}
use mathlib.Core.Path.{◌≡◌, refl}
use mathlib.Core.Logic.{inl}
use mathlib.Core.List.{List, [], ◌∷◌}
use native.Mathlib.Omega.{arith}
use lib.Dec.{lit<}
use Rattle.handle.specs.Numbers.{no_slot}
use Rattle.arena.specs.Words.{Long, head, ROOT}
use Rattle.arena.specs.inner.Only.{Only, NoHead}
use Rattle.arena.proofs.Only.{only_trans, only-room, only_weaken}
use Rattle.tree.specs.inner.Links.{relinked, with_child}
use Rattle.tree.specs.inner.Kept.{IsRoot}
use Rattle.tree.proofs.Keeps.{only_child_lem}
use Rattle.wavl.specs.Lists.{In}
use Rattle.wavl.specs.Entry.{slots}
use Rattle.wavl.specs.Tree.{left, Tree, tip, fork, inorder}
use Rattle.wavl.specs.Way.{step, Way, plug}
use Rattle.wavl.proofs.Order.{IsFork}
use Rattle.queue_of_store.specs.Ends.{top_slot, number}
use Rattle.queue_of_store.specs.Links.{Links, TreeWords}
use Rattle.queue_of_store.specs.inner.Ways.{parent, side_in}
use Rattle.queue_of_store.proofs.Has.{Has, Distinct, has_top}
use Rattle.queue_of_store.proofs.Trees.{number_small, LinkOf, SameLinks, slot-low}
use Rattle.queue_of_store.proofs.Ways.{unplugged, HasWay, has_plug, has_way, way_apart}
use Rattle.queue_of_store.proofs.Groups.{same-links}
use Rattle.queue_of_store.proofs.WayWrites.{way_stays, hook_stays, one-sided, relinked-is, raised, regrown}
use Rattle.std.specs.Prelude.{Result, Ok, ⊤}
use Rattle.handle.specs.declared.Refusal.{Refusal}

-- t holds the tree, and differs from s in links of the slots l and in ROOT alone
pub record Regrown (s t : List ℕ) (cap : ℕ) (l : List ℕ) (x : Tree) : Type 0 where
  pub words : TreeWords t cap x
  pub only : Only s t cap (LinkOf l) IsRoot

-- what a climb came to: its answer is yes, and its store is s regrown
pub record Came (s : List ℕ) (cap : ℕ) (l : List ℕ) (x : Tree) (r : List ℕ × Result ⊤ Refusal) : Type 0 where
  pub yes : r.1 ≡ Ok tt
  pub words : TreeWords r.0 cap x
  pub only : Only s r.0 cap (LinkOf l) IsRoot

-- at once, and after a first step
pub came : {s t : List ℕ} {cap : ℕ} {l : List ℕ} {x : Tree} → Regrown s t cap l x → Came s cap l x (t, Ok tt)
came a = record { yes = refl; words = a.words; only = a.only }

pub came_on : {s t : List ℕ} {cap : ℕ} {l : List ℕ} {x y : Tree} {r : List ℕ × Result ⊤ Refusal} → Regrown s t cap l x → Came t cap l y r → Came s cap l y r
came_on {s} {t} {cap} {l} a b = record { yes = b.yes; words = b.words; only = only_trans a.only b.only }

-- a parent is no slot of what hangs below it
no-parent : (s : List ℕ) (cap : ℕ) (p : Way) (x y : Tree) → cap ≤ no_slot → Distinct (plug x p) → ((j : ℕ) → Has j y → Has j x) → Links s cap (parent p) y → ¬ (Has (parent p) y)
no-parent s cap [] x y few D i l h = let low = slot-low s cap y no_slot l no_slot h in omega arith
no-parent s cap (step d e r u ∷ p) x y few D i l h = way_apart (step d e r u ∷ p) x D e.slot (i e.slot h) (inl refl)

module _ (s s₁ : List ℕ) (cap : ℕ) (l : List ℕ) (p : Way) (x y : Tree) (few : cap ≤ no_slot) (room : Long s cap) (D : Distinct (plug x p))
    (within : (j : ℕ) → Has j (plug x p) → In j l) (T : TreeWords s cap (plug x p)) (same : inorder y ≡ inorder x)
    (o : Only s s₁ cap (LinkOf (slots (inorder x))) NoHead) (new : Links s₁ cap (parent p) y) where
  room₁ : Long s₁ cap
  room₁ = only-room o room

  keep : (j : ℕ) → j < cap → HasWay j p → SameLinks s s₁ cap j
  keep j lj h = same-links s s₁ cap (LinkOf (slots (inorder x))) NoHead o j lj (λ g f w. way_apart p x D j w.slot_in h)

  root : head s₁ ROOT ≡ head s ROOT
  root = o.heads ROOT (lit< tt) (λ z. z)

  only₁ : Only s s₁ cap (LinkOf l) IsRoot
  only₁ =
      only_weaken (λ j g hj w. record { slot_in = within j (has_plug j p x w.slot_in); field_is = w.field_is }) (λ h z. absurd z) o

  -- y has x's top
  pub raised_at : top_slot y ≡ top_slot x → Regrown s s₁ cap l (plug y p)
  raised_at e = record { words = raised s s₁ cap p x y few room₁ D T keep root new e; only = only₁ }

  -- the hook of the place is found by x's top and written
  pub turned-at : IsFork x → Regrown s (relinked s₁ cap (parent p) (top_slot x) (top_slot y)) cap l (plug y p)
  turned-at f =
      let P = unplugged s cap p x T in
      let h : Has (top_slot x) x = top_in x f in
      let low : top_slot x < cap = slot-low s cap x (parent p) P.below (top_slot x) h in
      let is =
      relinked-is s₁ cap p (top_slot x) (top_slot y) few (way_stays s s₁ cap p keep root P.way) (hook_stays s s₁ cap p (top_slot x) keep root P.way P.hook)
      (one-sided cap p x (top_slot x) few D h low) in
      record {
        words = regrown s s₁ cap p x y few room₁ D T keep root new (no-parent s₁ cap p x y few D (λ j z. rw same at z) new) h low;
        only = only_trans only₁ (rw is (hooked p (λ j z. within j (has_way j p x z))));
      }
    where
      top_in : (t : Tree) → IsFork t → Has (top_slot t) t
      top_in tip z = absurd z
      top_in (fork a e r b) z = has_top a e r b left e.slot refl

      hooked : (w : Way) → ((j : ℕ) → HasWay j w → In j l) → Only s₁ (with_child s₁ cap (parent w) (side_in w) (top_slot y)) cap (LinkOf l) IsRoot
      hooked [] i = only_child_lem s₁ no_slot 0 (top_slot y) (omega arith) (λ z. absurd (omega arith)) (λ z. refl)
      hooked (step c e r u ∷ w) i =
          let m = number_small c in
          only_child_lem s₁ e.slot (number c) (top_slot y) m
          (λ z. record { slot_in = i e.slot (inl refl); field_is = record { from = omega arith; to = omega arith } }) (λ z. refl)
