-- What writes leave of a way, and the write of a hook: a subtree replaced at any depth.
-- A reader may rely on: grown, regrown and raised, with which a change of a tree in the words is a change of one subtree.
use Prim.Native.Nat.{ℕ, ◌+◌, ◌-◌, ◌≤◌, ◌<◌}
use mathlib.Core.Path.{◌≡◌, refl, sym, subst, ◌∙◌}
use mathlib.Core.Logic.{inl, inr}
use mathlib.Core.List.{List, [], ◌∷◌}
use native.Mathlib.Omega.{arith}
use borrow.Author.Tests.{lt-ltb, le-ltb, eq-eqb, ne_eqb}
use Rattle.handle.specs.Numbers.{no_slot}
use Rattle.arena.specs.Words.{Long, fields, put, head, put_head, LEFT, RIGHT, RANK, BACK, ROOT}
use Rattle.arena.proofs.WordLaws.{field-same, field_off, field-slot, head-put, head-same, field-put_head}
use Rattle.arena.proofs.Only.{only-put}
use Rattle.tree.specs.inner.Links.{side_of_child, with_child, relinked}
use Rattle.wavl.specs.Tree.{left, right, Tree, node}
use Rattle.wavl.specs.Way.{step, Way, plug}
use Rattle.queue_of_store.specs.Ends.{top_slot, number}
use Rattle.queue_of_store.specs.Links.{Links, TreeWords}
use Rattle.queue_of_store.specs.inner.Ways.{parent, side_in, Hook, LinksWay}
use Rattle.queue_of_store.proofs.Has.{Has, Distinct, apart, not_top}
use Rattle.queue_of_store.proofs.Trees.{number_small, SameLinks, links-keep, carry}
use Rattle.queue_of_store.proofs.Ways.{Parted, unplugged, plugged, distinct_in, HasWay, above_apart}

module _ (s t : List ℕ) (cap : ℕ) where
  -- no slot of the way is written, nor the header's ROOT
  pub hook_stays : (p : Way) (c : ℕ) → ((j : ℕ) → j < cap → HasWay j p → SameLinks s t cap j) → head t ROOT ≡ head s ROOT → LinksWay s cap p
      → Hook s cap p c → Hook t cap p c
  hook_stays [] c k r w h = r ∙ h
  hook_stays (step d e v u ∷ p) c k r w h =
      let m = number_small d in
      k e.slot w.0.low (inl refl) (LEFT + number d) (record { from = omega arith; to = omega arith }) ∙ h

  pub way_stays : (p : Way) → ((j : ℕ) → j < cap → HasWay j p → SameLinks s t cap j) → head t ROOT ≡ head s ROOT → LinksWay s cap p → LinksWay t cap p
  way_stays [] k r w = tt
  way_stays (step d e v u ∷ p) k r w =
      let m = number_small d in
      let f = k e.slot w.0.low (inl refl) in (
        record {
          low = w.0.low;
          back_is = f BACK (record { from = omega arith; to = omega arith }) ∙ w.0.back_is;
          far-is = f (RIGHT - number d) (record { from = omega arith; to = omega arith }) ∙ w.0.far-is;
          rank_is = f RANK (record { from = omega arith; to = omega arith }) ∙ w.0.rank_is;
        },
        links-keep s t cap u e.slot (λ j l h. k j l (inr (inl h))) w.1,
        hook_stays p e.slot (λ j l h. k j l (inr (inr h))) r w.3 w.2,
        way_stays p (λ j l h. k j l (inr (inr h))) r w.3,
      )

module _ (s : List ℕ) (cap : ℕ) where
  child-at : (p d c : ℕ) → p < cap → with_child s cap p d c ≡ put s cap p (LEFT + d) c
  unfolding with_child
  child-at p d c l = rw (lt-ltb p cap l)

  child-root : (p d c : ℕ) → cap ≤ p → with_child s cap p d c ≡ put_head s ROOT c
  unfolding with_child
  child-root p d c l = rw (le-ltb p cap l)

  -- the hook comes to hold c; the way stays, and each tree without the parent
  module _ (few : cap ≤ no_slot) (c : ℕ) where
    pub hook-new : (p : Way) → Long s cap → LinksWay s cap p → Hook (with_child s cap (parent p) (side_in p) c) cap p c
    hook-new [] room w = rw (child-root no_slot 0 c few) (head-same s ROOT c (omega arith) (omega arith))
    hook-new (step d e r u ∷ p) room w =
        let m = number_small d in
        rw (child-at e.slot (number d) c w.0.low) (field-same s cap e.slot (LEFT + number d) c w.0.low (omega arith) room)

    pub way-hooked : (p : Way) (x : Tree) → Distinct (plug x p) → LinksWay s cap p → LinksWay (with_child s cap (parent p) (side_in p) c) cap p
    unfolding plug
    way-hooked [] x D w = tt
    way-hooked (step d e r u ∷ p) x D w =
        let m = number_small d in
        let low : e.slot < cap = w.0.low in
        let f = LEFT + number d in
        let hf : f < fields = omega arith in
        let t = put s cap e.slot f c in
        let off : (j : ℕ) → j < cap → ¬ (j ≡ e.slot) → SameLinks s t cap j = λ j l n g k. field-slot s cap e.slot f c low hf j g l (omega arith) n in
        let up : (j : ℕ) → j < cap → HasWay j p → SameLinks s t cap j = λ j l h. off j l (λ z. above_apart d e r u p x D j h (inl z)) in
        let side : (j : ℕ) → j < cap → Has j u → SameLinks s t cap j =
        λ j l h. off j l (λ z. (apart x e r u d (distinct_in p (node d x e r u) D)).far (rw z at h)) in
        let root = head-put s cap e.slot f c low hf ROOT (omega arith) in
        subst (λ (v : List ℕ). LinksWay v cap (step d e r u ∷ p)) (sym (child-at e.slot (number d) c low)) (
          record {
            low = low;
            back_is = field_off s cap e.slot f c low hf e.slot BACK low (omega arith) (λ z. omega arith) ∙ w.0.back_is;
            far-is = field_off s cap e.slot f c low hf e.slot (RIGHT - number d) low (omega arith) (λ z. omega arith) ∙ w.0.far-is;
            rank_is = field_off s cap e.slot f c low hf e.slot RANK low (omega arith) (λ z. omega arith) ∙ w.0.rank_is;
          },
          links-keep s t cap u e.slot side w.1,
          hook_stays s t cap p e.slot up root w.3 w.2,
          way_stays s t cap p up root w.3,
        )

    pub links-hooked : (p : Way) (back : ℕ) (y : Tree) → LinksWay s cap p → ¬ (Has (parent p) y) → Links s cap back y
        → Links (with_child s cap (parent p) (side_in p) c) cap back y
    links-hooked [] back y w n l =
        rw (child-root no_slot 0 c few)
        (links-keep s (put_head s ROOT c) cap y back (λ j lj h g k. field-put_head s ROOT c (omega arith) cap j g lj (omega arith)) l)
    links-hooked (step d e r u ∷ p) back y w n l =
        let m = number_small d in
        let low : e.slot < cap = w.0.low in
        rw (child-at e.slot (number d) c low)
        (carry s _ cap e.slot (only-put s e.slot (LEFT + number d) c low (omega arith) refl) y back n l)

-- the child `old` of the place's parent is on the place's side alone
abbrev pub OneSided : Way → ℕ → Type 0
OneSided [] old = Unit {0}
OneSided (step d e r u ∷ p) old = ¬ (old ≡ top_slot u)

pub one-sided : (cap : ℕ) (p : Way) (x : Tree) (old : ℕ) → cap ≤ no_slot → Distinct (plug x p) → Has old x → old < cap → OneSided p old
unfolding plug
one-sided cap [] x old few D h l = tt
one-sided cap (step d e r u ∷ p) x old few D h l = not_top cap old u few l (λ z. (apart x e r u d (distinct_in p (node d x e r u) D)).both old h z)

-- looking for the side of a child finds the place's
pub relinked-is : (s : List ℕ) (cap : ℕ) (p : Way) (old new : ℕ) → cap ≤ no_slot → LinksWay s cap p → Hook s cap p old → OneSided p old
    → relinked s cap (parent p) old new ≡ with_child s cap (parent p) (side_in p) new
unfolding relinked side_of_child
relinked-is s cap [] old new few w h o = child-root s cap no_slot _ new few ∙ sym (child-root s cap no_slot 0 new few)
relinked-is s cap (step left e r u ∷ p) old new few w h o = rw (w.0.far-is, ne_eqb (top_slot u) old (λ z. o (sym z)))
relinked-is s cap (step right e r u ∷ p) old new few w h o = rw (h, eq-eqb old old refl)

-- x hung at the place in s; in s₁ the way is as it was, and y's links are there, below the same parent
module _ (s s₁ : List ℕ) (cap : ℕ) (p : Way) (x y : Tree) (few : cap ≤ no_slot) (room : Long s₁ cap) (D : Distinct (plug x p)) (T : TreeWords s cap (plug x p))
    (keep : (j : ℕ) → j < cap → HasWay j p → SameLinks s s₁ cap j) (root : head s₁ ROOT ≡ head s ROOT) (new : Links s₁ cap (parent p) y) where
  P : Parted s cap x p
  P = unplugged s cap p x T

  way₁ : LinksWay s₁ cap p
  way₁ = way_stays s s₁ cap p keep root P.way

  hook₁ : Hook s₁ cap p (top_slot x)
  hook₁ = hook_stays s s₁ cap p (top_slot x) keep root P.way P.hook

  -- y has x's top: nothing is left to write
  pub raised : top_slot y ≡ top_slot x → TreeWords s₁ cap (plug y p)
  raised e = plugged s₁ cap p y (record { below = new; hook = rw e hook₁; way = way₁ })

  -- the hook is written
  pub grown : ¬ (Has (parent p) y) → TreeWords (with_child s₁ cap (parent p) (side_in p) (top_slot y)) cap (plug y p)
  grown n =
      plugged (with_child s₁ cap (parent p) (side_in p) (top_slot y)) cap p y (record {
        below = links-hooked s₁ cap few (top_slot y) p (parent p) y way₁ n new;
        hook = hook-new s₁ cap few (top_slot y) p room way₁;
        way = way-hooked s₁ cap few (top_slot y) p x D way₁;
      })

  -- the hook is found by x's top and written
  pub regrown : ¬ (Has (parent p) y) → Has (top_slot x) x → top_slot x < cap → TreeWords (relinked s₁ cap (parent p) (top_slot x) (top_slot y)) cap (plug y p)
  regrown n h l = rw (relinked-is s₁ cap p (top_slot x) (top_slot y) few way₁ hook₁ (one-sided cap p x (top_slot x) few D h l)) (grown n)
