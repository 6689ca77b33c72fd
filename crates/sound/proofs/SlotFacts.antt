-- What the tests of a slot and of a place of the free stack say, and that they say yes where it is so.
-- A reader may rely on: each test and its facts are the same, for any words.
use Prim.Native.Nat.{ℕ, zero, suc, ◌≤◌, ◌<◌}
use mathlib.Core.Path.{◌≡◌, refl}
use mathlib.Core.Logic.{◌⊎◌, inl, inr}
use mathlib.Core.Bool.{true}
use mathlib.Core.List.{List}
use native.Mathlib.Omega.{arith}
use native.Mathlib.Decide.{ℕ_discrete}
use lib.Dec.{leb, eqb}
use borrow.Author.Tests.{leb-true, leb-false, eqb-true, eqb-false, le-leb, lt-leb, eq-eqb, ne_eqb}
use Rattle.handle.specs.Numbers.{no_slot}
use Rattle.arena.specs.Words.{field, head, LEFT, RIGHT, RANK, BACK, GENERATION, STACK, ROOT}
use Rattle.arena.specs.inner.Budget.{budget}
use Rattle.rules.specs.Sound.{Generation}
use Rattle.queue_of_store.specs.Free.{Blank}
use Rattle.arena.proofs.Paths.{no_refusal}
use Rattle.sound.specs.inner.Slots.{unlinked_test, blank_test, rest_with, rest_test, child_test, hangs_with, hangs_test, slot_test, place_with, place_test, slots_test}
use Rattle.sound.proofs.Choices.{both_say, both-are, past_is, choice_says, choice_is}
use Rattle.sound.proofs.NodeFacts.{generation_says, generation-is}

module _ (s : List ℕ) (cap : ℕ) where
  pub blank_says : (i : ℕ) → field s cap i RANK ≡ 0 → blank_test s cap i ≡ true → Blank s cap i (field s cap i BACK)
  unfolding blank_test unlinked_test
  blank_says i r e =
      let a = both_say _ _ e in
      let b = both_say _ _ a.1 in
      let c = both_say _ _ b.1 in
      let d = both_say _ _ c.1 in
      let f = both_say _ _ d.1 in
      let g = both_say _ _ f.1 in
      record {
        key-is = eqb-true _ 0 a.0;
        left_is = eqb-true _ no_slot c.0;
        right_is = eqb-true _ no_slot d.0;
        rank_is = r;
        back_is = refl;
        prev-is = eqb-true _ no_slot f.0;
        next-is = eqb-true _ no_slot g.0;
        value-is = eqb-true _ 0 b.0;
      }

  pub blank-is : (i back : ℕ) → Blank s cap i back → blank_test s cap i ≡ true
  unfolding blank_test unlinked_test
  blank-is i back b = rw (b.key-is, b.value-is, b.left_is, b.right_is, b.prev-is, b.next-is)

  -- a slot without an entry, in the stack of height h
  pub record AtRest (top h i : ℕ) : Type 0 where
    pub blank : Blank s cap i (field s cap i BACK)
    pub retired : field s cap i BACK ≡ no_slot → field s cap i GENERATION ≡ top
    pub low : ¬ (field s cap i BACK ≡ no_slot) → field s cap i BACK < h
    pub stacked : ¬ (field s cap i BACK ≡ no_slot) → field s cap (field s cap i BACK) STACK ≡ i
    pub generation : ¬ (field s cap i BACK ≡ no_slot) → Generation top (field s cap i GENERATION)

  rest_says : (top h i : ℕ) → Blank s cap i (field s cap i BACK) → rest_test s cap top h i ≡ true → AtRest top h i
  unfolding rest_test rest_with
  rest_says top h i b e =
      let c = choice_says _ _ _ e in
      record {
        blank = b;
        retired = λ n. eqb-true _ top (c.0 (eq-eqb _ no_slot n));
        low = λ n. leb-false h _ (no_refusal _ _ (c.1 (ne_eqb _ no_slot n))).0;
        stacked = λ n. let x = no_refusal (leb h (field s cap i BACK)) _ (c.1 (ne_eqb _ no_slot n)) in let y = both_say (eqb (field s cap (field s cap i BACK) STACK) i) _ x.1 in eqb-true _ i y.0;
        generation = λ n. let x = no_refusal (leb h (field s cap i BACK)) _ (c.1 (ne_eqb _ no_slot n)) in let y = both_say (eqb (field s cap (field s cap i BACK) STACK) i) _ x.1 in generation_says _ top y.1;
      }

  rest-is : (top h i : ℕ) → AtRest top h i → rest_test s cap top h i ≡ true
  unfolding rest_test rest_with
  rest-is top h i r =
      choice_is _ _ _ (λ e. eq-eqb _ top (r.retired (eqb-true _ no_slot e)))
      (λ e. let n = eqb-false _ no_slot e in
      past_is _ _ (lt-leb h _ (r.low n)) (both-are _ _ (eq-eqb _ i (r.stacked n)) (generation-is _ top (r.generation n))))

  -- a live slot: its rank is small; it is the root, or a child of a slot of a greater rank
  pub record Hangs (i : ℕ) : Type 0 where
    pub small : field s cap i RANK < budget
    pub root : cap ≤ field s cap i BACK → head s ROOT ≡ i
    pub rises : field s cap i BACK < cap → field s cap i RANK < field s cap (field s cap i BACK) RANK
    pub child : field s cap i BACK < cap → (field s cap (field s cap i BACK) LEFT ≡ i) ⊎ (field s cap (field s cap i BACK) RIGHT ≡ i)

  child_says : (i p : ℕ) → child_test s cap i p ≡ true → (field s cap p LEFT ≡ i) ⊎ (field s cap p RIGHT ≡ i)
  unfolding child_test
  child_says i p e = go (ℕ_discrete (field s cap p LEFT) i)
    where
      go : Dec (field s cap p LEFT ≡ i) → (field s cap p LEFT ≡ i) ⊎ (field s cap p RIGHT ≡ i)
      go (yes f) = inl f
      go (no f) = inr (eqb-true _ i ((choice_says _ _ _ e).1 (ne_eqb _ i f)))

  child-is : (i p : ℕ) → (field s cap p LEFT ≡ i) ⊎ (field s cap p RIGHT ≡ i) → child_test s cap i p ≡ true
  unfolding child_test
  child-is i p (inl f) = rw (eq-eqb (field s cap p LEFT) i f)
  child-is i p (inr f) = choice_is (eqb (field s cap p LEFT) i) true (eqb (field s cap p RIGHT) i) (λ e. refl) (λ e. eq-eqb (field s cap p RIGHT) i f)

  hangs_says : (i : ℕ) → hangs_test s cap i ≡ true → Hangs i
  unfolding hangs_test hangs_with
  hangs_says i e =
      let a = no_refusal _ _ e in
      let b = choice_says _ _ _ a.1 in
      record {
        small = leb-false budget _ a.0;
        root = λ l. eqb-true _ i (b.0 (le-leb cap _ l));
        rises = λ l. leb-false _ _ (no_refusal _ _ (b.1 (lt-leb cap _ l))).0;
        child = λ l. let x = no_refusal (leb (field s cap (field s cap i BACK) RANK) (field s cap i RANK)) _ (b.1 (lt-leb cap _ l)) in child_says i _ x.1;
      }

  hangs-is : (i : ℕ) → Hangs i → hangs_test s cap i ≡ true
  unfolding hangs_test hangs_with
  hangs-is i h =
      past_is _ _ (lt-leb budget _ h.small)
      (choice_is _ _ _ (λ e. eq-eqb _ i (h.root (leb-true cap _ e)))
      (λ e. let l = leb-false cap _ e in past_is _ _ (lt-leb _ _ (h.rises l)) (child-is i _ (h.child l))))

  -- each slot is live, or has no entry
  pub record GoodSlot (top h i : ℕ) : Type 0 where
    pub live : ¬ (field s cap i RANK ≡ 0) → Hangs i
    pub rest : field s cap i RANK ≡ 0 → AtRest top h i

  slot_says : (top h i : ℕ) → slot_test s cap top h i ≡ true → GoodSlot top h i
  unfolding slot_test
  slot_says top h i e =
      let c = choice_says _ _ _ e in
      record {
        live = λ n. hangs_says i (c.1 (ne_eqb _ 0 n));
        rest = λ r. let b = both_say _ _ (c.0 (eq-eqb _ 0 r)) in rest_says top h i (blank_says i r b.0) b.1;
      }

  slot_is : (top h i : ℕ) → GoodSlot top h i → slot_test s cap top h i ≡ true
  unfolding slot_test
  slot_is top h i g =
      choice_is _ _ _ (λ e. let r = g.rest (eqb-true _ 0 e) in both-are _ _ (blank-is i _ r.blank) (rest-is top h i r))
      (λ e. hangs-is i (g.live (eqb-false _ 0 e)))

  -- a place of the stack holds a slot without an entry that names it, or no slot
  pub record GoodPlace (h p : ℕ) : Type 0 where
    pub empty : h ≤ p → field s cap p STACK ≡ no_slot
    pub low : p < h → field s cap p STACK < cap
    pub rest : p < h → field s cap (field s cap p STACK) RANK ≡ 0
    pub back_is : p < h → field s cap (field s cap p STACK) BACK ≡ p

  place_says : (h p : ℕ) → place_test s cap h p ≡ true → GoodPlace h p
  unfolding place_test place_with
  place_says h p e =
      let c = choice_says _ _ _ e in
      record {
        empty = λ l. eqb-true _ no_slot (c.0 (le-leb h p l));
        low = λ l. leb-false cap _ (no_refusal _ _ (c.1 (lt-leb h p l))).0;
        rest = λ l. let x = no_refusal (leb cap (field s cap p STACK)) _ (c.1 (lt-leb h p l)) in let y = both_say (eqb (field s cap (field s cap p STACK) RANK) 0) _ x.1 in eqb-true _ 0 y.0;
        back_is = λ l. let x = no_refusal (leb cap (field s cap p STACK)) _ (c.1 (lt-leb h p l)) in let y = both_say (eqb (field s cap (field s cap p STACK) RANK) 0) _ x.1 in eqb-true _ p y.1;
      }

  place_is : (h p : ℕ) → GoodPlace h p → place_test s cap h p ≡ true
  unfolding place_test place_with
  place_is h p g =
      choice_is _ _ _ (λ e. eq-eqb _ no_slot (g.empty (leb-true h p e)))
      (λ e. let l = leb-false h p e in
      past_is _ _ (lt-leb cap _ (g.low l)) (both-are _ _ (eq-eqb _ 0 (g.rest l)) (eq-eqb _ p (g.back_is l))))

  -- all of them
  pub record Good (top h i : ℕ) : Type 0 where
    pub slot : GoodSlot top h i
    pub place : GoodPlace h i

  pub slots_say : (top h n : ℕ) → slots_test n s cap top h ≡ true → (i : ℕ) → i < n → Good top h i
  unfolding slots_test
  slots_say top h zero e i l = absurd (omega arith)
  slots_say top h (suc n) e i l =
      let a = both_say _ _ e in
      let b = both_say _ _ a.1 in
      go (ℕ_discrete i n) (record { slot = slot_says top h n a.0; place = place_says h n b.0 }) (slots_say top h n b.1 i)
    where
      go : Dec (i ≡ n) → Good top h n → (i < n → Good top h i) → Good top h i
      go (yes f) g k = rw f g
      go (no f) g k = k (omega arith)

  pub slots-are : (top h n : ℕ) → ((i : ℕ) → i < n → Good top h i) → slots_test n s cap top h ≡ true
  unfolding slots_test
  slots-are top h zero k = refl
  slots-are top h (suc n) k =
      let g = k n (omega arith) in
      both-are _ _ (slot_is top h n g.slot) (both-are _ _ (place_is h n g.place) (slots-are top h n (λ i l. k i (omega arith))))
