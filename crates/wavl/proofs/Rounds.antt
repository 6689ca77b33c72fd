-- One round of a climb, of the search, or of a test, by the facts that the code has tested: what a proof about a loop cites.
-- A reader may rely on: one equation for each branch; the premises are the tests of document 01, in its order.
use mathlib.Core.Path.{◌≡◌, refl}
use mathlib.Core.List.{[], ◌∷◌}
use Prim.Native.Nat.{ℕ, suc, ◌+◌, ◌-◌, ◌≤◌, ◌<◌}
use native.Mathlib.Decide.{ℕ_discrete}
use Rattle.wavl.specs.Lists.{choose}
use Rattle.wavl.specs.Entry.{Entry}
use Rattle.wavl.specs.Tree.{Side, other, Tree, tip, fork, node, rank, child, leaf}
use Rattle.wavl.specs.Way.{step, Way, plug}
use Rattle.wavl.specs.Placing.{place_round, restructure, insert_climb, insert_at}
use Rattle.wavl.specs.Taking.{round_at, rotate, lower_both, rotate_twice, remove_climb, settle}
use Rattle.wavl.specs.Search.{KeyRound, key_equal, key_less, key_greater, by_key}
use Rattle.wavl.proofs.Order.{choose_cases, place_cases}
use Rattle.wavl.proofs.Removed.{take_cases}

pub choose_yes : {A P : Type 0} (x : Dec P) (a b : A) → P → choose x a b ≡ a
choose_yes x a b h = choose_cases (λ t. t ≡ a) x a b (λ f. refl) (λ f. absurd (f h))

pub choose_no : {A P : Type 0} (x : Dec P) (a b : A) → ¬ P → choose x a b ≡ b
choose_no x a b h = choose_cases (λ t. t ≡ b) x a b (λ f. absurd (h f)) (λ f. refl)

-- Placing. n0 under n1, n1 under n2.
module _ (e : Entry) (d : Side) (e1 : Entry) (r1 : ℕ) (s0 : Tree) (p : Way) where
  pub insert-first_stop : r1 ≡ 2 → insert_at e (step d e1 r1 s0 ∷ p) ≡ plug (node d (leaf e) e1 r1 s0) p
  unfolding insert_at
  insert-first_stop h = choose_yes (ℕ_discrete r1 2) _ _ h

  pub insert-first-up : ¬ (r1 ≡ 2) → insert_at e (step d e1 r1 s0 ∷ p) ≡ insert_climb (leaf e) d e1 2 s0 p
  unfolding insert_at
  insert-first-up h = choose_no (ℕ_discrete r1 2) _ _ h

module _ (n0 : Tree) (d : Side) (e1 : Entry) (r1 : ℕ) (s0 : Tree) where
  pub insert-root : insert_climb n0 d e1 r1 s0 [] ≡ node d n0 e1 r1 s0
  unfolding insert_climb
  insert-root = refl

module _ (n0 : Tree) (d : Side) (e1 : Entry) (r1 : ℕ) (s0 : Tree) (e : Side) (e2 : Entry) (r2 : ℕ) (s1 : Tree) (p : Way) where
  pub insert_stop : r1 < r2 → insert_climb n0 d e1 r1 s0 (step e e2 r2 s1 ∷ p) ≡ plug (node e (node d n0 e1 r1 s0) e2 r2 s1) p
  unfolding insert_climb
  insert_stop h =
      place_cases (λ t. t ≡ plug (node e (node d n0 e1 r1 s0) e2 r2 s1) p) (place_round r1 r2 (rank s1)) _ _ _
      (λ f. refl) (λ f g. absurd (f h)) (λ f g. absurd (f h))

  pub insert-raise : ¬ (r1 < r2) → rank s1 + 1 ≡ r2
      → insert_climb n0 d e1 r1 s0 (step e e2 r2 s1 ∷ p) ≡ insert_climb (node d n0 e1 r1 s0) e e2 (suc r2) s1 p
  unfolding insert_climb
  insert-raise h i =
      place_cases (λ t. t ≡ insert_climb (node d n0 e1 r1 s0) e e2 (suc r2) s1 p) (place_round r1 r2 (rank s1)) _ _ _
      (λ f. absurd (h f)) (λ f g. refl) (λ f g. absurd (g i))

  pub insert-turn : ¬ (r1 < r2) → ¬ (rank s1 + 1 ≡ r2)
      → insert_climb n0 d e1 r1 s0 (step e e2 r2 s1 ∷ p) ≡ plug (restructure d e n0 e1 r1 s0 e2 s1) p
  unfolding insert_climb
  insert-turn h i =
      place_cases (λ t. t ≡ plug (restructure d e n0 e1 r1 s0 e2 s1) p) (place_round r1 r2 (rank s1)) _ _ _
      (λ f. absurd (h f)) (λ f g. absurd (i g)) (λ f g. refl)

-- Taking away. n0 on the side d of n1, whose other child is s0.
pub settle-root : settle [] ≡ tip
unfolding settle
settle-root = refl

pub settle-childless : (d : Side) (e : Entry) (r : ℕ) (p : Way) → settle (step d e r tip ∷ p) ≡ remove_climb (leaf e) p
unfolding settle
settle-childless d e r p = refl

pub settle-parent : (d : Side) (e : Entry) (r : ℕ) (a : Tree) (f : Entry) (q : ℕ) (b : Tree) (p : Way)
    → settle (step d e r (fork a f q b) ∷ p) ≡ remove_climb tip (step d e r (fork a f q b) ∷ p)
unfolding settle
settle-parent d e r a f q b p = refl

pub remove-root : (n0 : Tree) → remove_climb n0 [] ≡ n0
unfolding remove_climb
remove-root n0 = refl

module _ (n0 : Tree) (d : Side) (e1 : Entry) (r1 : ℕ) (s0 : Tree) (p : Way) where
  pub remove_stop : r1 ≤ rank n0 + 2
      → remove_climb n0 (step d e1 r1 s0 ∷ p) ≡ plug (node d n0 e1 r1 s0) p
  unfolding remove_climb
  remove_stop h =
      take_cases (λ t. t ≡ plug (node d n0 e1 r1 s0) p) (round_at d (rank n0) r1 s0) _ _ _ _ _
      (λ f. refl) (λ f g. absurd (f h)) (λ f g x. absurd (f h)) (λ f g x y. absurd (f h)) (λ f g x y. absurd (f h))

  pub remove-lower : ¬ (r1 ≤ rank n0 + 2) → rank s0 + 2 ≡ r1
      → remove_climb n0 (step d e1 r1 s0 ∷ p) ≡ remove_climb (node d n0 e1 (r1 - 1) s0) p
  unfolding remove_climb
  remove-lower h i =
      take_cases (λ t. t ≡ remove_climb (node d n0 e1 (r1 - 1) s0) p) (round_at d (rank n0) r1 s0) _ _ _ _ _
      (λ f. absurd (h f)) (λ f g. refl) (λ f g x. absurd (g i)) (λ f g x y. absurd (g i)) (λ f g x y. absurd (g i))

  pub remove-rotate : ¬ (r1 ≤ rank n0 + 2) → ¬ (rank s0 + 2 ≡ r1) → rank (child (other d) s0) + 1 ≡ rank s0
      → remove_climb n0 (step d e1 r1 s0 ∷ p) ≡ plug (rotate d n0 e1 r1 s0) p
  unfolding remove_climb
  remove-rotate h i j =
      take_cases (λ t. t ≡ plug (rotate d n0 e1 r1 s0) p) (round_at d (rank n0) r1 s0) _ _ _ _ _
      (λ f. absurd (h f)) (λ f g. absurd (i g)) (λ f g x. refl) (λ f g x y. absurd (x j)) (λ f g x y. absurd (x j))

  pub remove-lower-both : ¬ (r1 ≤ rank n0 + 2) → ¬ (rank s0 + 2 ≡ r1) → ¬ (rank (child (other d) s0) + 1 ≡ rank s0)
      → rank (child d s0) + 2 ≡ rank s0
      → remove_climb n0 (step d e1 r1 s0 ∷ p) ≡ remove_climb (lower_both d n0 e1 r1 s0) p
  unfolding remove_climb
  remove-lower-both h i j k =
      take_cases (λ t. t ≡ remove_climb (lower_both d n0 e1 r1 s0) p) (round_at d (rank n0) r1 s0) _ _ _ _ _
      (λ f. absurd (h f)) (λ f g. absurd (i g)) (λ f g x. absurd (j x)) (λ f g x y. refl) (λ f g x y. absurd (y k))

  pub remove-rotate_twice : ¬ (r1 ≤ rank n0 + 2) → ¬ (rank s0 + 2 ≡ r1) → ¬ (rank (child (other d) s0) + 1 ≡ rank s0)
      → ¬ (rank (child d s0) + 2 ≡ rank s0)
      → remove_climb n0 (step d e1 r1 s0 ∷ p) ≡ plug (rotate_twice d n0 e1 r1 s0 (child d s0)) p
  unfolding remove_climb
  remove-rotate_twice h i j k =
      take_cases (λ t. t ≡ plug (rotate_twice d n0 e1 r1 s0 (child d s0)) p) (round_at d (rank n0) r1 s0) _ _ _ _ _
      (λ f. absurd (h f)) (λ f g. absurd (i g)) (λ f g x. absurd (j x)) (λ f g x y. absurd (k y)) (λ f g x y. refl)

-- Search: a property of a round's outcome, by its cases.
pub key_cases : {A : Type 0} (P : A → Type 0) {k l : ℕ} (x : KeyRound k l) (a b c : A)
    → (k ≡ l → P a) → (k < l → P b) → (l < k → P c) → P (by_key x a b c)
unfolding by_key
key_cases P (key_equal x) a b c f g h = f x
key_cases P (key_less x) a b c f g h = g x
key_cases P (key_greater x) a b c f g h = h x
