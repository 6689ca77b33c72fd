-- The climb after taking away keeps rule 2 and the chain.
-- A reader may rely on: remove_climb-kept, for a node that has come to be one lower than its way needs it.
use mathlib.Core.Path.{◌≡◌, refl, ◌∙◌, subst}
use mathlib.Core.List.{[], ◌∷◌, append_assoc}
use Prim.Native.Nat.{ℕ, suc, ◌+◌, ◌-◌, ◌≤◌}
use native.Mathlib.Omega.{arith}
use Rattle.wavl.specs.Entry.{Entry}
use Rattle.wavl.specs.Tree.{Side, left, right, other, Tree, tip, fork, node, rank, entry, child, inorder}
use Rattle.wavl.specs.Way.{step, Way, plug}
use Rattle.wavl.specs.Ranks.{Ranks}
use Rattle.wavl.specs.Taking.{TakeRound, ends, lowers, rotates, lowers_both, rotates_twice, by_take, round_at, rotate, lower_both, rotate_twice, remove_climb}
use Rattle.wavl.proofs.Order.{Same, node-same, plug-same}
use Rattle.wavl.proofs.Placed.{make, Parts, parts, WayRanks, plug-ranks}

-- t is ranked, and has the chain of u
pub record Kept (t u : Tree) : Type 0 where
  pub ranks : Ranks t
  pub same : Same t u

-- the chain, at each restructuring: s0, and a, are no tips
rotate-same : (d : Side) (n0 : Tree) (e1 : Entry) (r1 q1 : ℕ) (s0 : Tree) → 1 ≤ rank s0 → Same (rotate d n0 e1 r1 s0) (node d n0 e1 q1 s0)
unfolding inorder
rotate-same d n0 e1 r1 q1 tip h = absurd (omega arith)
rotate-same left n0 e1 r1 q1 (fork a e r b) h = simp append_assoc
rotate-same right n0 e1 r1 q1 (fork a e r b) h = simp append_assoc

lower_both-same : (d : Side) (n0 : Tree) (e1 : Entry) (r1 q1 : ℕ) (s0 : Tree) → 1 ≤ rank s0 → Same (lower_both d n0 e1 r1 s0) (node d n0 e1 q1 s0)
unfolding inorder
lower_both-same d n0 e1 r1 q1 tip h = absurd (omega arith)
lower_both-same left n0 e1 r1 q1 (fork a e r b) h = refl
lower_both-same right n0 e1 r1 q1 (fork a e r b) h = refl

twice_same : (d : Side) (n0 : Tree) (e1 : Entry) (r1 q1 : ℕ) (s0 : Tree) → 1 ≤ rank s0 → 1 ≤ rank (child d s0)
    → Same (rotate_twice d n0 e1 r1 s0 (child d s0)) (node d n0 e1 q1 s0)
unfolding inorder
twice_same d n0 e1 r1 q1 tip h i = absurd (omega arith)
twice_same left n0 e1 r1 q1 (fork tip e r b) h i = absurd (omega arith)
twice_same right n0 e1 r1 q1 (fork a e r tip) h i = absurd (omega arith)
twice_same left n0 e1 r1 q1 (fork (fork c f q g) e r b) h i = simp append_assoc
twice_same right n0 e1 r1 q1 (fork a e r (fork c f q g)) h i = simp append_assoc

-- rule 2, at each restructuring of a node that is three above n0 and one above s0
module _ (d : Side) (n0 : Tree) (e1 : Entry) (r1 : ℕ) (s0 : Tree) (x : Ranks n0) (y : Ranks s0) (three : r1 ≡ rank n0 + 3) (one : r1 ≡ rank s0 + 1) where
  rotate-ranks : rank (child (other d) s0) + 1 ≡ rank s0 → Ranks (rotate d n0 e1 r1 s0)
  rotate-ranks b =
      let c : Parts d s0 = parts d s0 (omega arith) y in
      make d _ (entry s0) _ _ (make d _ e1 _ _ x c.inner (omega arith)) c.outer (omega arith)

  lower_both-ranks : rank (child d s0) + 2 ≡ rank s0 → ¬ (rank (child (other d) s0) + 1 ≡ rank s0) → Ranks (lower_both d n0 e1 r1 s0)
  lower_both-ranks a b =
      let c : Parts d s0 = parts d s0 (omega arith) y in
      make d _ e1 _ _ x (make d _ (entry s0) _ _ c.inner c.outer (omega arith)) (omega arith)

  twice_ranks : ¬ (rank (child d s0) + 2 ≡ rank s0) → ¬ (rank (child (other d) s0) + 1 ≡ rank s0)
      → Ranks (rotate_twice d n0 e1 r1 s0 (child d s0)) × (1 ≤ rank (child d s0))
  twice_ranks a b =
      let c : Parts d s0 = parts d s0 (omega arith) y in
      let e : Parts d (child d s0) = parts d (child d s0) (omega arith) c.inner in (
        make d _ (entry (child d s0)) _ _ (make d _ e1 _ _ x e.inner (omega arith)) (make d _ (entry s0) _ _ e.outer c.outer (omega arith)) (omega arith),
        omega arith,
      )

-- a property of the outcome of a round, by its cases
pub take_cases : {A : Type 0} (P : A → Type 0) {r0 r1 s a b : ℕ} (x : TakeRound r0 r1 s a b) (ended lowered rotated both twice : A)
    → (r1 ≤ r0 + 2 → P ended) → (¬ (r1 ≤ r0 + 2) → s + 2 ≡ r1 → P lowered)
    → (¬ (r1 ≤ r0 + 2) → ¬ (s + 2 ≡ r1) → b + 1 ≡ s → P rotated)
    → (¬ (r1 ≤ r0 + 2) → ¬ (s + 2 ≡ r1) → ¬ (b + 1 ≡ s) → a + 2 ≡ s → P both)
    → (¬ (r1 ≤ r0 + 2) → ¬ (s + 2 ≡ r1) → ¬ (b + 1 ≡ s) → ¬ (a + 2 ≡ s) → P twice)
    → P (by_take x ended lowered rotated both twice)
unfolding by_take
take_cases P (ends x) _ _ _ _ _ f g h i j = f x
take_cases P (lowers x y) _ _ _ _ _ f g h i j = g x y
take_cases P (rotates x y z) _ _ _ _ _ f g h i j = h x y z
take_cases P (lowers_both x y z w) _ _ _ _ _ f g h i j = i x y z w
take_cases P (rotates_twice x y z w) _ _ _ _ _ f g h i j = j x y z w

plug-kept : (p : Way) (t u : Tree) → Ranks t → Same t u → WayRanks (rank t) p → Kept (plug t p) (plug u p)
plug-kept p t u x e w = record { ranks = plug-ranks p t x w; same = plug-same p t u e }

-- the rank of the sibling at the end of the way
abbrev pub beside : Way → ℕ
beside [] = 1
beside (step d e r s ∷ p) = rank s

-- the way below a node that is now lower by one
lower-way : (r : ℕ) (p : Way) → 1 ≤ r → WayRanks r p → WayRanks (suc (r - 1)) p
lower-way r p h w = let q : r ≡ suc (r - 1) = omega arith in subst (λ (i : ℕ). WayRanks i p) q w

-- n0 has come to be one lower than the way needs it
pub remove_climb-kept : (n0 : Tree) (p : Way) → Ranks n0 → WayRanks (suc (rank n0)) p → 1 ≤ rank n0 + beside p
    → Kept (remove_climb n0 p) (plug n0 p)
unfolding remove_climb plug
remove_climb-kept n0 [] x w h = record { ranks = x; same = refl }
remove_climb-kept n0 (step d e1 r1 s0 ∷ p) x w h =
    take_cases (λ t. Kept t (plug (node d n0 e1 r1 s0) p)) (round_at d (rank n0) r1 s0)
    _ _ _ _ _
    (λ f. plug-kept p _ _ (make d _ e1 _ _ x w.0 (omega arith)) refl w.2)
    (λ f g.
    let i = remove_climb-kept (node d n0 e1 (r1 - 1) s0) p (make d _ e1 _ _ x w.0 (omega arith))
    (lower-way r1 p (omega arith) w.2) (omega arith) in
    record { ranks = i.ranks; same = i.same ∙ plug-same p _ _ (node-same d e1 _ r1 n0 n0 s0 s0 refl refl) })
    (λ f g z. plug-kept p _ _ (rotate-ranks d n0 e1 r1 s0 x w.0 (omega arith) (omega arith) z) (rotate-same d n0 e1 r1 r1 s0 (omega arith)) w.2)
    (λ f g z a.
    let i = remove_climb-kept (lower_both d n0 e1 r1 s0) p (lower_both-ranks d n0 e1 r1 s0 x w.0 (omega arith) (omega arith) a z)
    (lower-way r1 p (omega arith) w.2) (omega arith) in
    record { ranks = i.ranks; same = i.same ∙ plug-same p _ _ (lower_both-same d n0 e1 r1 r1 s0 (omega arith)) })
    (λ f g z a.
    let t = twice_ranks d n0 e1 r1 s0 x w.0 (omega arith) (omega arith) a z in
    plug-kept p _ _ t.0 (twice_same d n0 e1 r1 r1 s0 (omega arith) t.1) w.2)
