-- Placing keeps rule 2.
-- A reader may rely on: insert_at-ranks, for every way whose tree is ranked. WayRanks h p says that the way is ranked for a
-- tree of rank h at its end.
use mathlib.Core.Path.{◌≡◌, refl, subst}
use mathlib.Core.List.{[], ◌∷◌}
use Prim.Native.Nat.{ℕ, suc, ◌+◌, ◌≤◌}
use native.Mathlib.Decide.{ℕ_discrete}
use native.Mathlib.Omega.{arith}
use Rattle.wavl.specs.Entry.{Entry}
use Rattle.wavl.specs.Tree.{Side, left, right, other, Tree, tip, fork, node, rank, entry, child, leaf}
use Rattle.wavl.specs.Way.{step, Way, plug}
use Rattle.wavl.specs.Ranks.{Fits, Ranks}
use Rattle.wavl.specs.Placing.{place_round, one_side, alternating, restructure, insert_climb, insert_at}
use Rattle.wavl.proofs.Order.{choose_cases, place_cases}

pub make : (d : Side) (a : Tree) (e : Entry) (r : ℕ) (b : Tree) → Ranks a → Ranks b → Fits r (rank a) (rank b) → Ranks (node d a e r b)
make left a e r b x y f = (x, y, f)
make right a e r b x y f = (y, x, omega arith)

-- the children on the side d and on the other one
pub record Parts (d : Side) (t : Tree) : Type 0 where
  pub inner : Ranks (child d t)
  pub outer : Ranks (child (other d) t)
  pub fits : Fits (rank t) (rank (child d t)) (rank (child (other d) t))

pub parts : (d : Side) (t : Tree) → 1 ≤ rank t → Ranks t → Parts d t
parts left tip h x = absurd (omega arith)
parts right tip h x = absurd (omega arith)
parts left (fork a e r b) h x = record { inner = x.0; outer = x.1; fits = x.2 }
parts right (fork a e r b) h x = record { inner = x.1; outer = x.0; fits = omega arith }

abbrev pub WayRanks : ℕ → Way → Type 0
WayRanks h [] = Unit {0}
WayRanks h (step d e r s ∷ p) = Ranks s × Fits r h (rank s) × WayRanks r p

pub plug-ranks : (p : Way) (t : Tree) → Ranks t → WayRanks (rank t) p → Ranks (plug t p)
unfolding plug
plug-ranks [] t x w = x
plug-ranks (step d e r s ∷ p) t x w = plug-ranks p (node d t e r s) (make d t e r s x w.0 w.1) w.2

pub unplug_ranks : (p : Way) (t : Tree) → Ranks (plug t p) → Ranks t × WayRanks (rank t) p
unfolding plug
unplug_ranks [] t x = (x, tt)
unplug_ranks (step d e r s ∷ p) t x = go d (unplug_ranks p (node d t e r s) x)
  where
    go : (d : Side) → Ranks (node d t e r s) × WayRanks r p → Ranks t × (Ranks s × Fits r (rank t) (rank s) × WayRanks r p)
    go left y = (y.0.0, (y.0.1, y.0.2, y.1))
    go right y = (y.0.1, (y.0.0, omega arith, y.1))

-- what the climb knows of n0, of n1's other child s0, and of the rank that n1 has now
pub record Raised (n0 : Tree) (r1 : ℕ) (s0 : Tree) : Type 0 where
  pub first : Ranks n0
  pub second : Ranks s0
  pub one_up : r1 ≡ suc (rank n0)
  pub two_up : r1 ≡ rank s0 + 2

raised-node : (d : Side) (n0 : Tree) (e1 : Entry) (r1 : ℕ) (s0 : Tree) → Raised n0 r1 s0 → Ranks (node d n0 e1 r1 s0)
raised-node d n0 e1 r1 s0 x = make d n0 e1 r1 s0 x.first x.second (omega arith)

module _ (n0 : Tree) (e1 : Entry) (r1 : ℕ) (s0 : Tree) (x : Raised n0 r1 s0) (e2 : Entry) (s1 : Tree) (y : Ranks s1) (l : r1 ≡ rank s1 + 2) where
  one_side-ranks : (e : Side) → Ranks (one_side e n0 e1 r1 s0 e2 s1)
  one_side-ranks e = make e _ e1 _ _ x.first (make e _ e2 _ _ x.second y (omega arith)) (omega arith)

  alternating-ranks : (e : Side) → Ranks (alternating e n0 e1 r1 s0 e2 s1)
  alternating-ranks e =
      let c : Parts e n0 = parts e n0 (omega arith) x.first in
      make e _ (entry n0) _ _ (make e _ e1 _ _ x.second c.inner (omega arith)) (make e _ e2 _ _ c.outer y (omega arith)) (omega arith)

  pub restructure-ranks : (d e : Side) → Ranks (restructure d e n0 e1 r1 s0 e2 s1) × (rank (restructure d e n0 e1 r1 s0 e2 s1) ≡ r1)
  restructure-ranks left left = (one_side-ranks left, refl)
  restructure-ranks right right = (one_side-ranks right, refl)
  restructure-ranks right left = (alternating-ranks left, refl)
  restructure-ranks left right = (alternating-ranks right, refl)

pub insert_climb-ranks : (n0 : Tree) (d : Side) (e1 : Entry) (r1 : ℕ) (s0 : Tree) (p : Way)
    → Raised n0 r1 s0 → WayRanks (rank n0) p → Ranks (insert_climb n0 d e1 r1 s0 p)
unfolding insert_climb
insert_climb-ranks n0 d e1 r1 s0 [] x w = raised-node d n0 e1 r1 s0 x
insert_climb-ranks n0 d e1 r1 s0 (step e e2 r2 s1 ∷ p) x w =
    let n1 : Ranks (node d n0 e1 r1 s0) = raised-node d n0 e1 r1 s0 x in
    place_cases Ranks (place_round r1 r2 (rank s1)) _ _ _
    (λ l. plug-ranks p _ (make e _ e2 _ _ n1 w.0 (omega arith)) w.2)
    (λ l m.
    let q : r2 ≡ r1 = omega arith in
    insert_climb-ranks (node d n0 e1 r1 s0) e e2 (suc r2) s1 p
    (record { first = n1; second = w.0; one_up = omega arith; two_up = omega arith })
    (subst (λ (r : ℕ). WayRanks r p) q w.2))
    (λ l m.
    let t = restructure-ranks n0 e1 r1 s0 x e2 s1 w.0 (omega arith) d e in
    let q : r2 ≡ rank (restructure d e n0 e1 r1 s0 e2 s1) = omega arith in
    plug-ranks p _ t.0 (subst (λ (r : ℕ). WayRanks r p) q w.2))

-- rule 2 after a new entry
pub insert_at-ranks : (e : Entry) (p : Way) → Ranks (plug tip p) → Ranks (insert_at e p)
unfolding insert_at
insert_at-ranks e [] x = (tt, tt, omega arith)
insert_at-ranks e (step d e1 r1 s0 ∷ p) x =
    let w = (unplug_ranks (step d e1 r1 s0 ∷ p) tip x).1 in
    let new : Ranks (leaf e) = (tt, tt, omega arith) in
    choose_cases Ranks (ℕ_discrete r1 2) _ _
    (λ l. plug-ranks p _ (make d _ e1 _ _ new w.0 (omega arith)) w.2)
    (λ l. insert_climb-ranks (leaf e) d e1 2 s0 p
    (record { first = new; second = w.0; one_up = refl; two_up = omega arith })
    (let q : r1 ≡ 1 = omega arith in rw q at w.2))
