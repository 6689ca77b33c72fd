-- Rule 2 as document 01 words it and the working form are the same, on whole trees.
-- A reader may rely on: Ranked t and Ranks t say the same of every tree.
use mathlib.Core.Logic.{◌⊎◌, inl, inr, ◌↔◌}
use mathlib.Core.Path.{◌≡◌, refl, ap}
use Prim.Native.Nat.{ℕ, ◌+◌, ◌≤◌, ◌<◌}
use native.Mathlib.Decide.{ℕ_discrete}
use native.Mathlib.Omega.{arith}
use Rattle.wavl.specs.Tree.{Tree, tip, fork, rank}
use Rattle.wavl.specs.Ranks.{Rule2, Ranked, Fits, Ranks}

one_or_two : (r a : ℕ) → a < r → r ≤ a + 2 → (r ≡ a + 1) ⊎ (r ≡ a + 2)
one_or_two r a l m = go (ℕ_discrete r (a + 1))
  where
    go : Dec (r ≡ a + 1) → (r ≡ a + 1) ⊎ (r ≡ a + 2)
    go (yes e) = inl e
    go (no e) = inr (omega arith)

above_and_near : (r a : ℕ) → (r ≡ a + 1) ⊎ (r ≡ a + 2) → (a < r) × (r ≤ a + 2)
above_and_near r a (inl e) = omega arith
above_and_near r a (inr e) = omega arith

pub to_rule2 : (a : Tree) (r : ℕ) (b : Tree) → Fits r (rank a) (rank b) → Rule2 a r b
to_rule2 a r b f = record {
  over_left = one_or_two r (rank a) f.over_a f.near_a;
  over_right = one_or_two r (rank b) f.over_b f.near_b;
  childless = λ x y. let p : rank a ≡ 0 = ap rank x in let q : rank b ≡ 0 = ap rank y in omega arith;
}

-- a tree that isn't missing has a rank
pub rank_pos : (a : Tree) (r : ℕ) (b : Tree) → Rule2 a r b → 1 ≤ r
rank_pos a r b f = let h = above_and_near r (rank a) f.over_left in omega arith

pub from_rule2 : (a : Tree) (r : ℕ) (b : Tree) → Ranked a → Ranked b → Rule2 a r b → Fits r (rank a) (rank b)
from_rule2 a r b x y f = go a b x y (above_and_near r _ f.over_left) (above_and_near r _ f.over_right) f.childless
  where
    go : (a b : Tree) → Ranked a → Ranked b → (rank a < r) × (r ≤ rank a + 2) → (rank b < r) × (r ≤ rank b + 2)
        → (a ≡ tip → b ≡ tip → r ≡ 1) → Fits r (rank a) (rank b)
    go tip tip x y g h f = let e : r ≡ 1 = f refl refl in omega arith
    go tip (fork b e q c) x y g h f = let p = rank_pos b q c y.2 in omega arith
    go (fork a e q c) b x y g h f = let p = rank_pos a q c x.2 in omega arith

pub ranks→ranked : (t : Tree) → Ranks t → Ranked t
ranks→ranked tip x = tt
ranks→ranked (fork a e r b) x = (ranks→ranked a x.0, ranks→ranked b x.1, to_rule2 a r b x.2)

pub ranked→ranks : (t : Tree) → Ranked t → Ranks t
ranked→ranks tip x = tt
ranked→ranks (fork a e r b) x = (ranked→ranks a x.0, ranked→ranks b x.1, from_rule2 a r b x.0 x.1 x.2)

pub rule_2_forms : (t : Tree) → Ranked t ↔ Ranks t
rule_2_forms t = (ranked→ranks t, ranks→ranked t)
