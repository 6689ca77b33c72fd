-- What the tests at a node and between neighbours say, and that they say yes where it is so.
-- A reader may rely on: each test and its facts are the same, for any words.
use Prim.Native.Nat.{ℕ, ◌-◌, ◌≤◌, ◌<◌}
use mathlib.Core.Path.{◌≡◌}
use mathlib.Core.Bool.{true}
use mathlib.Core.List.{List}
use native.Mathlib.Omega.{arith}
use borrow.Author.Tests.{ltb-true, ltb-false, leb-false, eqb-true, lt-ltb, le-ltb, lt-leb, eq-eqb}
use Rattle.arena.specs.Words.{field, KEY, LEFT, RIGHT, RANK, BACK, GENERATION}
use Rattle.tree.specs.inner.Links.{rank_of}
use Rattle.wavl.specs.Ranks.{Fits}
use Rattle.rules.specs.Sound.{Generation}
use Rattle.arena.proofs.Paths.{no_refusal, no_refusals}
use Rattle.sound.specs.inner.Nodes.{fits_test, generation_test, ranks_test, node_test}
use Rattle.sound.specs.inner.Joints.{after_of, before_of, rises_test, join_test}
use Rattle.sound.proofs.Choices.{both_say, both-are, past_is, choice_says, choice_is}

pub fits_say : (r a b : ℕ) → fits_test r a b ≡ true → Fits r a b
unfolding fits_test
fits_say r a b e =
    let n = no_refusals _ _ _ _ _ e in
    let p = leb-false r a n.0 in
    let q = leb-false r b n.1 in
    let u = ltb-false 2 (r - a) n.2 in
    let v = ltb-false 2 (r - b) n.3 in
    let w = ltb-false b (r - a - 1) n.4 in
    record { over_a = p; near_a = omega arith; over_b = q; near_b = omega arith; bare = omega arith }

pub fits-are : (r a b : ℕ) → Fits r a b → fits_test r a b ≡ true
unfolding fits_test
fits-are r a b f =
    let p = f.over_a in
    let q = f.over_b in
    let u : r - a ≤ 2 = let h = f.near_a in omega arith in
    let v : r - b ≤ 2 = let h = f.near_b in omega arith in
    let w : r - a - 1 ≤ b = let h = f.bare in omega arith in
    rw (lt-leb r a p, lt-leb r b q, le-ltb 2 (r - a) u, le-ltb 2 (r - b) v, le-ltb b (r - a - 1) w)

pub generation_says : (g top : ℕ) → generation_test g top ≡ true → Generation top g
unfolding generation_test
generation_says g top e =
    let p = no_refusal _ _ e in
    let q = no_refusal _ _ p.1 in
    record { from_one = ltb-false g 1 p.0; to-top = ltb-false top g q.0 }

pub generation-is : (g top : ℕ) → Generation top g → generation_test g top ≡ true
unfolding generation_test
generation-is g top h = rw (le-ltb g 1 h.from_one, le-ltb top g h.to-top)

-- the slot p hangs below `back`, as rules 1, 2 and 6 have it
pub record GoodNode (s : List ℕ) (cap top back p : ℕ) : Type 0 where
  pub low : p < cap
  pub back_is : field s cap p BACK ≡ back
  pub generation : Generation top (field s cap p GENERATION)
  pub fits : Fits (field s cap p RANK) (rank_of s cap (field s cap p LEFT)) (rank_of s cap (field s cap p RIGHT))

pub node_says : (s : List ℕ) (cap top back p : ℕ) → node_test s cap top back p ≡ true → GoodNode s cap top back p
unfolding node_test ranks_test
node_says s cap top back p e =
    let a = no_refusal _ _ e in
    let b = both_say _ _ a.1 in
    let c = both_say _ _ b.1 in
    record {
      low = leb-false cap p a.0;
      back_is = eqb-true _ back b.0;
      generation = generation_says _ top c.0;
      fits = fits_say _ _ _ c.1;
    }

pub node-is : (s : List ℕ) (cap top back p : ℕ) → GoodNode s cap top back p → node_test s cap top back p ≡ true
unfolding node_test ranks_test
node-is s cap top back p n =
    past_is _ _ (lt-leb cap p n.low)
    (both-are _ _ (eq-eqb _ back n.back_is) (both-are _ _ (generation-is _ top n.generation) (fits-are _ _ _ n.fits)))

-- y stands after x in the chain, as rules 3 and 4 have it; no slot stands before the first and after the last
pub record Joint (s : List ℕ) (cap x y : ℕ) : Type 0 where
  pub after : after_of s cap x ≡ y
  pub before : before_of s cap y ≡ x
  pub rise : x < cap → y < cap → field s cap x KEY < field s cap y KEY

pub join_says : (s : List ℕ) (cap x y : ℕ) → join_test s cap x y ≡ true → Joint s cap x y
unfolding join_test rises_test
join_says s cap x y e =
    let a = both_say _ _ e in
    let b = both_say _ _ a.1 in
    let c = choice_says _ _ _ b.1 in
    record {
      after = eqb-true _ y a.0;
      before = eqb-true _ x b.0;
      rise = λ l m. ltb-true _ _ ((choice_says _ _ _ (c.1 (lt-leb cap x l))).1 (lt-leb cap y m));
    }

pub join_is : (s : List ℕ) (cap x y : ℕ) → Joint s cap x y → join_test s cap x y ≡ true
unfolding join_test rises_test
join_is s cap x y j =
    both-are _ _ (eq-eqb _ y j.after)
    (both-are _ _ (eq-eqb _ x j.before)
    (choice_is _ _ _ (λ e. yes) (λ e. choice_is _ _ _ (λ f. yes) (λ f. lt-ltb _ _ (j.rise (leb-false cap x e) (leb-false cap y f))))))
  where
    yes : true ≡ true
    yes = cc
