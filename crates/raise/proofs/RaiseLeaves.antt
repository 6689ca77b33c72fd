-- What rebalancing leaves alone, for proofs on sound stores and for the promises on any store: all but the tree.
use Prim.Native.Nat.{ℕ, zero, suc, ◌+◌, ◌<◌, ◌≤◌}
use mathlib.Core.Path.{refl}
use mathlib.Core.List.{List}
use native.Mathlib.Omega.{arith}
use lib.Dec.{ltb, leb, eqb}
use borrow.Author.Tests.{ltb-true, leb-false}
use Rattle.arena.specs.Words.{field, put, RANK, BACK}
use Rattle.arena.specs.inner.Budget.{budget}
use Rattle.arena.proofs.Paths.{either}
use Rattle.arena.proofs.Only.{only_none, only_trans, only-put}
use Rattle.tree.specs.inner.Links.{side_of_child}
use Rattle.tree.specs.inner.Kept.{TreeOnly}
use Rattle.tree.proofs.Climb.{Turned, turned-done, turned_bad, Plain, Plainly, on_plain, Settled, on_only}
use Rattle.raise.specs.inner.Restructures.{lifted_one, turned_same, spread_below, turned_across}
use Rattle.raise.specs.declared.turns.Turn.{Turn}
use Rattle.raise.specs.inner.Ranks.{above, raised_up, fix_with, fix_turn, raise_from, climbed_to, climbed_above, rebalanced}
use Rattle.tree.proofs.Keeps.{side-small, back-only, relinked-only, node-only, spread-only}
use Rattle.handle.specs.declared.Refusal.TheVariants.{NotSound}
use Rattle.tree.specs.declared.Climbed.{Climbed}
use Rattle.tree.specs.declared.Climbed.TheVariants.{Done, Up}
use Rattle.std.specs.Prelude.{Ok, Err}

module _ (s : List ℕ) (cap d : ℕ) (t : Turn) (h0 : t.n0 < cap) (h1 : t.n1 < cap) (h2 : t.n2 < cap) (hd : d ≤ 1) where
  pub same-only : TreeOnly s (turned_same s cap d t) cap
  unfolding turned_same lifted_one
  same-only =
      only_trans (back-only _ _ _ _)
      (only_trans (only-put _ _ _ _ h1 (omega arith) (omega arith))
      (only_trans (only-put _ _ _ _ h1 (omega arith) (omega arith))
      (only_trans (node-only _ _ _ _ _ h2 hd) (relinked-only _ _ _ _ _))))

  pub across-only : TreeOnly s (turned_across s cap d t) cap
  unfolding turned_across spread_below
  across-only =
      only_trans (spread-only _ _ _ _ _ _ _ h1 h2 hd)
      (only_trans (node-only _ _ _ _ _ h0 hd) (relinked-only _ _ _ _ _))

pub raised-only : (s : List ℕ) (cap p2 p3 r1 : ℕ) → p2 < cap → Turned s cap (raised_up s cap p2 p3 r1)
unfolding raised_up above
raised-only s cap p2 p3 r1 h2 =
    let t = put s cap p2 RANK (r1 + 1) in
    let o : TreeOnly s t cap = only-put s p2 RANK (r1 + 1) h2 (omega arith) (omega arith) in
    either (Turned s cap) (ltb p3 cap) (t, Ok (Up p3 (side_of_child t cap p3 p2))) (t, Ok Done) (λ e. (o, (ltb-true p3 cap e, side-small _ _ _ _))) (λ e. (o, tt))

module _ (s : List ℕ) (cap d01 d12 : ℕ) (t : Turn) (h0 : t.n0 < cap) (h1 : t.n1 < cap) (h2 : t.n2 < cap) (e1 : d01 ≤ 1) (e2 : d12 ≤ 1) where
  with_only : (r1 r2 rs1 : ℕ) → Turned s cap (fix_with s cap d01 d12 t r1 r2 rs1)
  unfolding fix_with
  with_only r1 r2 rs1 =
      either (Turned s cap) (ltb r1 r2) _ _ (λ e. turned-done s s cap only_none)
      (λ e. either (Turned s cap) (leb budget r1) _ _ (λ f. turned_bad s cap)
      (λ f. either (Turned s cap) (leb budget rs1) _ _ (λ g. turned_bad s cap)
      (λ g. either (Turned s cap) (eqb (rs1 + 1) r2) _ _ (λ h. raised-only s cap t.n2 t.n3 r1 h2)
      (λ h. either (Turned s cap) (eqb d01 d12) _ _ (λ k. turned-done s _ cap (same-only s cap d01 t h0 h1 h2 e1))
      (λ k. turned-done s _ cap (across-only s cap d12 t h0 h1 h2 e2))))))

pub fix_only : (s : List ℕ) (cap p0 p1 p2 d01 d12 : ℕ) → p0 < cap → p1 < cap → p2 < cap → d01 ≤ 1 → d12 ≤ 1 → Turned s cap (fix_turn s cap p0 p1 p2 d01 d12)
unfolding fix_turn
fix_only s cap p0 p1 p2 d01 d12 h0 h1 h2 e1 e2 = with_only s cap d01 d12 _ h0 h1 h2 e1 e2 _ _ _

-- what refuses is no sound store, whatever the words
plain_done : (s : List ℕ) → Plainly {A = Climbed} (s, Ok Done)
plain_done s = record { plain = tt }

plain_bad : (s : List ℕ) → Plainly {A = Climbed} (s, Err NotSound)
plain_bad s = record { plain = refl }

raised-plain : (s : List ℕ) (cap p2 p3 r1 : ℕ) → Plainly (raised_up s cap p2 p3 r1)
unfolding raised_up above
raised-plain s cap p2 p3 r1 = either Plainly (ltb p3 cap) _ _ (λ e. record { plain = tt }) (λ e. plain_done _)

plain_with : (s : List ℕ) (cap d01 d12 : ℕ) (t : Turn) (r1 r2 rs1 : ℕ) → Plainly (fix_with s cap d01 d12 t r1 r2 rs1)
unfolding fix_with
plain_with s cap d01 d12 t r1 r2 rs1 =
    either Plainly (ltb r1 r2) _ _ (λ e. plain_done _)
    (λ e. either Plainly (leb budget r1) _ _ (λ f. plain_bad _)
    (λ f. either Plainly (leb budget rs1) _ _ (λ g. plain_bad _)
    (λ g. either Plainly (eqb (rs1 + 1) r2) _ _ (λ h. raised-plain s cap t.n2 t.n3 r1)
    (λ h. either Plainly (eqb d01 d12) _ _ (λ k. plain_done _) (λ k. plain_done _)))))

fix_plain : (s : List ℕ) (cap p0 p1 p2 d01 d12 : ℕ) → Plainly (fix_turn s cap p0 p1 p2 d01 d12)
unfolding fix_turn
fix_plain s cap p0 p1 p2 d01 d12 = plain_with s cap d01 d12 _ _ _ _

climb_plain : (fuel : ℕ) (s : List ℕ) (cap p0 p1 p2 d01 d12 : ℕ) → Plain (raise_from fuel s cap p0 p1 p2 d01 d12).1
unfolding raise_from
climb_plain zero s cap p0 p1 p2 d01 d12 = refl
climb_plain (suc fuel) s cap p0 p1 p2 d01 d12 =
    let x = fix_turn s cap p0 p1 p2 d01 d12 in
    let f = fix_plain s cap p0 p1 p2 d01 d12 in
    on_plain x.0 x.1 _ f.plain (λ p3 d. climb_plain fuel x.0 cap p1 p2 p3 d12 d)

above-plain : (s : List ℕ) (cap p0 p1 : ℕ) → Plainly (climbed_above s cap p0 p1)
unfolding climbed_above climbed_to
above-plain s cap p0 p1 =
    let p2 = field s cap p1 BACK in
    either Plainly (leb cap p2) _ _ (λ f. record { plain = tt }) (λ f. record { plain = climb_plain budget s cap p0 p1 p2 _ _ })

pub rebalanced-plain : (s : List ℕ) (cap p0 p1 : ℕ) → Plainly (rebalanced s cap p0 p1)
unfolding rebalanced
rebalanced-plain s cap p0 p1 = either Plainly (eqb (field s cap p1 RANK) 2) _ _ (λ e. record { plain = tt }) (λ e. above-plain _ cap p0 p1)

pub climb_only : (fuel : ℕ) (s : List ℕ) (cap p0 p1 p2 d01 d12 : ℕ) → p0 < cap → p1 < cap → p2 < cap → d01 ≤ 1 → d12 ≤ 1
    → TreeOnly s (raise_from fuel s cap p0 p1 p2 d01 d12).0 cap
unfolding raise_from
climb_only zero s cap p0 p1 p2 d01 d12 h0 h1 h2 e1 e2 = only_none
climb_only (suc fuel) s cap p0 p1 p2 d01 d12 h0 h1 h2 e1 e2 =
    let x = fix_turn s cap p0 p1 p2 d01 d12 in
    let f = fix_only s cap p0 p1 p2 d01 d12 h0 h1 h2 e1 e2 in
    on_only s x.0 cap x.1 _ f.0 f.1 (λ p3 d h3 e3. climb_only fuel x.0 cap p1 p2 p3 d12 d h1 h2 h3 e2 e3)

module _ (s : List ℕ) (cap p0 p1 : ℕ) (h0 : p0 < cap) (h1 : p1 < cap) where
  to-only : (p2 : ℕ) → Settled s cap (climbed_to s cap p0 p1 p2)
  unfolding climbed_to
  to-only p2 =
      let d01 = side_of_child s cap p1 p0 in
      let d12 = side_of_child s cap p2 p1 in
      either (Settled s cap) (leb cap p2) (s, Ok tt) (raise_from budget s cap p0 p1 p2 d01 d12) (λ e. only_none)
      (λ e. climb_only budget s cap p0 p1 p2 d01 d12 h0 h1 (leb-false cap p2 e) (side-small s cap p1 p0) (side-small s cap p2 p1))

  above-only : Settled s cap (climbed_above s cap p0 p1)
  unfolding climbed_above
  above-only = to-only (field s cap p1 BACK)

pub rebalanced-only : (s : List ℕ) (cap p0 p1 : ℕ) → p0 < cap → p1 < cap → Settled s cap (rebalanced s cap p0 p1)
unfolding rebalanced
rebalanced-only s cap p0 p1 h0 h1 =
    let t = put s cap p1 RANK 2 in
    either (Settled s cap) (eqb (field s cap p1 RANK) 2) (s, Ok tt) (climbed_above t cap p0 p1) (λ e. only_none)
    (λ e. only_trans (only-put s p1 RANK 2 h1 (omega arith) (omega arith)) (above-only t cap p0 p1 h0 h1))
