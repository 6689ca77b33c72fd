-- Request 14: one insertion restructures at most once, one removal rotates at most once, and neither changes more ranks by
-- climbing than the root's rank before it plus two.
-- A reader may rely on: the counts are those of Placing and TakingCounts, in the steps of document 01's definitions.
use mathlib.Core.Path.{◌≡◌, refl, sym, ap, subst}
use mathlib.Core.List.{[], ◌∷◌}
use Prim.Native.Nat.{ℕ, suc, ◌+◌, ◌-◌, ◌≤◌}
use native.Mathlib.Decide.{ℕ_discrete}
use native.Mathlib.Omega.{arith}
use Rattle.wavl.specs.Entry.{Entry}
use Rattle.wavl.specs.Tree.{Side, left, right, Tree, tip, fork, node, rank}
use Rattle.wavl.specs.Way.{step, Way, plug}
use Rattle.wavl.specs.Ranks.{Ranks}
use Rattle.wavl.specs.Placing.{place_round, climb_turns, insert_turns, turn_changes, climb_changes, insert_changes}
use Rattle.wavl.specs.Taking.{round_at, endmost, vacate_end, vacate}
use Rattle.wavl.specs.inner.TakingCounts.{climb_rotations, remove_rotations, climb_lowerings, remove_changes}
use Rattle.wavl.proofs.Order.{choose_cases, place_cases, IsFork}
use Rattle.wavl.proofs.Placed.{WayRanks, unplug_ranks}
use Rattle.wavl.proofs.Removed.{take_cases}
use Rattle.wavl.proofs.Taken.{lone-leaf, vacate_emptied}

-- the root's rank, where a tree of rank h hangs at the end of the way
abbrev top : ℕ → Way → ℕ
top h [] = h
top h (step d e r s ∷ p) = top r p

plug-top : (p : Way) (t : Tree) → rank (plug t p) ≡ top (rank t) p
unfolding plug
plug-top [] t = refl
plug-top (step d e r s ∷ p) t = plug-top p (node d t e r s)

top_above : (h : ℕ) (p : Way) → WayRanks h p → h ≤ top h p
top_above h [] w = omega arith
top_above h (step d e r s ∷ p) w = let i = top_above r p w.2 in omega arith

-- Placing.
climb_turns-once : (r1 : ℕ) (p : Way) → climb_turns r1 p ≤ 1
unfolding climb_turns
climb_turns-once r1 [] = omega arith
climb_turns-once r1 (step e e2 r2 s1 ∷ p) =
    place_cases (λ n. n ≤ 1) (place_round r1 r2 (rank s1)) _ _ _
    (λ f. omega arith) (λ f g. climb_turns-once (suc r2) p) (λ f g. omega arith)

pub insert-turns-once : (p : Way) → insert_turns p ≤ 1
unfolding insert_turns
insert-turns-once [] = omega arith
insert-turns-once (step d e1 r1 s0 ∷ p) =
    choose_cases (λ n. n ≤ 1) (ℕ_discrete r1 2) _ _ (λ f. omega arith) (λ f. climb_turns-once 2 p)

turn_three : (d e : Side) → turn_changes d e ≤ 3
turn_three left left = omega arith
turn_three right right = omega arith
turn_three left right = omega arith
turn_three right left = omega arith

-- n1 had the rank h and has one more now
climb_changes-bound : (d : Side) (h : ℕ) (p : Way) → WayRanks h p → climb_changes d (suc h) p + h ≤ top h p + 2
unfolding climb_changes
climb_changes-bound d h [] w = omega arith
climb_changes-bound d h (step e e2 r2 s1 ∷ p) w =
    let t = top_above r2 p w.2 in
    place_cases (λ n. n + h ≤ top r2 p + 2) (place_round (suc h) r2 (rank s1)) _ _ _
    (λ f. omega arith)
    (λ f g. let i = climb_changes-bound e r2 p w.2 in omega arith)
    (λ f g. let i = turn_three d e in omega arith)

pub insert_changes_few : (p : Way) → Ranks (plug tip p) → insert_changes p ≤ rank (plug tip p) + 2
unfolding insert_changes
insert_changes_few p x = rw (plug-top p tip) (go p (unplug_ranks p tip x).1)
  where
    go : (p : Way) → WayRanks 0 p → insert_changes p ≤ top 0 p + 2
    go [] w = omega arith
    go (step d e1 r1 s0 ∷ p) w =
        choose_cases (λ n. n ≤ top r1 p + 2) (ℕ_discrete r1 2) _ _
        (λ f. omega arith)
        (λ f.
        let q : r1 ≡ 1 = omega arith in
        let i : climb_changes d 2 p + 1 ≤ top r1 p + 2 = rw q (climb_changes-bound d 1 p (rw q at w.2)) in
        omega arith)

-- Taking away.
climb_rotations-once : (r0 : ℕ) (p : Way) → climb_rotations r0 p ≤ 1
unfolding climb_rotations
climb_rotations-once r0 [] = omega arith
climb_rotations-once r0 (step d e1 r1 s0 ∷ p) =
    let i = climb_rotations-once (r1 - 1) p in
    take_cases (λ n. n ≤ 1) (round_at d r0 r1 s0) _ _ _ _ _
    (λ f. omega arith) (λ f g. i) (λ f g x. omega arith) (λ f g x y. i) (λ f g x y. omega arith)

pub remove-rotates-once : (p : Way) → remove_rotations p ≤ 1
unfolding remove_rotations
remove-rotates-once [] = omega arith
remove-rotates-once (step d e r tip ∷ p) = climb_rotations-once 1 p
remove-rotates-once (step d e r (fork a f q b) ∷ p) = climb_rotations-once 0 (step d e r (fork a f q b) ∷ p)

-- n0 has come to the rank h, one lower than it was
climb_lowerings-bound : (h : ℕ) (p : Way) → WayRanks (suc h) p → climb_lowerings h p + h ≤ top (suc h) p
unfolding climb_lowerings
climb_lowerings-bound h [] w = omega arith
climb_lowerings-bound h (step d e1 r1 s0 ∷ p) w =
    let t = top_above r1 p w.2 in
    let q : r1 ≡ suc (r1 - 1) = omega arith in
    let i : climb_lowerings (r1 - 1) p + (r1 - 1) ≤ top r1 p =
    subst (λ (k : ℕ). climb_lowerings (r1 - 1) p + (r1 - 1) ≤ top k p) (sym q)
    (climb_lowerings-bound (r1 - 1) p (subst (λ (k : ℕ). WayRanks k p) q w.2)) in
    take_cases (λ n. n + h ≤ top r1 p) (round_at d h r1 s0) _ _ _ _ _
    (λ f. omega arith) (λ f g. omega arith) (λ f g x. omega arith) (λ f g x y. omega arith) (λ f g x y. omega arith)

settle_changes : (p : Way) → WayRanks 1 p → remove_changes p ≤ top 1 p
unfolding remove_changes
settle_changes [] w = omega arith
settle_changes (step d e r tip ∷ p) w =
    let q : r ≡ 2 = omega arith in
    let i : climb_lowerings 1 p + 1 ≤ top r p = rw q (climb_lowerings-bound 1 p (rw q at w.2)) in
    omega arith
settle_changes (step d e r (fork a f q b) ∷ p) w = let i = climb_lowerings-bound 0 (step d e r (fork a f q b) ∷ p) w in omega arith

-- the replacements leave the ranks of their places
vacate_end-top : (t : Tree) → IsFork t → (p : Way) → Ranks t → top 1 (vacate_end right t p) ≡ top (rank t) p
unfolding vacate_end
vacate_end-top tip f p x = absurd f
vacate_end-top (fork tip e r tip) f p x = let q : r ≡ 1 = omega arith in ap (λ (k : ℕ). top k p) (sym q)
vacate_end-top (fork (fork a g q b) e r tip) f p x = vacate_end-top (fork a g q b) tt (step left (endmost right (fork a g q b)) r tip ∷ p) x.0
vacate_end-top (fork a e r (fork b g q c)) f p x = vacate_end-top (fork b g q c) tt (step right e r a ∷ p) x.1

vacate-top : (a : Tree) (e : Entry) (r : ℕ) (b : Tree) (p : Way) → Ranks (fork a e r b) → top 1 (vacate (fork a e r b) p) ≡ top r p
unfolding vacate vacate_end
vacate-top tip e r tip p x = let q : r ≡ 1 = omega arith in ap (λ (k : ℕ). top k p) (sym q)
vacate-top tip e r (fork b f q c) p x = lone-leaf (λ b c. top 1 (vacate (fork tip e r (fork b f q c)) p) ≡ top r p) e r b f q c x (λ h. refl)
vacate-top (fork a f q c) e r b p x = vacate_end-top (fork a f q c) tt (step left (endmost right (fork a f q c)) r b ∷ p) x.0

-- no more than the root's rank, let alone two more
pub remove_changes_few : (a : Tree) (e : Entry) (r : ℕ) (b : Tree) (p : Way) → Ranks (plug (fork a e r b) p)
    → remove_changes (vacate (fork a e r b) p) ≤ rank (plug (fork a e r b) p)
remove_changes_few a e r b p x =
    let y = unplug_ranks p (fork a e r b) x in
    let i = settle_changes (vacate (fork a e r b) p) (vacate_emptied a e r b p y.0 y.1).ranks in
    rw (plug-top p (fork a e r b), ← vacate-top a e r b p y.0) i
