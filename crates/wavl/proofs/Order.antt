-- The chain: what stands around a place, and that placing changes it by the new entry alone.
-- A reader may rely on: insert_at-order needs no rank rule; the entries before and after the place stay as they are.
use mathlib.Core.Path.{◌≡◌, refl, sym, ◌∙◌}
use mathlib.Core.List.{[], ◌∷◌, ◌++◌, append_assoc, append-nil}
use Prim.Native.Nat.{ℕ, suc, ◌+◌, ◌<◌}
use native.Mathlib.Decide.{ℕ_discrete}
use Rattle.wavl.specs.Lists.{choose}
use Rattle.wavl.specs.Entry.{Entry}
use Rattle.wavl.specs.Tree.{Side, left, right, other, Tree, tip, fork, node, rank, leaf, inorder}
use Rattle.wavl.specs.Way.{step, Way, plug, before, after, around}
use Rattle.wavl.specs.Placing.{PlaceRound, stops, raises, turns, place_round, by_place, one_side, alternating, restructure, insert_climb, insert_at}

-- two trees with the same chain
abbrev pub Same : Tree → Tree → Type 0
Same t u = inorder t ≡ inorder u

pub node-same : (d : Side) (e : Entry) (q r : ℕ) (a b s t : Tree) → Same a b → Same s t → Same (node d a e q s) (node d b e r t)
unfolding inorder
node-same left e q r a b s t x y = cc
node-same right e q r a b s t x y = cc

pub plug-same : (p : Way) (t u : Tree) → Same t u → Same (plug t p) (plug u p)
unfolding plug
plug-same [] t u x = x
plug-same (step d e r s ∷ p) t u x = plug-same p (node d t e r s) (node d u e r s) (node-same d e r r t u s s x refl)

-- the chain is what stands before the place, there, and after it
pub plug-around : (p : Way) (t : Tree) → inorder (plug t p) ≡ around (inorder t) p
unfolding plug inorder before after
plug-around [] t = sym (append-nil (inorder t))
plug-around (step left e r s ∷ p) t = plug-around p (fork t e r s) ∙ simp append_assoc
plug-around (step right e r s ∷ p) t = plug-around p (fork s e r t) ∙ simp append_assoc

abbrev pub IsFork : Tree → Type 0
IsFork tip = ⊥
IsFork (fork a e r b) = Unit {0}

one_side-same : (e : Side) (n0 : Tree) (e1 : Entry) (r1 q1 : ℕ) (s0 : Tree) (e2 : Entry) (q2 : ℕ) (s1 : Tree)
    → Same (one_side e n0 e1 r1 s0 e2 s1) (node e (node e n0 e1 q1 s0) e2 q2 s1)
unfolding inorder
one_side-same left n0 e1 r1 q1 s0 e2 q2 s1 = simp append_assoc
one_side-same right n0 e1 r1 q1 s0 e2 q2 s1 = simp append_assoc

alternating-same : (e : Side) (n0 : Tree) → IsFork n0 → (e1 : Entry) (r1 q1 : ℕ) (s0 : Tree) (e2 : Entry) (q2 : ℕ) (s1 : Tree)
    → Same (alternating e n0 e1 r1 s0 e2 s1) (node e (node (other e) n0 e1 q1 s0) e2 q2 s1)
unfolding inorder
alternating-same left tip h e1 r1 q1 s0 e2 q2 s1 = absurd h
alternating-same left (fork a f r b) h e1 r1 q1 s0 e2 q2 s1 = simp append_assoc
alternating-same right tip h e1 r1 q1 s0 e2 q2 s1 = absurd h
alternating-same right (fork a f r b) h e1 r1 q1 s0 e2 q2 s1 = simp append_assoc

pub restructure-same : (d e : Side) (n0 : Tree) → IsFork n0 → (e1 : Entry) (r1 q1 : ℕ) (s0 : Tree) (e2 : Entry) (q2 : ℕ) (s1 : Tree)
    → Same (restructure d e n0 e1 r1 s0 e2 s1) (node e (node d n0 e1 q1 s0) e2 q2 s1)
restructure-same left left n0 h = one_side-same left n0
restructure-same right right n0 h = one_side-same right n0
restructure-same right left n0 h = alternating-same left n0 h
restructure-same left right n0 h = alternating-same right n0 h

-- a property of the outcome of a test, or of a round, by its cases
pub choose_cases : {A P : Type 0} (Q : A → Type 0) (x : Dec P) (a b : A) → (P → Q a) → (¬ P → Q b) → Q (choose x a b)
unfolding choose
choose_cases Q (yes x) a b f g = f x
choose_cases Q (no x) a b f g = g x

pub place_cases : {A : Type 0} (Q : A → Type 0) {r1 r2 s : ℕ} (x : PlaceRound r1 r2 s) (a b c : A)
    → (r1 < r2 → Q a) → (¬ (r1 < r2) → s + 1 ≡ r2 → Q b) → (¬ (r1 < r2) → ¬ (s + 1 ≡ r2) → Q c) → Q (by_place x a b c)
unfolding by_place
place_cases Q (stops x) a b c f g h = f x
place_cases Q (raises x y) a b c f g h = g x y
place_cases Q (turns x y) a b c f g h = h x y

pub insert_climb-same : (n0 : Tree) → IsFork n0 → (d : Side) (e1 : Entry) (r1 q1 : ℕ) (s0 : Tree) (p : Way)
    → Same (insert_climb n0 d e1 r1 s0 p) (plug (node d n0 e1 q1 s0) p)
unfolding insert_climb plug
insert_climb-same n0 h d e1 r1 q1 s0 [] = node-same d e1 r1 q1 n0 n0 s0 s0 refl refl
insert_climb-same n0 h d e1 r1 q1 s0 (step e e2 r2 s1 ∷ p) =
    let keep : Same (plug (node e (node d n0 e1 r1 s0) e2 r2 s1) p) (plug (node e (node d n0 e1 q1 s0) e2 r2 s1) p)
    = plug-same p _ _ (node-same e e2 r2 r2 _ _ s1 s1 (node-same d e1 r1 q1 n0 n0 s0 s0 refl refl) refl) in
    place_cases (λ t. Same t (plug (node e (node d n0 e1 q1 s0) e2 r2 s1) p)) (place_round r1 r2 (rank s1)) _ _ _
    (λ l. keep)
    (λ l m. insert_climb-same (node d n0 e1 r1 s0) tt e e2 (suc r2) r2 s1 p ∙ keep)
    (λ l m. plug-same p _ _ (restructure-same d e n0 h e1 r1 q1 s0 e2 r2 s1))

pub insert_at-same : (e : Entry) (p : Way) → Same (insert_at e p) (plug (leaf e) p)
unfolding insert_at plug
insert_at-same e [] = refl
insert_at-same e (step d e1 r1 s0 ∷ p) =
    choose_cases (λ t. Same t (plug (node d (leaf e) e1 r1 s0) p)) (ℕ_discrete r1 2) _ _
    (λ l. refl) (λ l. insert_climb-same (leaf e) tt d e1 2 r1 s0 p)

-- the new entry stands at its place in the chain, and nothing else moves
pub insert_at-order : (e : Entry) (p : Way) → inorder (insert_at e p) ≡ before p ++ (e ∷ after p)
unfolding inorder
insert_at-order e p = insert_at-same e p ∙ plug-around p (leaf e)

pub empty-place-order : (p : Way) → inorder (plug tip p) ≡ before p ++ after p
unfolding inorder
empty-place-order p = plug-around p tip
