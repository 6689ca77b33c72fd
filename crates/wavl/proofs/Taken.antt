-- The whole removal, by one or two replacements: it keeps rule 2, and takes one entry out of the chain.
-- A reader may rely on: remove_at-shows, for a node anywhere in a ranked tree; the entries that stay are the same values, so
-- the handles of moved entries stay.
use mathlib.Core.Path.{◌≡◌, refl, ◌∙◌}
use mathlib.Core.List.{List, [], ◌∷◌, ◌++◌, append_assoc}
use Prim.Native.Nat.{ℕ, ◌≤◌}
use native.Mathlib.Omega.{arith}
use Rattle.wavl.specs.Entry.{Entry}
use Rattle.wavl.specs.Tree.{Side, left, right, Tree, tip, fork, node, rank, leaf, inorder}
use Rattle.wavl.specs.Way.{step, Way, plug, before, after, around}
use Rattle.wavl.specs.Ranks.{Fits, Ranks}
use Rattle.wavl.specs.Taking.{settle, endmost, vacate_end, vacate, remove_at}
use Rattle.wavl.proofs.Order.{Same, plug-same, plug-around, IsFork}
use Rattle.wavl.proofs.Placed.{WayRanks, unplug_ranks}
use Rattle.wavl.proofs.Removed.{Kept, remove_climb-kept}

-- t is ranked, and its chain is l
pub record Shows (t : Tree) (l : List Entry) : Type 0 where
  pub ranks : Ranks t
  pub order : inorder t ≡ l

shows : {t u : Tree} {l : List Entry} → Kept t u → inorder u ≡ l → Shows t l
shows k e = record { ranks = k.ranks; order = k.same ∙ e }

-- a fork has a rank
pub fork-rank : (a : Tree) (e : Entry) (r : ℕ) (b : Tree) → Ranks (fork a e r b) → 1 ≤ r
fork-rank a e r b x = omega arith

-- a right child that has no sibling is a leaf, under a rank of 2
pub lone-leaf : (P : Tree → Tree → Type 0) (e : Entry) (r : ℕ) (b : Tree) (f : Entry) (q : ℕ) (c : Tree)
    → Ranks (fork tip e r (fork b f q c)) → (r ≡ 2 → P tip tip) → P b c
lone-leaf P e r tip f q tip x h = h (omega arith)
lone-leaf P e r tip f q (fork b g s c) x h = let i = fork-rank b g s c x.1.1 in absurd (omega arith)
lone-leaf P e r (fork b g s c) f q d x h = let i = fork-rank b g s c x.1.0 in absurd (omega arith)

pub settle-shows : (p : Way) → WayRanks 1 p → Shows (settle p) (around [] p)
unfolding settle inorder plug before after
settle-shows [] w = record { ranks = tt; order = refl }
settle-shows (step d e r tip ∷ p) w =
    let q : r ≡ 2 = omega arith in
    shows (remove_climb-kept (leaf e) p (tt, tt, omega arith) (rw q at w.2) (omega arith))
    (plug-same p (leaf e) (node d tip e r tip) (bare d) ∙ plug-around (step d e r tip ∷ p) tip)
  where
    bare : (d : Side) → Same (leaf e) (node d tip e r tip)
    bare left = refl
    bare right = refl
settle-shows (step d e r (fork a f q b) ∷ p) w =
    let h = fork-rank a f q b w.0 in
    shows (remove_climb-kept tip (step d e r (fork a f q b) ∷ p) tt w (omega arith)) (plug-around (step d e r (fork a f q b) ∷ p) tip)

-- the emptied place, before the climb: a way ranked for a leaf, around which the entries l are left
pub record Emptied (p : Way) (l : List Entry) : Type 0 where
  pub ranks : WayRanks 1 p
  pub order : around [] p ≡ l

-- all but the last entry
pub front : Tree → List Entry
front tip = []
front (fork a e r tip) = inorder a
front (fork a e r (fork b f q c)) = inorder a ++ (e ∷ front (fork b f q c))

pub front-last : (a : Tree) (e : Entry) (r : ℕ) (b : Tree) → inorder (fork a e r b) ≡ front (fork a e r b) ++ (endmost right (fork a e r b) ∷ [])
unfolding inorder front endmost
front-last a e r tip = refl
front-last a e r (fork b f q c) = rw (front-last b f q c) (simp append_assoc)

swap : {r a b : ℕ} → Fits r a b → Fits r b a
swap f = omega arith

follow : {p : Way} {l m : List Entry} → Emptied p l → l ≡ m → Emptied p m
follow x e = record { ranks = x.ranks; order = x.order ∙ e }

vacate_end_emptied : (t : Tree) → IsFork t → (p : Way) → Ranks t → WayRanks (rank t) p → Emptied (vacate_end right t p) (around (front t) p)
unfolding vacate_end front before after inorder
vacate_end_emptied tip f p x w = absurd f
vacate_end_emptied (fork tip e r tip) f p x w = let q : r ≡ 1 = omega arith in record { ranks = rw q at w; order = refl }
vacate_end_emptied (fork (fork a g q b) e r tip) f p x w =
    follow (vacate_end_emptied (fork a g q b) tt (step left (endmost right (fork a g q b)) r tip ∷ p) x.0 (tt, x.2, w))
    (rw (front-last a g q b) (simp append_assoc))
vacate_end_emptied (fork a e r (fork b g q c)) f p x w =
    follow (vacate_end_emptied (fork b g q c) tt (step right e r a ∷ p) x.1 (x.0, swap x.2, w)) (simp append_assoc)

-- the root of the tree at the end of a way is taken out of its place
pub vacate_emptied : (a : Tree) (e : Entry) (r : ℕ) (b : Tree) (p : Way) → Ranks (fork a e r b) → WayRanks r p
    → Emptied (vacate (fork a e r b) p) (around (inorder a ++ inorder b) p)
unfolding vacate vacate_end endmost before after inorder
vacate_emptied tip e r tip p x w = let q : r ≡ 1 = omega arith in record { ranks = rw q at w; order = refl }
vacate_emptied tip e r (fork b f q c) p x w =
    lone-leaf (λ b c. Emptied (vacate (fork tip e r (fork b f q c)) p) (around (inorder (fork b f q c)) p)) e r b f q c x
    (λ h. record { ranks = (tt, omega arith, w); order = simp append_assoc })
vacate_emptied (fork a f q c) e r b p x w =
    follow (vacate_end_emptied (fork a f q c) tt (step left (endmost right (fork a f q c)) r b ∷ p) x.0 (x.1, x.2, w))
    (rw (front-last a f q c) (simp append_assoc))

-- one entry is taken out of the chain; the others stay, in their order, and rule 2 with them
pub remove_at-shows : (a : Tree) (e : Entry) (r : ℕ) (b : Tree) (p : Way) → Ranks (plug (fork a e r b) p)
    → Shows (remove_at (fork a e r b) p) (around (inorder a ++ inorder b) p)
unfolding remove_at
remove_at-shows a e r b p x =
    let y = unplug_ranks p (fork a e r b) x in
    let v = vacate_emptied a e r b p y.0 y.1 in
    let s = settle-shows (vacate (fork a e r b) p) v.ranks in
    record { ranks = s.ranks; order = s.order ∙ v.order }
