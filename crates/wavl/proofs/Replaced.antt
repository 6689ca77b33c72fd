-- The replacements of a removal: which entry replaces a node, that there are two at most, and that the entries that move stay
-- what they are, handles included.
-- A reader may rely on: replacement_is is document 01's sentence word for word, for every node of a ranked tree.
use mathlib.Core.Logic.{◌⊎◌, inl, inr, ◌↔◌}
use mathlib.Core.Path.{◌≡◌, refl, sym, ap, subst, ◌∙◌}
use mathlib.Core.List.{List, [], ◌∷◌, ◌++◌, append_assoc}
use mathlib.Core.Option.{some, none}
use Prim.Native.Nat.{ℕ, ◌≤◌}
use native.Mathlib.Omega.{arith}
use lib.ListN.{length}
use Rattle.wavl.specs.Lists.{In, first}
use Rattle.wavl.specs.Entry.{Entry}
use Rattle.wavl.specs.Tree.{Side, left, right, Tree, tip, fork, inorder}
use Rattle.wavl.specs.Way.{Step, step, Way, place, plug, before, after, neighbour}
use Rattle.wavl.specs.Ranks.{Ranks}
use Rattle.wavl.specs.Taking.{endmost, vacate_end, vacate, moved_end, moved, remove_at}
use Rattle.wavl.proofs.Lists.{in_left, in_right, last_of, some-none}
use Rattle.wavl.proofs.Order.{IsFork}
use Rattle.wavl.proofs.Taken.{fork-rank, lone-leaf, front, front-last}
use Rattle.wavl.proofs.Rising.{removed-around}

-- "two replacements at most": the last node of a tree has a leaf for its left child, or none
one_more : (t : Tree) → Ranks t → length (moved_end right t) ≤ 1
unfolding moved_end
one_more tip x = omega arith
one_more (fork tip e r tip) x = omega arith
one_more (fork (fork tip f q tip) e r tip) x = omega arith
one_more (fork (fork (fork a g s b) f q c) e r tip) x = let h = fork-rank a g s b x.0.0 in absurd (omega arith)
one_more (fork (fork tip f q (fork b g s c)) e r tip) x = let h = fork-rank b g s c x.0.1 in absurd (omega arith)
one_more (fork a e r (fork b f q c)) x = one_more (fork b f q c) x.1

pub moved_two : (t : Tree) → Ranks t → length (moved t) ≤ 2
unfolding moved moved_end
moved_two tip x = omega arith
moved_two (fork tip e r tip) x = omega arith
moved_two (fork tip e r (fork b f q c)) x = lone-leaf (λ b c. length (moved (fork tip e r (fork b f q c))) ≤ 2) e r b f q c x (λ h. omega arith)
moved_two (fork (fork a f q c) e r b) x = let i = one_more (fork a f q c) x.0 in omega arith

-- "by its next if it has rank 2 and no left child, or no prev"
abbrev pub ByNext : Tree → Entry → ℕ → Tree → Way → Type 0
ByNext a e r b p = ((r ≡ 2) × (a ≡ tip)) ⊎ (neighbour left (place (fork a e r b) p) ≡ none)

-- "A node with a child is replaced by its chain prev, or by its next .."
pub record Replacement (a : Tree) (e : Entry) (r : ℕ) (b : Tree) (p : Way) (f : Entry) : Type 0 where
  pub by-prev : ¬ (ByNext a e r b p) → neighbour left (place (fork a e r b) p) ≡ some f
  pub by_next : ByNext a e r b p → neighbour right (place (fork a e r b) p) ≡ some f

fork-tip : {a b : Tree} {e : Entry} {r : ℕ} → ¬ (fork a e r b ≡ tip)
fork-tip q = let z : ◌≡◌ {A = ℕ} 0 1 = cc in absurd (omega arith)

-- the prev of a node with a left child is the last entry of that child's tree
pub prev-is : (a : Tree) (f : Entry) (q : ℕ) (c : Tree) (e : Entry) (r : ℕ) (b : Tree) (p : Way)
    → neighbour left (place (fork (fork a f q c) e r b) p) ≡ some (endmost right (fork a f q c))
unfolding neighbour
prev-is a f q c e r b p =
    let o : before p ++ inorder (fork a f q c) ≡ (before p ++ front (fork a f q c)) ++ (endmost right (fork a f q c) ∷ []) = rw (front-last a f q c) (simp append_assoc) in
    rw o (last_of (before p ++ front (fork a f q c)) (endmost right (fork a f q c)))

pub replacement_is : (a : Tree) (e : Entry) (r : ℕ) (b : Tree) (p : Way) (f : Entry) → Ranks (fork a e r b)
    → first (moved (fork a e r b)) ≡ some f → Replacement a e r b p f
unfolding moved first neighbour endmost inorder
replacement_is tip e r tip p f x h = absurd (some-none h)
replacement_is tip e r (fork b g q c) p f x h =
    lone-leaf (λ b c. first (moved (fork tip e r (fork b g q c))) ≡ some f → Replacement tip e r (fork b g q c) p f) e r b g q c x
    (λ two i. record { by-prev = λ n. absurd (n (inl (two, refl))); by_next = λ n. i }) h
replacement_is (fork a g q c) e r b p f x h =
    let y = prev-is a g q c e r b p in
    record { by-prev = λ n. y ∙ h; by_next = λ n. absurd (never n) }
  where
    never : ¬ (ByNext (fork a g q c) e r b p)
    never (inl n) = fork-tip n.1
    never (inr n) = some-none (sym n ∙ prev-is a g q c e r b p)

-- no replacement exactly where the node has no child
pub moved_none : (a : Tree) (e : Entry) (r : ℕ) (b : Tree) → (moved (fork a e r b) ≡ []) ↔ ((a ≡ tip) × (b ≡ tip))
unfolding moved
moved_none tip e r tip = ((λ h. (refl, refl)), (λ h. refl))
moved_none tip e r (fork b f q c) = ((λ h. absurd (let z : ◌≡◌ {A = ℕ} 0 1 = cc in omega arith)), (λ h. absurd (fork-tip h.1)))
moved_none (fork a f q c) e r b = ((λ h. absurd (let z : ◌≡◌ {A = ℕ} 0 1 = cc in omega arith)), (λ h. absurd (fork-tip h.0)))

-- "If the replacement had a child, that happens once more": the replacement's own node is taken out by the same rule
pub once_more : (a : Tree) (e : Entry) (r : ℕ) (p : Way) → vacate_end right (fork a e r tip) p ≡ vacate (fork a e r tip) p
unfolding vacate_end vacate
once_more tip e r p = refl
once_more (fork a f q c) e r p = refl

-- "the replacement takes its rank and place": the way from the emptied place passes there, with the replacement's entry
longer : {v : Way} {x : Step} {q : Way} → (w : Way) × (v ≡ w ++ (x ∷ q)) → (w : Way) × (v ≡ w ++ q)
longer {x = x} i = (i.0 ++ (x ∷ []), i.1 ∙ simp append_assoc)

vacate_end-way : (d : Side) (t : Tree) (q : Way) → (w : Way) × (vacate_end d t q ≡ w ++ q)
unfolding vacate_end
vacate_end-way d tip q = ([], refl)
vacate_end-way left (fork tip e r tip) q = ([], refl)
vacate_end-way left (fork tip e r (fork b f s c)) q = longer (vacate_end-way left (fork b f s c) (step right (endmost left (fork b f s c)) r tip ∷ q))
vacate_end-way left (fork (fork a f s c) e r b) q = longer (vacate_end-way left (fork a f s c) (step left e r b ∷ q))
vacate_end-way right (fork tip e r tip) q = ([], refl)
vacate_end-way right (fork (fork a f s c) e r tip) q = longer (vacate_end-way right (fork a f s c) (step left (endmost right (fork a f s c)) r tip ∷ q))
vacate_end-way right (fork a e r (fork b f s c)) q = longer (vacate_end-way right (fork b f s c) (step right e r a ∷ q))

pub record Replaces (a : Tree) (e : Entry) (r : ℕ) (b : Tree) (p : Way) (f : Entry) : Type 0 where
  pub further : Way
  pub side : Side
  pub sibling : Tree
  pub way-is : vacate (fork a e r b) p ≡ further ++ (step side f r sibling ∷ p)

pub replaces : (a : Tree) (e : Entry) (r : ℕ) (b : Tree) (p : Way) (f : Entry) → first (moved (fork a e r b)) ≡ some f → Replaces a e r b p f
unfolding moved first vacate
replaces tip e r tip p f h = absurd (some-none h)
replaces tip e r (fork b g q c) p f h =
    let w = vacate_end-way left (fork b g q c) (step right (endmost left (fork b g q c)) r tip ∷ p) in
    let i : endmost left (fork b g q c) ≡ f = cc in
    record { further = w.0; side = right; sibling = tip; way-is = w.1 ∙ ap (λ (x : Entry). w.0 ++ (step right x r tip ∷ p)) i }
replaces (fork a g q c) e r b p f h =
    let w = vacate_end-way right (fork a g q c) (step left (endmost right (fork a g q c)) r b ∷ p) in
    let i : endmost right (fork a g q c) ≡ f = cc in
    record { further = w.0; side = left; sibling = b; way-is = w.1 ∙ ap (λ (x : Entry). w.0 ++ (step left x r b ∷ p)) i }

-- the entries that move are entries of the tree
endmost_in : (d : Side) (t : Tree) → IsFork t → In (endmost d t) (inorder t)
unfolding endmost inorder
endmost_in d tip h = absurd h
endmost_in left (fork tip e r b) h = inl refl
endmost_in left (fork (fork a f q c) e r b) h = in_left _ (inorder (fork a f q c)) (e ∷ inorder b) (endmost_in left (fork a f q c) tt)
endmost_in right (fork a e r tip) h = in_right e (inorder a) (e ∷ []) (inl refl)
endmost_in right (fork a e r (fork b f q c)) h = in_right _ (inorder a) (e ∷ inorder (fork b f q c)) (inr (endmost_in right (fork b f q c) tt))

-- a member by an equal name
same_in : {f g : Entry} (l : List Entry) → f ≡ g → In g l → In f l
same_in l e i = subst (λ (x : Entry). In x l) (sym e) i

moved_end_in : (d : Side) (t : Tree) (f : Entry) → In f (moved_end d t) → In f (inorder t)
unfolding moved_end inorder
moved_end_in d tip f h = absurd h
moved_end_in left (fork tip e r tip) f h = absurd h
moved_end_in left (fork tip e r (fork b g q c)) f (inl h) = inr (same_in (inorder (fork b g q c)) h (endmost_in left (fork b g q c) tt))
moved_end_in left (fork tip e r (fork b g q c)) f (inr h) = inr (moved_end_in left (fork b g q c) f h)
moved_end_in left (fork (fork a g q c) e r b) f h = in_left f (inorder (fork a g q c)) (e ∷ inorder b) (moved_end_in left (fork a g q c) f h)
moved_end_in right (fork tip e r tip) f h = absurd h
moved_end_in right (fork (fork a g q c) e r tip) f (inl h) = in_left f (inorder (fork a g q c)) (e ∷ []) (same_in (inorder (fork a g q c)) h (endmost_in right (fork a g q c) tt))
moved_end_in right (fork (fork a g q c) e r tip) f (inr h) = in_left f (inorder (fork a g q c)) (e ∷ []) (moved_end_in right (fork a g q c) f h)
moved_end_in right (fork a e r (fork b g q c)) f h = in_right f (inorder a) (e ∷ inorder (fork b g q c)) (inr (moved_end_in right (fork b g q c) f h))

moved_in : (a : Tree) (e : Entry) (r : ℕ) (b : Tree) (f : Entry) → In f (moved (fork a e r b)) → In f (inorder a ++ inorder b)
unfolding moved inorder
moved_in tip e r tip f h = absurd h
moved_in tip e r (fork b g q c) f (inl h) = same_in (inorder (fork b g q c)) h (endmost_in left (fork b g q c) tt)
moved_in tip e r (fork b g q c) f (inr h) = moved_end_in left (fork b g q c) f h
moved_in (fork a g q c) e r b f (inl h) = in_left f (inorder (fork a g q c)) (inorder b) (same_in (inorder (fork a g q c)) h (endmost_in right (fork a g q c) tt))
moved_in (fork a g q c) e r b f (inr h) = in_left f (inorder (fork a g q c)) (inorder b) (moved_end_in right (fork a g q c) f h)

-- "The handles of moved entries stay": an entry that moves stands in the tree afterwards, whole
pub moved_stay : (a : Tree) (e : Entry) (r : ℕ) (b : Tree) (p : Way) → Ranks (plug (fork a e r b) p)
    → (f : Entry) → In f (moved (fork a e r b)) → In f (inorder (remove_at (fork a e r b) p))
moved_stay a e r b p x f h =
    let i = in_right f (before p) ((inorder a ++ inorder b) ++ after p) (in_left f (inorder a ++ inorder b) (after p) (moved_in a e r b f h)) in
    rw (removed-around a e r b p x) (simp append_assoc (simp append_assoc at i))
