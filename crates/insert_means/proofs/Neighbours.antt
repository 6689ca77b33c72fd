-- The neighbour of a node in the chain, over the side: the word that leads to it, and the empty place beside the node.
-- A reader may rely on: neighbour-link; beside-planned: below the node where it has no child there, else below its neighbour.
use Prim.Native.Nat.{ℕ, ◌+◌}
use mathlib.Core.Path.{◌≡◌, refl, sym, ap, ◌∙◌}
use mathlib.Core.Logic.{inl, inr}
use mathlib.Core.List.{List, [], ◌∷◌, ◌++◌, append_assoc}
use mathlib.Core.Option.{some}
use Rattle.handle.specs.Numbers.{no_slot}
use Rattle.arena.specs.Words.{field, PREV}
use Rattle.wavl.specs.Lists.{In}
use Rattle.wavl.specs.Entry.{Entry, slots}
use Rattle.wavl.specs.Tree.{Side, left, right, other, Tree, tip, fork, pick, inorder}
use Rattle.wavl.specs.Way.{step, Way, place, plug, before, after, neighbour}
use Rattle.wavl.specs.Search.{gap}
use Rattle.wavl.proofs.Lists.{in_left, in_right, in_middle, slots_append, first-split, last-split}
use Rattle.wavl.proofs.Order.{IsFork}
use Rattle.wavl.proofs.Rising.{node-around}
use Rattle.queue_of_store.specs.Ends.{first_slot, last_slot, number}
use Rattle.queue_of_store.specs.Chain.{ChainWords}
use Rattle.queue_of_store.proofs.Has.{Has}
use Rattle.queue_of_store.proofs.Chains.{slot_of, first-slot, last-slot, end_last, chain-at}
use Rattle.queue_of_store.proofs.Segments.{last_append, last_in_slots}
use Rattle.insert_means.proofs.Plans.{add, planned}
use Rattle.insert.specs.declared.kinds.Prepared.TheVariants.{Beside}
use Rattle.std.specs.Prelude.{Ok}

-- a tree's end on the side d
abbrev pub end_slot : Side → Tree → ℕ
end_slot left t = first_slot (inorder t)
end_slot right t = last_slot (inorder t)

first_more : (l : List Entry) (e : Entry) (m n : List Entry) → first_slot ((l ++ (e ∷ m)) ++ n) ≡ first_slot (l ++ (e ∷ m))
first_more [] e m n = refl
first_more (f ∷ l) e m n = refl

last_more : (n l : List Entry) (e : Entry) (m : List Entry) → last_slot (n ++ (l ++ (e ∷ m))) ≡ last_slot (l ++ (e ∷ m))
last_more n l e m = ap last_slot (sym (append_assoc n l (e ∷ m))) ∙ last_append (n ++ l) e m ∙ sym (last_append l e m)

first_has : (l : List Entry) (e : Entry) (m : List Entry) → In (first_slot (l ++ (e ∷ m))) (slots (l ++ (e ∷ m)))
unfolding slots
first_has [] e m = inl refl
first_has (f ∷ l) e m = inl refl

pub end_has : (d : Side) (t : Tree) → IsFork t → Has (end_slot d t) t
unfolding inorder
end_has d tip f = absurd f
end_has left (fork a e r b) f = first_has (inorder a) e (inorder b)
end_has right (fork a e r b) f =
    rw (slots_append (inorder a) (e ∷ inorder b), last_append (inorder a) e (inorder b)) (in_right _ (slots (inorder a)) (slots (e ∷ inorder b)) (last_in_slots e (inorder b)))

pub gap-tip : (d : Side) (p : Way) → gap d tip p ≡ p
unfolding gap
gap-tip left p = refl
gap-tip right p = refl

-- the empty place at a tree's end hangs below the end
pub gap-planned : (d : Side) (t : Tree) (p : Way) → IsFork t → planned (add (gap d t p)) ≡ Ok (Beside (end_slot d t) (number d))
unfolding gap inorder
gap-planned d tip p f = absurd f
gap-planned left (fork tip e r b) p f = refl
gap-planned left (fork (fork a x k c) e r b) p f =
    gap-planned left (fork a x k c) (step left e r b ∷ p) tt ∙ ap (λ z. Ok (Beside z 0)) (sym (first_more (inorder a) x (inorder c) (e ∷ inorder b)))
gap-planned right (fork a e r tip) p f = ap (λ z. Ok (Beside z 1)) (sym (last_append (inorder a) e []))
gap-planned right (fork a e r (fork b x k c)) p f =
    gap-planned right (fork b x k c) (step right e r a ∷ p) tt
    ∙ ap (λ z. Ok (Beside z 1)) (sym (ap last_slot (sym (append_assoc (inorder a) (e ∷ []) (inorder b ++ (x ∷ inorder c)))) ∙ last_more (inorder a ++ (e ∷ [])) (inorder b) x (inorder c)))

module _ (a : Tree) (x : Entry) (r : ℕ) (b : Tree) (p : Way) where
  -- a neighbour on the side of a child is the child's end
  pub neighbour_end : (d : Side) → IsFork (pick d a b) → slot_of (neighbour d (place (fork a x r b) p)) ≡ end_slot (other d) (pick d a b)
  unfolding neighbour inorder
  neighbour_end left f = sym (last-slot (before p ++ inorder a)) ∙ go a f
    where
      go : (a : Tree) → IsFork a → last_slot (before p ++ inorder a) ≡ last_slot (inorder a)
      go tip f = absurd f
      go (fork c y k e) f = last_more (before p) (inorder c) y (inorder e)
  neighbour_end right f = sym (first-slot (inorder b ++ after p)) ∙ go b f
    where
      go : (b : Tree) → IsFork b → first_slot (inorder b ++ after p) ≡ first_slot (inorder b)
      go tip f = absurd f
      go (fork c y k e) f = first_more (inorder c) y (inorder e) (after p)

  -- the word that leads to it
  pub neighbour-link : (s : List ℕ) (cap : ℕ) (d : Side) → ChainWords s cap (inorder (plug (fork a x r b) p))
      → field s cap x.slot (PREV + number d) ≡ slot_of (neighbour d (place (fork a x r b) p))
  unfolding neighbour
  neighbour-link s cap left c =
      let z = rw (node-around a x r b p) at c.chain in
      (chain-at s cap (before p ++ inorder a) x (inorder b ++ after p) no_slot z).prev-is ∙ end_last (before p ++ inorder a) ∙ last-slot (before p ++ inorder a)
  neighbour-link s cap right c =
      let z = rw (node-around a x r b p) at c.chain in
      (chain-at s cap (before p ++ inorder a) x (inorder b ++ after p) no_slot z).next-is ∙ first-slot (inorder b ++ after p)

  -- it is one of the chain's entries
  pub neighbour_in : (d : Side) (y : Entry) → neighbour d (place (fork a x r b) p) ≡ some y → In y (inorder (plug (fork a x r b) p))
  unfolding neighbour
  neighbour_in left y e =
      let l = before p ++ inorder a in
      let i = last-split l y e in
      rw (node-around a x r b p) (in_left y l (x ∷ (inorder b ++ after p)) (rw i.1 (in_middle y i.0 [])))
  neighbour_in right y e =
      let m = inorder b ++ after p in
      let i = first-split m y e in
      rw (node-around a x r b p) (in_right y (before p ++ inorder a) (x ∷ m) (inr (rw i.1 (inl refl))))
