-- The replacement of a node with a left child: the last node of that child's tree, the way up to it, and what the chain says of it.
-- A reader may rely on: end_split takes the tree apart at its last node; closes says that wavl's removal comes to `closing`.
use Prim.Native.Nat.{ℕ}
use mathlib.Core.Path.{◌≡◌, refl, sym, ap, ◌∙◌}
use mathlib.Core.List.{List, [], ◌∷◌, ◌++◌, append_assoc}
use native.Mathlib.Omega.{arith}
use Rattle.handle.specs.Numbers.{no_slot}
use Rattle.arena.specs.Words.{field, PREV}
use Rattle.wavl.specs.Entry.{Entry}
use Rattle.wavl.specs.Tree.{right, Tree, tip, fork, inorder}
use Rattle.wavl.specs.Way.{step, Way, plug, before, after}
use Rattle.wavl.specs.Ranks.{Ranks}
use Rattle.wavl.specs.Taking.{settle, endmost, vacate_end}
use Rattle.wavl.proofs.Order.{IsFork}
use Rattle.wavl.proofs.Rising.{node-around}
use Rattle.wavl.proofs.Taken.{fork-rank, front, front-last}
use Rattle.queue_of_store.specs.Ends.{first_slot}
use Rattle.queue_of_store.specs.Chain.{LinkedBetween, ChainWords}
use Rattle.queue_of_store.proofs.Chains.{end_or, chain-at}
use Rattle.remove_means.proofs.Settled.{closing}
use Rattle.remove_means.proofs.Filled.{plug_append}

pub record EndSplit (t : Tree) : Type 0 where
  pub child : Tree
  pub entry : Entry
  pub rank : ℕ
  pub way : Way
  pub tree_is : t ≡ plug (fork child entry rank tip) way
  pub end_is : endmost right t ≡ entry
  pub vacate-is : (p : Way) → vacate_end right t p ≡ vacate_end right (fork child entry rank tip) (way ++ p)

pub end_split : (t : Tree) → IsFork t → EndSplit t
unfolding endmost vacate_end plug
end_split tip h = absurd h
end_split (fork a e r tip) h = record { child = a; entry = e; rank = r; way = []; tree_is = refl; end_is = refl; vacate-is = λ p. refl }
end_split (fork a e r (fork b f q c)) h =
    let y = end_split (fork b f q c) tt in
    record {
      child = y.child;
      entry = y.entry;
      rank = y.rank;
      way = y.way ++ (step right e r a ∷ []);
      tree_is = ap (λ (z : Tree). fork a e r z) y.tree_is ∙ sym (plug_append y.way (step right e r a ∷ []) (fork y.child y.entry y.rank tip));
      end_is = y.end_is;
      vacate-is = λ p. y.vacate-is (step right e r a ∷ p) ∙ rw (append_assoc y.way (step right e r a ∷ []) p);
    }

-- the last node's own place: its left child, if it has one, is a leaf that takes it
pub closes : (c : Tree) (e : Entry) (r : ℕ) (p : Way) → Ranks (fork c e r tip) → settle (vacate_end right (fork c e r tip) p) ≡ closing c p
unfolding vacate_end endmost settle
closes tip e r p k = refl
closes (fork tip f q tip) e r p k = let h : q ≡ 1 = omega arith in rw h
closes (fork tip f q (fork a g s b)) e r p k = let h = fork-rank a g s b k.0.1 in absurd (omega arith)
closes (fork (fork a g s b) f q c) e r p k = let h = fork-rank a g s b k.0.0 in absurd (omega arith)

-- the chain's neighbours of an entry
end_of_lem : (p : ℕ) (l : List Entry) (e : Entry) → end_or p (l ++ (e ∷ [])) ≡ e.slot
end_of_lem p [] e = refl
end_of_lem p (f ∷ l) e = end_of_lem f.slot l e

module _ (s : List ℕ) (cap : ℕ) (a : Tree) (x : Entry) (r : ℕ) (b : Tree) (p : Way) (k : ChainWords s cap (inorder (plug (fork a x r b) p))) where
  pub between : LinkedBetween s cap (end_or no_slot (before p ++ inorder a)) x.slot (first_slot (inorder b ++ after p))
  between = chain-at s cap (before p ++ inorder a) x (inorder b ++ after p) no_slot (rw (node-around a x r b p) at k.chain)

pub prev-is-last : (s : List ℕ) (cap : ℕ) (a : Tree) (f : Entry) (q : ℕ) (c : Tree) (x : Entry) (r : ℕ) (b : Tree) (p : Way)
    → ChainWords s cap (inorder (plug (fork (fork a f q c) x r b) p)) → field s cap x.slot PREV ≡ (endmost right (fork a f q c)).slot
prev-is-last s cap a f q c x r b p k =
    let z = fork a f q c in
    let o : before p ++ inorder z ≡ (before p ++ front z) ++ (endmost right z ∷ []) = rw (front-last a f q c) (simp append_assoc) in
    (between s cap z x r b p k).prev-is ∙ ap (end_or no_slot) o ∙ end_of_lem no_slot (before p ++ front z) (endmost right z)
