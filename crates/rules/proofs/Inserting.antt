-- What placing at a way and replacing at a node do: the answer, the queue after it, and that it stays sound.
-- A reader may rely on this: every kind of insertion ends in one of the two, or in a refusal that leaves the queue as it stood.
use mathlib.Core.Path.{◌≡◌, refl, sym, ap, ◌∙◌}
use mathlib.Core.List.{List, [], ◌∷◌, ◌++◌}
use mathlib.Core.Option.{Option, none, some}
use Prim.Native.Nat.{ℕ}
use Rattle.wavl.specs.Lists.{All, first, last}
use Rattle.wavl.specs.Entry.{Entry, Before, Rising}
use Rattle.wavl.specs.Tree.{Side, left, right, Tree, tip, fork, inorder}
use Rattle.wavl.specs.Way.{Way, place, plug, before, after, neighbour, replace_at}
use Rattle.wavl.specs.Ranks.{Ranks}
use Rattle.wavl.specs.Placing.{insert_at}
use Rattle.wavl.proofs.Lists.{all_both, all_map, put_one, below_one, above-one, pairwise_left, pairwise_right}
use Rattle.wavl.proofs.Rule.{ranks→ranked, ranked→ranks}
use Rattle.wavl.proofs.Order.{insert_at-order, empty-place-order}
use Rattle.wavl.proofs.Placed.{insert_at-ranks}
use Rattle.wavl.proofs.Manual.{smaller_at, greater_at}
use Rattle.wavl.proofs.Rising.{before_trans, replace_at-order, replace_at-ranks, replace_at-rising}
use Rattle.rules.specs.Queue.{Handle, entry_with, Queue, entries}
use Rattle.rules.specs.Answers.{Inserted}
use Rattle.rules.specs.Insert.{add_with, add_at, swap_at, keyed, Beside, Between}
use Rattle.rules.specs.Sound.{Sound}
use Rattle.rules.specs.inner.Changes.{Adds, Swaps, AfterInserting}
use Rattle.rules.proofs.Kept.{sound-adds, sound-swaps}
use Rattle.rules.proofs.Places.{smaller_of, greater_of, entries-around}

-- an answer and a queue that insertion may leave
pub record Inserts (key value : ℕ) (q : Queue) (r : Inserted × Queue) : Type 0 where
  pub does : AfterInserting key value q r.0 r.1
  pub sound : Sound r.1

-- the key lies between what stands on the two sides of an empty place
pub record FitsAt (key : ℕ) (p : Way) : Type 0 where
  pub above : All (λ y. Before y (keyed key)) (before p)
  pub below : All (λ y. Before (keyed key) y) (after p)

module _ (key value : ℕ) (q : Queue) (s : Sound q) where
  add_with_lem : (f : List Handle) → q.free ≡ f → (p : Way) → plug tip p ≡ q.tree → FitsAt key p → Inserts key value q (add_with f key value p q)
  unfolding add_with
  add_with_lem [] e p w k = record { does = refl; sound = s }
  add_with_lem (h ∷ f) e p w k =
      let x = entry_with h key value in
      let old : entries q ≡ before p ++ after p = ap inorder (sym w) ∙ empty-place-order p in
      let now : inorder (insert_at x p) ≡ before p ++ (x ∷ after p) = insert_at-order x p in
      let ranks : Ranks (plug tip p) = rw w (ranked→ranks q.tree s.ranked) in
      let adds : Adds q (add_with (h ∷ f) key value p q).1 h key value =
      record { header = record { capacity = refl; top = refl }; was_free = e; smaller = before p; greater = after p; old = old; now = now } in
      record {
        does = adds;
        sound = sound-adds s adds (ranks→ranked (insert_at x p) (insert_at-ranks x p ranks))
            (rw now (put_one Before (before p) x (after p) k.above k.below (rw old at s.rising)));
      }

  pub add_at_lem : (p : Way) → plug tip p ≡ q.tree → FitsAt key p → Inserts key value q (add_at key value p q)
  add_at_lem p w k = add_with_lem q.free refl p w k

  pub swap-at : (a : Tree) (x : Entry) (r : ℕ) (b : Tree) (p : Way) → plug (fork a x r b) p ≡ q.tree → x.key ≡ key
      → Inserts key value q (swap_at value a x r b p q)
  swap-at a x r b p w e =
      let l = smaller_of a p in
      let g = greater_of b p in
      let t = replace_at value (place (fork a x r b) p) in
      let old = entries-around q a x r b p w in
      let swaps : Swaps q (swap_at value a x r b p q).1 x value =
      record { header = record { capacity = refl; top = refl }; same-free = refl; smaller = l; greater = g; old = old; now = replace_at-order value a x r b p } in
      record {
        does = (x, (refl, refl), refl, e, swaps);
        sound = sound-swaps s swaps (ranks→ranked t (replace_at-ranks value a x r b p (rw w (ranked→ranks q.tree s.ranked))))
            (replace_at-rising value a x r b p (rw w s.rising));
      }

-- Manual: a key between the target's and its neighbour's lies between all that stands on the two sides
abbrev AtMost : Side → Option Entry → Entry → Type 0
AtMost d none e = Unit {0}
AtMost d (some y) e = Beside d y e

between-target : (d : Side) (e x : Entry) (n : Option Entry) → Between d e x n → Beside d e x
between-target d e x none h = h
between-target d e x (some y) h = h.0

between-neighbour : (d : Side) (e x : Entry) (n : Option Entry) → Between d e x n → AtMost d n e
between-neighbour d e x none h = tt
between-neighbour d e x (some y) h = h.1

below_last : (e : Entry) (l : List Entry) → Rising l → AtMost left (last l) e → All (λ y. Before y e) l
unfolding last
below_last e [] h n = tt
below_last e (x ∷ []) h n = (n, tt)
below_last e (x ∷ (y ∷ l)) h n = let i = below_last e (y ∷ l) h.1 n in (before_trans x y e h.0.0 i.0, i)

above-first : (e : Entry) (l : List Entry) → Rising l → AtMost right (first l) e → All (λ y. Before e y) l
unfolding first
above-first e [] h n = tt
above-first e (x ∷ l) h n = (n, all_map _ _ (λ y f. before_trans e x y n f) l h.0)

pub record Sides (key : ℕ) (a b : List Entry) : Type 0 where
  pub above : All (λ y. Before y (keyed key)) a
  pub below : All (λ y. Before (keyed key) y) b

pub between_sides : (d : Side) (key : ℕ) (a : Tree) (x : Entry) (r : ℕ) (b : Tree) (p : Way) → Rising ((before p ++ inorder a) ++ (x ∷ (inorder b ++ after p)))
    → Between d (keyed key) x (neighbour d (place (fork a x r b) p)) → Sides key (smaller_at d a x b p) (greater_at d a x b p)
unfolding neighbour
between_sides left key a x r b p h f =
    let l = before p ++ inorder a in
    let g = inorder b ++ after p in
    let t = between-target left (keyed key) x (last l) f in
    record {
      above = below_last (keyed key) l (pairwise_left Before l (x ∷ g) h) (between-neighbour left (keyed key) x (last l) f);
      below = (t, all_map _ _ (λ y i. before_trans (keyed key) x y t i) g (above-one Before l x g h));
    }
between_sides right key a x r b p h f =
    let l = before p ++ inorder a in
    let g = inorder b ++ after p in
    let t = between-target right (keyed key) x (first g) f in
    record {
      above = all_both _ l (x ∷ []) (all_map _ _ (λ y i. before_trans y x (keyed key) i t) l (below_one Before l x g h)) (t, tt);
      below = above-first (keyed key) g (pairwise_right Before l (x ∷ g) h).1 (between-neighbour right (keyed key) x (first g) f);
    }
