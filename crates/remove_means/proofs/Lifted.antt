-- Lifting a node with at most one child out of a tree in the words: its child hangs in its place afterwards, at any depth.
-- A reader may rely on: lift_is, the model by what it reads; lifted-words, the tree afterwards; the node itself is in it no more.
use Prim.Native.Nat.{ℕ, ◌≤◌, ◌<◌}
use mathlib.Core.Path.{◌≡◌, refl, sym, ap, ◌∙◌}
use mathlib.Core.Logic.{inl}
use mathlib.Core.List.{List, [], ◌∷◌, ◌++◌, append_assoc}
use native.Mathlib.Omega.{arith}
use borrow.Author.Tests.{lt-ltb, le-ltb, eq-eqb, ne_eqb}
use lib.Dec.{lit<}
use Rattle.handle.specs.Numbers.{no_slot}
use Rattle.arena.specs.Words.{Long, field, head, LEFT, RIGHT, ROOT}
use Rattle.arena.proofs.Only.{only_trans}
use Rattle.wavl.specs.Lists.{In, Differ}
use Rattle.wavl.specs.Entry.{Entry, slots}
use Rattle.wavl.specs.Tree.{left, Tree, tip, fork, inorder}
use Rattle.wavl.specs.Way.{step, Way, plug, before, after}
use Rattle.wavl.proofs.Lists.{all_in, slots_append}
use Rattle.wavl.proofs.Rising.{node-around}
use Rattle.wavl.proofs.Order.{plug-around}
use Rattle.rules.proofs.Lists.{slots-put, once_drop, once-differ, in_put}
use Rattle.tree.specs.inner.Links.{with_back, with_child}
use Rattle.remove.specs.inner.Lift.{only_child, side_under, hung_up, lift_with, lift_out}
use Rattle.queue_of_store.specs.Ends.{top_slot}
use Rattle.queue_of_store.specs.Links.{Links, TreeWords}
use Rattle.queue_of_store.specs.inner.Ways.{parent, side_in, LinksWay}
use Rattle.queue_of_store.proofs.Has.{Has, Distinct, Apart, apart, has_top, has_near}
use Rattle.queue_of_store.proofs.Trees.{number_small, SameLinks, slot-low}
use Rattle.queue_of_store.proofs.Ways.{Parted, unplugged, plugged, distinct_in, HasWay, has_plug, has_way, way_apart}
use Rattle.queue_of_store.proofs.WayWrites.{way_stays, hook_stays, hook-new, way-hooked, links-hooked}
use Rattle.queue_of_store.proofs.NodeWrites.{touch_back, new-back}
use Rattle.queue_of_store.proofs.Turned.{top_has}
use Rattle.remove_means.proofs.Kept.{LinksOnly, tree-back, tree-child}
use Rattle.remove_means.proofs.Lowered.{hung-side}

side_in_small : (p : Way) → side_in p ≤ 1
side_in_small [] = omega arith
side_in_small (step d e r u ∷ p) = number_small d

-- the slot above a place, where there is one, is on the way
pub parent_on : (cap : ℕ) → cap ≤ no_slot → (p : Way) → parent p < cap → HasWay (parent p) p
parent_on cap few [] low = absurd (omega arith)
parent_on cap few (step d e r u ∷ p) low = inl refl

module _ (s : List ℕ) (cap : ℕ) (few : cap ≤ no_slot) (room : Long s cap) (c : Tree) (e : Entry) (r : ℕ) (p : Way)
    (D : Distinct (plug (fork c e r tip) p)) (w : TreeWords s cap (plug (fork c e r tip) p)) where
  abbrev m : ℕ
  m = e.slot

  abbrev M : Tree
  M = fork c e r tip

  W : Parted s cap M p
  W = unplugged s cap p M w

  A : Apart c m tip
  A = apart c e r tip left (distinct_in p M D)

  only-child-is : only_child s cap m ≡ top_slot c
  unfolding only_child
  only-child-is = go c W.below.0.near-is W.below.0.far-is W.below.1
    where
      go : (c : Tree) → field s cap m LEFT ≡ top_slot c → field s cap m RIGHT ≡ no_slot → Links s cap m c → only_child s cap m ≡ top_slot c
      go tip x y k = rw (eq-eqb (field s cap m LEFT) no_slot x) y
      go (fork a f q b) x y k =
          let low : f.slot < cap = k.0.low in
          rw (ne_eqb (field s cap m LEFT) no_slot (λ z. let v : f.slot ≡ no_slot = sym x ∙ z in omega arith)) x

  side_under_is : side_under s cap (parent p) m ≡ side_in p
  unfolding side_under
  side_under_is = go p D W
    where
      go : (p : Way) → Distinct (plug M p) → Parted s cap M p → side_under s cap (parent p) m ≡ side_in p
      go [] D W = rw (le-ltb no_slot cap few)
      go (step d f q u ∷ p) D W =
          rw (lt-ltb f.slot cap W.way.0.low) (hung-side s cap few d f q u p M D W (has_top c e r tip left m refl))

  abbrev s1 : List ℕ
  s1 = with_child s cap (parent p) (side_in p) (top_slot c)

  abbrev pub lifted : List ℕ
  lifted = with_back s1 cap (top_slot c) (parent p)

  pub lift_is : lift_out s cap m ≡ (lifted, record { under = parent p; side = side_in p })
  unfolding lift_out lift_with hung_up
  lift_is = rw (only-child-is, W.below.0.back_is, side_under_is)

  pub lifted-only : (l : List ℕ) → ((j : ℕ) → Has j (plug M p) → In j l) → LinksOnly s lifted cap l
  lifted-only l f =
      only_trans (tree-child cap l s (parent p) (side_in p) (top_slot c) (side_in_small p) (λ low. f (parent p) (has_way (parent p) p M (parent_on cap few p low))))
      (tree-back cap l s1 (top_slot c) (parent p) (λ low. f (top_slot c) (has_plug (top_slot c) p M (has_near c e r tip left (top_slot c) (top_has cap c few low)))))

  room1 : Long s1 cap
  room1 = rw (tree-child cap (parent p ∷ []) s (parent p) (side_in p) (top_slot c) (side_in_small p) (λ low. inl refl)).long room

  pub lifted-room : Long lifted cap
  lifted-room = rw (lifted-only (slots (inorder (plug M p))) (λ j h. h)).long room

  -- no slot of the way is c's
  off : (j : ℕ) → HasWay j p → ¬ (Has j c)
  off j h z = way_apart p M D j (has_near c e r tip left j z) h

  below : Links s1 cap m c
  below =
      links-hooked s cap few (top_slot c) p m c W.way
      (λ h. off (parent p) (parent_on cap few p (slot-low s cap c m W.below.1 (parent p) h)) h) W.below.1

  -- the last write is c's top's alone
  keep : (j : ℕ) → j < cap → HasWay j p → SameLinks s1 lifted cap j
  keep j low h g f = (touch_back s1 cap (top_slot c) (parent p)).slots j g low (omega arith) (λ z. off j h (rw z (top_has cap c few (rw z at low))))

  root : head lifted ROOT ≡ head s1 ROOT
  root = (touch_back s1 cap (top_slot c) (parent p)).heads ROOT (lit< tt) (λ z. z)

  way : LinksWay s1 cap p
  way = way-hooked s cap few (top_slot c) p M D W.way

  pub lifted-words : TreeWords lifted cap (plug c p)
  lifted-words = plugged lifted cap p c (record {
    below = new-back s1 cap m (parent p) c room1 A.in_near below;
    hook = hook_stays s1 lifted cap p (top_slot c) keep root way (hook-new s cap few (top_slot c) p room W.way);
    way = way_stays s1 lifted cap p keep root way;
  })

-- what is left has distinct slots, and not the lifted one
module _ (c : Tree) (e : Entry) (r : ℕ) (p : Way) (D : Distinct (plug (fork c e r tip) p)) where
  abbrev front : List ℕ
  front = slots (before p ++ inorder c)

  abbrev rear : List ℕ
  rear = slots (after p)

  with_it : slots (inorder (plug (fork c e r tip) p)) ≡ front ++ (e.slot ∷ rear)
  unfolding inorder
  with_it = ap slots (node-around c e r tip p) ∙ slots-put (before p ++ inorder c) e (after p)

  without : slots (inorder (plug c p)) ≡ front ++ rear
  without = ap slots (plug-around p c ∙ sym (append_assoc (before p) (inorder c) (after p))) ∙ slots_append (before p ++ inorder c) (after p)

  pub lifted-distinct : Distinct (plug c p)
  lifted-distinct = rw without (once_drop front e.slot rear (rw with_it at D))

  pub lifted-gone : ¬ (Has e.slot (plug c p))
  lifted-gone h = all_in (Differ e.slot) (front ++ rear) (once-differ front e.slot rear (rw with_it at D)) e.slot (rw without at h) refl

  pub lifted-member : (j : ℕ) → Has j (plug c p) → Has j (plug (fork c e r tip) p)
  lifted-member j h = rw with_it (in_put j front e.slot rear (rw without at h))
