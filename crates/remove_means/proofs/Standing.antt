-- A node set in another's place in the words, at any depth: a free node m takes the links, the rank and the place of i.
-- A reader may rely on: stands-words: the tree afterwards is the same with m's entry for i's; only i's tree, m and the hook are written.
use Prim.Native.Nat.{ℕ, ◌≤◌, ◌<◌}
use mathlib.Core.Path.{◌≡◌, refl, ap, ◌∙◌}
use mathlib.Core.Logic.{◌⊎◌, inl, inr}
use mathlib.Core.List.{List, ◌∷◌, ◌++◌}
use native.Mathlib.Omega.{arith}
use lib.Dec.{lit<}
use Rattle.handle.specs.Numbers.{no_slot}
use Rattle.arena.specs.Words.{Long, ROOT}
use Rattle.arena.specs.inner.Only.{Only, NoHead}
use Rattle.arena.proofs.Only.{only_trans, only-room, only_weaken}
use Rattle.wavl.specs.Lists.{In, Differ}
use Rattle.wavl.specs.Entry.{Entry, slots}
use Rattle.wavl.specs.Tree.{left, Tree, fork, inorder}
use Rattle.wavl.specs.Way.{Way, plug, before, after}
use Rattle.wavl.proofs.Lists.{all_of}
use Rattle.wavl.proofs.Rising.{node-around}
use Rattle.rules.proofs.Lists.{slots-put, once-put, once_drop, in_put, in_drop}
use Rattle.tree.specs.inner.Links.{with_back, with_node, relinked}
use Rattle.tree.specs.declared.Node.{Node as Written}
use Rattle.tree.proofs.Keeps.{only-back, only-node}
use Rattle.remove.specs.inner.Lift.{stands_in, node_replaced}
use Rattle.queue_of_store.specs.Ends.{top_slot}
use Rattle.queue_of_store.specs.Links.{Node, Links, TreeWords}
use Rattle.queue_of_store.specs.inner.Ways.{parent}
use Rattle.queue_of_store.proofs.Has.{Has, Distinct, Apart, apart, has_cases, has_top, has_near, has_far}
use Rattle.queue_of_store.proofs.Trees.{LinkOf, carry, carry-node, slot-low}
use Rattle.queue_of_store.proofs.Ways.{Parted, unplugged, distinct_in, HasWay, has_plug, has_way, way_apart}
use Rattle.queue_of_store.proofs.Groups.{same-links}
use Rattle.queue_of_store.proofs.WayWrites.{regrown}
use Rattle.queue_of_store.proofs.NodeWrites.{touch_node, touch_back, node-new, new-back}
use Rattle.queue_of_store.proofs.Turned.{top-off, top_has}
use Rattle.remove_means.proofs.Kept.{LinksOnly, tree-relinked}
use Rattle.remove_means.proofs.Lifted.{parent_on}

module _ (s : List ℕ) (cap : ℕ) (few : cap ≤ no_slot) (room : Long s cap) (a : Tree) (x : Entry) (r : ℕ) (b : Tree) (p : Way)
    (D : Distinct (plug (fork a x r b) p)) (w : TreeWords s cap (plug (fork a x r b) p)) (e : Entry) (lowm : e.slot < cap)
    (gone : ¬ (Has e.slot (plug (fork a x r b) p))) where
  abbrev i : ℕ
  i = x.slot

  abbrev m : ℕ
  m = e.slot

  abbrev old : Tree
  old = fork a x r b

  abbrev new : Tree
  new = fork a e r b

  W : Parted s cap old p
  W = unplugged s cap p old w

  A : Apart a i b
  A = apart a x r b left (distinct_in p old D)

  outside : ¬ (Has m old)
  outside h = gone (has_plug m p old h)

  not_a : ¬ (Has m a)
  not_a h = outside (has_near a x r b left m h)

  not_b : ¬ (Has m b)
  not_b h = outside (has_far a x r b left m h)

  -- m as it is written
  abbrev wm : Written
  wm = record { back = parent p; near = top_slot a; far = top_slot b; rank = r }

  abbrev s1 : List ℕ
  s1 = with_node s cap 0 m wm

  abbrev s2 : List ℕ
  s2 = with_back s1 cap (top_slot a) m

  abbrev s3 : List ℕ
  s3 = with_back s2 cap (top_slot b) m

  abbrev pub stood : List ℕ
  stood = relinked s3 cap (parent p) i m

  pub stands-is : node_replaced s cap i m ≡ stood
  unfolding node_replaced stands_in
  stands-is = rw (W.below.0.near-is, W.below.0.far-is, W.below.0.back_is, W.below.0.rank_is)

  room1 : Long s1 cap
  room1 = only-room (touch_node s cap 0 m wm (omega arith) lowm) room

  room2 : Long s2 cap
  room2 = only-room (touch_back s1 cap (top_slot a) m) room1

  -- the first write leaves a tree without m; the others one apart from a, or from b
  first : (y : Tree) (back : ℕ) → ¬ (Has m y) → Links s cap back y → Links s1 cap back y
  first y back n l = carry s s1 cap m (touch_node s cap 0 m wm (omega arith) lowm) y back n l

  apart_from : (y : Tree) (t : List ℕ) (z : Tree) (back : ℕ) → ((j : ℕ) → Has j y → ¬ (Has j z)) → Links t cap back z → Links (with_back t cap (top_slot y) m) cap back z
  apart_from y t z back n l =
      carry t (with_back t cap (top_slot y) m) cap (top_slot y) (touch_back t cap (top_slot y) m) z back
      (top-off t cap back y z few l n) l

  node-past : (y : Tree) (t : List ℕ) → ¬ (Has m y) → Node t cap 0 (parent p) (top_slot a) m r (top_slot b)
      → Node (with_back t cap (top_slot y) m) cap 0 (parent p) (top_slot a) m r (top_slot b)
  node-past y t n k =
      carry-node t (with_back t cap (top_slot y) m) cap (top_slot y) (touch_back t cap (top_slot y) m) 0 (parent p) (top_slot a) m r (top_slot b) (omega arith)
      (λ z. n (rw (← z) at (top_has cap y few (rw z at lowm)))) k

  links : Links s3 cap (parent p) new
  links = (
    node-past b s2 not_b (node-past a s1 not_a (node-new s cap 0 m wm (omega arith) lowm room)),
    apart_from b s2 a m (λ j h k. A.both j k h) (new-back s1 cap i m a room1 A.in_near (first a i not_a W.below.1)),
    new-back s2 cap i m b room2 A.in_far (apart_from a s1 b i A.both (first b i not_b W.below.2)),
  )

  -- nothing is written but links of the old tree's slots and of m
  abbrev L : List ℕ
  L = m ∷ slots (inorder old)

  only : Only s s3 cap (LinkOf L) NoHead
  only =
      only_trans (only-node s 0 m wm (omega arith) lowm (λ g y z. record { slot_in = inl refl; field_is = record { from = y; to = z } }))
      (only_trans (only-back s1 (top_slot a) m
      (λ l. record { slot_in = inr (has_near a x r b left (top_slot a) (top_has cap a few l)); field_is = record { from = omega arith; to = omega arith } }))
      (only-back s2 (top_slot b) m
      (λ l. record { slot_in = inr (has_far a x r b left (top_slot b) (top_has cap b few l)); field_is = record { from = omega arith; to = omega arith } })))

  off : (j : ℕ) → HasWay j p → ¬ (In j L)
  off j h (inl z) = gone (rw z at (has_way j p old h))
  off j h (inr z) = way_apart p old D j z h

  within : (j : ℕ) → Has j new → In j L
  within j h = go (has_cases a e r b left j h)
    where
      go : (j ≡ m) ⊎ (Has j a ⊎ Has j b) → In j L
      go (inl z) = inl z
      go (inr (inl z)) = inr (has_near a x r b left j z)
      go (inr (inr z)) = inr (has_far a x r b left j z)

  pub stands-words : TreeWords stood cap (plug new p)
  stands-words =
      regrown s s3 cap p old new few (rw only.long room) D w (λ j low h. same-links s s3 cap (LinkOf L) NoHead only j low (λ g f z. off j h z.slot_in))
      (only.heads ROOT (lit< tt) (λ z. z)) links
      (λ h. off (parent p) (parent_on cap few p (slot-low s3 cap new (parent p) links (parent p) h)) (within (parent p) h))
      (has_top a x r b left i refl) W.below.0.low

  pub stands-only : (l : List ℕ) → ((j : ℕ) → Has j (plug old p) → In j l) → In m l → LinksOnly s stood cap l
  stands-only l f h =
      only_trans (only_weaken (λ j g hj z. record { slot_in = go j z.slot_in; field_is = z.field_is }) (λ j z. absurd z) only)
      (tree-relinked cap l s3 (parent p) i m (λ low. f (parent p) (has_way (parent p) p old (parent_on cap few p low))))
    where
      go : (j : ℕ) → In j L → In j l
      go j (inl z) = rw z h
      go j (inr z) = f j (has_plug j p old z)

  -- the slots afterwards
  abbrev front : List ℕ
  front = slots (before p ++ inorder a)

  abbrev rear : List ℕ
  rear = slots (inorder b ++ after p)

  around-is : (z : Entry) → slots (inorder (plug (fork a z r b) p)) ≡ front ++ (z.slot ∷ rear)
  around-is z = ap slots (node-around a z r b p) ∙ slots-put (before p ++ inorder a) z (inorder b ++ after p)

  pub stands-distinct : Distinct (plug new p)
  stands-distinct =
      rw (around-is e) (once-put front m rear
      (all_of (Differ m) (front ++ rear) (λ j k z. gone (rw (around-is x) (in_put m front i rear (rw (← z) at k)))))
      (once_drop front i rear (rw (around-is x) at D)))

  pub stands-member : (j : ℕ) → Has j (plug new p) → (j ≡ m) ⊎ Has j (plug old p)
  stands-member j h = go (in_drop j front m rear (rw (around-is e) at h))
    where
      go : (j ≡ m) ⊎ In j (front ++ rear) → (j ≡ m) ⊎ Has j (plug old p)
      go (inl k) = inl k
      go (inr k) = inr (rw (around-is x) (in_put j front i rear k))

  pub stands-room : Long stood cap
  stands-room = rw (stands-only (m ∷ slots (inorder (plug old p))) (λ j h. inr h) (inl refl)).long room
