-- Settling after a place was emptied, or came to hold what a lifted node left there: the code's three cases, and one result.
-- A reader may rely on: settled, for every way; `closing` is crate wavl's `settle` for an emptied place, else its climb.
use Prim.Native.Nat.{ℕ, suc, ◌+◌, ◌-◌, ◌≤◌, ◌<◌}
use mathlib.Core.Path.{◌≡◌, refl, sym, ap, ◌∙◌}
use mathlib.Core.Bool.{true, false}
use mathlib.Core.List.{List, [], ◌∷◌}
use native.Mathlib.Decide.{ℕ_discrete}
use native.Mathlib.Omega.{arith}
use borrow.Author.Tests.{eq-eqb, ne_eqb, le-leb, lt-leb}
use lib.ListN.{length}
use Rattle.handle.specs.Numbers.{no_slot}
use Rattle.arena.specs.Words.{Long, field, put, LEFT, RIGHT, RANK}
use Rattle.arena.specs.inner.Budget.{budget}
use Rattle.arena.proofs.WordLaws.{length_put}
use Rattle.arena.proofs.Only.{only_none, only_trans}
use Rattle.wavl.specs.Lists.{Once}
use Rattle.wavl.specs.Entry.{Entry, slots}
use Rattle.wavl.specs.Tree.{Side, left, right, Tree, tip, fork, node, rank, leaf, inorder}
use Rattle.wavl.specs.Way.{step, Way, plug}
use Rattle.wavl.specs.Ranks.{Ranks}
use Rattle.wavl.specs.Taking.{remove_climb, settle}
use Rattle.wavl.proofs.Order.{Same, plug-same}
use Rattle.wavl.proofs.Placed.{WayRanks}
use Rattle.wavl.proofs.Taken.{fork-rank}
use Rattle.wavl.proofs.Rounds.{remove-root, settle-root, settle-childless, settle-parent}
use Rattle.lower.specs.inner.Climb.{upward, lower_one, lower_from}
use Rattle.remove.specs.inner.Take.{is_childless, settle_bare, settle_at}
use Rattle.queue_of_store.specs.Ends.{top_slot, number}
use Rattle.queue_of_store.specs.Links.{Links, TreeWords}
use Rattle.queue_of_store.specs.inner.Ways.{parent, side_in}
use Rattle.queue_of_store.proofs.Has.{Distinct}
use Rattle.queue_of_store.proofs.Ways.{unplugged}
use Rattle.remove_means.proofs.Lowered.{lowered, goes_up}
use Rattle.queue_of_store.proofs.AnyDepth.{Came}
use Rattle.remove_means.proofs.Climbing.{peak, peak-above}
use Rattle.remove_means.proofs.Climbs.{onward-is, climbs}
use Rattle.std.specs.Prelude.{Ok}

-- the words hold a tree with the slots l, in which c hangs where a node one higher than it has gone
pub record Lifting (s : List ℕ) (cap : ℕ) (l : List ℕ) (c : Tree) (p : Way) : Type 0 where
  pub words : TreeWords s cap (plug c p)
  pub slots-are : slots (inorder (plug c p)) ≡ l
  pub once : Once l
  pub room : Long s cap
  pub ranks : Ranks c
  pub way : WayRanks (suc (rank c)) p
  pub low : peak (suc (rank c)) p < budget

-- the tree that settling comes to
abbrev pub closing : Tree → Way → Tree
closing tip p = settle p
closing (fork a e r b) p = remove_climb (fork a e r b) p

module _ (s : List ℕ) (cap i : ℕ) where
  pub childless : field s cap i LEFT ≡ no_slot → field s cap i RIGHT ≡ no_slot → is_childless s cap i ≡ true
  unfolding is_childless
  childless x y = rw (eq-eqb (field s cap i LEFT) no_slot x, eq-eqb (field s cap i RIGHT) no_slot y)

  pub has_left-child : ¬ (field s cap i LEFT ≡ no_slot) → is_childless s cap i ≡ false
  unfolding is_childless
  has_left-child x = rw (ne_eqb (field s cap i LEFT) no_slot x)

  pub has_right-child : ¬ (field s cap i RIGHT ≡ no_slot) → is_childless s cap i ≡ false
  unfolding is_childless
  has_right-child y = go (ℕ_discrete (field s cap i LEFT) no_slot)
    where
      go : Dec (field s cap i LEFT ≡ no_slot) → is_childless s cap i ≡ false
      go (yes x) = rw (eq-eqb (field s cap i LEFT) no_slot x, ne_eqb (field s cap i RIGHT) no_slot y)
      go (no x) = has_left-child x

  pub has_near-child : (d : Side) → ¬ (field s cap i (LEFT + number d) ≡ no_slot) → is_childless s cap i ≡ false
  has_near-child left x = has_left-child x
  has_near-child right x = has_right-child x

  pub has_far-child : (d : Side) → ¬ (field s cap i (RIGHT - number d) ≡ no_slot) → is_childless s cap i ≡ false
  has_far-child left x = has_right-child x
  has_far-child right x = has_left-child x

  pub both-missing : (d : Side) → field s cap i (LEFT + number d) ≡ no_slot → field s cap i (RIGHT - number d) ≡ no_slot → is_childless s cap i ≡ true
  both-missing left x y = childless x y
  both-missing right x y = childless y x

bare-leaf : (d : Side) (e : Entry) → node d tip e 1 tip ≡ leaf e
bare-leaf left e = refl
bare-leaf right e = refl

bare-same : (d : Side) (e : Entry) (r : ℕ) → Same (leaf e) (node d tip e r tip)
unfolding inorder
bare-same left e r = refl
bare-same right e r = refl

module _ (cap : ℕ) (few : cap ≤ no_slot) (l : List ℕ) (s : List ℕ) where
  -- no slot above
  at-root : settle_at s cap no_slot 0 ≡ (s, Ok tt)
  unfolding settle_at
  at-root = rw (le-leb cap no_slot few)

  at_bare : (q e : ℕ) → q < cap → is_childless s cap q ≡ true → settle_at s cap q e ≡ settle_bare s cap q
  unfolding settle_at
  at_bare q e h b = rw (lt-leb cap q h, b)

  at-parent : (q e : ℕ) → q < cap → is_childless s cap q ≡ false → settle_at s cap q e ≡ lower_from budget s cap q e
  unfolding settle_at
  at-parent q e h b = rw (lt-leb cap q h, b)

  -- the parent has a child: the climb starts there
  parented : (c : Tree) (d : Side) (e : Entry) (r : ℕ) (u : Tree) (p : Way) → Lifting s cap l c (step d e r u ∷ p) → 1 ≤ rank c + rank u
      → is_childless s cap e.slot ≡ false → Came s cap l (remove_climb c (step d e r u ∷ p)) (settle_at s cap e.slot (number d))
  parented c d e r u p k some b =
      let low = (unplugged s cap (step d e r u ∷ p) c k.words).way.0.low in
      let f = peak-above (suc (rank c)) (step d e r u ∷ p) k.way in
      let g : peak (suc (rank c)) (step d e r u ∷ p) < budget = k.low in
      let h : length (step d e r u ∷ p) ≤ budget = omega arith in
      rw (at-parent e.slot (number d) low b)
      (climbs cap few l (step d e r u ∷ p) budget s c h
      (record { words = k.words; slots-are = k.slots-are; once = k.once; room = k.room; ranks = k.ranks; way = k.way; some = some; low = k.low }))

  no-slot-top : (c : Tree) (b : ℕ) → 1 ≤ rank c → Links s cap b c → ¬ (top_slot c ≡ no_slot)
  no-slot-top tip b h k z = omega arith
  no-slot-top (fork a e r x) b h k z = let m : e.slot < cap = k.0.low in omega arith

  -- the parent is left childless: it gets rank 1 and the climb goes one up
  bared : (d : Side) (e : Entry) (r : ℕ) (p : Way) → Lifting s cap l tip (step d e r tip ∷ p) → Came s cap l (settle (step d e r tip ∷ p)) (settle_at s cap e.slot (number d))
  unfolding settle_bare lower_one upward plug
  bared d e r p k =
      let two : r ≡ 2 = let f = k.way.1 in omega arith in
      let x = unplugged s cap (step d e r tip ∷ p) tip k.words in
      let t = put s cap e.slot RANK 1 in
      let D : Distinct (plug (node d tip e r tip) p) = rw k.slots-are k.once in
      let v = lowered s cap few k.room l d tip e r tip p 1 D (λ j z. rw k.slots-are at z) k.words in
      let m : slots (inorder (plug (leaf e) p)) ≡ l = ap slots (plug-same p (leaf e) (node d tip e r tip) (bare-same d e r)) ∙ k.slots-are in
      let D1 : Distinct (plug (node d tip e 1 tip) p) = rw (bare-leaf d e, m) k.once in
      let f = peak-above r p k.way.2 in
      let g : peak r p < budget = k.low in
      let y = climbs cap few l p budget t (leaf e) (omega arith) (record {
        words = rw (bare-leaf d e) at v.words;
        slots-are = m;
        once = k.once;
        room = rw (length_put s cap e.slot RANK 1) k.room;
        ranks = (tt, tt, omega arith);
        way = rw two at k.way.2;
        some = omega arith;
        low = rw two at g;
      }) in
      rw (
        settle-childless d e r p,
        at_bare e.slot (number d) x.way.0.low (both-missing s cap e.slot d x.hook x.way.0.far-is),
        goes_up t cap few d tip e 1 tip p D1 v.words,
        onward-is p budget t cap,
      )
      (record { yes = y.yes; words = y.words; only = only_trans v.only y.only })

  pub settled : (c : Tree) (p : Way) → Lifting s cap l c p → Came s cap l (closing c p) (settle_at s cap (parent p) (side_in p))
  unfolding plug
  settled tip [] k = rw (at-root, settle-root) (record { yes = refl; words = k.words; only = only_none })
  settled (fork a f q b) [] k = rw (at-root, remove-root (fork a f q b)) (record { yes = refl; words = k.words; only = only_none })
  settled tip (step d e r tip ∷ p) k = bared d e r p k
  settled tip (step d e r (fork a f q b) ∷ p) k =
      let x = unplugged s cap (step d e r (fork a f q b) ∷ p) tip k.words in
      let i = fork-rank a f q b k.way.0 in
      rw (settle-parent d e r a f q b p)
      (parented tip d e r (fork a f q b) p k (omega arith)
      (has_far-child s cap e.slot d (λ z. no-slot-top (fork a f q b) e.slot i x.way.1 (sym x.way.0.far-is ∙ z))))
  settled (fork a f q b) (step d e r u ∷ p) k =
      let x = unplugged s cap (step d e r u ∷ p) (fork a f q b) k.words in
      let i = fork-rank a f q b k.ranks in
      parented (fork a f q b) d e r u p k (omega arith)
      (has_near-child s cap e.slot d (λ z. no-slot-top (fork a f q b) e.slot i x.below (sym x.hook ∙ z)))
