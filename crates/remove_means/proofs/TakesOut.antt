-- Taking a node out of the tree in the words: whatever its children, the model answers yes and the words hold crate wavl's remove_at.
-- A reader may rely on: takes_out_lem, for every node of a ranked tree whose slots are distinct and whose chain stands in the words.
use Prim.Native.Nat.{ℕ, ◌≤◌, ◌<◌}
use mathlib.Core.Path.{◌≡◌, refl, sym, ap, ◌∙◌}
use mathlib.Core.Bool.{true, false}
use mathlib.Core.List.{List, [], ◌∷◌, ◌++◌}
use native.Mathlib.Omega.{arith}
use borrow.Author.Tests.{eq-eqb, ne_eqb, lt-leb}
use Rattle.handle.specs.Numbers.{no_slot}
use Rattle.arena.specs.inner.Budget.{budget}
use Rattle.arena.specs.Words.{Long, field, LEFT, PREV, NEXT}
use Rattle.arena.proofs.Only.{only_trans}
use Rattle.wavl.specs.Entry.{Entry, slots}
use Rattle.wavl.specs.Tree.{left, right, Tree, tip, fork, rank, inorder}
use Rattle.wavl.specs.Way.{step, Way, plug}
use Rattle.wavl.specs.Ranks.{Ranks}
use Rattle.wavl.specs.Taking.{endmost, vacate_end, vacate, settle, remove_at}
use Rattle.wavl.proofs.Placed.{unplug_ranks}
use Rattle.wavl.proofs.Taken.{fork-rank}
use Rattle.remove.specs.inner.Take.{is_childless, closed_from, replacement_of, filled_by, take_over, take_out}
use Rattle.remove.specs.inner.Lift.{lift_out}
use Rattle.queue_of_store.specs.Links.{TreeWords}
use Rattle.queue_of_store.specs.Chain.{ChainWords}
use Rattle.queue_of_store.proofs.Has.{Distinct}
use Rattle.queue_of_store.proofs.Ways.{unplugged}
use Rattle.queue_of_store.proofs.AnyDepth.{Came}
use Rattle.remove_means.proofs.Settled.{closing, childless, has_left-child, has_right-child, settled}
use Rattle.remove_means.proofs.Lifted.{lifted, lift_is, lifted-only, lifted-room, lifted-words, lifted-distinct, lifted-member}
use Rattle.remove_means.proofs.Filled.{plug_append, peak-rank, came_weaken, filled}
use Rattle.remove_means.proofs.Ends.{EndSplit, end_split, closes, between, prev-is-last}

-- the words hold a ranked tree with distinct slots and its chain
pub record Taking (s : List ℕ) (cap : ℕ) (t : Tree) : Type 0 where
  pub few : cap ≤ no_slot
  pub room : Long s cap
  pub distinct : Distinct t
  pub words : TreeWords s cap t
  pub ranks : Ranks t
  pub low : rank t < budget
  pub chain : ChainWords s cap (inorder t)

module _ (s : List ℕ) (cap i m : ℕ) where
  -- a leaf
  leaf-is : is_childless s cap i ≡ true → take_out s cap i ≡ closed_from (lift_out s cap i) cap
  unfolding take_out
  leaf-is h = rw h

  -- a node with a child, by its replacement
  over_is : is_childless s cap i ≡ false → replacement_of s cap i ≡ m → m < cap → take_out s cap i ≡ filled_by s cap i m
  unfolding take_out take_over
  over_is h e l = rw (h, e, lt-leb cap m l)

  by-prev : ¬ (field s cap i LEFT ≡ no_slot) → field s cap i PREV ≡ m → replacement_of s cap i ≡ m
  unfolding replacement_of
  by-prev n e = rw (ne_eqb (field s cap i LEFT) no_slot n) e

  by_next : field s cap i LEFT ≡ no_slot → field s cap i NEXT ≡ m → replacement_of s cap i ≡ m
  unfolding replacement_of
  by_next n e = rw (eq-eqb (field s cap i LEFT) no_slot n) e

leaf-out : (s : List ℕ) (cap : ℕ) (x : Entry) (r : ℕ) (p : Way) → Taking s cap (plug (fork tip x r tip) p)
    → Came s cap (slots (inorder (plug (fork tip x r tip) p))) (settle p) (take_out s cap x.slot)
unfolding closed_from
leaf-out s cap x r p k =
    let M = fork tip x r tip in
    let l = slots (inorder (plug M p)) in
    let W = unplugged s cap p M k.words in
    let t = lifted s cap k.few k.room tip x r p k.distinct k.words in
    let R = unplug_ranks p M k.ranks in
    let one : r ≡ 1 = let f = R.0.2 in omega arith in
    let y = came_weaken t cap (slots (inorder (plug tip p))) l (settle p) _ (lifted-member tip x r p k.distinct) (settled cap k.few (slots (inorder (plug tip p))) t tip p (record {
      words = lifted-words s cap k.few k.room tip x r p k.distinct k.words;
      slots-are = refl;
      once = lifted-distinct tip x r p k.distinct;
      room = lifted-room s cap k.few k.room tip x r p k.distinct k.words;
      ranks = tt;
      way = rw one at R.1;
      low = rw one at (rw (peak-rank p M) at k.low);
    })) in
    rw (leaf-is s cap x.slot 0 (childless s cap x.slot W.below.0.near-is W.below.0.far-is), lift_is s cap k.few k.room tip x r p k.distinct k.words)
    (record { yes = y.yes; words = y.words; only = only_trans (lifted-only s cap k.few k.room tip x r p k.distinct k.words l (λ j h. h)) y.only })

-- a node with a left child, by the last node there
module _ (s : List ℕ) (cap : ℕ) (a : Tree) (f : Entry) (q : ℕ) (c : Tree) (x : Entry) (r : ℕ) (b : Tree) (p : Way) (k : Taking s cap (plug (fork (fork a f q c) x r b) p)) where
  abbrev near : Tree
  near = fork a f q c

  E : EndSplit near
  E = end_split near tt

  abbrev M : Tree
  M = fork E.child E.entry E.rank tip

  abbrev P : Entry → Way
  P z = E.way ++ (step left z r b ∷ p)

  whole_is : plug (fork near x r b) p ≡ plug M (P x)
  unfolding plug
  whole_is = ap (λ (z : Tree). plug (fork z x r b) p) E.tree_is ∙ sym (plug_append E.way (step left x r b ∷ p) M)

  D : Distinct (plug M (P x))
  D = rw whole_is at k.distinct

  W : TreeWords s cap (plug M (P x))
  W = rw whole_is at k.words

  R : Ranks (plug M (P x))
  R = rw whole_is at k.ranks

  low : rank (plug M (P x)) < budget
  low = rw whole_is at k.low

  prev : field s cap x.slot PREV ≡ E.entry.slot
  prev = prev-is-last s cap a f q c x r b p k.chain ∙ ap (λ (z : Entry). z.slot) E.end_is

  has_left : ¬ (field s cap x.slot LEFT ≡ no_slot)
  has_left z =
      let o = (unplugged s cap p (fork near x r b) k.words).below in
      let i : f.slot < cap = o.1.0.low in
      let j : f.slot ≡ no_slot = sym o.0.near-is ∙ z in
      let few = k.few in
      omega arith

  tree_is : closing E.child (P E.entry) ≡ remove_at (fork near x r b) p
  unfolding remove_at vacate
  tree_is =
      sym (closes E.child E.entry E.rank (P E.entry) (unplug_ranks (P x) M R).0)
      ∙ ap settle (sym (E.vacate-is (step left E.entry r b ∷ p)))
      ∙ ap (λ (z : Entry). settle (vacate_end right near (step left z r b ∷ p))) (sym E.end_is)

  left_out : Came s cap (slots (inorder (plug (fork near x r b) p))) (remove_at (fork near x r b) p) (take_out s cap x.slot)
  left_out =
      let low_m = (unplugged s cap (P x) M W).below.0.low in
      rw (over_is s cap x.slot E.entry.slot (has_left-child s cap x.slot has_left) (by-prev s cap x.slot E.entry.slot has_left prev) low_m, whole_is, ← tree_is)
      (filled s cap k.few k.room E.child E.entry E.rank E.way left x r b p D W R low)

-- a node with a right child alone, which is a leaf
right-out : (s : List ℕ) (cap : ℕ) (x : Entry) (r : ℕ) (f : Entry) (q : ℕ) (p : Way) → Taking s cap (plug (fork tip x r (fork tip f q tip)) p)
    → Came s cap (slots (inorder (plug (fork tip x r (fork tip f q tip)) p))) (remove_at (fork tip x r (fork tip f q tip)) p) (take_out s cap x.slot)
unfolding remove_at vacate vacate_end endmost plug inorder
right-out s cap x r f q p k =
    let o = (unplugged s cap p (fork tip x r (fork tip f q tip)) k.words).below in
    let low-f : f.slot < cap = o.2.0.low in
    let few = k.few in
    rw (over_is s cap x.slot f.slot
    (has_right-child s cap x.slot (λ z. let j : f.slot ≡ no_slot = sym o.0.far-is ∙ z in omega arith))
    (by_next s cap x.slot f.slot o.0.near-is (between s cap tip x r (fork tip f q tip) p k.chain).next-is) low-f)
    (filled s cap k.few k.room tip f q [] right x r tip p k.distinct k.words k.ranks k.low)

-- "A node with a child is replaced by its chain prev, or by its next .. Then climb from the parent n1 of the emptied place"
pub takes_out_lem : (s : List ℕ) (cap : ℕ) (a : Tree) (x : Entry) (r : ℕ) (b : Tree) (p : Way) → Taking s cap (plug (fork a x r b) p)
    → Came s cap (slots (inorder (plug (fork a x r b) p))) (remove_at (fork a x r b) p) (take_out s cap x.slot)
unfolding remove_at vacate
takes_out_lem s cap tip x r tip p k = leaf-out s cap x r p k
takes_out_lem s cap tip x r (fork tip f q tip) p k = right-out s cap x r f q p k
takes_out_lem s cap tip x r (fork tip f q (fork b g h c)) p k =
    let R = (unplug_ranks p _ k.ranks).0 in let i = fork-rank b g h c R.1.1 in absurd (omega arith)
takes_out_lem s cap tip x r (fork (fork b g h c) f q d) p k =
    let R = (unplug_ranks p _ k.ranks).0 in let i = fork-rank b g h c R.1.0 in absurd (omega arith)
takes_out_lem s cap (fork a f q c) x r b p k = left_out s cap a f q c x r b p k
