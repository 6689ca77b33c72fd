-- The walk of a tree that stands in the words goes through: where every node and every joint is as the rules have it, no test breaks
-- it off. A reader may rely on: walks, for any tree of a rank within the budget.
use Prim.Native.Nat.{ℕ, ◌-◌, ◌≤◌, ◌<◌}
use mathlib.Core.Path.{◌≡◌, refl, sym, ap, ◌∙◌}
use mathlib.Core.Bool.{true}
use mathlib.Core.List.{List, [], ◌∷◌, ◌++◌}
use native.Mathlib.Omega.{arith}
use Rattle.handle.specs.Numbers.{no_slot}
use Rattle.arena.specs.Words.{field, KEY}
use Rattle.tree.specs.inner.Links.{rank_of}
use Rattle.wavl.specs.Lists.{All}
use Rattle.wavl.specs.Entry.{Entry, Rising, slots}
use Rattle.wavl.specs.Tree.{Tree, tip, fork, rank, inorder}
use Rattle.wavl.specs.Ranks.{Fits, Ranks}
use Rattle.wavl.proofs.Lists.{all_left, all_right}
use Rattle.rules.specs.Sound.{Under, LiveGeneration}
use Rattle.queue_of_store.specs.Ends.{top_slot, first_slot}
use Rattle.queue_of_store.specs.Links.{Links}
use Rattle.queue_of_store.specs.Chain.{Chain, ChainWords}
use Rattle.queue_of_store.specs.Entries.{EntryWords, AllEntries}
use Rattle.queue_of_store.proofs.Chains.{end_or, end_last}
use Rattle.sound.specs.inner.Joints.{after_of}
use Rattle.sound.specs.inner.Walking.{walk_model}
use Rattle.sound.proofs.CheckTurns.{walk_tip, walk_on}
use Rattle.sound.proofs.NodeFacts.{GoodNode, node-is, Joint, join_is}
use Rattle.sound.proofs.Rows.{Joined, after-slot, before-slot, after_none, before-none}
use Rattle.sound.proofs.Grown.{rank-none, rank-some}
use Rattle.std.specs.Prelude.{Some}

-- a row in two parts, and the slot between them
record Split (s : List ℕ) (cap q : ℕ) (l m : List Entry) (x : ℕ) : Type 0 where
  y : ℕ
  near : Joined s cap q l y
  far : Joined s cap y m x

split : (s : List ℕ) (cap : ℕ) (l m : List Entry) (q x : ℕ) → Joined s cap q (l ++ m) x → Split s cap q l m x
split s cap [] m q x j = record { y = q; near = refl; far = j }
split s cap (e ∷ l) m q x j = let z = split s cap l m e.slot x j.1 in record { y = z.y; near = (j.0, z.near); far = z.far }

module _ (s : List ℕ) (cap : ℕ) (few : cap ≤ no_slot) where
  -- the rank that the words have at a link
  pub top-rank : (t : Tree) (back : ℕ) → Links s cap back t → rank_of s cap (top_slot t) ≡ rank t
  top-rank tip back w = rank-none s cap
  top-rank (fork a e r b) back w = rank-some s cap e.slot w.0.low few ∙ w.0.rank_is

  module _ (top : ℕ) where
    good-node : (a : Tree) (e : Entry) (r : ℕ) (b : Tree) (back : ℕ) → Links s cap back (fork a e r b) → Fits r (rank a) (rank b) → EntryWords s cap e
        → LiveGeneration top e → GoodNode s cap top back e.slot
    good-node a e r b back w f v g = record {
      low = w.0.low;
      back_is = w.0.back_is;
      generation = rw v.generation-is g;
      fits = rw (w.0.rank_is, w.0.near-is, w.0.far-is, top-rank a e.slot w.1, top-rank b e.slot w.2) f;
    }

    pub walks : (t : Tree) (n back q x : ℕ) → Links s cap back t → Ranks t → AllEntries s cap (inorder t) → All (LiveGeneration top) (inorder t)
        → Joined s cap q (inorder t) x → rank t ≤ n → walk_model n s cap top back (top_slot t) q ≡ Some x
    unfolding inorder
    walks tip n back q x w k v g j h = sym (walk_tip s cap top back no_slot q n refl) ∙ ap Some j
    walks (fork a e r b) n back q x w k v g j h =
        let f = k.2 in
        let low : e.slot < cap = w.0.low in
        let ne : ¬ (e.slot ≡ no_slot) = λ z. omega arith in
        let z = split s cap (inorder a) (e ∷ inorder b) q x j in
        let v₁ = all_right (EntryWords s cap) (inorder a) (e ∷ inorder b) v in
        let g₁ = all_right (LiveGeneration top) (inorder a) (e ∷ inorder b) g in
        let node = node-is s cap top back e.slot (good-node a e r b back w f v₁.0 g₁.0) in
        let near = walks a (n - 1) e.slot q z.y w.1 k.0 (all_left _ (inorder a) (e ∷ inorder b) v) (all_left _ (inorder a) (e ∷ inorder b) g) z.near
        (let o = f.over_a in omega arith) in
        let far = walks b (n - 1) e.slot e.slot x w.2 k.1 v₁.1 g₁.1 z.far.1 (let o = f.over_b in omega arith) in
        let join = join_is s cap z.y e.slot z.far.0 in
        let one : 1 ≤ n = let o = f.over_a in omega arith in
        sym (walk_on s cap top back e.slot q ne n one true (sym node) refl (top_slot a) (sym w.0.near-is) (Some z.y) (sym near) z.y refl true (sym join)
        refl (top_slot b) (sym w.0.far-is) (Some x) (sym far))

  -- the chain of the words is a row
  next_of : (e : Entry) (l : List Entry) (p : ℕ) → e.slot < cap → Chain s cap p (e ∷ l) → after_of s cap e.slot ≡ first_slot l
  next_of e l p low c = after-slot s cap e.slot low ∙ c.0.next-is

  pub joined_of : (l : List Entry) (q : ℕ) → All (Under cap) (slots l) → AllEntries s cap l → Chain s cap q l → after_of s cap q ≡ first_slot l → Rising l
      → (q < cap → All (λ f. field s cap q KEY < f.key) l) → Joined s cap q l (end_or q l)
  unfolding slots
  joined_of [] q u v c a r k = refl
  joined_of (e ∷ l) q u v c a r k = (
    record {
      after = a;
      before = before-slot s cap e.slot u.0 ∙ c.0.prev-is;
      rise = λ m n. rw v.0.key-is (k m).0;
    },
    joined_of l e.slot u.1 v.1 c.1 (next_of e l q u.0 c) r.1 (λ m. rw v.0.key-is r.0),
  )

  after_end : (l : List Entry) (q : ℕ) → All (Under cap) (slots l) → Chain s cap q l → after_of s cap q ≡ first_slot l → after_of s cap (end_or q l) ≡ no_slot
  unfolding slots
  after_end [] q u c a = a
  after_end (e ∷ l) q u c a = after_end l e.slot u.1 c.1 (next_of e l q u.0 c)

  module _ (l : List Entry) (u : All (Under cap) (slots l)) (c : ChainWords s cap l) where
    first_of : after_of s cap no_slot ≡ first_slot l
    first_of = after_none s cap few ∙ c.first-is

    pub row_of : AllEntries s cap l → Rising l → Joined s cap no_slot l (end_or no_slot l)
    row_of v r = joined_of l no_slot u v c.chain first_of r (λ m. absurd (omega arith))

    pub end_of_lem : Joint s cap (end_or no_slot l) no_slot
    end_of_lem = record {
      after = after_end l no_slot u c.chain first_of;
      before = before-none s cap few ∙ c.last-is ∙ sym (end_last l);
      rise = λ m n. absurd (omega arith);
    }
