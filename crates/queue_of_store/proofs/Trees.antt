-- The links of a tree, over the side: a node opened and closed, what a store must keep for the links to stay, and the words of a
-- tree's member. A reader may rely on: only LEFT, RIGHT, RANK and BACK of the tree's own slots matter.
use Prim.Native.Nat.{ℕ, ◌+◌, ◌-◌, ◌≤◌, ◌<◌}
use mathlib.Core.Path.{◌≡◌, refl, ◌∙◌}
use mathlib.Core.Logic.{⊎_elim}
use mathlib.Core.List.{List}
use native.Mathlib.Omega.{arith}
use Rattle.arena.specs.Words.{field, LEFT, RIGHT, RANK, BACK}
use Rattle.arena.specs.inner.Only.{Only, NoHead}
use Rattle.wavl.specs.Lists.{In}
use Rattle.wavl.specs.Entry.{Entry, slots}
use Rattle.wavl.specs.Tree.{Side, left, right, Tree, tip, fork, node, inorder}
use Rattle.queue_of_store.specs.Ends.{top_slot, number}
use Rattle.queue_of_store.specs.Links.{Node, Links}
use Rattle.queue_of_store.proofs.Has.{Has, has_cases, has_top, has_near, has_far}

pub number_small : (d : Side) → number d ≤ 1
number_small left = omega arith
number_small right = omega arith

-- a field of the tree's links
pub record LinkField (g : ℕ) : Type 0 where
  pub from : LEFT ≤ g
  pub to : g ≤ BACK

-- a link of one of the slots l
pub record LinkOf (l : List ℕ) (j g : ℕ) : Type 0 where
  pub slot_in : In j l
  pub field_is : LinkField g

module _ (s : List ℕ) (cap : ℕ) where
  pub opened : (d : Side) (back : ℕ) (a : Tree) (e : Entry) (r : ℕ) (b : Tree) → Links s cap back (node d a e r b)
      → Node s cap (number d) back (top_slot a) e.slot r (top_slot b) × Links s cap e.slot a × Links s cap e.slot b
  opened left back a e r b l = l
  opened right back a e r b l =
      (record { low = l.0.low; back_is = l.0.back_is; near-is = l.0.far-is; far-is = l.0.near-is; rank_is = l.0.rank_is }, l.2, l.1)

  pub closed : (d : Side) (back : ℕ) (a : Tree) (e : Entry) (r : ℕ) (b : Tree) → Node s cap (number d) back (top_slot a) e.slot r (top_slot b)
      → Links s cap e.slot a → Links s cap e.slot b → Links s cap back (node d a e r b)
  closed left back a e r b n x y = (n, x, y)
  closed right back a e r b n x y =
      (record { low = n.low; back_is = n.back_is; near-is = n.far-is; far-is = n.near-is; rank_is = n.rank_is }, y, x)

  -- every slot of a tree in the words lies in the store
  pub slot-low : (t : Tree) (back : ℕ) → Links s cap back t → (j : ℕ) → Has j t → j < cap
  unfolding inorder slots
  slot-low tip back l j h = absurd h
  slot-low (fork a e r b) back l j h =
      ⊎_elim (λ x. let low : e.slot < cap = l.0.low in omega arith)
      (⊎_elim (slot-low a e.slot l.1 j) (slot-low b e.slot l.2 j)) (has_cases a e r b left j h)

-- the slot j has the same link fields in both stores
abbrev pub SameLinks : List ℕ → List ℕ → ℕ → ℕ → Type 0
SameLinks s t cap j = (g : ℕ) → LinkField g → field t cap j g ≡ field s cap j g

module _ (s t : List ℕ) (cap : ℕ) where
  pub node-keep : (d back near i r far : ℕ) → d ≤ 1 → SameLinks s t cap i → Node s cap d back near i r far → Node t cap d back near i r far
  node-keep d back near i r far hd k n = record {
    low = n.low;
    back_is = k BACK (record { from = omega arith; to = omega arith }) ∙ n.back_is;
    near-is = k (LEFT + d) (record { from = omega arith; to = omega arith }) ∙ n.near-is;
    far-is = k (RIGHT - d) (record { from = omega arith; to = omega arith }) ∙ n.far-is;
    rank_is = k RANK (record { from = omega arith; to = omega arith }) ∙ n.rank_is;
  }

  -- a tree stays where its slots' links stay
  pub links-keep : (x : Tree) (back : ℕ) → ((j : ℕ) → j < cap → Has j x → SameLinks s t cap j) → Links s cap back x → Links t cap back x
  links-keep tip back k l = tt
  links-keep (fork a e r b) back k l = (
    node-keep 0 back (top_slot a) e.slot r (top_slot b) (omega arith) (k e.slot l.0.low (has_top a e r b left e.slot refl)) l.0,
    links-keep a e.slot (λ j low h. k j low (has_near a e r b left j h)) l.1,
    links-keep b e.slot (λ j low h. k j low (has_far a e r b left j h)) l.2,
  )

  -- one slot alone is written: a tree without it stays
  abbrev pub Touch : ℕ → Type 0
  Touch i = Only s t cap (λ j g. j ≡ i) NoHead

  pub carry : (i : ℕ) → Touch i → (x : Tree) (back : ℕ) → ¬ (Has i x) → Links s cap back x → Links t cap back x
  carry i T x back n = links-keep x back (λ j low h g f. T.slots j g low (omega arith) (λ e. n (rw e at h)))

  pub carry-node : (i : ℕ) → Touch i → (d back near j r far : ℕ) → d ≤ 1 → ¬ (j ≡ i) → Node s cap d back near j r far → Node t cap d back near j r far
  carry-node i T d back near j r far hd n x = node-keep d back near j r far hd (λ g f. T.slots j g x.low (omega arith) n) x
