-- A walk that did not break off saw a tree in the words, and joined its entries in their order.
-- A reader may rely on: grown, for any words: no cycle and no shared node gets past the walk.
use Prim.Native.Nat.{ℕ, zero, suc, ◌≤◌, ◌<◌}
use mathlib.Core.Path.{◌≡◌, refl, sym, ap}
use mathlib.Core.Bool.{Bool, true, false}
use mathlib.Core.List.{List, ◌∷◌}
use native.Mathlib.Decide.{ℕ_discrete}
use native.Mathlib.Omega.{arith}
use borrow.Author.Tests.{eq-eqb, ne_eqb, lt-leb}
use Rattle.handle.specs.Numbers.{no_slot}
use Rattle.arena.specs.Branch.{ifte}
use Rattle.arena.specs.Words.{field, KEY, LEFT, RIGHT, RANK, GENERATION, VALUE}
use Rattle.tree.specs.inner.Links.{rank_of}
use Rattle.wavl.specs.Lists.{All}
use Rattle.wavl.specs.Entry.{Entry}
use Rattle.wavl.specs.Tree.{Tree, tip, fork, rank, inorder}
use Rattle.wavl.specs.Ranks.{Fits, Ranks}
use Rattle.wavl.proofs.Lists.{all_both}
use Rattle.rules.specs.Sound.{LiveGeneration}
use Rattle.queue_of_store.specs.Ends.{top_slot}
use Rattle.queue_of_store.specs.Links.{Links}
use Rattle.queue_of_store.specs.Entries.{EntryWords, AllEntries}
use Rattle.sound.specs.inner.Nodes.{node_test}
use Rattle.sound.specs.inner.Joints.{join_test}
use Rattle.sound.specs.inner.Walking.{walk_node, walk_model}
use Rattle.sound.proofs.NodeFacts.{GoodNode, node_says, join_says}
use Rattle.sound.proofs.Rows.{Joined, joined-both}
use Rattle.std.specs.Prelude.{Option, Some, None}

-- the slot of a walk's answer, one more than it; 0 where it broke off
abbrev met : Option ℕ → ℕ
met (Some x) = suc x
met None = 0

pub same_met : (x y : ℕ) → Some x ≡ Some y → x ≡ y
same_met x y e = let f : suc x ≡ suc y = ap met e in omega arith

pub unbroken : {A : Type 0} (x : ℕ) → None ≡ Some x → A
unbroken x e = absurd (let f : 0 ≡ suc x = ap met e in omega arith)

tested_on : (t : Bool) (w : Option ℕ) (x : ℕ) → ifte t w None ≡ Some x → (t ≡ true) × (w ≡ Some x)
tested_on true w x e = (refl, e)
tested_on false w x e = unbroken x e

-- the parts of a node's walk
record Parts (s : List ℕ) (cap p : ℕ) (near far : Option ℕ) (x : ℕ) : Type 0 where
  y : ℕ
  near-is : near ≡ Some y
  joins : join_test s cap y p ≡ true
  far-is : far ≡ Some x

parts : (s : List ℕ) (cap p : ℕ) (near far : Option ℕ) (x : ℕ) → walk_node s cap p near far ≡ Some x → Parts s cap p near far x
parts s cap p (Some y) far x e = let a = tested_on _ _ x e in record { y = y; near-is = refl; joins = a.0; far-is = a.1 }
parts s cap p None far x e = unbroken x e

module _ (s : List ℕ) (cap : ℕ) where
  -- the entry that the words of a slot hold
  abbrev pub entry_at : ℕ → Entry
  entry_at p = record { slot = p; generation = field s cap p GENERATION; key = field s cap p KEY; value = field s cap p VALUE }

  pub rank-none : rank_of s cap no_slot ≡ 0
  unfolding rank_of
  rank-none = refl

  pub rank-some : (p : ℕ) → p < cap → cap ≤ no_slot → rank_of s cap p ≡ field s cap p RANK
  unfolding rank_of
  rank-some p l few = let n : ¬ (p ≡ no_slot) = λ e. omega arith in rw (ne_eqb p no_slot n, lt-leb cap p l)

-- what a walk saw at the link p below `back`, after q, if it came to x
pub record Grown (s : List ℕ) (cap top back p q x : ℕ) : Type 0 where
  pub tree : Tree
  pub top-is : top_slot tree ≡ p
  pub links : Links s cap back tree
  pub ranks : Ranks tree
  pub rank_is : rank tree ≡ rank_of s cap p
  pub joined : Joined s cap q (inorder tree) x
  pub entries : AllEntries s cap (inorder tree)
  pub generations : All (LiveGeneration top) (inorder tree)

module _ (s : List ℕ) (cap top : ℕ) (few : cap ≤ no_slot) where
  grown-tip : (back p q x : ℕ) → p ≡ no_slot → q ≡ x → Grown s cap top back p q x
  unfolding inorder
  grown-tip back p q x e f = record {
    tree = tip;
    top-is = sym e;
    links = tt;
    ranks = tt;
    rank_is = rw e (sym (rank-none s cap));
    joined = f;
    entries = tt;
    generations = tt;
  }

  grown-fork : (back p q y x : ℕ) → GoodNode s cap top back p → join_test s cap y p ≡ true → Grown s cap top p (field s cap p LEFT) q y
      → Grown s cap top p (field s cap p RIGHT) p x → Grown s cap top back p q x
  unfolding inorder
  grown-fork back p q y x n j a b =
      let f : Fits (field s cap p RANK) (rank a.tree) (rank b.tree) = rw (a.rank_is, b.rank_is) n.fits in
      record {
        tree = fork a.tree (entry_at s cap p) (field s cap p RANK) b.tree;
        top-is = refl;
        links = (record { low = n.low; back_is = n.back_is; near-is = sym a.top-is; far-is = sym b.top-is; rank_is = refl }, a.links, b.links);
        ranks = (a.ranks, b.ranks, f);
        rank_is = sym (rank-some s cap p n.low few);
        joined = joined-both s cap (inorder a.tree) (entry_at s cap p ∷ inorder b.tree) q y x a.joined (join_says s cap y p j, b.joined);
        entries = all_both (EntryWords s cap) (inorder a.tree) (entry_at s cap p ∷ inorder b.tree) a.entries
            (record { key-is = refl; value-is = refl; generation-is = refl }, b.entries);
        generations = all_both (LiveGeneration top) (inorder a.tree) (entry_at s cap p ∷ inorder b.tree) a.generations (n.generation, b.generations);
      }

  pub grown : (n back p q x : ℕ) → walk_model n s cap top back p q ≡ Some x → Grown s cap top back p q x
  unfolding walk_model
  grown zero back p q x w = go (ℕ_discrete p no_slot)
    where
      go : Dec (p ≡ no_slot) → Grown s cap top back p q x
      go (yes e) = grown-tip back p q x e (same_met q x (rw (eq-eqb p no_slot e) at w))
      go (no e) = unbroken x (rw (ne_eqb p no_slot e) at w)
  grown (suc n) back p q x w = go (ℕ_discrete p no_slot) (grown n p (field s cap p LEFT) q) (grown n p (field s cap p RIGHT) p x)
    where
      go : Dec (p ≡ no_slot) → ((y : ℕ) → walk_model n s cap top p (field s cap p LEFT) q ≡ Some y → Grown s cap top p (field s cap p LEFT) q y)
          → (walk_model n s cap top p (field s cap p RIGHT) p ≡ Some x → Grown s cap top p (field s cap p RIGHT) p x) → Grown s cap top back p q x
      go (yes e) l r = grown-tip back p q x e (same_met q x (rw (eq-eqb p no_slot e) at w))
      go (no e) l r =
          let a = tested_on (node_test s cap top back p) _ x (rw (ne_eqb p no_slot e) at w) in
          let b = parts s cap p _ _ x a.1 in
          grown-fork back p q b.y x (node_says s cap top back p a.0) b.joins (l b.y b.near-is) (r b.far-is)
