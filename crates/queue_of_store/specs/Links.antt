-- The words of the tree's links. Document 01, rule 1: "Live slots form one tree from the root; back, p_tree0 (left) and p_tree1
-- (right) agree." Ranks stand with the links, as a write to the tree changes both.
-- A reader may rely on: Links s cap back t says every word of t's nodes in LEFT, RIGHT, RANK and BACK, and of no other.
use Rattle.std.specs.Prelude.{ℕ, ◌+◌, ◌-◌, ◌<◌, ◌≡◌, List}
use Rattle.handle.specs.Numbers.{no_slot}
use Rattle.arena.specs.Words.{field, head, LEFT, RIGHT, RANK, BACK, ROOT}
use Rattle.wavl.specs.Tree.{Tree, tip, fork}
use Rattle.queue_of_store.specs.Ends.{top_slot}

-- the slot i hangs below `back`, with `near` on the side d and `far` on the other one, and has the rank r
pub record Node (s : List ℕ) (cap d back near i r far : ℕ) : Type 0 where
  pub low : i < cap
  pub back_is : field s cap i BACK ≡ back
  pub near-is : field s cap i (LEFT + d) ≡ near
  pub far-is : field s cap i (RIGHT - d) ≡ far
  pub rank_is : field s cap i RANK ≡ r

abbrev pub Links : List ℕ → ℕ → ℕ → Tree → Type 0
Links s cap back tip = Unit {0}
Links s cap back (fork a e r b) = Node s cap 0 back (top_slot a) e.slot r (top_slot b) × Links s cap e.slot a × Links s cap e.slot b

-- the whole tree: the header's ROOT names its top
pub record TreeWords (s : List ℕ) (cap : ℕ) (t : Tree) : Type 0 where
  pub root : head s ROOT ≡ top_slot t
  pub links : Links s cap no_slot t
