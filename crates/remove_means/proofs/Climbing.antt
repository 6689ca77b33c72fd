-- The climb's state on words that hold a tree, and what it comes to.
-- A reader may rely on: ranks below the budget at the end of the way, with rule 2, bound every rank and the number of turns.
use Prim.Native.Nat.{ℕ, suc, ◌+◌, ◌≤◌, ◌<◌}
use mathlib.Core.Path.{◌≡◌}
use mathlib.Core.List.{List, [], ◌∷◌}
use native.Mathlib.Omega.{arith}
use lib.ListN.{length}
use Rattle.arena.specs.Words.{Long}
use Rattle.arena.specs.inner.Budget.{budget}
use Rattle.wavl.specs.Lists.{Once}
use Rattle.wavl.specs.Entry.{slots}
use Rattle.wavl.specs.Tree.{Tree, rank, inorder}
use Rattle.wavl.specs.Way.{step, Way, plug}
use Rattle.wavl.specs.Ranks.{Ranks}
use Rattle.wavl.proofs.Placed.{WayRanks}
use Rattle.wavl.proofs.Removed.{beside}
use Rattle.lower.specs.inner.Climb.{lower_from}
use Rattle.queue_of_store.specs.Ends.{number}
use Rattle.queue_of_store.specs.Links.{TreeWords}
use Rattle.std.specs.Prelude.{Result, Ok, ⊤}
use Rattle.handle.specs.declared.Refusal.{Refusal}

-- the rank at the end of a way from a tree of rank h
abbrev pub peak : ℕ → Way → ℕ
peak h [] = h
peak h (step d e r u ∷ p) = peak r p

pub peak-above : (h : ℕ) (p : Way) → WayRanks h p → h + length p ≤ peak h p
peak-above h [] w = omega arith
peak-above h (step d e r u ∷ p) w = let i = peak-above r p w.2 in omega arith

-- the words hold a tree with the slots l, in which n0 has come to be one lower than its way needs it
pub record Climbing (s : List ℕ) (cap : ℕ) (l : List ℕ) (n0 : Tree) (p : Way) : Type 0 where
  pub words : TreeWords s cap (plug n0 p)
  pub slots-are : slots (inorder (plug n0 p)) ≡ l
  pub once : Once l
  pub room : Long s cap
  pub ranks : Ranks n0
  pub way : WayRanks (suc (rank n0)) p
  pub some : 1 ≤ rank n0 + beside p
  pub low : peak (suc (rank n0)) p < budget

-- the climb at the end of a way, with so many turns left
abbrev pub climb_up : Way → ℕ → List ℕ → ℕ → List ℕ × Result ⊤ Refusal
climb_up [] fuel s cap = (s, Ok tt)
climb_up (step d e r u ∷ p) fuel s cap = lower_from fuel s cap e.slot (number d)
