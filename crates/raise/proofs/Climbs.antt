-- A turn of the climb, by the answer of its step: each way out of the code's loop, and the way round.
use Prim.Native.Nat.{ℕ, ◌+◌, ◌-◌, ◌<◌, ◌≤◌}
use mathlib.Core.Path.{◌≡◌}
use mathlib.Core.List.{List}
use Rattle.arena.specs.inner.Budget.{budget}
use Rattle.arena.proofs.Budget.{left, none_left}
use Rattle.tree.proofs.Climb.{up_low}
use Rattle.raise.specs.inner.Ranks.{fix_turn, raise_from}
use Rattle.tree.specs.declared.Climbed.{Climbed}
use Rattle.tree.specs.declared.Climbed.TheVariants.{Done, Up}
use Rattle.std.specs.Prelude.{Result, Ok, Err, ⊤}
use Rattle.handle.specs.declared.Refusal.TheVariants.{NotSound}
use Rattle.handle.specs.declared.Refusal.{Refusal}

module _ (s : List ℕ) (cap p0 p1 p2 d01 d12 n : ℕ) (r : List ℕ × Result ⊤ Refusal) (inv : raise_from (budget - n) s cap p0 p1 p2 d01 d12 ≡ r) where
  pub spent : budget ≤ n → (s, Err NotSound) ≡ r
  unfolding raise_from
  spent h = rw (none_left n h) at inv

  module _ (h : n < budget) (x : List ℕ) (a : Result Climbed Refusal) (at : ◌≡◌ {A = List ℕ × Result Climbed Refusal} (x, a) (fix_turn s cap p0 p1 p2 d01 d12)) where
    pub again : (p3 d : ℕ) → a ≡ Ok (Up p3 d) → raise_from (budget - (n + 1)) x cap p1 p2 p3 d12 d ≡ r
    unfolding raise_from
    again p3 d e = simp (left n h, ← at, e) at inv

    pub ended : a ≡ Ok Done → (x, Ok tt) ≡ r
    unfolding raise_from
    ended e = simp (left n h, ← at, e) at inv

    pub refused : (m : Refusal) → a ≡ Err m → (x, Err m) ≡ r
    unfolding raise_from
    refused m e = simp (left n h, ← at, e) at inv

-- the turns, for the loop that takes them
pub ruleset turns = (up_low, again, ended, refused, spent)
