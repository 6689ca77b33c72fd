-- The turns of the climb's loop, by the answer of a turn.
use mathlib.Core.Path.{◌≡◌}
use mathlib.Core.List.{List}
use Prim.Native.Nat.{ℕ, ◌+◌, ◌-◌, ◌<◌, ◌≤◌}
use Rattle.arena.specs.inner.Budget.{budget}
use Rattle.arena.proofs.Budget.{left, none_left}
use Rattle.tree.proofs.Climb.{up_low}
use Rattle.lower.specs.inner.Climb.{climb_turn, lower_from}
use Rattle.tree.specs.declared.Climbed.{Climbed}
use Rattle.tree.specs.declared.Climbed.TheVariants.{Done, Up}
use Rattle.std.specs.Prelude.{Result, Ok, Err, ⊤}
use Rattle.handle.specs.declared.Refusal.TheVariants.{NotSound}
use Rattle.handle.specs.declared.Refusal.{Refusal}

module _ (s : List ℕ) (cap p1 d n : ℕ) (r : List ℕ × Result ⊤ Refusal) (inv : lower_from (budget - n) s cap p1 d ≡ r) where
  pub spent : budget ≤ n → (s, Err NotSound) ≡ r
  unfolding lower_from
  spent h = rw (none_left n h) at inv

  module _ (h : n < budget) (x : List ℕ) (a : Result Climbed Refusal) (at : ◌≡◌ {A = List ℕ × Result Climbed Refusal} (x, a) (climb_turn s cap p1 d)) where
    pub again : (p2 d2 : ℕ) → a ≡ Ok (Up p2 d2) → lower_from (budget - (n + 1)) x cap p2 d2 ≡ r
    unfolding lower_from
    again p2 d2 e = simp (left n h, ← at, e) at inv

    pub ended : a ≡ Ok Done → (x, Ok tt) ≡ r
    unfolding lower_from
    ended e = simp (left n h, ← at, e) at inv

    pub refused : (m : Refusal) → a ≡ Err m → (x, Err m) ≡ r
    unfolding lower_from
    refused m e = simp (left n h, ← at, e) at inv

-- the turns, for the loop that takes them
pub ruleset turns = (up_low, again, ended, refused, spent)
