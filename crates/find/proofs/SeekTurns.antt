-- The turns of the search: what the model comes to at each way out of the code's loop, and for a further turn.
use Prim.Native.Nat.{ℕ, suc, ◌+◌, ◌-◌, ◌<◌, ◌≤◌}
use mathlib.Core.Path.{◌≡◌, sym, ◌∙◌}
use mathlib.Core.List.{List}
use native.Mathlib.Omega.{arith}
use Rattle.handle.specs.Numbers.{no_slot}
use Rattle.arena.specs.Words.{field, head, KEY, LEFT, ROOT}
use Rattle.arena.specs.inner.Budget.{budget}
use Rattle.arena.proofs.Budget.{left, none_left}
use Rattle.find.specs.inner.Seeking.{side_of_key, seek_from, seek_model}
use Rattle.find.proofs.SeekLaws.{seek-empty, seek-some, seek-outside, seek-equal, seek-beside, seek-down}
use Rattle.find.specs.declared.Found.{Found}
use Rattle.find.specs.declared.Found.TheVariants.{Equal, Beside, Empty}
use Rattle.std.specs.Prelude.{Result, Ok, Err}
use Rattle.handle.specs.declared.Refusal.TheVariants.{NotSound}
use Rattle.handle.specs.declared.Refusal.{Refusal}

pub start : (s : List ℕ) (cap k root : ℕ) → root ≡ head s ROOT → (root ≡ no_slot → ⊥) → seek_from (budget - 0) s cap k root 0 ≡ seek_model s cap k
start s cap k root e h = let z : budget - 0 ≡ budget = omega arith in rw z (sym (seek-some s cap k root (sym e) h))

pub none : (s : List ℕ) (cap k root : ℕ) → root ≡ head s ROOT → root ≡ no_slot → Ok Empty ≡ seek_model s cap k
none s cap k root e h = sym (seek-empty s cap k root (sym e) h)

module _ (s : List ℕ) (cap k p n : ℕ) (r : Result Found Refusal) (inv : seek_from (budget - n) s cap k p n ≡ r) where
  pub spent : budget ≤ n → Err NotSound ≡ r
  unfolding seek_from
  spent h = rw (none_left n h) at inv

  module _ (h : n < budget) where
    turn : seek_from (suc (budget - (n + 1))) s cap k p n ≡ r
    turn = rw (left n h) at inv

    pub outside : cap ≤ p → Err NotSound ≡ r
    outside l = sym (seek-outside _ s cap k p n l) ∙ turn

    module _ (l : p < cap) (key : ℕ) (e : key ≡ field s cap p KEY) where
      pub equal : key ≡ k → Ok (Equal p (n + 1)) ≡ r
      equal f = sym (seek-equal _ s cap k p n l key (sym e) f) ∙ turn

      module _ (f : key ≡ k → ⊥) (d q : ℕ) (g : d ≡ side_of_key k key) (m : q ≡ field s cap p (LEFT + d)) where
        pub beside : q ≡ no_slot → Ok (Beside p d (n + 1)) ≡ r
        beside z = sym (seek-beside _ s cap k p n l key (sym e) f d q (sym g) (sym m) z) ∙ turn

        pub down : (q ≡ no_slot → ⊥) → seek_from (budget - (n + 1)) s cap k q (n + 1) ≡ r
        down z = sym (seek-down _ s cap k p n l key (sym e) f d q (sym g) (sym m) z) ∙ turn

-- the turns, for the loop that takes them
pub ruleset turns = (none, start, spent, outside, equal, beside, down)
