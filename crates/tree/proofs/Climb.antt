-- What holds of both climbs, by a turn's answer: where it goes on, and that it touches the tree alone.
use Prim.Native.Nat.{ℕ, ◌<◌, ◌≤◌}
use mathlib.Core.Path.{◌≡◌}
use mathlib.Core.List.{List}
use Rattle.arena.proofs.Only.{only_none, only_trans}
use Rattle.tree.specs.inner.Climb.{Standing, on_climbed}
use Rattle.tree.specs.inner.Kept.{TreeOnly}
use Rattle.tree.specs.declared.Climbed.{Climbed}
use Rattle.tree.specs.declared.Climbed.TheVariants.{Done, Up}
use Rattle.std.specs.Prelude.{Result, Ok, Err, ⊤}
use Rattle.handle.specs.declared.Refusal.TheVariants.{NotSound}
use Rattle.handle.specs.declared.Refusal.{Refusal}

module _ (cap : ℕ) (a : Result Climbed Refusal) (p d : ℕ) (e : a ≡ Ok (Up p d)) (h : Standing cap a) where
  pub up_low : p < cap
  up_low = (rw e at h).0

  pub up_side : d ≤ 1
  up_side = (rw e at h).1

-- a turn touches the tree alone, and its answer can be used
abbrev pub Turned : List ℕ → ℕ → List ℕ × (Result Climbed Refusal) → Type 0
Turned s cap x = TreeOnly s x.0 cap × Standing cap x.1

pub turned-done : (s t : List ℕ) (cap : ℕ) → TreeOnly s t cap → Turned s cap (t, Ok Done)
turned-done s t cap o = (o, tt)

pub turned_bad : (s : List ℕ) (cap : ℕ) → Turned s cap (s, Err NotSound)
turned_bad s cap = (only_none, tt)

-- a refusal that is no other than NotSound
abbrev pub Plain : {A : Type 0} → Result A Refusal → Type 0
Plain (Ok x) = Unit {0}
Plain (Err n) = n ≡ NotSound

pub record Plainly {A : Type 0} (x : List ℕ × Result A Refusal) : Type 0 where
  pub plain : Plain x.1

pub on_plain : (s : List ℕ) (a : Result Climbed Refusal) (go : ℕ → ℕ → List ℕ × Result ⊤ Refusal) → Plain a → ((p d : ℕ) → Plain (go p d).1)
    → Plain (on_climbed a go s).1
on_plain s (Ok (Up p d)) go i f = f p d
on_plain s (Ok Done) go i f = tt
on_plain s (Err n) go i f = i

-- a whole climb touches the tree alone
abbrev pub Settled : List ℕ → ℕ → List ℕ × Result ⊤ Refusal → Type 0
Settled s cap x = TreeOnly s x.0 cap

-- by a turn's answer: `go` is the climb from there on
pub on_only : (s t : List ℕ) (cap : ℕ) (a : Result Climbed Refusal) (go : ℕ → ℕ → List ℕ × Result ⊤ Refusal) → TreeOnly s t cap → Standing cap a
    → ((p d : ℕ) → p < cap → d ≤ 1 → Settled t cap (go p d)) → Settled s cap (on_climbed a go t)
on_only s t cap (Ok (Up p d)) go o i f = only_trans o (f p d i.0 i.1)
on_only s t cap (Ok Done) go o i f = o
on_only s t cap (Err n) go o i f = o
