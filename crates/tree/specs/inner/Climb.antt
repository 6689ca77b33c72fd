-- What a climb does with a turn's answer, after an insertion and after a removal.
use Rattle.std.specs.Prelude.{ℕ, ◌<◌, ◌≤◌, List, Result, Ok, Err, ⊤}
use Rattle.tree.specs.declared.Climbed.{Climbed}
use Rattle.tree.specs.declared.Climbed.TheVariants.{Done, Up}
use Rattle.handle.specs.declared.Refusal.{Refusal}

-- what the next turn asks of the answer: a node of the store and a side
abbrev pub Standing : ℕ → Result Climbed Refusal → Type 0
Standing cap (Ok (Up p d)) = (p < cap) × (d ≤ 1)
Standing cap (Ok Done) = Unit {0}
Standing cap (Err n) = Unit {0}

-- go on, or leave the loop
abbrev pub on_climbed : Result Climbed Refusal → (ℕ → ℕ → List ℕ × Result ⊤ Refusal) → List ℕ → List ℕ × Result ⊤ Refusal
on_climbed (Ok (Up p d)) go s = go p d
on_climbed (Ok Done) go s = (s, Ok tt)
on_climbed (Err n) go s = (s, Err n)
