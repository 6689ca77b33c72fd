-- What the header test tells its callers, beside its answer.
use Rattle.std.specs.Prelude.{ℕ, ◌≡◌, List, Result, Ok, Err}
use Rattle.arena.specs.Header.{Passing}
use Rattle.handle.specs.declared.Refusal.{Refusal}
use Rattle.handle.specs.declared.Refusal.TheVariants.{NotSound}

-- what a caller may rely on after the test
abbrev pub Says : List ℕ → Result ℕ Refusal → Type 0
Says s (Ok cap) = Passing s cap
Says s (Err r) = r ≡ NotSound
