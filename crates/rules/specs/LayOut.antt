-- Laying out (document 01, "What a queue holds" and number 4): a fresh queue whatever was there, or 4 and nothing changed.
-- A reader may rely on this: `enough` alone speaks of the store; crate `queue` shows that good layouts are the store's own (good-one).
use Rattle.std.specs.Prelude.{◌≡◌, Bool, true, false, ◌&&◌, ℕ, leb}
use Rattle.handle.specs.Numbers.{limit, top_limit, InRange}
use Rattle.rules.specs.Queue.{Queue, fresh}
use Rattle.rules.specs.Answers.{Laid, laid, not_laid, bad_layout}

-- "capacity or top generation out of range, or a store too short" does not hold
pub record Good (enough : ℕ → Bool) (capacity top : ℕ) : Type 0 where
  pub range : InRange capacity top
  pub long : enough capacity ≡ true

-- the same as a test
abbrev pub good : (ℕ → Bool) → ℕ → ℕ → Bool
good enough capacity top = leb 1 capacity && leb capacity limit && leb 1 top && leb top top_limit && enough capacity

abbrev pub laid_by : Bool → ℕ → ℕ → Queue → Laid × Queue
laid_by true capacity top q = (laid, fresh capacity top)
laid_by false capacity top q = (not_laid bad_layout, q)

unfoldable pub lay_out : (ℕ → Bool) → ℕ → ℕ → Queue → Laid × Queue
lay_out enough capacity top q = laid_by (good enough capacity top) capacity top q
