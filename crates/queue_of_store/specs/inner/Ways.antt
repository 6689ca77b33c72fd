-- The words of a way from a place up to the root, without the word that leads to what hangs at the place; and that word.
-- A reader may rely on proofs/Ways: the words of a tree plugged into a way are the tree's links, the way's words, and the hook.
use Rattle.std.specs.Prelude.{ℕ, ◌+◌, ◌-◌, ◌<◌, ◌≡◌, List, [], ◌∷◌}
use Rattle.handle.specs.Numbers.{no_slot}
use Rattle.arena.specs.Words.{field, head, LEFT, RIGHT, RANK, BACK, ROOT}
use Rattle.wavl.specs.Way.{step, Way}
use Rattle.queue_of_store.specs.Ends.{top_slot, number}
use Rattle.queue_of_store.specs.Links.{Links}

-- the slot above the place, or no slot
abbrev pub parent : Way → ℕ
parent [] = no_slot
parent (step d e r u ∷ p) = e.slot

-- the place hangs c: the parent's child on that side, or the header's ROOT
abbrev pub Hook : List ℕ → ℕ → Way → ℕ → Type 0
Hook s cap [] c = head s ROOT ≡ c
Hook s cap (step d e r u ∷ p) c = field s cap e.slot (LEFT + number d) ≡ c

-- a node without its child on the side d
pub record Half (s : List ℕ) (cap d back i r far : ℕ) : Type 0 where
  pub low : i < cap
  pub back_is : field s cap i BACK ≡ back
  pub far-is : field s cap i (RIGHT - d) ≡ far
  pub rank_is : field s cap i RANK ≡ r

abbrev pub LinksWay : List ℕ → ℕ → Way → Type 0
LinksWay s cap [] = Unit {0}
LinksWay s cap (step d e r u ∷ p) =
    Half s cap (number d) (parent p) e.slot r (top_slot u) × Links s cap e.slot u × Hook s cap p e.slot × LinksWay s cap p

-- the side of the parent on which the place hangs, as the words number it; 0 at the root
abbrev pub side_in : Way → ℕ
side_in [] = 0
side_in (step d e r u ∷ p) = number d
