-- The search, as a function of the store, for any words.
-- Document 01: "search from the root, left if less, right if greater, to an equal key or a missing child", with "the count of nodes
-- looked at (added), which is the length of that path in the stored tree; 0 when empty".
use Rattle.std.specs.Prelude.{ℕ, zero, suc, ◌+◌, ◌≤◌, ◌<◌, List, ltb, leb, eqb, Result, Ok, Err}
use Rattle.handle.specs.Numbers.{no_slot}
use Rattle.arena.specs.Branch.{ifte}
use Rattle.arena.specs.Words.{field, head, KEY, LEFT, ROOT}
use Rattle.arena.specs.inner.Budget.{budget}
use Rattle.find.specs.declared.Found.{Found}
use Rattle.find.specs.declared.Found.TheVariants.{Equal, Beside, Empty}
use Rattle.handle.specs.declared.Refusal.TheVariants.{NotSound}
use Rattle.handle.specs.declared.Refusal.{Refusal}

-- on which side of a node's key k lies, where the two differ
unfoldable pub side_of_key : ℕ → ℕ → ℕ
side_of_key k key = ifte (ltb k key) 0 1

-- at the node p, whose child on k's side d is q: `go` is what a search from q comes to
abbrev pub seek_down : (ℕ → Result Found Refusal) → ℕ → ℕ → ℕ → ℕ → Result Found Refusal
seek_down go p d q n = ifte (eqb q no_slot) (Ok (Beside p d n)) (go q)

-- at the node p, whose key is `key`; n nodes were looked at, with p
abbrev pub seek_node : (ℕ → Result Found Refusal) → List ℕ → ℕ → ℕ → ℕ → ℕ → ℕ → Result Found Refusal
seek_node go s cap k p key n =
    ifte (eqb key k) (Ok (Equal p n))
    (seek_down go p (side_of_key k key) (field s cap p (LEFT + side_of_key k key)) n)

-- one turn at the link p, after n nodes: `go` is what a further turn comes to
abbrev pub seek_body : (ℕ → ℕ → Result Found Refusal) → List ℕ → ℕ → ℕ → ℕ → ℕ → Result Found Refusal
seek_body go s cap k p n = ifte (leb cap p) (Err NotSound) (seek_node (λ q. go q (n + 1)) s cap k p (field s cap p KEY) (n + 1))

-- `fuel` nodes may still be looked at; n have been
unfoldable pub seek_from : ℕ → List ℕ → ℕ → ℕ → ℕ → ℕ → Result Found Refusal
seek_from zero s cap k p n = Err NotSound
seek_from (suc fuel) s cap k p n = seek_body (seek_from fuel s cap k) s cap k p n

unfoldable pub seek_at : List ℕ → ℕ → ℕ → ℕ → Result Found Refusal
seek_at s cap k root = ifte (eqb root no_slot) (Ok Empty) (seek_from budget s cap k root 0)

unfoldable pub seek_model : List ℕ → ℕ → ℕ → Result Found Refusal
seek_model s cap k = seek_at s cap k (head s ROOT)

-- what a caller may rely on: a slot in the store, a side, and a count within the budget
abbrev pub FoundIn : ℕ → Result Found Refusal → Type 0
FoundIn cap (Ok (Equal p n)) = (p < cap) × (n ≤ budget)
FoundIn cap (Ok (Beside p d n)) = (p < cap) × (d ≤ 1) × (n ≤ budget)
FoundIn cap (Ok Empty) = Unit {0}
FoundIn cap (Err n) = Unit {0}
