-- Words about lists that the rules use: every member, every two members, the ends; and the choice by a decided test.
-- A reader may rely on: Pairwise R l says R of each two members of l, the earlier one first.
use Rattle.std.specs.Prelude.{◌⊎◌, List, [], ◌∷◌, ◌≡◌, ℕ}
use Rattle.std.proofs.Math.Option.{Option, some, none}

abbrev pub All : {A : Type 0} → (A → Type 0) → List A → Type 0
All P [] = Unit {0}
All P (x ∷ l) = P x × All P l

abbrev pub Pairwise : {A : Type 0} → (A → A → Type 0) → List A → Type 0
Pairwise R [] = Unit {0}
Pairwise R (x ∷ l) = All (R x) l × Pairwise R l

-- x is a member of l
abbrev pub In : {A : Type 0} → A → List A → Type 0
In x [] = ⊥
In x (y ∷ l) = (x ≡ y) ⊎ In x l

abbrev pub Differ : ℕ → ℕ → Type 0
Differ i j = ¬ (i ≡ j)

-- no number stands twice in the list
abbrev pub Once : List ℕ → Type 0
Once l = Pairwise Differ l

-- the ends of a list, if it has any
unfoldable pub first : {A : Type 0} → List A → Option A
first [] = none
first (x ∷ l) = some x

unfoldable pub last : {A : Type 0} → List A → Option A
last [] = none
last (x ∷ []) = some x
last (x ∷ (y ∷ l)) = last (y ∷ l)

-- the first answer where the test holds, else the second
unfoldable pub choose : {A P : Type 0} → Dec P → A → A → A
choose (yes h) a b = a
choose (no h) a b = b
