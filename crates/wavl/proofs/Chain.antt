-- One place for an entry in a chain: two places of one tree that hold it are the same.
-- A reader may rely on: distinct slots alone make a place unique; keys play no part in it.
use mathlib.Core.Path.{◌≡◌, refl, ap}
use mathlib.Core.List.{List, [], ◌∷◌, ◌++◌}
use Rattle.wavl.specs.Lists.{Once}
use Rattle.wavl.specs.Entry.{Entry, slots}
use Rattle.wavl.proofs.Lists.{all_in, in_middle, in_slots_lem}

-- an entry stands in one place of a chain with distinct slots
pub split_unique : (l : List Entry) (f : Entry) (m k n : List Entry) → Once (slots (l ++ (f ∷ m))) → l ++ (f ∷ m) ≡ k ++ (f ∷ n) → (l ≡ k) × (m ≡ n)
unfolding slots
split_unique [] f m [] n h q = (refl, cc)
split_unique [] f m (x ∷ k) n h q =
    let i : m ≡ k ++ (f ∷ n) = cc in
    absurd (all_in _ (slots m) h.0 f.slot (in_slots_lem f m (rw i (in_middle f k n))) refl)
split_unique (x ∷ l) f m [] n h q =
    let i : x ≡ f = cc in
    absurd (all_in _ (slots (l ++ (f ∷ m))) h.0 f.slot (in_slots_lem f (l ++ (f ∷ m)) (in_middle f l m)) (ap (λ (y : Entry). y.slot) i))
split_unique (x ∷ l) f m (y ∷ k) n h q =
    let t : l ++ (f ∷ m) ≡ k ++ (f ∷ n) = cc in
    let i = split_unique l f m k n h.1 t in
    let j : x ≡ y = cc in
    (cc, i.1)
