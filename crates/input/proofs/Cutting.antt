-- What a cut of a line into fields finds.
use Prim.Native.Nat.{ℕ, suc, ◌+◌, ◌-◌, ◌<◌, ◌≤◌}
use mathlib.Core.Path.{◌≡◌, refl, ◌∙◌}
use mathlib.Core.List.{List, [], ◌∷◌}
use mathlib.Core.Bool.{Bool, true, false, not, cond}
use native.Mathlib.Omega.{arith}
use lib.ListN.{length, take, drop, length-drop}
use lib.Seq.{drop-drop}
use lib.Dec.{eqb, leb}
use borrow.Author.Tests.{lt-ltb, le-ltb}
use Rattle.std.specs.List.{prefix_len}
use Rattle.std.proofs.lemmas.List.Folds.{length-prefix_len}
use Rattle.std.specs.declared.option.Option.TheVariants.{Some, None}
use Rattle.arena.specs.Branch.{ifte}
use Rattle.input.specs.inner.Fields.{spaces, others, skipped, passed, field_from, next_field, ends_at}

spaces_prefix : (l : List ℕ) → prefix_len (λ b. eqb b 32) l ≡ spaces l
unfolding spaces
spaces_prefix [] = refl
spaces_prefix (b ∷ bs) = one (eqb b 32) (spaces_prefix bs)
  where
    one : (t : Bool) → prefix_len (λ b. eqb b 32) bs ≡ spaces bs → cond t (1 + prefix_len (λ b. eqb b 32) bs) 0 ≡ ifte t (suc (spaces bs)) 0
    one true h = omega (arith, h)
    one false h = refl

others_prefix : (l : List ℕ) → prefix_len (λ b. not (eqb b 32)) l ≡ others l
unfolding others
others_prefix [] = refl
others_prefix (b ∷ bs) = one (eqb b 32) (others_prefix bs)
  where
    one : (t : Bool) → prefix_len (λ b. not (eqb b 32)) bs ≡ others bs → cond (not t) (1 + prefix_len (λ b. not (eqb b 32)) bs) 0 ≡ ifte t 0 (suc (others bs))
    one true h = refl
    one false h = omega (arith, h)

-- the bytes that `take_while` takes are as many
pub spaces_are : (l : List ℕ) → length (take (prefix_len (λ b. eqb b 32) l) l) ≡ spaces l
spaces_are l = length-prefix_len (λ b. eqb b 32) l ∙ spaces_prefix l

pub others_are : (l : List ℕ) → length (take (prefix_len (λ b. not (eqb b 32)) l) l) ≡ others l
others_are l = length-prefix_len (λ b. not (eqb b 32)) l ∙ others_prefix l

others_le : (l : List ℕ) → others l ≤ length l
unfolding others
others_le [] = omega arith
others_le (b ∷ bs) = others_le_by bs (eqb b 32) (others_le bs)
  where
    others_le_by : (bs : List ℕ) (t : Bool) → others bs ≤ length bs → ifte t 0 (suc (others bs)) ≤ suc (length bs)
    others_le_by bs true h = omega arith
    others_le_by bs false h = omega arith

-- where the spaces end before the bytes do, another byte stands
other_after : (l : List ℕ) → spaces l < length l → 1 ≤ others (drop (spaces l) l)
unfolding spaces others
other_after [] h = omega (arith, h)
other_after (b ∷ bs) h = after (eqb b 32) refl h (other_after bs)
  where
    after : (t : Bool) → eqb b 32 ≡ t → ifte t (suc (spaces bs)) 0 < suc (length bs) →
        (spaces bs < length bs → 1 ≤ others (drop (spaces bs) bs)) → 1 ≤ others (drop (ifte t (suc (spaces bs)) 0) (b ∷ bs))
    after true e h ih = ih (omega arith)
    after false e h ih = rw e (omega arith)

-- a field lies in its line
field_in : (s : List ℕ) (from a e : ℕ) → a ≡ skipped s from → a < length s → e ≡ passed s a → (a < e) × (e ≤ length s)
unfolding skipped passed
field_in s from a e p h q =
    let n : length (drop from s) ≡ length s - from = length-drop from s in
    let m : spaces (drop from s) < length (drop from s) = omega arith in
    let d : drop (spaces (drop from s)) (drop from s) ≡ drop a s = rw (drop-drop, p) refl in
    let o : 1 ≤ others (drop a s) = rw d at (other_after (drop from s) m) in
    let t : others (drop a s) ≤ length s - a = rw length-drop at (others_le (drop a s)) in
    (omega arith, omega arith)

pub field_some : (s : List ℕ) (from a e : ℕ) → a ≡ skipped s from → a < length s → e ≡ passed s a → a < e
field_some s from a e p h q = (field_in s from a e p h q).0

pub field_end : (s : List ℕ) (from a e : ℕ) → a ≡ skipped s from → a < length s → e ≡ passed s a → e ≤ length s
field_end s from a e p h q = (field_in s from a e p h q).1

pub field_at : (s : List ℕ) (from a e : ℕ) → a ≡ skipped s from → a < length s → e ≡ passed s a → Some (record { start = a; end = e }) ≡ next_field s from
unfolding next_field field_from
field_at s from a e p h q = rw (← p, lt-ltb a (length s) h, ← q)

pub no_field : (s : List ℕ) (from a : ℕ) → a ≡ skipped s from → length s ≤ a → None ≡ next_field s from
unfolding next_field field_from
no_field s from a p h = rw (← p, le-ltb a (length s) h)

pub ends_so : (s : List ℕ) (from a : ℕ) → a ≡ skipped s from → leb (length s) a ≡ ends_at s from
unfolding ends_at
ends_so s from a p = rw p
