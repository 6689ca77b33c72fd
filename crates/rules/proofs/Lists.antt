-- Laws of lists that crate wavl has no use for: one element put in, taken out, or moved to another place.
-- Assumes nothing.
use mathlib.Core.Path.{◌≡◌, sym}
use mathlib.Core.Logic.{◌⊎◌, inl, inr}
use mathlib.Core.List.{List, ◌∷◌, ◌++◌}
use Prim.Native.Nat.{ℕ}
use Rattle.wavl.specs.Lists.{All, In, Differ, Once}
use Rattle.wavl.specs.Entry.{Entry, slots}
use Rattle.wavl.proofs.Lists.{all_left, all_right, all_both, all_map, in_left, in_right, in_cases, drop_one, put_one, below_one, above-one, slots_append}

module _ {A : Type 0} (P : A → Type 0) where
  pub all_put : (a : List A) (x : A) (b : List A) → P x → All P (a ++ b) → All P (a ++ (x ∷ b))
  all_put a x b p h = all_both P a (x ∷ b) (all_left P a b h) (p, all_right P a b h)

  pub all_drop : (a : List A) (x : A) (b : List A) → All P (a ++ (x ∷ b)) → All P (a ++ b)
  all_drop a x b h = all_both P a b (all_left P a (x ∷ b) h) (all_right P a (x ∷ b) h).1

  pub all_at : (a : List A) (x : A) (b : List A) → All P (a ++ (x ∷ b)) → P x
  all_at a x b h = (all_right P a (x ∷ b) h).0

module _ {A : Type 0} (x : A) where
  pub in_put : (a : List A) (y : A) (b : List A) → In x (a ++ b) → In x (a ++ (y ∷ b))
  in_put a y b i = go (in_cases x a b i)
    where
      go : In x a ⊎ In x b → In x (a ++ (y ∷ b))
      go (inl j) = in_left x a (y ∷ b) j
      go (inr j) = in_right x a (y ∷ b) (inr j)

  pub in_drop : (a : List A) (y : A) (b : List A) → In x (a ++ (y ∷ b)) → (x ≡ y) ⊎ In x (a ++ b)
  in_drop a y b i = go (in_cases x a (y ∷ b) i)
    where
      go : In x a ⊎ In x (y ∷ b) → (x ≡ y) ⊎ In x (a ++ b)
      go (inl j) = inr (in_left x a b j)
      go (inr (inl e)) = inl e
      go (inr (inr j)) = inr (in_right x a b j)

-- distinct numbers
pub once-put : (a : List ℕ) (n : ℕ) (b : List ℕ) → All (Differ n) (a ++ b) → Once (a ++ b) → Once (a ++ (n ∷ b))
once-put a n b f h =
    put_one Differ a n b (all_map _ _ (λ m e g. e (sym g)) a (all_left (Differ n) a b f)) (all_right (Differ n) a b f) h

pub once_drop : (a : List ℕ) (n : ℕ) (b : List ℕ) → Once (a ++ (n ∷ b)) → Once (a ++ b)
once_drop a n b h = drop_one Differ a n b h

pub once-differ : (a : List ℕ) (n : ℕ) (b : List ℕ) → Once (a ++ (n ∷ b)) → All (Differ n) (a ++ b)
once-differ a n b h =
    all_both (Differ n) a b (all_map _ _ (λ m e g. e (sym g)) a (below_one Differ a n b h)) (above-one Differ a n b h)

-- one number moved to another place
pub once_move : (a : List ℕ) (n : ℕ) (b c d : List ℕ) → a ++ b ≡ c ++ d → Once (a ++ (n ∷ b)) → Once (c ++ (n ∷ d))
once_move a n b c d e h = once-put c n d (rw e at (once-differ a n b h)) (rw e at (once_drop a n b h))

pub all_move : (P : ℕ → Type 0) (a : List ℕ) (n : ℕ) (b c d : List ℕ) → a ++ b ≡ c ++ d → All P (a ++ (n ∷ b)) → All P (c ++ (n ∷ d))
all_move P a n b c d e h = all_put P c n d (all_at P a n b h) (rw e at (all_drop P a n b h))

-- a list of slots does not see the values
pub slots-put : (a : List Entry) (x : Entry) (b : List Entry) → slots (a ++ (x ∷ b)) ≡ slots a ++ (x.slot ∷ slots b)
unfolding slots
slots-put a x b = slots_append a (x ∷ b)
