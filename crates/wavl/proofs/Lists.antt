-- Lists: members, pairs of members and ends, across a place where something is put in or taken out.
-- A reader may rely on: these hold for any relation, so that neither the order of keys nor distinct slots is proved twice.
use mathlib.Core.Logic.{◌⊎◌, inl, inr}
use mathlib.Core.Path.{◌≡◌, refl, ap}
use mathlib.Core.List.{List, [], ◌∷◌, ◌++◌}
use mathlib.Core.Option.{some, none}
use Prim.Native.Nat.{ℕ}
use native.Mathlib.Omega.{arith}
use Rattle.wavl.specs.Lists.{All, Pairwise, In, first, last}
use Rattle.wavl.specs.Entry.{Entry, slots}

module _ {A : Type 0} (P : A → Type 0) where
  pub all_left : (a b : List A) → All P (a ++ b) → All P a
  all_left [] b h = tt
  all_left (x ∷ a) b h = (h.0, all_left a b h.1)

  pub all_right : (a b : List A) → All P (a ++ b) → All P b
  all_right [] b h = h
  all_right (x ∷ a) b h = all_right a b h.1

  pub all_both : (a b : List A) → All P a → All P b → All P (a ++ b)
  all_both [] b g h = h
  all_both (x ∷ a) b g h = (g.0, all_both a b g.1 h)

  pub all_in : (a : List A) → All P a → (x : A) → In x a → P x
  all_in [] h x i = absurd i
  all_in (y ∷ a) h x (inl e) = rw e h.0
  all_in (y ∷ a) h x (inr i) = all_in a h.1 x i

  pub all_of : (a : List A) → ((x : A) → In x a → P x) → All P a
  all_of [] f = tt
  all_of (x ∷ a) f = (f x (inl refl), all_of a (λ y i. f y (inr i)))

pub all_map : {A : Type 0} (P Q : A → Type 0) → ((x : A) → P x → Q x) → (a : List A) → All P a → All Q a
all_map P Q f [] h = tt
all_map P Q f (x ∷ a) h = (f x h.0, all_map P Q f a h.1)

module _ {A : Type 0} (x : A) where
  pub in_left : (a b : List A) → In x a → In x (a ++ b)
  in_left [] b i = absurd i
  in_left (y ∷ a) b (inl e) = inl e
  in_left (y ∷ a) b (inr i) = inr (in_left a b i)

  pub in_right : (a b : List A) → In x b → In x (a ++ b)
  in_right [] b i = i
  in_right (y ∷ a) b i = inr (in_right a b i)

  pub in_cases : (a b : List A) → In x (a ++ b) → In x a ⊎ In x b
  in_cases [] b i = inr i
  in_cases (y ∷ a) b (inl e) = inl (inl e)
  in_cases (y ∷ a) b (inr i) = later (in_cases a b i)
    where
      later : In x a ⊎ In x b → In x (y ∷ a) ⊎ In x b
      later (inl j) = inl (inr j)
      later (inr j) = inr j

  pub in_middle : (a b : List A) → In x (a ++ (x ∷ b))
  in_middle a b = in_right a (x ∷ b) (inl refl)

-- one member taken out of a list, a part taken out, one put in
module _ {A : Type 0} (R : A → A → Type 0) where
  pub drop_one : (a : List A) (k : A) (b : List A) → Pairwise R (a ++ (k ∷ b)) → Pairwise R (a ++ b)
  drop_one [] k b h = h.1
  drop_one (x ∷ a) k b h =
      (all_both _ a b (all_left _ a (k ∷ b) h.0) (all_right _ a (k ∷ b) h.0).1, drop_one a k b h.1)

  pub drop_part : (a m b : List A) → Pairwise R (a ++ (m ++ b)) → Pairwise R (a ++ b)
  drop_part a [] b h = h
  drop_part a (x ∷ m) b h = drop_part a m b (drop_one a x (m ++ b) h)

  pub put_one : (a : List A) (k : A) (b : List A) → All (λ x. R x k) a → All (R k) b → Pairwise R (a ++ b) → Pairwise R (a ++ (k ∷ b))
  put_one [] k b f g h = (g, h)
  put_one (x ∷ a) k b f g h =
      (all_both _ a (k ∷ b) (all_left _ a b h.0) (f.0, all_right _ a b h.0), put_one a k b f.1 g h.1)

  -- what stands before k, and what stands after it
  pub below_one : (a : List A) (k : A) (b : List A) → Pairwise R (a ++ (k ∷ b)) → All (λ x. R x k) a
  below_one [] k b h = tt
  below_one (x ∷ a) k b h = ((all_right _ a (k ∷ b) h.0).0, below_one a k b h.1)

  pub above-one : (a : List A) (k : A) (b : List A) → Pairwise R (a ++ (k ∷ b)) → All (R k) b
  above-one [] k b h = h.0
  above-one (x ∷ a) k b h = above-one a k b h.1

  pub pairwise_left : (a b : List A) → Pairwise R (a ++ b) → Pairwise R a
  pairwise_left [] b h = tt
  pairwise_left (x ∷ a) b h = (all_left _ a b h.0, pairwise_left a b h.1)

  pub pairwise_right : (a b : List A) → Pairwise R (a ++ b) → Pairwise R b
  pairwise_right [] b h = h
  pairwise_right (x ∷ a) b h = pairwise_right a b h.1

  -- a member of the first part and one of the second
  pub pairwise_across : (a b : List A) → Pairwise R (a ++ b) → (x y : A) → In x a → In y b → R x y
  pairwise_across [] b h x y i j = absurd i
  pairwise_across (z ∷ a) b h x y (inl e) j = rw e (all_in _ b (all_right _ a b h.0) y j)
  pairwise_across (z ∷ a) b h x y (inr i) j = pairwise_across a b h.1 x y i j

-- R of each two neighbours is R of each two members, where R carries over
module _ {A : Type 0} (R : A → A → Type 0) (trans : (x y z : A) → R x y → R y z → R x z) where
  abbrev pub Neighbours : List A → Type 0
  Neighbours [] = Unit {0}
  Neighbours (x ∷ []) = Unit {0}
  Neighbours (x ∷ (y ∷ l)) = R x y × Neighbours (y ∷ l)

  pub pairwise_of : (l : List A) → Neighbours l → Pairwise R l
  pairwise_of [] h = tt
  pairwise_of (x ∷ []) h = (tt, tt)
  pairwise_of (x ∷ (y ∷ l)) h =
      let i = pairwise_of (y ∷ l) h.1 in
      ((h.0, all_map _ _ (λ z q. trans x y z h.0 q) l i.0), i)

-- the ends
pub some-none : {A : Type 0} {x : A} → ¬ (none ≡ some x)
some-none q = let z : ◌≡◌ {A = ℕ} 0 1 = cc in absurd (omega arith)

pub last_of : {A : Type 0} (a : List A) (x : A) → last (a ++ (x ∷ [])) ≡ some x
unfolding last
last_of [] x = refl
last_of (y ∷ []) x = refl
last_of (y ∷ (z ∷ a)) x = last_of (z ∷ a) x

pub last-split : {A : Type 0} (l : List A) (x : A) → last l ≡ some x → (m : List A) × (l ≡ m ++ (x ∷ []))
unfolding last
last-split [] x h = absurd (some-none h)
last-split (y ∷ []) x h = ([], cc)
last-split (y ∷ (z ∷ l)) x h = let i = last-split (z ∷ l) x h in (y ∷ i.0, ap (λ m. y ∷ m) i.1)

pub first-split : {A : Type 0} (l : List A) (x : A) → first l ≡ some x → (m : List A) × (l ≡ x ∷ m)
unfolding first
first-split [] x h = absurd (some-none h)
first-split (y ∷ l) x h = (l, cc)

-- slots
pub slots_append : (a b : List Entry) → slots (a ++ b) ≡ slots a ++ slots b
unfolding slots
slots_append [] b = refl
slots_append (e ∷ a) b = ap (λ l. e.slot ∷ l) (slots_append a b)

pub in_slots_lem : (e : Entry) (l : List Entry) → In e l → In e.slot (slots l)
unfolding slots
in_slots_lem e [] i = absurd i
in_slots_lem e (f ∷ l) (inl p) = inl (ap (λ (x : Entry). x.slot) p)
in_slots_lem e (f ∷ l) (inr i) = inr (in_slots_lem e l i)
