-- The same entries in another order: members, number, and what revaluing and taking out do to both lists alike.
-- A reader may rely on these for any two lists of entries; no queue is needed here.
use mathlib.Core.Path.{◌≡◌, refl, sym, ap, ◌∙◌}
use mathlib.Core.Logic.{◌⊎◌, inl, inr}
use mathlib.Core.List.{List, [], ◌∷◌, ◌++◌}
use Prim.Native.Nat.{ℕ, ◌+◌}
use native.Mathlib.Omega.{arith}
use lib.ListN.{length, length-append}
use Rattle.wavl.specs.Lists.{All, In}
use Rattle.wavl.specs.Entry.{Entry, revalued}
use Rattle.wavl.proofs.Lists.{in_middle}
use Rattle.wavl.proofs.Order.{choose_cases}
use Rattle.rules.specs.Queue.{Handle, Names}
use Rattle.rules.proofs.Lists.{in_put, in_drop}
use Rattle.history.specs.Book.{dec_names, revalue, without, Shuffled}

-- an order of no entries has none
pub shuffled_none : (m : List Entry) → Shuffled [] m → m ≡ []
shuffled_none m h = h

-- a list is an order of its own
pub shuffled_self : (l : List Entry) → Shuffled l l
shuffled_self [] = refl
shuffled_self (x ∷ l) = ([], l, refl, shuffled_self l)

-- members and number
pub shuffled_there : (l m : List Entry) → Shuffled l m → (y : Entry) → In y l → In y m
shuffled_there [] m h y i = absurd i
shuffled_there (x ∷ l) m h y (inl e) = rw (h.2, e) (in_middle x h.0 h.1)
shuffled_there (x ∷ l) m h y (inr i) = rw h.2 (in_put y h.0 x h.1 (shuffled_there l (h.0 ++ h.1) h.3 y i))

pub shuffled_back : (l m : List Entry) → Shuffled l m → (y : Entry) → In y m → In y l
shuffled_back [] m h y i = rw (shuffled_none m h) at i
shuffled_back (x ∷ l) m h y i = go (in_drop y h.0 x h.1 (rw h.2 at i)) (shuffled_back l (h.0 ++ h.1) h.3 y)
  where
    go : (y ≡ x) ⊎ In y (h.0 ++ h.1) → (In y (h.0 ++ h.1) → In y l) → In y (x ∷ l)
    go (inl e) f = inl e
    go (inr j) f = inr (f j)

pub shuffled_length : (l m : List Entry) → Shuffled l m → length m ≡ length l
shuffled_length [] m h = rw (shuffled_none m h)
shuffled_length (x ∷ l) m h =
    let i = shuffled_length l (h.0 ++ h.1) h.3 in
    let j : length h.0 + length h.1 ≡ length l = rw (← (length-append h.0 h.1)) i in
    rw h.2 (simp length-append (omega arith))

module _ (h : Handle) (v : ℕ) where
  pub revalue_append : (a b : List Entry) → revalue h v (a ++ b) ≡ revalue h v a ++ revalue h v b
  unfolding revalue
  revalue_append [] b = refl
  revalue_append (x ∷ a) b = rw (revalue_append a b)

  pub shuffled_revalue : (l m : List Entry) → Shuffled l m → Shuffled (revalue h v l) (revalue h v m)
  unfolding revalue
  shuffled_revalue [] m s = rw (shuffled_none m s)
  shuffled_revalue (x ∷ l) m s =
      let a = s.0 in
      let b = s.1 in
      let i = shuffled_revalue l (a ++ b) s.3 in
      (revalue h v a, revalue h v b, rw s.2 (revalue_append a (x ∷ b)), rw (revalue_append a b) at i)

  -- where no entry has the handle, nothing changes
  pub revalue-none : (l : List Entry) → All (λ y. ¬ Names h y) l → revalue h v l ≡ l
  unfolding revalue
  revalue-none [] n = refl
  revalue-none (x ∷ l) n =
      rw (revalue-none l n.1) (choose_cases (λ (z : Entry). z ∷ l ≡ x ∷ l) (dec_names h x) _ _ (λ y. absurd (n.0 y)) (λ y. refl))

  pub revalue-one : (x : Entry) (l : List Entry) → Names h x → revalue h v (x ∷ l) ≡ revalued v x ∷ revalue h v l
  unfolding revalue
  revalue-one x l n =
      choose_cases (λ (z : Entry). z ∷ revalue h v l ≡ revalued v x ∷ revalue h v l) (dec_names h x) _ _ (λ y. refl) (λ y. absurd (y n))

module _ (h : Handle) where
  pub without-out : (x : Entry) (l : List Entry) → Names h x → without h (x ∷ l) ≡ without h l
  unfolding without
  without-out x l n = choose_cases (λ (z : List Entry). z ≡ without h l) (dec_names h x) (without h l) (x ∷ without h l) (λ y. refl) (λ y. absurd (y n))

  pub without-kept : (x : Entry) (l : List Entry) → (¬ Names h x) → without h (x ∷ l) ≡ x ∷ without h l
  unfolding without
  without-kept x l n =
      choose_cases (λ (z : List Entry). z ≡ x ∷ without h l) (dec_names h x) (without h l) (x ∷ without h l) (λ y. absurd (n y)) (λ y. refl)

  pub without-none : (l : List Entry) → All (λ y. ¬ Names h y) l → without h l ≡ l
  unfolding without
  without-none [] n = refl
  without-none (x ∷ l) n = without-kept x l n.0 ∙ ap (λ m. x ∷ m) (without-none l n.1)

  pub without_append : (a b : List Entry) → without h (a ++ b) ≡ without h a ++ without h b
  unfolding without
  without_append [] b = refl
  without_append (x ∷ a) b = go (dec_names h x) (without_append a b)
    where
      go : Dec (Names h x) → without h (a ++ b) ≡ without h a ++ without h b → without h (x ∷ (a ++ b)) ≡ without h (x ∷ a) ++ without h b
      go (yes n) e = without-out x (a ++ b) n ∙ e ∙ ap (λ l. l ++ without h b) (sym (without-out x a n))
      go (no n) e = without-kept x (a ++ b) n ∙ ap (λ l. x ∷ l) e ∙ ap (λ l. l ++ without h b) (sym (without-kept x a n))

  -- the entry with the handle goes, from a list where no other has it
  pub without-one : (a : List Entry) (x : Entry) (b : List Entry) → Names h x → without h (a ++ (x ∷ b)) ≡ without h a ++ without h b
  without-one a x b n = without_append a (x ∷ b) ∙ ap (λ l. without h a ++ l) (without-out x b n)

  pub shuffled_without : (l m : List Entry) → Shuffled l m → Shuffled (without h l) (without h m)
  unfolding without
  shuffled_without [] m s = rw (shuffled_none m s)
  shuffled_without (x ∷ l) m s = go (dec_names h x) (shuffled_without l (s.0 ++ s.1) s.3)
    where
      go : Dec (Names h x) → Shuffled (without h l) (without h (s.0 ++ s.1)) → Shuffled (without h (x ∷ l)) (without h m)
      go (yes n) i =
          let a = s.0 in
          let b = s.1 in
          rw (without-out x l n, s.2, without-one a x b n) (rw (without_append a b) at i)
      go (no n) i =
          let a = s.0 in
          let b = s.1 in
          let e : without h m ≡ without h a ++ (x ∷ without h b) = rw s.2 (without_append a (x ∷ b) ∙ ap (λ k. without h a ++ k) (without-kept x b n)) in
          rw (without-kept x l n) (without h a, without h b, e, rw (without_append a b) at i)
