-- What the search comes to, node by node, for proofs on sound stores; what it reads; and what holds of its answer on any words.
use Prim.Native.Nat.{ℕ, zero, suc, ◌+◌, ◌<◌, ◌≤◌}
use mathlib.Core.Path.{◌≡◌, refl}
use mathlib.Core.List.{List}
use native.Mathlib.Omega.{arith}
use native.Mathlib.Decide.{dec_lt, ℕ_discrete}
use borrow.Author.Tests.{lt-ltb, le-ltb, eq-eqb, ne_eqb, le-leb, lt-leb}
use Rattle.handle.specs.Numbers.{no_slot}
use Rattle.arena.specs.Words.{field, head, KEY, LEFT, ROOT}
use Rattle.arena.specs.inner.Budget.{budget}
use Rattle.find.specs.inner.Seeking.{side_of_key, seek_from, seek_at, seek_model, FoundIn}
use Rattle.find.specs.declared.Found.TheVariants.{Equal, Beside, Empty}
use Rattle.std.specs.Prelude.{Ok, Err}
use Rattle.handle.specs.declared.Refusal.TheVariants.{NotSound}

-- left if less, right if greater
pub side-less : (k key : ℕ) → k < key → side_of_key k key ≡ 0
unfolding side_of_key
side-less k key h = rw (lt-ltb k key h)

pub side-greater : (k key : ℕ) → key ≤ k → side_of_key k key ≡ 1
unfolding side_of_key
side-greater k key h = rw (le-ltb k key h)

pub side-small : (k key : ℕ) → side_of_key k key ≤ 1
side-small k key = go (dec_lt k key)
  where
    go : Dec (k < key) → side_of_key k key ≤ 1
    go (yes h) = rw (side-less k key h) (omega arith)
    go (no h) = let h' : key ≤ k = omega arith in rw (side-greater k key h') (omega arith)

-- from the root
module _ (s : List ℕ) (cap k root : ℕ) (e : head s ROOT ≡ root) where
  pub seek-empty : root ≡ no_slot → seek_model s cap k ≡ Ok Empty
  unfolding seek_model seek_at
  seek-empty h = rw (e, eq-eqb root no_slot h)

  pub seek-some : (root ≡ no_slot → ⊥) → seek_model s cap k ≡ seek_from budget s cap k root 0
  unfolding seek_model seek_at
  seek-some h = rw (e, ne_eqb root no_slot h)

  pub seek-root : cap ≤ no_slot → root < cap → seek_model s cap k ≡ seek_from budget s cap k root 0
  seek-root few l = seek-some (λ h. omega arith)

-- at a node p, with a turn left
module _ (fuel : ℕ) (s : List ℕ) (cap k p n : ℕ) where
  pub seek-outside : cap ≤ p → seek_from (suc fuel) s cap k p n ≡ Err NotSound
  unfolding seek_from
  seek-outside l = rw (le-leb cap p l)

  module _ (l : p < cap) (key : ℕ) (e : field s cap p KEY ≡ key) where
    pub seek-equal : key ≡ k → seek_from (suc fuel) s cap k p n ≡ Ok (Equal p (n + 1))
    unfolding seek_from
    seek-equal f = rw (lt-leb cap p l, e, eq-eqb key k f)

    module _ (f : key ≡ k → ⊥) (d q : ℕ) (g : side_of_key k key ≡ d) (m : field s cap p (LEFT + d) ≡ q) where
      pub seek-beside : q ≡ no_slot → seek_from (suc fuel) s cap k p n ≡ Ok (Beside p d (n + 1))
      unfolding seek_from
      seek-beside z = rw (lt-leb cap p l, e, ne_eqb key k f, g, m, eq-eqb q no_slot z)

      pub seek-down : (q ≡ no_slot → ⊥) → seek_from (suc fuel) s cap k p n ≡ seek_from fuel s cap k q (n + 1)
      unfolding seek_from
      seek-down z = rw (lt-leb cap p l, e, ne_eqb key k f, g, m, ne_eqb q no_slot z)

-- on any words: a slot in the store, a side, and no more nodes than the budget
seek_in : (fuel : ℕ) (s : List ℕ) (cap k p n : ℕ) → n + fuel ≤ budget → FoundIn cap (seek_from fuel s cap k p n)
unfolding seek_from
seek_in zero s cap k p n b = tt {0}
seek_in (suc fuel) s cap k p n b =
    let key = field s cap p KEY in
    let q = field s cap p (LEFT + side_of_key k key) in
    go (dec_lt p cap) (ℕ_discrete key k) (ℕ_discrete q no_slot) (seek_in fuel s cap k q (n + 1) (omega arith))
  where
    go : Dec (p < cap) → Dec (field s cap p KEY ≡ k) → Dec (field s cap p (LEFT + side_of_key k (field s cap p KEY)) ≡ no_slot)
        → FoundIn cap (seek_from fuel s cap k (field s cap p (LEFT + side_of_key k (field s cap p KEY))) (n + 1)) → FoundIn cap (seek_from (suc fuel) s cap k p n)
    go (no h) e z i = let h' : cap ≤ p = omega arith in rw (seek-outside fuel s cap k p n h') (tt {0})
    go (yes h) (yes e) z i = rw (seek-equal fuel s cap k p n h _ refl e) (h, omega arith)
    go (yes h) (no e) (yes z) i = rw (seek-beside fuel s cap k p n h _ refl e _ _ refl refl z) (h, side-small k (field s cap p KEY), omega arith)
    go (yes h) (no e) (no z) i = rw (seek-down fuel s cap k p n h _ refl e _ _ refl refl z) i

pub found_in_lem : (s : List ℕ) (cap k : ℕ) → FoundIn cap (seek_model s cap k)
found_in_lem s cap k = go (ℕ_discrete (head s ROOT) no_slot)
  where
    go : Dec (head s ROOT ≡ no_slot) → FoundIn cap (seek_model s cap k)
    go (yes e) = rw (seek-empty s cap k _ refl e) (tt {0})
    go (no e) = rw (seek-some s cap k _ refl e) (seek_in budget s cap k (head s ROOT) 0 (omega arith))
