-- What holds of every insertion on any words: what it leaves alone, and that its slots and sides can be used.
use Prim.Native.Nat.{ℕ, ◌+◌, ◌-◌, ◌<◌, ◌≤◌}
use mathlib.Core.Path.{refl}
use mathlib.Core.List.{List}
use native.Mathlib.Omega.{arith}
use lib.Dec.{leb, eqb}
use lib.IntN.{ℤ}
use borrow.Author.Tests.{leb-false}
use Rattle.handle.specs.Numbers.{no_slot}
use Rattle.handle.specs.declared.Handle.{Handle}
use Rattle.handle.specs.declared.Side.{Side}
use Rattle.handle.specs.declared.Side as S
use Rattle.arena.specs.Branch.{ifte}
use Rattle.arena.specs.inner.Entries.{is_live}
use Rattle.arena.specs.Keys.{stored}
use Rattle.arena.specs.inner.Slots.{TakenIn, take_slot}
use Rattle.arena.specs.Words.{field, head, KEY, LEFT, PREV, VALUE, ROOT}
use Rattle.arena.proofs.Paths.{either}
use Rattle.arena.proofs.Only.{only_none, only_trans, only-put, only-put_head, only_weaken}
use Rattle.chain.specs.inner.Links.{link_beside}
use Rattle.chain.proofs.LinkLaws.{alone_only, between-only}
use Rattle.find.specs.inner.Seeking.{FoundIn, seek_model}
use Rattle.find.proofs.SeekLaws.{found_in_lem}
use Rattle.tree.proofs.Keeps.{only-node, only_child_lem}
use Rattle.raise.proofs.RaiseLeaves.{rebalanced-only}
use Rattle.insert.specs.inner.Kept.{Within}
use Rattle.insert.specs.inner.Kinds.{PreparedIn, as_found, prepared_normal, prepared_empty, lies_on, prepared_equal, place_beside, beside_next, prepared_beside, by_side, prepared_manual}
use Rattle.insert.specs.inner.Place.{stand_alone, alone_as, placed_alone, hung, hung_below, hung_as, beside_as, placed_beside, value_replaced, applied, normal_inserted, empty_inserted, manual_inserted}
use Rattle.arena.proofs.SlotReads.{live_low}
use Rattle.insert.proofs.Keeps.{entry-within, take_well}
use Rattle.find.specs.declared.Found.{Found}
use Rattle.find.specs.declared.Found as F
use Rattle.insert.specs.declared.kinds.Prepared.{Prepared}
use Rattle.insert.specs.declared.kinds.Prepared.TheVariants.{Alone, Beside, Replace}
use Rattle.std.specs.Prelude.{Result, Ok, Err, ⊤}
use Rattle.handle.specs.declared.Refusal.TheVariants.{FailedOrdRequirement, NotSound}
use Rattle.handle.specs.declared.Refusal.{Refusal}

-- what was prepared can be used: Normal, Empty, Manual
found_as : (cap : ℕ) (r : Result Found Refusal) → FoundIn cap r → PreparedIn cap (as_found r)
found_as cap (Ok (F.TheVariants.Equal p n)) i = i.0
found_as cap (Ok (F.TheVariants.Beside p d n)) i = (i.0, i.1)
found_as cap (Ok F.TheVariants.Empty) i = tt
found_as cap (Err n) i = tt

pub normal_in : (s : List ℕ) (cap k : ℕ) → PreparedIn cap (prepared_normal s cap k)
unfolding prepared_normal
normal_in s cap k = found_as cap (seek_model s cap k) (found_in_lem s cap k)

pub empty_in : (s : List ℕ) (cap : ℕ) → PreparedIn cap (prepared_empty s)
unfolding prepared_empty
empty_in s cap = either (PreparedIn cap) (eqb (head s ROOT) no_slot) (Ok Alone) (Err FailedOrdRequirement) (λ e. tt) (λ e. tt)

module _ (s : List ℕ) (cap i k : ℕ) (hi : i < cap) where
  equal_in : PreparedIn cap (prepared_equal s cap i k)
  unfolding prepared_equal
  equal_in = either (PreparedIn cap) (eqb (field s cap i KEY) k) (Ok (Replace i)) (Err FailedOrdRequirement) (λ e. hi) (λ e. tt)

  module _ (d : ℕ) (hd : d ≤ 1) where
    place_in : (q : ℕ) → PreparedIn cap (place_beside s cap i d q)
    unfolding place_beside
    place_in q =
        either (PreparedIn cap) (eqb (field s cap i (LEFT + d)) no_slot) (Ok (Beside i d)) (ifte (leb cap q) (Err NotSound) (Ok (Beside q (1 - d)))) (λ e. (hi, hd))
        (λ e. either (PreparedIn cap) (leb cap q) (Err NotSound) (Ok (Beside q (1 - d))) (λ f. tt) (λ f. (leb-false cap q f, omega arith)))

    next_in : (q : ℕ) → PreparedIn cap (beside_next s cap i d k q)
    unfolding beside_next
    next_in q =
        let x = place_beside s cap i d q in
        let t = lies_on (1 - d) k (field s cap q KEY) in
        either (PreparedIn cap) (eqb q no_slot) x (ifte (leb cap q) (Err NotSound) (ifte t x (Err FailedOrdRequirement))) (λ e. place_in q)
        (λ e. either (PreparedIn cap) (leb cap q) (Err NotSound) (ifte t x (Err FailedOrdRequirement)) (λ f. tt) (λ f. either (PreparedIn cap) t x (Err FailedOrdRequirement) (λ g. place_in q) (λ g. tt)))

    beside_in : PreparedIn cap (prepared_beside s cap i d k)
    unfolding prepared_beside
    beside_in =
        either (PreparedIn cap) (lies_on d k (field s cap i KEY)) (beside_next s cap i d k (field s cap i (PREV + d))) (Err FailedOrdRequirement) (λ e. next_in _) (λ e. tt)

  side_in_lem : (side : Side) → PreparedIn cap (by_side s cap i k side)
  side_in_lem S.TheVariants.Less = beside_in 0 (omega arith)
  side_in_lem S.TheVariants.Equal = equal_in
  side_in_lem S.TheVariants.Greater = beside_in 1 (omega arith)

pub manual_in : (s : List ℕ) (cap : ℕ) (h : Handle) (side : Side) (k : ℕ) → PreparedIn cap (prepared_manual s cap h side k)
unfolding prepared_manual
manual_in s cap h side k =
    either (PreparedIn cap) (is_live s cap h) (by_side s cap h.slot.0 k side) (Err FailedOrdRequirement)
    (λ e. side_in_lem s cap h.slot.0 k (live_low s cap h (is_live s cap h) refl e) side) (λ e. tt)

-- placing keeps what an insertion keeps
module _ (cap : ℕ) (key : ℤ) (value : ℕ) where
  alone_within : (s : List ℕ) (i : ℕ) → i < cap → Within s (stand_alone s cap i key value) cap
  unfolding stand_alone
  alone_within s i hi =
      only_trans (entry-within s cap i key value hi)
      (only_trans (only-node _ _ _ _ (omega arith) hi (λ g lo up e. omega arith))
      (only_trans (alone_only _ _ _ hi (λ e. omega arith) (λ e. omega arith) (omega arith) (omega arith)) (only-put_head _ ROOT i (omega arith) (omega arith))))

  module _ (p d : ℕ) (hp : p < cap) (hd : d ≤ 1) where
    hung-within : (s : List ℕ) (i : ℕ) → i < cap → Within s (hung s cap i p d key value) cap
    unfolding hung link_beside
    hung-within s i hi =
        only_trans (entry-within s cap i key value hi)
        (only_trans (only-node _ _ _ _ (omega arith) hi (λ g lo up e. omega arith))
        (only_trans (between-only _ _ _ _ _ _ hi hp hd (λ g lo up e. omega arith) (λ e. omega arith) (λ l e. omega arith) (λ l. omega arith))
        (only_child_lem _ _ _ _ hd (λ l e. omega arith) (λ l. omega arith))))

    below-within : (s : List ℕ) (i : ℕ) → i < cap → Within s (hung_below s cap i p d key value).0 cap
    unfolding hung_below
    below-within s i hi = only_trans (hung-within s i hi) (only_weaken (λ j g hj x e. omega arith) (λ h x. omega arith) (rebalanced-only _ cap i p hi hp))

    as_within : (s t : List ℕ) (h : Handle) (b : Result ⊤ Refusal) → Within s t cap → Within s (hung_as h t b).0 cap
    as_within s t h (Ok u) w = w
    as_within s t h (Err n) w = w

    beside_as_within : (s t : List ℕ) (r : Result Handle Refusal) → Within s t cap → TakenIn cap r → Within s (beside_as cap p d key value t r).0 cap
    beside_as_within s t (Ok h) w i =
        let x = hung_below t cap h.slot.0 p d key value in
        as_within s x.0 h x.1 (only_trans w (below-within t h.slot.0 i))
    beside_as_within s t (Err n) w i = w

    pub placed_beside-within : (s : List ℕ) → Within s (placed_beside s cap p d key value).0 cap
    unfolding placed_beside
    placed_beside-within s = let w = take_well s cap in beside_as_within s (take_slot s cap).0 (take_slot s cap).1 w.0 w.1

  alone_as_within : (s t : List ℕ) (r : Result Handle Refusal) → Within s t cap → TakenIn cap r → Within s (alone_as cap key value t r).0 cap
  alone_as_within s t (Ok h) w i = only_trans w (alone_within t h.slot.0 i)
  alone_as_within s t (Err n) w i = w

  pub placed_alone_within : (s : List ℕ) → Within s (placed_alone s cap key value).0 cap
  unfolding placed_alone
  placed_alone_within s = let w = take_well s cap in alone_as_within s (take_slot s cap).0 (take_slot s cap).1 w.0 w.1

  pub applied-within : (s : List ℕ) (p : Result Prepared Refusal) → PreparedIn cap p → Within s (applied s cap p key value).0 cap
  unfolding value_replaced
  applied-within s (Ok Alone) i = placed_alone_within s
  applied-within s (Ok (Beside p d)) i = placed_beside-within p d i.0 i.1 s
  applied-within s (Ok (Replace p)) i = only-put s p VALUE value i (omega arith) (λ e. omega arith)
  applied-within s (Err n) i = only_none

module _ (s : List ℕ) (cap : ℕ) (key : ℤ) (value : ℕ) where
  pub insert-normal-within : Within s (normal_inserted s cap key value).0 cap
  unfolding normal_inserted
  insert-normal-within = applied-within cap key value s (prepared_normal s cap (stored key)) (normal_in s cap (stored key))

  pub insert-empty-within : Within s (empty_inserted s cap key value).0 cap
  unfolding empty_inserted
  insert-empty-within = applied-within cap key value s (prepared_empty s) (empty_in s cap)

  pub insert-manual-within : (h : Handle) (side : Side) → Within s (manual_inserted s cap h side key value).0 cap
  unfolding manual_inserted
  insert-manual-within h side = applied-within cap key value s (prepared_manual s cap h side (stored key)) (manual_in s cap h side (stored key))
