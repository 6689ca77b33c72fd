-- Writes that keep what an insertion keeps: an entry, and taking a slot.
use Prim.Native.Nat.{ℕ, ◌-◌, ◌<◌, ◌≤◌}
use mathlib.Core.List.{List}
use native.Mathlib.Omega.{arith}
use lib.Dec.{ltb, leb}
use lib.IntN.{ℤ}
use borrow.Author.Tests.{ltb-false, leb-false}
use Rattle.arena.specs.Branch.{ifte}
use Rattle.arena.specs.inner.Entries.{entry_put}
use Rattle.arena.specs.inner.Slots.{handle_with, PeekedIn, found_at, peek_from, peek_slot, taken_as, TakenIn, take_slot}
use Rattle.arena.specs.Words.{field, head, KEY, GENERATION, VALUE, STACK, HEIGHT}
use Rattle.arena.proofs.Paths.{either}
use Rattle.arena.proofs.Only.{only_none, only_trans, only-put, only-popped}
use Rattle.insert.specs.inner.Kept.{Within}
use Rattle.std.specs.Prelude.{Result, Ok, Err}
use Rattle.handle.specs.declared.Refusal.TheVariants.{NotSound, NotWithinCapacity}
use Rattle.handle.specs.declared.Refusal.{Refusal}
use Rattle.handle.specs.declared.Handle.{Handle}

pub entry-within : (s : List ℕ) (cap i : ℕ) (key : ℤ) (value : ℕ) → i < cap → Within s (entry_put s cap i key value) cap
unfolding entry_put
entry-within s cap i key value hi =
    only_trans (only-put _ _ KEY _ hi (omega arith) (λ e. omega arith)) (only-put _ _ VALUE _ hi (omega arith) (λ e. omega arith))

-- the slot that would be taken lies in the store, on any words
found_well : (s : List ℕ) (cap i : ℕ) → 1 ≤ head s HEIGHT → head s HEIGHT ≤ cap → PeekedIn s cap (found_at s cap i)
unfolding found_at
found_well s cap i l m =
    either (PeekedIn s cap) (leb cap i) (Err NotSound) (Ok (handle_with i (field s cap i GENERATION))) (λ g. tt) (λ g. (leb-false cap i g, l, m))

pub peek_in : (s : List ℕ) (cap : ℕ) → PeekedIn s cap (peek_slot s cap)
unfolding peek_slot peek_from
peek_in s cap =
    let h = head s HEIGHT in
    let x = found_at s cap (field s cap (h - 1) STACK) in
    either (PeekedIn s cap) (ltb h 1) (Err NotWithinCapacity) (ifte (ltb cap h) (Err NotSound) x) (λ e. tt)
    (λ e. either (PeekedIn s cap) (ltb cap h) (Err NotSound) x (λ f. tt) (λ f. found_well s cap _ (ltb-false h 1 e) (ltb-false cap h f)))

abbrev pub TakenWell : List ℕ → ℕ → List ℕ × (Result Handle Refusal) → Type 0
TakenWell s cap x = Within s x.0 cap × TakenIn cap x.1

taken_well : (s : List ℕ) (cap : ℕ) (r : Result Handle Refusal) → PeekedIn s cap r → TakenWell s cap (taken_as s cap r)
taken_well s cap (Ok h) i =
    let l = i.1 in
    let m = i.2 in (only-popped s _ (omega arith) (λ e. omega arith) (omega arith), i.0)
taken_well s cap (Err n) i = (only_none, tt)

pub take_well : (s : List ℕ) (cap : ℕ) → TakenWell s cap (take_slot s cap)
unfolding take_slot
take_well s cap = taken_well s cap (peek_slot s cap) (peek_in s cap)
