-- What taking a node out and removing an entry leave alone, for proofs on sound stores and for the promises on any store.
use Prim.Native.Nat.{ℕ, ◌<◌, ◌≤◌}
use mathlib.Core.Path.{◌≡◌, refl, sym}
use mathlib.Core.Bool.{true, false}
use mathlib.Core.List.{List}
use native.Mathlib.Omega.{arith}
use lib.Dec.{ltb, leb, eqb}
use borrow.Author.Tests.{ltb-true, leb-false}
use Rattle.handle.specs.Numbers.{no_slot}
use Rattle.handle.specs.declared.Handle.{Handle}
use Rattle.handle.specs.declared.Refusal.TheVariants.{InvalidPtr}
use Rattle.arena.specs.Words.{field, head, BACK, GENERATION, TOP, HEIGHT}
use Rattle.arena.specs.inner.Entries.{is_live}
use Rattle.arena.specs.inner.Slots.{free_with, free_slot}
use Rattle.arena.specs.inner.Budget.{budget}
use Rattle.arena.proofs.Paths.{either}
use Rattle.arena.proofs.Only.{only_none, only_trans, only_weaken, only-blank, only-pushed}
use Rattle.chain.specs.inner.Links.{unlink_slot}
use Rattle.chain.proofs.LinkLaws.{joined-only}
use Rattle.tree.specs.inner.Links.{side_of_child}
use Rattle.tree.specs.inner.Kept.{TreeOnly}
use Rattle.tree.proofs.Keeps.{side-small, only_child_lem, back-only, relinked-only, node-only}
use Rattle.lower.specs.inner.Climb.{lower_one}
use Rattle.tree.proofs.Climb.{Settled, on_only}
use Rattle.lower.proofs.LowerLeaves.{lower_only, climb_only}
use Rattle.remove.specs.inner.Lift.{side_under, hung_up, lift_with, lift_out, stands_in, node_replaced}
use Rattle.remove.specs.inner.Take.{is_childless, settle_bare, settle_at, replacement_of, filled_from, filled_by, closed_from, take_over, take_out}
use Rattle.remove.specs.inner.Remove.{let_go, gone_as, remove_live, remove_by}
use Rattle.remove.specs.inner.Kept.{OthersKept}
use Rattle.remove.specs.declared.lifting.Lifted.{Lifted}
use Rattle.arena.proofs.SlotReads.{live_low}
use Rattle.arena.specs.declared.slots.Freed.{Freed}
use Rattle.handle.specs.declared.Removed.{Removed}
use Rattle.std.specs.Prelude.{Result, Ok, Err, ⊤}
use Rattle.handle.specs.declared.Refusal.{Refusal}
use Rattle.handle.specs.declared.Entry.{Entry}

-- what was lifted touches the tree alone, and hung on a side
abbrev pub LiftedWell : List ℕ → ℕ → List ℕ × Lifted → Type 0
LiftedWell s cap x = TreeOnly s x.0 cap × (x.1.side ≤ 1)

pub under_small : (s : List ℕ) (cap q m : ℕ) → side_under s cap q m ≤ 1
unfolding side_under
under_small s cap q m = either (λ d. d ≤ 1) (ltb q cap) (side_of_child s cap q m) 0 (λ e. side-small s cap q m) (λ e. omega arith)

pub lift_only : (s : List ℕ) (cap m : ℕ) → LiftedWell s cap (lift_out s cap m)
unfolding lift_out lift_with hung_up
lift_only s cap m =
    let q = field s cap m BACK in
    let e = under_small s cap q m in
    (only_trans (only_child_lem s q (side_under s cap q m) _ e (λ l. omega arith) (λ l. omega arith)) (back-only _ _ _ _), e)

pub replaced_only : (s : List ℕ) (cap i m : ℕ) → m < cap → TreeOnly s (node_replaced s cap i m) cap
unfolding node_replaced stands_in
replaced_only s cap i m hm =
    only_trans (node-only _ _ _ _ _ hm (omega arith))
    (only_trans (back-only _ _ _ _) (only_trans (back-only _ _ _ _) (relinked-only _ _ _ _ _)))

pub bare-only : (s : List ℕ) (cap q : ℕ) → q < cap → Settled s cap (settle_bare s cap q)
unfolding settle_bare
bare-only s cap q hq =
    let x = lower_one s cap q 1 in
    let o = lower_only s cap q 1 hq in
    on_only s x.0 cap x.1 _ o.0 o.1 (λ p d hp hd. climb_only budget x.0 cap p d hp hd)

pub settle-only : (s : List ℕ) (cap q e : ℕ) → e ≤ 1 → Settled s cap (settle_at s cap q e)
unfolding settle_at
settle-only s cap q e he =
    either (Settled s cap) (leb cap q) _ _ (λ f. only_none)
    (λ f. either (Settled s cap) (is_childless s cap q) _ _ (λ g. bare-only s cap q (leb-false cap q f))
    (λ g. climb_only budget s cap q e (leb-false cap q f) he))

pub filled-only : (s : List ℕ) (cap i m : ℕ) → m < cap → Settled s cap (filled_by s cap i m)
unfolding filled_by filled_from
filled-only s cap i m hm =
    let x = lift_out s cap m in
    let o = lift_only s cap m in
    let t = node_replaced x.0 cap i m in
    let k : TreeOnly s t cap = only_trans o.0 (replaced_only x.0 cap i m hm) in
    either (Settled s cap) (eqb x.1.under i) _ _ (λ e. only_trans k (settle-only t cap m x.1.side o.1))
    (λ e. only_trans k (settle-only t cap x.1.under x.1.side o.1))

over_only : (s : List ℕ) (cap i m : ℕ) → Settled s cap (take_over s cap i m)
unfolding take_over
over_only s cap i m = either (Settled s cap) (leb cap m) _ _ (λ e. only_none) (λ e. filled-only s cap i m (leb-false cap m e))

-- taking a node out touches the tree alone
pub take-only : (s : List ℕ) (cap i : ℕ) → Settled s cap (take_out s cap i)
unfolding take_out closed_from
take-only s cap i =
    let x = lift_out s cap i in
    let o = lift_only s cap i in
    either (Settled s cap) (is_childless s cap i) _ _ (λ e. only_trans o.0 (settle-only x.0 cap x.1.under x.1.side o.1))
    (λ e. over_only s cap i (replacement_of s cap i))

-- a slot freed, and an entry removed: every other entry and its handle stay
abbrev pub FreedWell : List ℕ → ℕ → ℕ → List ℕ × (Result Freed Refusal) → Type 0
FreedWell s cap i x = OthersKept s x.0 cap i

abbrev pub RemovedWell : List ℕ → ℕ → ℕ → List ℕ × (Result Removed Refusal) → Type 0
RemovedWell s cap i x = OthersKept s x.0 cap i

pub free-kept : (s : List ℕ) (cap i : ℕ) → i < cap → FreedWell s cap i (free_slot s cap i)
unfolding free_slot free_with
free-kept s cap i hi =
    either (FreedWell s cap i) (ltb (field s cap i GENERATION) (head s TOP)) _ _
    (λ e. either (FreedWell s cap i) (ltb (head s HEIGHT) cap) _ _
    (λ f. only-pushed s i _ _ hi (ltb-true _ cap f) (λ g l n. omega arith) (λ n. omega arith) (omega arith)) (λ f. only_none))
    (λ e. only-blank s i no_slot hi (λ g l m n. omega arith))

pub let_go-kept : (s : List ℕ) (cap i : ℕ) → i < cap → FreedWell s cap i (let_go s cap i)
unfolding let_go unlink_slot
let_go-kept s cap i hi =
    only_trans (joined-only s cap _ _ (λ l n. omega arith) (λ l n. omega arith) (λ l. omega arith) (λ l. omega arith)) (free-kept _ cap i hi)

gone-kept : (s t : List ℕ) (r : Result ⊤ Refusal) (cap i : ℕ) (x : Entry) → OthersKept s t cap i → OthersKept s (let_go t cap i).0 cap i
    → RemovedWell s cap i (gone_as t r cap i x)
gone-kept s t (Ok u) cap i x o f = f
gone-kept s t (Err n) cap i x o f = o

pub live-kept : (s : List ℕ) (cap i : ℕ) → i < cap → RemovedWell s cap i (remove_live s cap i)
unfolding remove_live
live-kept s cap i hi =
    let x = take_out s cap i in
    let o : OthersKept s x.0 cap i = only_weaken (λ j g hj z n. omega arith) (λ h z. omega arith) (take-only s cap i) in
    gone-kept s x.0 x.1 cap i _ o (only_trans o (let_go-kept x.0 cap i hi))

module _ (s : List ℕ) (cap : ℕ) (h : Handle) where
  pub remove-kept : RemovedWell s cap h.slot.0 (remove_by s cap h)
  unfolding remove_by
  remove-kept =
      either (RemovedWell s cap h.slot.0) (is_live s cap h) _ _ (λ e. live-kept s cap h.slot.0 (live_low s cap h true (sym e) refl))
      (λ e. only_none)

  -- "Each refusal returns its number alone and changes nothing."
  pub dead_refused : is_live s cap h ≡ false → remove_by s cap h ≡ (s, Err InvalidPtr)
  unfolding remove_by
  dead_refused e = rw e
