-- What linking in and out does to a store, for proofs on sound stores: the values afterwards, and all that stays.
-- One law over the side. `between` and `joined` are the two models once the neighbours are named (`beside-is`, `unlink_is`).
use Prim.Native.Nat.{ℕ, zero, suc, ◌+◌, ◌-◌, ◌<◌, ◌≤◌}
use mathlib.Core.Path.{◌≡◌, ◌∙◌}
use mathlib.Core.List.{List}
use native.Mathlib.Omega.{arith}
use Rattle.handle.specs.Numbers.{no_slot}
use Rattle.arena.specs.Words.{Long, field, put, head, put_head, PREV, NEXT, FIRST, LAST}
use Rattle.arena.specs.inner.Only.{Only, AnyField, AnyHead}
use Rattle.arena.proofs.WordLaws.{length_put, room-put, length_put_head, field-same, field-slot, field_off, head-same, head-other, field-put_head}
use Rattle.arena.proofs.Only.{only_trans, only-room, only-put, only-put_head}
use Rattle.chain.specs.inner.Links.{hooked, link_alone, between, link_beside, joined, neighbours, unlink_slot}
use Rattle.chain.proofs.Hooks.{hooked-only, hooked-at, hooked-field, hooked_end, hooked-head}

-- the model, once the neighbour has a name
pub beside-is : (s : List ℕ) (cap i p d q : ℕ) → field s cap p (PREV + d) ≡ q → link_beside s cap i p d ≡ between s cap i p q d
unfolding link_beside
beside-is s cap i p d q e = rw e

module _ (s : List ℕ) (cap i p q d : ℕ) (hi : i < cap) (hp : p < cap) (hd : d ≤ 1) where
  -- what is written: PREV and NEXT of i, p's neighbour on side d, and q's away from it, or the end on side d where q is no slot
  pub between-only : {W : ℕ → ℕ → Type 0} {H : ℕ → Type 0} → ((g : ℕ) → PREV ≤ g → g ≤ NEXT → W i g) → W p (PREV + d) → (q < cap → W q (NEXT - d))
      → (cap ≤ q → H (FIRST + d)) → Only s (between s cap i p q d) cap W H
  unfolding between
  between-only own near far end =
      only_trans (only-put _ _ _ _ hi (omega arith) (own _ (omega arith) (omega arith)))
      (only_trans (only-put _ _ _ _ hi (omega arith) (own _ (omega arith) (omega arith)))
      (only_trans (only-put _ _ _ _ hp (omega arith) near) (hooked-only _ _ _ _ _ hd far end)))

  -- i's own neighbours: q on side d, and p on the other
  pub between-near : Long s cap → (i ≡ p → ⊥) → field (between s cap i p q d) cap i (PREV + d) ≡ q
  unfolding between
  between-near room ne =
      hooked-field _ _ _ _ _ hd i (PREV + d) hi (omega arith) (λ e. off e.1)
      ∙ field-slot _ _ _ _ _ hp (omega arith) i (PREV + d) hi (omega arith) ne
      ∙ field_off _ _ _ _ _ hi (omega arith) i (PREV + d) hi (omega arith) off
      ∙ field-same _ _ _ _ _ hi (omega arith) room
    where
      off : PREV + d ≡ NEXT - d → ⊥
      off e = omega arith

  pub between-far : Long s cap → (i ≡ q → ⊥) → field (between s cap i p q d) cap i (NEXT - d) ≡ p
  unfolding between
  between-far room ne =
      hooked-field _ _ _ _ _ hd i (NEXT - d) hi (omega arith) (λ e. ne e.0)
      ∙ field_off _ _ _ _ _ hp (omega arith) i (NEXT - d) hi (omega arith) off
      ∙ field-same _ _ _ _ _ hi (omega arith) (room-put _ _ _ _ _ room)
    where
      off : NEXT - d ≡ PREV + d → ⊥
      off e = omega arith

  -- p's neighbour on side d, and q's on the other, are i; where q is no slot, i is the end on side d
  pub between-at : Long s cap → field (between s cap i p q d) cap p (PREV + d) ≡ i
  unfolding between
  between-at room =
      hooked-field _ _ _ _ _ hd p (PREV + d) hp (omega arith) (λ e. off e.1)
      ∙ field-same _ _ _ _ _ hp (omega arith) (room-put _ _ _ _ _ (room-put _ _ _ _ _ room))
    where
      off : PREV + d ≡ NEXT - d → ⊥
      off e = omega arith

  pub between-back : Long s cap → q < cap → field (between s cap i p q d) cap q (NEXT - d) ≡ i
  unfolding between
  between-back room l = hooked-at _ _ _ _ _ hd (room-put _ _ _ _ _ (room-put _ _ _ _ _ (room-put _ _ _ _ _ room))) l

  pub between_end : Long s cap → cap ≤ q → head (between s cap i p q d) (FIRST + d) ≡ i
  unfolding between
  between_end room l = hooked_end _ _ _ _ _ hd (room-put _ _ _ _ _ (room-put _ _ _ _ _ (room-put _ _ _ _ _ room))) l

module _ (s : List ℕ) (cap i : ℕ) (hi : i < cap) where
  -- what is written: PREV and NEXT of i, and both ends
  pub alone_only : {W : ℕ → ℕ → Type 0} {H : ℕ → Type 0} → W i PREV → W i NEXT → H FIRST → H LAST → Only s (link_alone s cap i) cap W H
  unfolding link_alone
  alone_only a b f l =
      only_trans (only-put _ _ _ _ hi (omega arith) a)
      (only_trans (only-put _ _ _ _ hi (omega arith) b) (only_trans (only-put_head _ _ _ (omega arith) f) (only-put_head _ _ _ (omega arith) l)))

  -- no neighbour on either side, and both ends
  pub alone_near : Long s cap → (d : ℕ) → d ≤ 1 → field (link_alone s cap i) cap i (PREV + d) ≡ no_slot
  unfolding link_alone
  alone_near room zero hd =
      field-put_head _ _ _ (omega arith) _ i PREV hi (omega arith)
      ∙ field-put_head _ _ _ (omega arith) _ i PREV hi (omega arith)
      ∙ field_off _ _ _ _ _ hi (omega arith) i PREV hi (omega arith) (λ e. omega arith)
      ∙ field-same _ _ _ _ _ hi (omega arith) room
  alone_near room (suc zero) hd =
      field-put_head _ _ _ (omega arith) _ i NEXT hi (omega arith)
      ∙ field-put_head _ _ _ (omega arith) _ i NEXT hi (omega arith)
      ∙ field-same _ _ _ _ _ hi (omega arith) (room-put _ _ _ _ _ room)
  alone_near room (suc (suc d)) hd = absurd (omega arith)

  lone : List ℕ
  lone = put (put s cap i PREV no_slot) cap i NEXT no_slot

  lone_room : Long s cap → Long lone 0
  unfolding lone
  lone_room room = omega (arith, length_put (put s cap i PREV no_slot) cap i NEXT no_slot, length_put s cap i PREV no_slot)

  pub alone_end : Long s cap → (d : ℕ) → d ≤ 1 → head (link_alone s cap i) (FIRST + d) ≡ i
  unfolding link_alone lone
  alone_end room zero hd = head-other _ _ _ (omega arith) FIRST (λ e. omega arith) ∙ head-same lone FIRST i (omega arith) (lone_room room)
  alone_end room (suc zero) hd = head-same (put_head lone FIRST i) LAST i (omega arith) (omega (arith, length_put_head lone FIRST i, lone_room room))
  alone_end room (suc (suc d)) hd = absurd (omega arith)

-- the model, once the neighbours have names
pub unlink_is : (s : List ℕ) (cap i p q : ℕ) → field s cap i PREV ≡ p → field s cap i NEXT ≡ q
    → unlink_slot s cap i ≡ (joined s cap p q, record { prev = p; next = q })
unfolding unlink_slot neighbours
unlink_is s cap i p q e f = rw (e, f)

module _ (s : List ℕ) (cap p q : ℕ) where
  room-hooked : Long s cap → Long (hooked s cap p q 0) cap
  room-hooked room = only-room (hooked-only s cap p q 0 (omega arith) {W = AnyField} {H = AnyHead} (λ l. tt) (λ l. tt)) room

  -- what is written: p's next and q's prev, and the end on a side where there is no slot
  pub joined-only : {W : ℕ → ℕ → Type 0} {H : ℕ → Type 0} → (p < cap → W p NEXT) → (q < cap → W q PREV) → (cap ≤ p → H FIRST) → (cap ≤ q → H LAST)
      → Only s (joined s cap p q) cap W H
  unfolding joined
  joined-only a b f l = only_trans (hooked-only _ _ _ _ 0 (omega arith) a f) (hooked-only _ _ _ _ 1 (omega arith) b l)

  -- p's next is q and q's prev is p; where one of them is no slot, the end on its side is the other
  pub joined-next : Long s cap → p < cap → field (joined s cap p q) cap p NEXT ≡ q
  unfolding joined
  joined-next room l = hooked-field _ _ _ _ 1 (omega arith) p NEXT l (omega arith) (λ e. off e.1) ∙ hooked-at _ _ _ _ 0 (omega arith) room l
    where
      off : NEXT ≡ PREV → ⊥
      off e = omega arith

  pub joined-prev : Long s cap → q < cap → field (joined s cap p q) cap q PREV ≡ p
  unfolding joined
  joined-prev room l = hooked-at (hooked s cap p q 0) _ _ _ 1 (omega arith) (room-hooked room) l

  pub joined-first : Long s cap → cap ≤ p → head (joined s cap p q) FIRST ≡ q
  unfolding joined
  joined-first room l = hooked-head _ _ _ _ 1 (omega arith) FIRST (omega arith) (λ e. omega arith) ∙ hooked_end _ _ _ _ 0 (omega arith) room l

  pub joined-last : Long s cap → cap ≤ q → head (joined s cap p q) LAST ≡ p
  unfolding joined
  joined-last room l = hooked_end (hooked s cap p q 0) _ _ _ 1 (omega arith) (room-hooked room) l
