-- Linking in and out, seen by the chain: an entry put in anywhere, an entry taken out anywhere. One law over the side.
-- A reader may rely on: chain_in with after-links, before-links or alone_links, and chain-out with joined-unlinks.
use Prim.Native.Nat.{ℕ, ◌≤◌, ◌<◌}
use mathlib.Core.Path.{◌≡◌, refl, sym, ◌∙◌}
use mathlib.Core.Logic.{◌⊎◌, inl, inr}
use mathlib.Core.List.{List, [], ◌∷◌, ◌++◌, append-nil}
use native.Mathlib.Omega.{arith}
use lib.Dec.{lit<}
use Rattle.handle.specs.Numbers.{no_slot}
use Rattle.arena.specs.Words.{Long, field, head, PREV, NEXT, FIRST, LAST}
use Rattle.arena.specs.inner.Only.{Only}
use Rattle.chain.specs.inner.Links.{between, joined, link_alone}
use Rattle.chain.proofs.LinkLaws.{between-only, between-near, between-far, between-at, between-back, between_end, alone_only, alone_near, alone_end, joined-only, joined-next, joined-prev, joined-first, joined-last}
use Rattle.wavl.specs.Lists.{All, In, Differ, Once}
use Rattle.wavl.specs.Entry.{Entry, slots}
use Rattle.wavl.proofs.Lists.{all_left, all_right, all_in, pairwise_left, pairwise_right, pairwise_across, below_one, above-one}
use Rattle.rules.specs.Sound.{Under}
use Rattle.rules.proofs.Lists.{slots-put}
use Rattle.queue_of_store.specs.Ends.{first_slot, last_slot}
use Rattle.queue_of_store.specs.Chain.{ChainWords}
use Rattle.queue_of_store.proofs.Chains.{end_or, end_last}
use Rattle.queue_of_store.proofs.Segments.{first_or, Row, first-none, last_append, last_in_slots, row_of, chain_of, row-left, row-right, row-both, row_next, row-prev}

-- what joins a and b, each a slot or none: a's NEXT and b's PREV; the end on a side where there is no slot
abbrev pub JoinedAt : ℕ → ℕ → ℕ → ℕ → Type 0
JoinedAt a b j g = (PREV ≤ g) × (g ≤ NEXT) × (g ≡ PREV → j ≡ b) × (g ≡ NEXT → j ≡ a)

abbrev pub EndsAt : ℕ → ℕ → ℕ → ℕ → Type 0
EndsAt cap a b h = (FIRST ≤ h) × (h ≤ LAST) × (h ≡ FIRST → cap ≤ a) × (h ≡ LAST → cap ≤ b)

-- the same with i between them: its own PREV and NEXT too
abbrev pub LinkedAt : ℕ → ℕ → ℕ → ℕ → ℕ → Type 0
LinkedAt a i b j g = (PREV ≤ g) × (g ≤ NEXT) × (¬ (j ≡ i) → JoinedAt a b j g)

-- i was put in between a and b
pub record Linked (s t : List ℕ) (cap a i b : ℕ) : Type 0 where
  pub prev-is : field t cap i PREV ≡ a
  pub next-is : field t cap i NEXT ≡ b
  pub left-next : a < cap → field t cap a NEXT ≡ i
  pub left_end : cap ≤ a → head t FIRST ≡ i
  pub right-prev : b < cap → field t cap b PREV ≡ i
  pub right_end : cap ≤ b → head t LAST ≡ i
  pub only : Only s t cap (LinkedAt a i b) (EndsAt cap a b)

-- what stood between a and b was taken out
pub record Unlinked (s t : List ℕ) (cap a b : ℕ) : Type 0 where
  pub left-next : a < cap → field t cap a NEXT ≡ b
  pub left_end : cap ≤ a → head t FIRST ≡ b
  pub right-prev : b < cap → field t cap b PREV ≡ a
  pub right_end : cap ≤ b → head t LAST ≡ a
  pub only : Only s t cap (JoinedAt a b) (EndsAt cap a b)

-- the writes of crate `chain`
module _ (s : List ℕ) (cap i p q : ℕ) (room : Long s cap) (hi : i < cap) (hp : p < cap) (np : ¬ (i ≡ p)) (nq : ¬ (i ≡ q)) where
  -- behind p, before q
  pub after-links : Linked s (between s cap i p q 1) cap p i q
  after-links = record {
    prev-is = between-far s cap i p q 1 hi hp (omega arith) room nq;
    next-is = between-near s cap i p q 1 hi hp (omega arith) room np;
    left-next = λ l. between-at s cap i p q 1 hi hp (omega arith) room;
    left_end = λ l. absurd (omega arith);
    right-prev = between-back s cap i p q 1 hi hp (omega arith) room;
    right_end = between_end s cap i p q 1 hi hp (omega arith) room;
    only = between-only s cap i p q 1 hi hp (omega arith) (λ g lo up. omega arith) (omega arith) (λ l. omega arith) (λ l. omega arith);
  }

  -- before p, behind q
  pub before-links : Linked s (between s cap i p q 0) cap q i p
  before-links = record {
    prev-is = between-near s cap i p q 0 hi hp (omega arith) room np;
    next-is = between-far s cap i p q 0 hi hp (omega arith) room nq;
    left-next = between-back s cap i p q 0 hi hp (omega arith) room;
    left_end = between_end s cap i p q 0 hi hp (omega arith) room;
    right-prev = λ l. between-at s cap i p q 0 hi hp (omega arith) room;
    right_end = λ l. absurd (omega arith);
    only = between-only s cap i p q 0 hi hp (omega arith) (λ g lo up. omega arith) (omega arith) (λ l. omega arith) (λ l. omega arith);
  }

pub alone_links : (s : List ℕ) (cap i : ℕ) → cap ≤ no_slot → Long s cap → i < cap → Linked s (link_alone s cap i) cap no_slot i no_slot
alone_links s cap i few room hi = record {
  prev-is = alone_near s cap i hi room 0 (omega arith);
  next-is = alone_near s cap i hi room 1 (omega arith);
  left-next = λ l. absurd (omega arith);
  left_end = λ l. alone_end s cap i hi room 0 (omega arith);
  right-prev = λ l. absurd (omega arith);
  right_end = λ l. alone_end s cap i hi room 1 (omega arith);
  only = alone_only s cap i hi (omega arith) (omega arith) (omega arith) (omega arith);
}

pub joined-unlinks : (s : List ℕ) (cap a b : ℕ) → Long s cap → Unlinked s (joined s cap a b) cap a b
joined-unlinks s cap a b room = record {
  left-next = joined-next s cap a b room;
  left_end = joined-first s cap a b room;
  right-prev = joined-prev s cap a b room;
  right_end = joined-last s cap a b room;
  only = joined-only s cap a b (λ l. omega arith) (λ l. omega arith) (λ l. omega arith) (λ l. omega arith);
}

-- the last of a part lies in the store, or there is none
last-low : (cap : ℕ) (l : List Entry) → All (Under cap) (slots l) → (l ≡ []) ⊎ (last_slot l < cap)
last-low cap [] u = inl refl
last-low cap (e ∷ l) u = inr (all_in (Under cap) (slots (e ∷ l)) u (last_slot (e ∷ l)) (last_in_slots e l))

module _ (s t : List ℕ) (cap : ℕ) (l : List Entry) (x : Entry) (m : List Entry) (few : cap ≤ no_slot)
    (once : Once (slots (l ++ (x ∷ m)))) (low : All (Under cap) (slots (l ++ (x ∷ m)))) where
  parts : Once (slots l ++ (x.slot ∷ slots m))
  parts = rw (slots-put l x m) at once

  low_parts : All (Under cap) (slots l ++ (x.slot ∷ slots m))
  low_parts = rw (slots-put l x m) at low

  low_l : All (Under cap) (slots l)
  low_l = all_left (Under cap) (slots l) (x.slot ∷ slots m) low_parts

  low_m : All (Under cap) (slots m)
  low_m = (all_right (Under cap) (slots l) (x.slot ∷ slots m) low_parts).1

  once_l : Once (slots l)
  once_l = pairwise_left Differ (slots l) (x.slot ∷ slots m) parts

  once_m : Once (slots m)
  once_m = (pairwise_right Differ (slots l) (x.slot ∷ slots m) parts).1

  l_not_m : (j : ℕ) → In j (slots l) → ¬ (In j (slots m))
  l_not_m j a b = pairwise_across Differ (slots l) (x.slot ∷ slots m) parts j j a (inr b) refl

  l_not_x : (j : ℕ) → In j (slots l) → ¬ (j ≡ x.slot)
  l_not_x j a e = all_in _ (slots l) (below_one Differ (slots l) x.slot (slots m) parts) j a e

  m_not_x : (j : ℕ) → In j (slots m) → ¬ (j ≡ x.slot)
  m_not_x j a e = all_in _ (slots m) (above-one Differ (slots l) x.slot (slots m) parts) j a (sym e)

  -- a slot of l is not m's first, and one of m not l's last
  not_first : (k : List Entry) (j : ℕ) → j < cap → ¬ (In j (slots k)) → ¬ (j ≡ first_slot k)
  unfolding slots
  not_first [] j lj n e = omega arith
  not_first (f ∷ k) j lj n e = n (inl e)

  not_last : (k : List Entry) (j : ℕ) → j < cap → ¬ (In j (slots k)) → ¬ (j ≡ last_slot k)
  not_last [] j lj n e = omega arith
  not_last (f ∷ k) j lj n e = n (rw e (last_in_slots f k))

  at_l : (j : ℕ) → In j (slots l) → j < cap
  at_l j a = all_in (Under cap) (slots l) low_l j a

  at_m : (j : ℕ) → In j (slots m) → j < cap
  at_m j a = all_in (Under cap) (slots m) low_m j a

  -- the ends stay where there is something on that side
  first-same : (k : List Entry) → last_slot k < cap → first_slot (k ++ m) ≡ first_slot (k ++ (x ∷ m))
  first-same [] h = absurd (omega arith)
  first-same (e ∷ k) h = refl

  last-same : (k : List Entry) → first_slot k < cap → last_slot (l ++ k) ≡ last_slot (l ++ (x ∷ k))
  last-same [] h = absurd (omega arith)
  last-same (e ∷ k) h = last_append l e k ∙ sym (last_append l x (e ∷ k))

  none_or : (k : List Entry) → All (Under cap) (slots k) → (k ≡ []) ⊎ (first_slot k < cap)
  unfolding slots
  none_or [] u = inl refl
  none_or (e ∷ k) u = inr u.0

  pub chain_in : Linked s t cap (last_slot l) x.slot (first_slot m) → ChainWords s cap (l ++ m) → ChainWords t cap (l ++ (x ∷ m))
  chain_in K c = record { first-is = firsts (last-low cap l low_l); last-is = lasts (none_or m low_m); chain = chain_of t cap (l ++ (x ∷ m)) no_slot row }
    where
      old : Row s cap no_slot (l ++ m) no_slot
      old = row_of s cap (l ++ m) no_slot c.chain

      row_l : Row t cap no_slot l x.slot
      row_l =
          row_next s t cap l no_slot _ x.slot once_l
          (λ j a. K.only.slots j PREV (at_l j a) (lit< tt) (λ z. not_first m j (at_l j a) (l_not_m j a) ((z.2 (l_not_x j a)).2 refl)))
          (λ j a n. K.only.slots j NEXT (at_l j a) (lit< tt) (λ z. n ((z.2 (l_not_x j a)).3 refl)))
          (λ j a e. rw e (K.left-next (rw e at (at_l j a))))
          (row-left s cap l m no_slot no_slot old)

      row_m : Row t cap x.slot m no_slot
      row_m =
          row-prev s t cap m (end_or no_slot l) x.slot no_slot once_m
          (λ j a. K.only.slots j NEXT (at_m j a) (lit< tt) (λ z. not_last l j (at_m j a) (λ b. l_not_m j b a) ((z.2 (m_not_x j a)).3 refl)))
          (λ j a n. K.only.slots j PREV (at_m j a) (lit< tt) (λ z. n ((z.2 (m_not_x j a)).2 refl)))
          (λ j a e. rw e (K.right-prev (rw e at (at_m j a))))
          (row-right s cap l m no_slot no_slot old)

      row : Row t cap no_slot (l ++ (x ∷ m)) no_slot
      row = row-both t cap l (x ∷ m) no_slot no_slot row_l (record { prev-is = K.prev-is ∙ sym (end_last l); next-is = K.next-is ∙ sym (first-none m) }, row_m)

      firsts : (l ≡ []) ⊎ (last_slot l < cap) → head t FIRST ≡ first_slot (l ++ (x ∷ m))
      firsts (inl e) = let h : cap ≤ last_slot l = rw e few in K.left_end h ∙ rw e
      firsts (inr h) = K.only.heads FIRST (lit< tt) (λ z. let y = z.2 refl in omega arith) ∙ c.first-is ∙ first-same l h

      lasts : (m ≡ []) ⊎ (first_slot m < cap) → head t LAST ≡ last_slot (l ++ (x ∷ m))
      lasts (inl e) = let h : cap ≤ first_slot m = rw e few in K.right_end h ∙ rw e (sym (last_append l x []))
      lasts (inr h) = K.only.heads LAST (lit< tt) (λ z. let y = z.3 refl in omega arith) ∙ c.last-is ∙ last-same m h

  pub chain-out : Unlinked s t cap (last_slot l) (first_slot m) → ChainWords s cap (l ++ (x ∷ m)) → ChainWords t cap (l ++ m)
  chain-out K c = record { first-is = firsts (last-low cap l low_l); last-is = lasts (none_or m low_m); chain = chain_of t cap (l ++ m) no_slot row }
    where
      old : Row s cap no_slot (l ++ (x ∷ m)) no_slot
      old = row_of s cap (l ++ (x ∷ m)) no_slot c.chain

      row_l : Row t cap no_slot l (first_or no_slot m)
      row_l =
          row_next s t cap l no_slot x.slot (first_or no_slot m) once_l
          (λ j a. K.only.slots j PREV (at_l j a) (lit< tt) (λ z. not_first m j (at_l j a) (l_not_m j a) (z.2 refl)))
          (λ j a n. K.only.slots j NEXT (at_l j a) (lit< tt) (λ z. n (z.3 refl)))
          (λ j a e. rw e (K.left-next (rw e at (at_l j a))) ∙ sym (first-none m))
          (row-left s cap l (x ∷ m) no_slot no_slot old)

      row_m : Row t cap (end_or no_slot l) m no_slot
      row_m =
          row-prev s t cap m x.slot (end_or no_slot l) no_slot once_m
          (λ j a. K.only.slots j NEXT (at_m j a) (lit< tt) (λ z. not_last l j (at_m j a) (λ b. l_not_m j b a) (z.3 refl)))
          (λ j a n. K.only.slots j PREV (at_m j a) (lit< tt) (λ z. n (z.2 refl)))
          (λ j a e. rw e (K.right-prev (rw e at (at_m j a))) ∙ sym (end_last l))
          (row-right s cap l (x ∷ m) no_slot no_slot old).1

      row : Row t cap no_slot (l ++ m) no_slot
      row = row-both t cap l m no_slot no_slot row_l row_m

      firsts : (l ≡ []) ⊎ (last_slot l < cap) → head t FIRST ≡ first_slot (l ++ m)
      firsts (inl e) = let h : cap ≤ last_slot l = rw e few in K.left_end h ∙ rw e
      firsts (inr h) = K.only.heads FIRST (lit< tt) (λ z. let y = z.2 refl in omega arith) ∙ c.first-is ∙ sym (first-same l h)

      lasts : (m ≡ []) ⊎ (first_slot m < cap) → head t LAST ≡ last_slot (l ++ m)
      lasts (inl e) = let h : cap ≤ first_slot m = rw e few in K.right_end h ∙ rw (e, append-nil l)
      lasts (inr h) = K.only.heads LAST (lit< tt) (λ z. let y = z.3 refl in omega arith) ∙ c.last-is ∙ sym (last-same m h)
