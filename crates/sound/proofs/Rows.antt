-- A row of entries each joined to the one before it, as the walk meets them, and that such a row is the chain of the words.
-- A reader may rely on: distinct slots come from the chain, not from the keys: a slot has one NEXT.
use Prim.Native.Nat.{ℕ, suc, ◌≤◌, ◌<◌}
use mathlib.Core.Path.{◌≡◌, refl, sym, ap, ◌∙◌}
use mathlib.Core.List.{List, [], ◌∷◌, ◌++◌}
use native.Mathlib.Omega.{arith}
use lib.ListN.{length}
use borrow.Author.Tests.{lt-ltb, le-ltb}
use Rattle.handle.specs.Numbers.{no_slot}
use Rattle.arena.specs.Words.{field, head, KEY, PREV, NEXT, FIRST, LAST}
use Rattle.wavl.specs.Lists.{All, Differ, Once}
use Rattle.wavl.specs.Entry.{Entry, Before, Rising, slots}
use Rattle.wavl.proofs.Lists.{Neighbours, pairwise_of}
use Rattle.rules.specs.Sound.{Under}
use Rattle.queue_of_store.specs.Ends.{first_slot}
use Rattle.queue_of_store.specs.Chain.{Chain, ChainWords}
use Rattle.queue_of_store.specs.Entries.{AllEntries}
use Rattle.queue_of_store.proofs.Chains.{end_or, end_last}
use Rattle.sound.specs.inner.Joints.{after_of, before_of}
use Rattle.sound.proofs.NodeFacts.{Joint}

-- the entries l behind the slot q, of which x is the last; x is q where there are none
abbrev pub Joined : List ℕ → ℕ → ℕ → List Entry → ℕ → Type 0
Joined s cap q [] x = q ≡ x
Joined s cap q (e ∷ l) x = Joint s cap q e.slot × Joined s cap e.slot l x

pub joined-both : (s : List ℕ) (cap : ℕ) (l m : List Entry) (q x y : ℕ) → Joined s cap q l x → Joined s cap x m y → Joined s cap q (l ++ m) y
joined-both s cap [] m q x y a b = rw a b
joined-both s cap (e ∷ l) m q x y a b = (a.0, joined-both s cap l m e.slot x y a.1 b)

module _ (s : List ℕ) (cap : ℕ) where
  pub after-slot : (x : ℕ) → x < cap → after_of s cap x ≡ field s cap x NEXT
  unfolding after_of
  after-slot x l = rw (lt-ltb x cap l)

  pub before-slot : (y : ℕ) → y < cap → before_of s cap y ≡ field s cap y PREV
  unfolding before_of
  before-slot y l = rw (lt-ltb y cap l)

  module _ (few : cap ≤ no_slot) where
    pub after_none : after_of s cap no_slot ≡ head s FIRST
    unfolding after_of
    after_none = rw (le-ltb no_slot cap few)

    pub before-none : before_of s cap no_slot ≡ head s LAST
    unfolding before_of
    before-none = rw (le-ltb no_slot cap few)

  -- what stands after q, and which slot is the last
  first-from : (l : List Entry) (q x : ℕ) → Joined s cap q l x → Joint s cap x no_slot → after_of s cap q ≡ first_slot l
  first-from [] q x j e = rw j e.after
  first-from (f ∷ l) q x j e = j.0.after

  last-from : (l : List Entry) (q x : ℕ) → Joined s cap q l x → x ≡ end_or q l
  last-from [] q x j = sym j
  last-from (f ∷ l) q x j = last-from l f.slot x j.1

  chain-from : (l : List Entry) (q x : ℕ) → All (Under cap) (slots l) → Joined s cap q l x → Joint s cap x no_slot → Chain s cap q l
  unfolding slots
  chain-from [] q x u j e = tt
  chain-from (f ∷ l) q x u j e = (
    record {
      prev-is = sym (before-slot f.slot u.0) ∙ j.0.before;
      next-is = sym (after-slot f.slot u.0) ∙ first-from l f.slot x j.1 e;
    },
    chain-from l f.slot x u.1 j.1 e,
  )

  pub chain-words : cap ≤ no_slot → (l : List Entry) (x : ℕ) → All (Under cap) (slots l) → Joined s cap no_slot l x → Joint s cap x no_slot → ChainWords s cap l
  chain-words few l x u j e = record {
    first-is = sym (after_none few) ∙ first-from l no_slot x j e;
    last-is = sym (before-none few) ∙ e.before ∙ last-from l no_slot x j ∙ end_last l;
    chain = chain-from l no_slot x u j e;
  }

  rise_trans : (e f g : Entry) → Before e f → Before f g → Before e g
  rise_trans e f g a b = let a' : e.key < f.key = a in let b' : f.key < g.key = b in omega arith

  neighbours : (l : List Entry) (q x : ℕ) → All (Under cap) (slots l) → AllEntries s cap l → Joined s cap q l x → Neighbours Before rise_trans l
  unfolding slots
  neighbours [] q x u v j = tt
  neighbours (e ∷ []) q x u v j = tt
  neighbours (e ∷ (f ∷ l)) q x u v j =
      let k : field s cap e.slot KEY < field s cap f.slot KEY = j.1.0.rise u.0 u.1.0 in
      let m = v.0.key-is in
      let n = v.1.0.key-is in
      (omega arith, neighbours (f ∷ l) e.slot x u.1 v.1 j.1)

  pub rising-from : (l : List Entry) (q x : ℕ) → All (Under cap) (slots l) → AllEntries s cap l → Joined s cap q l x → Rising l
  rising-from l q x u v j = pairwise_of Before rise_trans l (neighbours l q x u v j)

  -- two tails of chains that begin with one slot are of one length
  same_tail : cap ≤ no_slot → (l m : List Entry) (e f : Entry) (p q : ℕ) → Chain s cap p (e ∷ l) → Chain s cap q (f ∷ m) → All (Under cap) (slots (e ∷ l))
      → All (Under cap) (slots (f ∷ m)) → e.slot ≡ f.slot → length l ≡ length m
  unfolding slots
  same_tail few [] [] e f p q c d u v i = refl
  same_tail few [] (g ∷ m) e f p q c d u v i =
      let n : no_slot ≡ g.slot = sym c.0.next-is ∙ rw i d.0.next-is in
      let h : g.slot < cap = v.1.0 in
      absurd (omega arith)
  same_tail few (g ∷ l) [] e f p q c d u v i =
      let n : g.slot ≡ no_slot = sym c.0.next-is ∙ rw i d.0.next-is in
      let h : g.slot < cap = u.1.0 in
      absurd (omega arith)
  same_tail few (g ∷ l) (h ∷ m) e f p q c d u v i =
      let n : g.slot ≡ h.slot = sym c.0.next-is ∙ rw i d.0.next-is in
      ap suc (same_tail few l m g h e.slot f.slot c.1 d.1 u.1 v.1 n)

  -- a slot that more entries follow is none of l
  off : cap ≤ no_slot → (l : List Entry) (p : ℕ) → Chain s cap p l → All (Under cap) (slots l) → (e : Entry) (m : List Entry) (q : ℕ) → Chain s cap q (e ∷ m)
      → All (Under cap) (slots (e ∷ m)) → length l ≤ length m → All (Differ e.slot) (slots l)
  unfolding slots
  off few [] p c u e m q d v h = tt
  off few (f ∷ l) p c u e m q d v h = (
    λ i. let n = same_tail few m l e f q p d c v u i in absurd (omega arith),
    off few l f.slot c.1 u.1 e m q d v (omega arith),
  )

  pub once-chain : cap ≤ no_slot → (l : List Entry) (p : ℕ) → Chain s cap p l → All (Under cap) (slots l) → Once (slots l)
  unfolding slots
  once-chain few [] p c u = tt
  once-chain few (e ∷ l) p c u = (off few l e.slot c.1 u.1 e l p c u (omega arith), once-chain few l e.slot c.1 u.1)
