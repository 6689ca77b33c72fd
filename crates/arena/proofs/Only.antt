-- The laws of `Only`: nothing written, one word, one write after another, more that may differ; and the slots' own writes.
-- A reader may rely on: W and H are the caller's, and each law asks only that they allow what the step writes.
use Prim.Native.Nat.{ℕ, ◌+◌, ◌<◌}
use mathlib.Core.Path.{◌≡◌, refl, ◌∙◌}
use mathlib.Core.List.{List}
use native.Mathlib.Omega.{arith}
use lib.Dec.{lit<}
use Rattle.handle.specs.Numbers.{no_slot}
use Rattle.arena.specs.Words.{Long, head_words, fields, put, put_head, KEY, LEFT, RIGHT, RANK, BACK, PREV, NEXT, GENERATION, VALUE, STACK, HEIGHT}
use Rattle.arena.specs.inner.Laying.{unlinked, blank_of}
use Rattle.arena.specs.inner.Only.{Only}
use Rattle.arena.specs.inner.Slots.{popped, pushed}
use Rattle.arena.proofs.WordLaws.{length_put, length_put_head, field-other, head-put, rest_put, head-other, field-put_head, rest-put_head}

module _ {cap : ℕ} {W : ℕ → ℕ → Type 0} {H : ℕ → Type 0} where
  pub only_none : {s : List ℕ} → Only s s cap W H
  only_none = record { long = refl; slots = λ j g hj hg n. refl; heads = λ h hh n. refl; rest = λ k hk. refl }

  pub only_trans : {s t u : List ℕ} → Only s t cap W H → Only t u cap W H → Only s u cap W H
  only_trans a b = record {
    long = b.long ∙ a.long;
    slots = λ j g hj hg n. b.slots j g hj hg n ∙ a.slots j g hj hg n;
    heads = λ h hh n. b.heads h hh n ∙ a.heads h hh n;
    rest = λ k hk. b.rest k hk ∙ a.rest k hk;
  }

  pub only-room : {s t : List ℕ} → Only s t cap W H → Long s cap → Long t cap
  only-room o room = rw o.long room

  pub only-put : (s : List ℕ) (i f v : ℕ) → i < cap → f < fields → W i f → Only s (put s cap i f v) cap W H
  only-put s i f v hi hf w = record {
    long = length_put s cap i f v;
    slots = λ j g hj hg n. field-other s cap i f v hi hf j g hj hg (λ e. n (rw (e.0, e.1) w));
    heads = λ h hh n. head-put s cap i f v hi hf h hh;
    rest = rest_put s cap i f v hi hf;
  }

  pub only-put_head : (s : List ℕ) (h v : ℕ) → h < head_words → H h → Only s (put_head s h v) cap W H
  only-put_head s h v hh w = record {
    long = length_put_head s h v;
    slots = λ j g hj hg n. field-put_head s h v hh cap j g hj hg;
    heads = λ g hg n. head-other s h v hh g (λ e. n (rw e w));
    rest = λ k hk. rest-put_head s h v hh k (omega arith);
  }

  -- what may differ here may differ there
  pub only_weaken : {s t : List ℕ} {W' : ℕ → ℕ → Type 0} {H' : ℕ → Type 0} → ((j g : ℕ) → j < cap → W j g → W' j g) → ((h : ℕ) → H h → H' h)
      → Only s t cap W H → Only s t cap W' H'
  only_weaken f g o = record {
    long = o.long;
    slots = λ j k hj hk n. o.slots j k hj hk (λ x. n (f j k hj x));
    heads = λ h hh n. o.heads h hh (λ x. n (g h x));
    rest = o.rest;
  }

  -- the stack's place p, which is a word of some slot, and its height
  pub only-popped : (s : List ℕ) (p : ℕ) → p < cap → W p STACK → H HEIGHT → Only s (popped s cap p) cap W H
  unfolding popped
  only-popped s p l w h = only_trans (only-put s p STACK no_slot l (lit< tt) w) (only-put_head _ HEIGHT p (lit< tt) h)

  -- a slot without an entry: all its fields but GENERATION and STACK
  pub only-blank : (s : List ℕ) (i b : ℕ) → i < cap → ((g : ℕ) → g < STACK → ¬ (g ≡ GENERATION) → W i g) → Only s (blank_of s cap i b) cap W H
  unfolding blank_of unlinked
  only-blank s i b hi w =
      only_trans (write s KEY 0 (lit< tt) (λ e. omega arith))
      (only_trans (write _ VALUE 0 (lit< tt) (λ e. omega arith))
      (only_trans (write _ LEFT no_slot (lit< tt) (λ e. omega arith))
      (only_trans (write _ RIGHT no_slot (lit< tt) (λ e. omega arith))
      (only_trans (write _ RANK 0 (lit< tt) (λ e. omega arith))
      (only_trans (write _ BACK b (lit< tt) (λ e. omega arith))
      (only_trans (write _ PREV no_slot (lit< tt) (λ e. omega arith)) (write _ NEXT no_slot (lit< tt) (λ e. omega arith))))))))
    where
      write : (t : List ℕ) (f v : ℕ) → f < STACK → ¬ (f ≡ GENERATION) → Only t (put t cap i f v) cap W H
      write t f v hf n = only-put t i f v hi (omega arith) (w f hf n)

  -- the slot i, freed to the stack's place h
  pub only-pushed : (s : List ℕ) (i h v : ℕ) → i < cap → h < cap → ((g : ℕ) → g < STACK → W i g) → W h STACK → H HEIGHT → Only s (pushed s cap i h v) cap W H
  unfolding pushed
  only-pushed s i h v hi hh w k m =
      only_trans (only-blank s i h hi (λ g l n. w g l))
      (only_trans (only-put _ i GENERATION (v + 1) hi (lit< tt) (w GENERATION (lit< tt)))
      (only_trans (only-put _ h STACK i hh (lit< tt) k) (only-put_head _ HEIGHT (h + 1) (lit< tt) m)))
