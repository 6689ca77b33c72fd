-- The laws of the words: all that anything above knows of `field`, `put`, `head` and `put_head`.
-- A write is seen in its own place and nowhere else, and keeps the length. No law shows where a field stands.
use Prim.Native.Nat.{ℕ, ◌<◌, ◌≤◌}
use mathlib.Core.Path.{◌≡◌}
use mathlib.Core.List.{List}
use mathlib.Core.Bool.{not}
use native.Mathlib.Omega.{arith}
use native.Mathlib.Decide.{ℕ_discrete}
use lib.Dec.{T, eqb, T_not, eqb_refl}
use lib.ListN.{length, get_or, length-set}
use lib.Seq.{get_or-set_same, get_or-set_other}
use Rattle.arena.specs.Words.{need, Long, head_words, fields, word_at, field, put, head, put_head}
use Rattle.arena.proofs.Places.{place-within, place-one}

pub length_put : (s : List ℕ) (cap i f v : ℕ) → length (put s cap i f v) ≡ length s
unfolding put
length_put s cap i f v = length-set s (word_at cap i f) v

pub length_put_head : (s : List ℕ) (h v : ℕ) → length (put_head s h v) ≡ length s
unfolding put_head
length_put_head s h v = length-set s h v

pub room-put : (s : List ℕ) (cap i f v : ℕ) → Long s cap → Long (put s cap i f v) cap
room-put s cap i f v room = omega (arith, length_put s cap i f v)

-- two numerals that differ: `lit≢ tt`
pub lit≢ : {m n : ℕ} → T (not (eqb m n)) → m ≡ n → ⊥
lit≢ {m} {n} t e = T_not (eqb m n) t (rw (← e) (eqb_refl m))

module _ (s : List ℕ) (cap i f v : ℕ) (hi : i < cap) (hf : f < fields) where
  pub field-same : Long s cap → field (put s cap i f v) cap i f ≡ v
  unfolding put field
  field-same room = let w = place-within cap i f hi hf in get_or-set_same s (word_at cap i f) v 0 (omega arith)

  -- of another slot, whatever the fields
  pub field-slot : (j g : ℕ) → j < cap → g < fields → (j ≡ i → ⊥) → field (put s cap i f v) cap j g ≡ field s cap j g
  unfolding put field
  field-slot j g hj hg ne =
      get_or-set_other s (word_at cap i f) (word_at cap j g) v 0 (λ e. let p = place-one cap j g i f hj hi hg hf e in ne p.0)

  -- another field, of whatever slot
  pub field_off : (j g : ℕ) → j < cap → g < fields → (g ≡ f → ⊥) → field (put s cap i f v) cap j g ≡ field s cap j g
  unfolding put field
  field_off j g hj hg ne =
      get_or-set_other s (word_at cap i f) (word_at cap j g) v 0 (λ e. let p = place-one cap j g i f hj hi hg hf e in ne p.1)

  -- another place, be it of another slot or another field
  pub field-other : (j g : ℕ) → j < cap → g < fields → ((j ≡ i) × (g ≡ f) → ⊥) → field (put s cap i f v) cap j g ≡ field s cap j g
  field-other j g hj hg ne = go (ℕ_discrete g f)
    where
      go : Dec (g ≡ f) → field (put s cap i f v) cap j g ≡ field s cap j g
      go (yes e) = field-slot j g hj hg (λ k. ne (k, e))
      go (no h) = field_off j g hj hg h

  pub head-put : (h : ℕ) → h < head_words → head (put s cap i f v) h ≡ head s h
  unfolding put head
  head-put h hh = let w = place-within cap i f hi hf in get_or-set_other s (word_at cap i f) h v 0 (λ e. omega arith)

  -- past what the capacity needs
  pub rest_put : (k : ℕ) → need cap ≤ k → get_or (put s cap i f v) k 0 ≡ get_or s k 0
  unfolding put
  rest_put k hk = let w = place-within cap i f hi hf in get_or-set_other s (word_at cap i f) k v 0 (λ e. omega arith)

-- the same for a store behind other writes: its length is that of the store with room, which `simp length_put` shows
pub field_at : (cap n : ℕ) → need cap ≤ n → (s : List ℕ) (i f v : ℕ) → i < cap → f < fields → length s ≡ n → field (put s cap i f v) cap i f ≡ v
field_at cap n room s i f v hi hf e = field-same s cap i f v hi hf (rw e room)

module _ (s : List ℕ) (h v : ℕ) (hh : h < head_words) where
  pub head-same : Long s 0 → head (put_head s h v) h ≡ v
  unfolding put_head head
  head-same room = get_or-set_same s h v 0 (omega arith)

  pub head-other : (g : ℕ) → (g ≡ h → ⊥) → head (put_head s h v) g ≡ head s g
  unfolding put_head head
  head-other g ne = get_or-set_other s h g v 0 ne

  pub field-put_head : (cap i f : ℕ) → i < cap → f < fields → field (put_head s h v) cap i f ≡ field s cap i f
  unfolding put_head field
  field-put_head cap i f hi hf = let w = place-within cap i f hi hf in get_or-set_other s h (word_at cap i f) v 0 (λ e. omega arith)

  -- behind the header
  pub rest-put_head : (k : ℕ) → head_words ≤ k → get_or (put_head s h v) k 0 ≡ get_or s k 0
  unfolding put_head
  rest-put_head k hk = get_or-set_other s h k v 0 (λ e. omega arith)

pub head_at : (n : ℕ) → need 0 ≤ n → (s : List ℕ) (h v : ℕ) → h < head_words → length s ≡ n → head (put_head s h v) h ≡ v
head_at n room s h v hh e = head-same s h v hh (rw e room)

-- a read sees nothing past the needed words: two stores that agree on these are read alike
module _ (s t : List ℕ) (cap : ℕ) (same : (k : ℕ) → k < need cap → get_or s k 0 ≡ get_or t k 0) where
  pub field_needed : (i f : ℕ) → i < cap → f < fields → field s cap i f ≡ field t cap i f
  unfolding field
  field_needed i f hi hf = same (word_at cap i f) (place-within cap i f hi hf).high

  pub head_needed : (h : ℕ) → h < head_words → head s h ≡ head t h
  unfolding head
  head_needed h hh = same h (omega arith)
