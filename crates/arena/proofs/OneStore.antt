-- Header, fields, length and the words past the needed ones: together they are the whole store.
use Prim.Native.Nat.{ℕ, ◌+◌, ◌-◌, ◌*◌, ◌/◌, ◌%◌, ◌<◌, ◌≤◌}
use mathlib.Core.Path.{◌≡◌, ◌∙◌}
use mathlib.Core.List.{List}
use native.Mathlib.Omega.{arith}
use native.Mathlib.Decide.{dec_lt}
use lib.ListN.{get_or}
use lib.Seq.{ext_get_or}
use Rattle.arena.specs.Words.{need, head_words, fields, word_at, field, head}
use Rattle.arena.specs.inner.Only.{Only, NoField, NoHead}
use Rattle.arena.proofs.Places.{place-near, place-far}

-- the slot and the field whose place is k
record Named (cap k : ℕ) : Type 0 where
  slot : ℕ
  which : ℕ
  low : slot < cap
  small : which < fields
  is : word_at cap slot which ≡ k

named : (cap k : ℕ) → head_words ≤ k → k < need cap → Named cap k
named cap k lo hi = go (dec_lt k (head_words + cap * 4))
  where
    go : Dec (k < head_words + cap * 4) → Named cap k
    go (yes h) = record {
      slot = (k - head_words) / 4;
      which = (k - head_words) % 4;
      low = omega arith;
      small = omega arith;
      is = place-near cap ((k - head_words) / 4) ((k - head_words) % 4) (omega arith) ∙ omega arith;
    }
    go (no h) = record {
      slot = (k - (head_words + cap * 4)) / 6;
      which = 4 + (k - (head_words + cap * 4)) % 6;
      low = omega arith;
      small = omega arith;
      is = place-far cap ((k - (head_words + cap * 4)) / 6) (4 + (k - (head_words + cap * 4)) % 6) (omega arith) ∙ omega arith;
    }

pub one_store : (s t : List ℕ) (cap : ℕ) → Only t s cap NoField NoHead → s ≡ t
unfolding field head
one_store s t cap a = ext_get_or 0 s t a.long (λ k h. at k (dec_lt k head_words) (dec_lt k (need cap)))
  where
    at : (k : ℕ) → Dec (k < head_words) → Dec (k < need cap) → get_or s k 0 ≡ get_or t k 0
    at k (yes h) d = a.heads k h (λ z. z)
    at k (no h) (yes d) =
        let n = named cap k (omega arith) d in
        rw n.is at (a.slots n.slot n.which n.low n.small (λ z. z))
    at k (no h) (no d) = a.rest k (omega arith)
