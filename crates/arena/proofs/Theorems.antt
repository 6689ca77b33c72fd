-- The ground's theorems for a reader: what laying out leaves, when it refuses, and when a header passes.
use Prim.Native.Nat.{ℕ, zero, suc, ◌<◌, ◌≤◌}
use mathlib.Core.Path.{◌≡◌, refl, sym, ◌∙◌}
use mathlib.Core.Bool.{Bool, true, false}
use mathlib.Core.List.{List}
use native.Mathlib.Omega.{arith}
use lib.Dec.{ltb, lit<, lit≤}
use borrow.Author.Tests.{ltb-false}
use lib.ListN.{length, get_or}
use Rattle.handle.specs.declared.Refusal.TheVariants.{BadLayout, NotSound}
use Rattle.arena.specs.Branch.{ifte}
use Rattle.handle.specs.Numbers.{limit}
use Rattle.handle.proofs.Limits.{limit-fits}
use Rattle.arena.specs.Words.{need, Long, head_words, head, CAPACITY}
use Rattle.arena.specs.Header.{header_of, Passing}
use Rattle.arena.specs.Laying.{GoodLayout, header_words, Fresh}
use Rattle.arena.specs.inner.Laying.{zeroed, fresh_head, laid_words, lay_out_words, good_layout}
use Rattle.arena.proofs.WordLaws.{lit≢, length_put_head, head_at, head-other, rest-put_head}
use Rattle.arena.proofs.OneStore.{one_store}
use Rattle.arena.proofs.FreshStore.{lay_slots_lem, zero_words}
use Rattle.arena.proofs.SlotReads.{good-yes, good-is, lay_refused, header-passes}
use Rattle.std.specs.Prelude.{Result, Ok, Err}
use Rattle.handle.specs.declared.Refusal.{Refusal}

module _ (s : List ℕ) (cap top : ℕ) (room : Long s 0) where
  length_zeroed : length (zeroed head_words s) ≡ length s
  length_zeroed = (zero_words head_words s (lit≤ tt) room).only.long

  pub length_head : length (fresh_head s cap top) ≡ length s
  unfolding fresh_head
  length_head = simp (length_put_head, length_zeroed)

  pub head-rest : (k : ℕ) → head_words ≤ k → get_or (fresh_head s cap top) k 0 ≡ get_or s k 0
  unfolding fresh_head
  head-rest k hk = simp (rest-put_head, lit<, tt {0}) ((zero_words head_words s (lit≤ tt) room).only.rest k hk)

  -- the six words in use, and those behind them
  pub head-words : (h : ℕ) → h < head_words → head (fresh_head s cap top) h ≡ get_or (header_words cap top) h 0
  unfolding fresh_head
  head-words zero l = simp (head_at (length s) room, head-other, length_put_head, length_zeroed, lit<, lit≢, tt {0})
  head-words (suc zero) l = simp (head_at (length s) room, head-other, length_put_head, length_zeroed, lit<, lit≢, tt {0})
  head-words (suc (suc zero)) l = simp (head_at (length s) room, head-other, length_put_head, length_zeroed, lit<, lit≢, tt {0})
  head-words (suc (suc (suc zero))) l = simp (head_at (length s) room, head-other, length_put_head, length_zeroed, lit<, lit≢, tt {0})
  head-words (suc (suc (suc (suc zero)))) l = simp (head_at (length s) room, head-other, length_put_head, length_zeroed, lit<, lit≢, tt {0})
  head-words (suc (suc (suc (suc (suc zero))))) l = head_at (length s) room _ 5 _ (lit< tt) (simp (length_put_head, length_zeroed))
  head-words (suc (suc (suc (suc (suc (suc n)))))) l =
      let a : suc (suc (suc (suc (suc (suc n))))) ≡ 0 → ⊥ = λ e. omega arith in
      let b : suc (suc (suc (suc (suc (suc n))))) ≡ 1 → ⊥ = λ e. omega arith in
      let c : suc (suc (suc (suc (suc (suc n))))) ≡ 2 → ⊥ = λ e. omega arith in
      let d : suc (suc (suc (suc (suc (suc n))))) ≡ 3 → ⊥ = λ e. omega arith in
      let e : suc (suc (suc (suc (suc (suc n))))) ≡ 4 → ⊥ = λ e. omega arith in
      let f : suc (suc (suc (suc (suc (suc n))))) ≡ 5 → ⊥ = λ e. omega arith in
      simp (head-other, lit<, tt {0}) ((zero_words head_words s (lit≤ tt) room).zeros _ l (omega arith))

-- a good layout: every word afterwards
pub laid-is : (s : List ℕ) (cap top : ℕ) → Long s cap → Fresh s (laid_words s cap top) cap top
unfolding laid_words
laid-is s cap top room =
    let bare : Long s 0 = omega arith in
    let long = length_head s cap top bare in
    let L = lay_slots_lem cap (fresh_head s cap top) cap (omega arith) (rw long room) in
    record {
      long = L.only.long ∙ long;
      heads = λ h hh. L.only.heads h hh (λ z. z) ∙ head-words s cap top bare h hh;
      slots = λ i f hi hf. L.fresh i f hi hf (omega arith);
      rest = λ k hk. L.only.rest k hk ∙ head-rest s cap top bare k (omega arith);
    }

-- "BadLayout: laying out with capacity or top generation out of range, or a store too short", exactly; then nothing changes
pub lays-out : (s : List ℕ) (cap top : ℕ) → GoodLayout (length s) cap top → lay_out_words s cap top ≡ (laid_words s cap top, Ok tt)
unfolding lay_out_words
lays-out s cap top g = rw (good-is (length s) cap top g)

pub refuses : (s : List ℕ) (cap top : ℕ) → ¬ GoodLayout (length s) cap top → lay_out_words s cap top ≡ (s, Err BadLayout)
refuses s cap top n = go (good_layout (length s) cap top) refl
  where
    go : (b : Bool) → good_layout (length s) cap top ≡ b → lay_out_words s cap top ≡ (s, Err BadLayout)
    go true e = absurd (n (good-yes (length s) cap top e))
    go false e = sym (lay_refused s cap top e)

-- the statement `Fresh` leaves room for one store only
pub fresh-one : (s t u : List ℕ) (cap top : ℕ) → Fresh s t cap top → Fresh s u cap top → t ≡ u
fresh-one s t u cap top a b = one_store t u cap (record {
  long = a.long ∙ sym b.long;
  heads = λ h hh n. a.heads h hh ∙ sym (b.heads h hh);
  slots = λ i f hi hf n. a.slots i f hi hf ∙ sym (b.slots i f hi hf);
  rest = λ k hk. a.rest k hk ∙ sym (b.rest k hk);
})

-- a header passes exactly when the store is long enough and its capacity lies in 1 to the limit
pub passes : (s : List ℕ) (cap : ℕ) → Passing s cap → header_of s ≡ Ok cap
passes s cap p = sym (header-passes s cap (sym p.capacity) (let r = p.room in omega arith) p.some p.few p.room.0)

-- one test of the header's chain
no-fail : (t : Bool) (b : Result ℕ Refusal) (cap : ℕ) → ifte t (Err NotSound) b ≡ Ok cap → (t ≡ false) × (b ≡ Ok cap)
no-fail true b cap e = let z : ◌≡◌ {A = ℕ} 0 1 = cc in absurd (omega arith)
no-fail false b cap e = (refl, e)

pub passing : (s : List ℕ) (cap : ℕ) → header_of s ≡ Ok cap → Passing s cap
unfolding header_of
passing s cap e =
    let a = no-fail (ltb (length s) head_words) _ cap e in
    let b = no-fail (ltb (head s CAPACITY) 1) _ cap a.1 in
    let c = no-fail (ltb limit (head s CAPACITY)) _ cap b.1 in
    let d = no-fail (ltb (length s) (need (head s CAPACITY))) _ cap c.1 in
    let is : head s CAPACITY ≡ cap = same d.1 in
    let few : cap ≤ limit = rw is at (ltb-false limit (head s CAPACITY) c.0) in
    let fits = limit-fits in
    record {
      capacity = is;
      some = rw is at (ltb-false (head s CAPACITY) 1 b.0);
      few = few;
      room = (rw is at (ltb-false (length s) (need (head s CAPACITY)) d.0), omega arith);
    }
  where
    same : {m n : ℕ} → ◌≡◌ {A = Result ℕ Refusal} (Ok m) (Ok n) → m ≡ n
    same p = cc
