-- Any list of calls: a sound queue stays sound; and laying out is refused 4 exactly where it should be.
-- A reader may rely on answer-sound and run_sound for every call, laying out included.
use mathlib.Core.Path.{◌≡◌, refl}
use mathlib.Core.Bool.{Bool, true, false, ◌&&◌}
use mathlib.Core.List.{List, [], ◌∷◌}
use Prim.Native.Nat.{ℕ}
use native.Mathlib.Omega.{arith}
use lib.Dec.{leb}
use borrow.Author.Tests.{le-leb, leb-true}
use Rattle.handle.specs.Numbers.{limit, top_limit}
use Rattle.rules.specs.Queue.{Queue, fresh}
use Rattle.rules.specs.Answers.{laid, not_laid, bad_layout}
use Rattle.rules.specs.Sound.{Sound}
use Rattle.rules.specs.LayOut.{Good, good, laid_by, lay_out}
use Rattle.rules.specs.Table.{LayAnswers}
use Rattle.rules.specs.Calls.{Call, inserts, removal, laying_out, looks, answer, run_by, run}
use Rattle.rules.proofs.Kept.{fresh-sound}
use Rattle.rules.proofs.Removing.{remove-sound}
use Rattle.rules.proofs.Insertions.{insert-sound}

-- the test of a good layout, taken apart and put together
both : {a b : Bool} → a ≡ true → b ≡ true → (a && b) ≡ true
both e f = rw (e, f)

both_out : (a b : Bool) → (a && b) ≡ true → (a ≡ true) × (b ≡ true)
both_out true b e = (refl, e)
both_out false b e = absurd (let z : ◌≡◌ {A = ℕ} 0 1 = cc in omega arith)

module _ (enough : ℕ → Bool) (capacity top : ℕ) where
  pub good-yes : Good enough capacity top → good enough capacity top ≡ true
  good-yes g =
      let r = g.range in
      both (both (both (both (le-leb 1 capacity r.capacity-from) (le-leb capacity limit r.capacity-to)) (le-leb 1 top r.top_from)) (le-leb top top_limit r.top_to)) g.long

  pub good_fact : good enough capacity top ≡ true → Good enough capacity top
  good_fact e =
      let a = both_out (leb 1 capacity && leb capacity limit && leb 1 top && leb top top_limit) (enough capacity) e in
      let b = both_out (leb 1 capacity && leb capacity limit && leb 1 top) (leb top top_limit) a.0 in
      let c = both_out (leb 1 capacity && leb capacity limit) (leb 1 top) b.0 in
      let d = both_out (leb 1 capacity) (leb capacity limit) c.0 in
      record {
        range = record { capacity-from = leb-true 1 capacity d.0; capacity-to = leb-true capacity limit d.1; top_from = leb-true 1 top c.1; top_to = leb-true top top_limit b.1 };
        long = a.1;
      }

  pub not_good : good enough capacity top ≡ false → ¬ Good enough capacity top
  not_good e g = let f = good-yes g in absurd (let z : ◌≡◌ {A = ℕ} 0 1 = cc in omega arith)

  lay_told : (b : Bool) → good enough capacity top ≡ b → (q : Queue) → LayAnswers enough capacity top (laid_by b capacity top q).0
  lay_told true e q = good_fact e
  lay_told false e q = (refl, not_good e)

  -- refused 4 exactly where it should be, and no other number
  pub lay_answers : (q : Queue) → LayAnswers enough capacity top (lay_out enough capacity top q).0
  unfolding lay_out
  lay_answers q = lay_told (good enough capacity top) refl q

  pub lay_done : Good enough capacity top → (q : Queue) → lay_out enough capacity top q ≡ (laid, fresh capacity top)
  unfolding lay_out
  lay_done g q = rw (good-yes g)

  test_no : (b : Bool) → good enough capacity top ≡ b → ¬ Good enough capacity top → b ≡ false
  test_no true e n = absurd (n (good_fact e))
  test_no false e n = refl

  pub lay_refused : ¬ Good enough capacity top → (q : Queue) → lay_out enough capacity top q ≡ (not_laid bad_layout, q)
  unfolding lay_out
  lay_refused n q = rw (test_no (good enough capacity top) refl n)

  lay_sound : (b : Bool) → good enough capacity top ≡ b → (q : Queue) → Sound q → Sound (laid_by b capacity top q).1
  lay_sound true e q s = fresh-sound capacity top (good_fact e).range
  lay_sound false e q s = s

-- a call keeps soundness
pub answer-sound : (enough : ℕ → Bool) (c : Call) (q : Queue) → Sound q → Sound (answer enough c q).1
unfolding answer lay_out
answer-sound enough (inserts kind k v) q s = insert-sound k v q s kind
answer-sound enough (removal h) q s = remove-sound h q s
answer-sound enough (laying_out capacity top) q s = lay_sound enough capacity top (good enough capacity top) refl q s
answer-sound enough (looks l) q s = s

pub run_sound : (enough : ℕ → Bool) (l : List Call) (q : Queue) → Sound q → Sound (run enough l q).1
unfolding run_by
run_sound enough [] q s = s
run_sound enough (c ∷ l) q s = run_sound enough l (answer enough c q).1 (answer-sound enough c q s)
