-- "Each refusal returns its number alone and changes nothing"; search, reading, stepping, look-ahead and check change nothing either.
-- A reader may rely on changes_nothing for every call and every queue, sound or not: an answer that tells nothing has changed nothing.
use mathlib.Core.Path.{◌≡◌, refl}
use mathlib.Core.Bool.{Bool, true, false}
use Prim.Native.Nat.{ℕ}
use native.Mathlib.Omega.{arith}
use Rattle.rules.specs.Queue.{Handle, Queue}
use Rattle.rules.specs.Answers.{Inserted, new, replacing, not_inserted, Removed, removed, not_removed}
use Rattle.rules.specs.LayOut.{good, laid_by, lay_out}
use Rattle.rules.specs.Insert.{Kind, insert}
use Rattle.rules.specs.Remove.{remove}
use Rattle.rules.specs.Calls.{Call, inserts, removal, laying_out, looks, answer}
use Rattle.rules.proofs.Unchanged.{insert_unchanged, remove_unchanged}
use Rattle.history.specs.Deed.{nothing, deed}

module _ (q : Queue) where
  inserting : (kind : Kind) (key value : ℕ) (a : Inserted) → (insert kind key value q).0 ≡ a → deed (inserts kind key value) a ≡ nothing
      → (insert kind key value q).1 ≡ q
  unfolding deed
  inserting kind key value (new h) e n = absurd (let z : ◌≡◌ {A = ℕ} 0 1 = cc in omega arith)
  inserting kind key value (replacing h v) e n = absurd (let z : ◌≡◌ {A = ℕ} 0 1 = cc in omega arith)
  inserting kind key value (not_inserted m) e n = insert_unchanged key q kind value m e

  removing : (h : Handle) (a : Removed) → (remove h q).0 ≡ a → deed (removal h) a ≡ nothing → (remove h q).1 ≡ q
  unfolding deed
  removing h (removed k v m) e n = absurd (let z : ◌≡◌ {A = ℕ} 0 1 = cc in omega arith)
  removing h (not_removed m) e n = remove_unchanged h q m e

  laying : (capacity top : ℕ) (b : Bool) → deed (laying_out capacity top) (laid_by b capacity top q).0 ≡ nothing → (laid_by b capacity top q).1 ≡ q
  unfolding deed
  laying capacity top true n = absurd (let z : ◌≡◌ {A = ℕ} 0 1 = cc in omega arith)
  laying capacity top false n = refl

  pub changes_nothing : (enough : ℕ → Bool) (c : Call) → deed c (answer enough c q).0 ≡ nothing → (answer enough c q).1 ≡ q
  unfolding answer lay_out
  changes_nothing enough (inserts kind k v) n = inserting kind k v (insert kind k v q).0 refl n
  changes_nothing enough (removal h) n = removing h (remove h q).0 refl n
  changes_nothing enough (laying_out capacity top) n = laying capacity top (good enough capacity top) n
  changes_nothing enough (looks l) n = refl
