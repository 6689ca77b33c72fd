-- What an insertion is about to do, in the queue and in the words at once: add at an empty place, swap a value, or fail.
-- A reader may rely on: carries_out: an insertion that prepares a plan does what crate `rules` says of it; foretells: so does the look-ahead.
use Prim.Native.Nat.{ℕ, suc, ◌≤◌}
use mathlib.Core.Path.{◌≡◌, refl, ap}
use mathlib.Core.List.{List, [], ◌∷◌}
use native.Mathlib.Omega.{arith}
use lib.IntN.{ℤ}
use lib.ListN.{length}
use Rattle.handle.specs.declared.Refusal as R
use Rattle.arena.specs.Keys.{stored}
use Rattle.insert.specs.inner.Kept.{Within}
use Rattle.insert.specs.inner.Place.{applied}
use Rattle.insert.specs.inner.Ahead.{next_new, looked_ahead}
use Rattle.wavl.specs.Entry.{Entry}
use Rattle.wavl.specs.Tree.{Tree, tip, fork}
use Rattle.wavl.specs.Way.{step, Way, plug}
use Rattle.wavl.specs.Lists.{All}
use Rattle.rules.specs.Queue.{Handle, Queue}
use Rattle.rules.specs.Answers.{Inserted, not_inserted, failed_ord_requirement}
use Rattle.rules.specs.Insert.{add_with, add_at, swap_at, ahead}
use Rattle.rules.specs.Sound.{Sound, Under, free_slots}
use Rattle.queue_of_store.specs.Ends.{number}
use Rattle.queue_of_store.specs.Holds.{Holds}
use Rattle.queue_of_store.proofs.Parts.{sound_of, words_of, separate_of, used-few, free-low}
use Rattle.queue_of_store.proofs.Live.{live-entry, spot_in}
use Rattle.queue_of_store.proofs.Stack.{peek_none, peek_first}
use Rattle.insert_means.specs.Meaning.{ahead_means}
use Rattle.insert_means.specs.inner.Inserts.{Inserts}
use Rattle.insert_means.proofs.AnswerWords.{Answers}
use Rattle.insert_means.proofs.Added.{adds}
use Rattle.insert_means.proofs.Swapped.{inserts, refuses, swaps}
use Rattle.insert.specs.declared.kinds.Prepared.{Prepared}
use Rattle.insert.specs.declared.kinds.Prepared.TheVariants.{Alone, Beside, Replace}
use Rattle.std.specs.Prelude.{Result, Ok, Err}
use Rattle.handle.specs.declared.Refusal.TheVariants.{FailedOrdRequirement}
use Rattle.handle.specs.declared.Refusal.{Refusal}

pub data Plan : Type 0 where
  add : Way → Plan
  swap : Tree → Entry → ℕ → Tree → Way → Plan
  fail : Plan

-- the plan in the words
abbrev pub planned : Plan → Result Prepared Refusal
planned (add []) = Ok Alone
planned (add (step d e r u ∷ p)) = Ok (Beside e.slot (number d))
planned (swap a x r b p) = Ok (Replace x.slot)
planned fail = Err FailedOrdRequirement

-- the plan in the queue
abbrev pub followed : Plan → ℕ → ℕ → Queue → Inserted × Queue
followed (add p) k v q = add_at k v p q
followed (swap a x r b p) k v q = swap_at v a x r b p q
followed fail k v q = (not_inserted failed_ord_requirement, q)

-- its place lies in the queue's tree
abbrev pub Fitting : Queue → Plan → Type 0
Fitting q (add p) = plug tip p ≡ q.tree
Fitting q (swap a x r b p) = plug (fork a x r b) p ≡ q.tree
Fitting q fail = Unit {0}

-- what was prepared in the words, and what crate `rules` does, follow one plan
pub record Prepares (q : Queue) (k : ℕ) (pr : Result Prepared Refusal) (m : ℕ → Inserted × Queue) : Type 0 where
  pub plan : Plan
  pub fits : Fitting q plan
  pub words_so : pr ≡ planned plan
  pub queue_so : (v : ℕ) → m v ≡ followed plan k v q

module _ {s : List ℕ} {q : Queue} (k : Holds s q) where
  abbrev cap : ℕ
  cap = q.capacity

  carry : (key : ℤ) (value : ℕ) (l : Plan) → Fitting q l → Sound (followed l (stored key) value q).1
      → Answers (applied s cap (planned l) key value) (followed l (stored key) value q)
  carry key value (add []) f d = adds (sound_of k) (words_of k) key value q.free refl [] f d
  carry key value (add (step c e r u ∷ p)) f d = adds (sound_of k) (words_of k) key value q.free refl (step c e r u ∷ p) f d
  carry key value (swap a x r b p) f d = swaps k value a x r b p f
  carry key value fail f d = refuses k R.TheVariants.FailedOrdRequirement

  pub carries_out : (key : ℤ) (value : ℕ) (pr : Result Prepared Refusal) (m : ℕ → Inserted × Queue) → Prepares q (stored key) pr m → Sound (m value).1
      → Within s (applied s cap pr key value).0 cap → Inserts s cap (applied s cap pr key value) (m value)
  carries_out key value pr m y d c =
      inserts d (rw (y.words_so, y.queue_so value) (carry key value y.plan y.fits (rw (y.queue_so value) at d))) c

  -- the handle that a new entry would get
  next-new : (key value : ℕ) (p : Way) (f : List Handle) → q.free ≡ f → ahead_means (next_new s cap) ≡ ahead (add_with f key value p q).0
  unfolding next_new add_with ahead free_slots
  next-new key value p [] e = rw (peek_none s cap (rw e at k.rule_5.free))
  next-new key value p (h ∷ rest) e =
      let d = separate_of (sound_of k) in
      let low : All (Under cap) (free_slots (h ∷ rest)) = rw e at (free-low d) in
      let few : suc (length rest) ≤ cap = let u = used-few d in let z : length q.free ≡ suc (length rest) = ap length e in omega arith in
      rw (peek_first s cap h rest few low.0 (rw e at k.rule_5.free))

  foretell : (key : ℕ) (l : Plan) → Fitting q l → ahead_means (looked_ahead s cap (planned l)) ≡ ahead (followed l key 0 q).0
  unfolding ahead
  foretell key (add []) f = next-new key 0 [] q.free refl
  foretell key (add (step c e r u ∷ p)) f = next-new key 0 (step c e r u ∷ p) q.free refl
  foretell key (swap a x r b p) f = rw (live-entry k x (spot_in k a x r b p f)).generation-is
  foretell key fail f = refl

  pub foretells : (key : ℕ) (pr : Result Prepared Refusal) (m : ℕ → Inserted × Queue) → Prepares q key pr m → ahead_means (looked_ahead s cap pr) ≡ ahead (m 0).0
  foretells key pr m y = rw (y.words_so, y.queue_so 0) (foretell key y.plan y.fits)
