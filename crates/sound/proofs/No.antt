-- No is right: a sound store passes the check. With Yes, the check decides soundness.
use Prim.Native.Nat.{ℕ, zero, suc, ◌+◌, ◌<◌}
use mathlib.Core.Path.{◌≡◌, refl}
use mathlib.Core.Bool.{true}
use mathlib.Core.List.{List}
use native.Mathlib.Omega.{arith}
use lib.ListN.{length}
use borrow.Author.Tests.{le-ltb, eq-eqb}
use Rattle.handle.specs.Numbers.{no_slot, top_limit}
use Rattle.arena.specs.Words.{head, ROOT}
use Rattle.arena.specs.inner.Budget.{budget}
use Rattle.arena.proofs.Theorems.{passes}
use Rattle.wavl.proofs.Rule.{ranked→ranks}
use Rattle.rules.specs.Queue.{Queue, entries}
use Rattle.queue_of_store.specs.Holds.{Holds}
use Rattle.queue_of_store.proofs.Chains.{end_or}
use Rattle.queue_of_store.proofs.Parts.{sound_of, words_of, few-slots, separate_of, live-low}
use Rattle.sound.specs.inner.Walking.{walk_model, whole_test}
use Rattle.sound.specs.inner.Check.{top_test, unused_test, rules_with, rules_test, sound_model}
use Rattle.sound.proofs.NodeFacts.{join_is}
use Rattle.sound.proofs.SlotFacts.{slots-are}
use Rattle.sound.proofs.Walks.{walks, row_of, end_of_lem}
use Rattle.sound.proofs.Hung.{high, shallow, good}
use Rattle.std.specs.Prelude.{Some}

unused-is : (s : List ℕ) (n : ℕ) → ((k : ℕ) → k < n → head s (6 + k) ≡ 0) → unused_test n s ≡ true
unfolding unused_test
unused-is s zero f = refl
unused-is s (suc n) f = rw (eq-eqb (head s (6 + n)) 0 (f n (omega arith)), unused-is s n (λ k l. f k (omega arith)))

module _ {s : List ℕ} {q : Queue} (k : Holds s q) where
  whole_is : whole_test s q.capacity q.top ≡ true
  unfolding whole_test
  whole_is =
      let few = few-slots (words_of k) in
      let low = live-low (separate_of (sound_of k)) in
      let h = shallow k in
      let w : walk_model budget s q.capacity q.top no_slot (head s ROOT) no_slot ≡ Some (end_or no_slot (entries q)) =
      rw k.rule_1.root (walks s q.capacity few q.top q.tree budget no_slot no_slot _ k.rule_1.links (ranked→ranks q.tree k.rule_2) k.live
      k.rule_6.live (row_of s q.capacity few (entries q) low k.rule_3 k.live k.rule_4) (omega arith)) in
      rw w (join_is s q.capacity _ no_slot (end_of_lem s q.capacity few (entries q) low k.rule_3))

  top-is : top_test q.top ≡ true
  unfolding top_test
  top-is = rw (le-ltb q.top 1 k.rule_6.top_from, le-ltb top_limit q.top k.rule_6.top_to)

  rules_are : rules_test s q.capacity ≡ true
  unfolding rules_test rules_with
  rules_are =
      let a = slots-are s q.capacity q.top (length q.free) q.capacity (good k) in
      let b = unused-is s 10 (λ i l. k.rule_7 (6 + i) (omega arith) (omega arith)) in
      rw (k.header.top-is, k.rule_5.free.height, le-ltb q.capacity (length q.free) (high k), top-is, b, a) whole_is

  pub no-is-right : sound_model s ≡ true
  unfolding sound_model
  no-is-right = rw (passes s q.capacity k.header.passes) rules_are
