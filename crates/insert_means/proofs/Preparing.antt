-- Normal and Empty: what they prepare in the words is what crate `rules` does to the queue.
-- A reader may rely on: normal_prepares by the search, empty_prepares by the header's ROOT.
use Prim.Native.Nat.{ℕ, ◌<◌}
use mathlib.Core.Path.{◌≡◌, refl, sym}
use mathlib.Core.List.{List, [], ◌∷◌}
use native.Mathlib.Omega.{arith}
use borrow.Author.Tests.{eq-eqb, ne_eqb}
use Rattle.handle.specs.Numbers.{no_slot}
use Rattle.arena.specs.Words.{head, ROOT}
use Rattle.insert.specs.inner.Kinds.{as_found, prepared_normal, prepared_empty}
use Rattle.wavl.specs.Tree.{Tree, tip, fork}
use Rattle.wavl.specs.Way.{step, Place, place, plug}
use Rattle.wavl.specs.Search.{search, answer_at}
use Rattle.wavl.proofs.Found.{Searched, search-right}
use Rattle.rules.specs.Queue.{Queue}
use Rattle.rules.specs.Insert.{place_normal, insert_normal, place_empty, insert_empty}
use Rattle.queue_of_store.specs.inner.Meanings.{in_slots}
use Rattle.queue_of_store.specs.Holds.{Holds}
use Rattle.queue_of_store.proofs.Parts.{words_of, few-slots}
use Rattle.queue_of_store.proofs.Seeks.{seek_is}
use Rattle.insert_means.proofs.Plans.{add, swap, fail, Prepares}

module _ {s : List ℕ} {q : Queue} (k : Holds s q) (key : ℕ) where
  abbrev cap : ℕ
  cap = q.capacity

  -- by where the search of the tree ends
  by_place_lem : (w : Place) → Searched key q.tree w → Prepares q key (as_found (in_slots (answer_at w))) (λ v. place_normal w key v q)
  unfolding answer_at place_normal
  by_place_lem (place tip []) f = record { plan = add []; fits = f.back; words_so = refl; queue_so = λ v. refl }
  by_place_lem (place tip (step c e r u ∷ p)) f = record { plan = add (step c e r u ∷ p); fits = f.back; words_so = refl; queue_so = λ v. refl }
  by_place_lem (place (fork a x r b) p) f = record { plan = swap a x r b p; fits = f.back; words_so = refl; queue_so = λ v. refl }

  pub normal_prepares : Prepares q key (prepared_normal s cap key) (λ v. insert_normal key v q)
  unfolding prepared_normal insert_normal
  normal_prepares = rw (seek_is k key) (by_place_lem (search key q.tree) (search-right key q.tree k.rule_4))

  by-tree : (t : Tree) → q.tree ≡ t → Prepares q key (prepared_empty s) (λ v. place_empty t key v q)
  unfolding prepared_empty place_empty plug
  by-tree tip e =
      let r : head s ROOT ≡ no_slot = rw e at k.rule_1.root in
      record { plan = add []; fits = sym e; words_so = rw (eq-eqb (head s ROOT) no_slot r); queue_so = λ v. refl }
  by-tree (fork a x r b) e =
      let few = few-slots (words_of k) in
      let low : x.slot < cap = (rw e at k.rule_1.links).0.low in
      let t : head s ROOT ≡ x.slot = rw e at k.rule_1.root in
      record { plan = fail; fits = tt; words_so = rw (ne_eqb (head s ROOT) no_slot (λ z. omega arith)); queue_so = λ v. refl }

  pub empty_prepares : Prepares q key (prepared_empty s) (λ v. insert_empty key v q)
  unfolding insert_empty
  empty_prepares = by-tree q.tree refl
