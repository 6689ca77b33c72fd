-- Yes is right: a store that passes the check is sound. The queue is read off the words: its tree as the walk saw it, its free list
-- as the stack holds it.
use Prim.Native.Nat.{ℕ, zero, suc, ◌+◌, ◌-◌, ◌≤◌, ◌<◌}
use mathlib.Core.Path.{◌≡◌, refl, sym}
use mathlib.Core.Bool.{true, false}
use mathlib.Core.List.{List}
use native.Mathlib.Decide.{ℕ_discrete}
use native.Mathlib.Omega.{arith}
use lib.Dec.{ltb, eqb}
use borrow.Author.Tests.{ltb-false, eqb-true}
use Rattle.handle.specs.Numbers.{no_slot, top_limit}
use Rattle.arena.specs.Words.{field, head, RANK, BACK, TOP, HEIGHT, ROOT}
use Rattle.arena.specs.Header.{header_of, Passing}
use Rattle.arena.proofs.Theorems.{passing}
use Rattle.arena.specs.inner.Budget.{budget}
use Rattle.wavl.specs.Lists.{All, In}
use Rattle.wavl.specs.Entry.{slots}
use Rattle.wavl.specs.Tree.{Tree, inorder}
use Rattle.wavl.specs.Ranks.{Ranked}
use Rattle.wavl.proofs.Lists.{all_both, all_of, in_left, in_right}
use Rattle.wavl.proofs.Rule.{ranks→ranked}
use Rattle.rules.specs.Queue.{Queue, queue_of}
use Rattle.rules.specs.Sound.{free_slots, used_slots, Under}
use Rattle.queue_of_store.specs.Links.{TreeWords}
use Rattle.queue_of_store.specs.Chain.{ChainWords}
use Rattle.queue_of_store.specs.Free.{Retired}
use Rattle.queue_of_store.specs.Holds.{Holds, SoundStore}
use Rattle.queue_of_store.proofs.Has.{Has}
use Rattle.queue_of_store.proofs.States.{slot-entry, live-node}
use Rattle.queue_of_store.proofs.Trees.{slot-low}
use Rattle.arena.proofs.Paths.{no_refusal}
use Rattle.sound.specs.inner.Joints.{join_test}
use Rattle.sound.specs.inner.Walking.{onward, walk_model, whole_test}
use Rattle.sound.specs.inner.Slots.{slots_test}
use Rattle.sound.specs.inner.Check.{top_test, unused_test, rules_with, rules_test, headed, sound_model}
use Rattle.sound.proofs.Choices.{not_yes, both_say}
use Rattle.sound.proofs.NodeFacts.{Joint, join_says}
use Rattle.sound.proofs.SlotFacts.{AtRest, Good, slots_say}
use Rattle.sound.proofs.Rows.{chain-words, rising-from, once-chain}
use Rattle.sound.proofs.Grown.{Grown, grown}
use Rattle.sound.proofs.Reached.{reached}
use Rattle.sound.proofs.FreeList.{free_list, free_length, free_in, once-both, free-words, free-low, free-generations, free-rank, free-once}
use Rattle.std.specs.Prelude.{Result, Ok, Err, Option, Some, None}
use Rattle.handle.specs.declared.Refusal.{Refusal}

-- the walk from the root came to its end
record Walk (s : List ℕ) (cap top : ℕ) : Type 0 where
  x : ℕ
  seen : Grown s cap top no_slot (head s ROOT) no_slot x
  last : Joint s cap x no_slot

whole_says : (s : List ℕ) (cap top : ℕ) → cap ≤ no_slot → whole_test s cap top ≡ true → Walk s cap top
unfolding whole_test
whole_says s cap top few e = go (walk_model budget s cap top no_slot (head s ROOT) no_slot) refl e
  where
    go : (w : Option ℕ) → walk_model budget s cap top no_slot (head s ROOT) no_slot ≡ w → onward w (λ x. join_test s cap x no_slot) false ≡ true → Walk s cap top
    go (Some x) f g = record { x = x; seen = grown s cap top few budget no_slot (head s ROOT) no_slot x f; last = join_says s cap x no_slot g }
    go None f g = not_yes g

unused_says : (s : List ℕ) (n : ℕ) → unused_test n s ≡ true → (k : ℕ) → k < n → head s (6 + k) ≡ 0
unfolding unused_test
unused_says s zero e k l = absurd (omega arith)
unused_says s (suc n) e k l = let a = both_say (eqb (head s (6 + n)) 0) _ e in go (ℕ_discrete k n) (eqb-true _ 0 a.0) (unused_says s n a.1 k)
  where
    go : Dec (k ≡ n) → head s (6 + n) ≡ 0 → (k < n → head s (6 + k) ≡ 0) → head s (6 + k) ≡ 0
    go (yes f) g r = rw f g
    go (no f) g r = r (omega arith)

-- what the tests said of a store whose header passes
record Passed (s : List ℕ) (cap : ℕ) : Type 0 where
  passes : Passing s cap
  high : head s HEIGHT ≤ cap
  top_from : 1 ≤ head s TOP
  top_to : head s TOP ≤ top_limit
  unused : (k : ℕ) → k < 10 → head s (6 + k) ≡ 0
  good : (i : ℕ) → i < cap → Good s cap (head s TOP) (head s HEIGHT) i
  walk : Walk s cap (head s TOP)

few_of : (s : List ℕ) (cap : ℕ) → Passing s cap → cap ≤ no_slot
few_of s cap p = p.room.1

rules_say : (s : List ℕ) (cap : ℕ) → Passing s cap → rules_test s cap ≡ true → Passed s cap
unfolding rules_test rules_with top_test
rules_say s cap p e =
    let a = no_refusal _ _ e in
    let b = both_say (top_test (head s TOP)) _ a.1 in
    let t = no_refusal (ltb (head s TOP) 1) _ b.0 in
    let u = no_refusal (ltb top_limit (head s TOP)) _ t.1 in
    let c = both_say (unused_test 10 s) _ b.1 in
    let d = both_say (slots_test cap s cap (head s TOP) (head s HEIGHT)) _ c.1 in
    record {
      passes = p;
      high = ltb-false cap _ a.0;
      top_from = ltb-false _ 1 t.0;
      top_to = ltb-false top_limit _ u.0;
      unused = unused_says s 10 c.0;
      good = slots_say s cap _ _ cap d.0;
      walk = whole_says s cap _ (few_of s cap p) d.1;
    }

-- the queue of such a store
module _ (s : List ℕ) (cap : ℕ) (p : Passed s cap) where
  abbrev top : ℕ
  top = head s TOP

  abbrev high : ℕ
  high = head s HEIGHT

  abbrev tree : Tree
  tree = p.walk.seen.tree

  abbrev queue : Queue
  queue = queue_of cap top tree (free_list s cap high)

  few : cap ≤ no_slot
  few = few_of s cap p.passes

  words : TreeWords s cap tree
  words = record { root = sym p.walk.seen.top-is; links = p.walk.seen.links }

  low : All (Under cap) (slots (inorder tree))
  low = all_of (Under cap) (slots (inorder tree)) (λ i h. slot-low s cap tree no_slot words.links i h)

  ranked : Ranked tree
  ranked = ranks→ranked tree p.walk.seen.ranks

  chain : ChainWords s cap (inorder tree)
  chain = chain-words s cap few (inorder tree) p.walk.x low p.walk.seen.joined p.walk.last

  le : high ≤ high
  le = omega arith

  -- a member of the tree has a rank, a member of the free list has none
  apart : (j : ℕ) → Has j tree → ¬ (In j (free_slots (free_list s cap high)))
  apart j a b =
      let e = slot-entry j (inorder tree) a in
      let n = live-node s cap no_slot tree words.links ranked e.0 e.1 in
      let r : 1 ≤ field s cap j RANK = rw e.2 at n.ranked in
      let z = free-rank s cap top high few p.high p.good high le j b in
      omega arith

  retired : (i : ℕ) → i < cap → ¬ (In i (used_slots queue)) → Retired s cap top i
  retired i l n = go (ℕ_discrete (field s cap i RANK) 0)
    where
      rest : AtRest s cap top high i → Dec (field s cap i BACK ≡ no_slot) → Retired s cap top i
      rest r (yes e) = record { blank = rw e at r.blank; generation-is = r.retired e }
      rest r (no e) =
          absurd
          (n (in_right i (slots (inorder tree)) (free_slots (free_list s cap high)) (rw (r.stacked e) at (free_in s cap high (field s cap i BACK) (r.low e)))))

      go : Dec (field s cap i RANK ≡ 0) → Retired s cap top i
      go (yes e) = rest ((p.good i l).slot.rest e) (ℕ_discrete (field s cap i BACK) no_slot)
      go (no e) =
          absurd
          (n (in_left i (slots (inorder tree)) (free_slots (free_list s cap high)) (reached s cap few tree words (λ j m f. (p.good j m).slot.live f) i l e)))

  holds : Holds s queue
  holds = record {
    header = record { passes = p.passes; top-is = refl };
    rule_1 = words;
    rule_2 = ranked;
    rule_3 = chain;
    rule_4 = rising-from s cap (inorder tree) no_slot p.walk.x low p.walk.seen.entries p.walk.seen.joined;
    rule_5 = record {
      apart = once-both (slots (inorder tree)) (free_slots (free_list s cap high)) (once-chain s cap few (inorder tree) no_slot chain.chain low)
          (free-once s cap top high few p.high p.good high le) apart;
      within = all_both (Under cap) (slots (inorder tree)) (free_slots (free_list s cap high)) low (free-low s cap top high few p.high p.good high le);
      free = record {
        height = sym (free_length s cap high);
        stacked = free-words s cap top high few p.high p.good high le;
        unused = λ j l m. (p.good j m).place.empty (rw (free_length s cap high) at l);
      };
      retired = retired;
    };
    rule_6 = record {
      top_from = p.top_from;
      top_to = p.top_to;
      live = p.walk.seen.generations;
      free = free-generations s cap top high few p.high p.good high le;
    };
    rule_7 = λ h l m. let e : 6 + (h - 6) ≡ h = omega arith in rw e at (p.unused (h - 6) (omega arith));
    live = p.walk.seen.entries;
  }

pub yes-is-right : (s : List ℕ) → sound_model s ≡ true → SoundStore s
unfolding sound_model
yes-is-right s e = go (header_of s) refl e
  where
    go : (h : Result ℕ Refusal) → header_of s ≡ h → headed s h ≡ true → SoundStore s
    go (Ok cap) f g = let p = rules_say s cap (passing s cap f) g in (queue s cap p, holds s cap p)
    go (Err n) f g = not_yes g
