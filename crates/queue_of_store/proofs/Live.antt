-- Live handles on a store that holds a queue: the test of the words is the queue's, and the entry's words are found at the slot.
-- A reader may rely on: live-is, for every handle; live-entry, for every entry.
use Prim.Native.Nat.{ℕ, ◌≤◌, ◌<◌}
use mathlib.Core.Path.{◌≡◌, sym, ◌∙◌}
use mathlib.Core.Logic.{◌↔◌}
use mathlib.Core.Bool.{true, false}
use mathlib.Core.List.{List, ◌++◌}
use native.Mathlib.Decide.{dec_lt}
use native.Mathlib.Omega.{arith}
use borrow.Author.Tests.{le-ltb, eq-eqb, ne_eqb, le-leb, lt-leb}
use Rattle.handle.specs.declared.Handle as H
use Rattle.arena.specs.Words.{field, RANK, GENERATION}
use Rattle.arena.specs.Keys.{signed}
use Rattle.arena.specs.inner.Entries.{is_live, entry_of}
use Rattle.wavl.specs.Lists.{In}
use Rattle.wavl.specs.Entry.{Entry}
use Rattle.wavl.specs.Tree.{Tree, fork, inorder}
use Rattle.wavl.specs.Way.{Way, plug, before, after}
use Rattle.wavl.proofs.Lists.{all_in, in_middle}
use Rattle.wavl.proofs.Rising.{node-around}
use Rattle.rules.specs.Queue.{Queue, entries, Names, Live}
use Rattle.rules.specs.Place.{Spot, nowhere, spot, spot_of}
use Rattle.rules.proofs.Places.{SpotIs, spot_is}
use Rattle.rules.proofs.Removing.{live-once}
use Rattle.queue_of_store.specs.Handles.{plain}
use Rattle.queue_of_store.specs.inner.Meanings.{is_spot}
use Rattle.queue_of_store.specs.Entries.{EntryWords}
use Rattle.queue_of_store.specs.Holds.{Holds}
use Rattle.queue_of_store.proofs.Parts.{sound_of, words_of}
use Rattle.queue_of_store.proofs.States.{State, live, free, retired, state_of, LiveNode, live-node}

-- the words of is_live, by what they hold
module _ (s : List ℕ) (cap : ℕ) (h : H.Handle) where
  abbrev i : ℕ
  i = h.slot.0

  outside : cap ≤ i → is_live s cap h ≡ false
  unfolding is_live
  outside l = rw (le-leb cap i l)

  unranked : field s cap i RANK ≡ 0 → is_live s cap h ≡ false
  unfolding is_live
  unranked e = go (dec_lt i cap)
    where
      go : Dec (i < cap) → is_live s cap h ≡ false
      go (yes l) = rw (lt-leb cap i l, e)
      go (no l) = let l' : cap ≤ i = omega arith in rw (le-leb cap i l')

  stale : i < cap → 1 ≤ field s cap i RANK → ¬ (field s cap i GENERATION ≡ h.generation.0) → is_live s cap h ≡ false
  unfolding is_live
  stale l r e = rw (lt-leb cap i l, le-ltb (field s cap i RANK) 1 r, ne_eqb (field s cap i GENERATION) h.generation.0 e)

  current : i < cap → 1 ≤ field s cap i RANK → field s cap i GENERATION ≡ h.generation.0 → is_live s cap h ≡ true
  unfolding is_live
  current l r e = rw (lt-leb cap i l, le-ltb (field s cap i RANK) 1 r, eq-eqb (field s cap i GENERATION) h.generation.0 e)

module _ {s : List ℕ} {q : Queue} (k : Holds s q) where
  abbrev cap : ℕ
  cap = q.capacity

  node_of : (x : Entry) → In x (entries q) → LiveNode s cap x.slot
  node_of x i = live-node s cap _ q.tree k.rule_1.links k.rule_2 x i

  -- an entry's words stand at the slot of the handle that names it
  pub live-entry : (x : Entry) → In x (entries q) → EntryWords s cap x
  live-entry x i = all_in (EntryWords s cap) (entries q) k.live x i

  named_live : (h : H.Handle) (x : Entry) → In x (entries q) → Names (plain h) x → is_live s cap h ≡ true
  named_live h x i n =
      let m = node_of x i in
      let e = (live-entry x i).generation-is in
      current s cap h (rw n.0 at m.low) (rw n.0 at m.ranked) (rw n.0 at (e ∙ n.1))

  unnamed : (h : H.Handle) → ¬ Live (plain h) q → is_live s cap h ≡ false
  unnamed h n = go (dec_lt h.slot.0 cap)
    where
      by : h.slot.0 < cap → State s q h.slot.0 → is_live s cap h ≡ false
      by l (live x i e) =
          let m = node_of x i in
          stale s cap h l (rw e at m.ranked) (λ g. n (x, i, (e, sym (live-entry x i).generation-is ∙ rw e g)))
      by l (free f) = unranked s cap h (rw f.slot_is at f.words.blank.rank_is)
      by l (retired f) = unranked s cap h f.blank.rank_is

      go : Dec (h.slot.0 < cap) → is_live s cap h ≡ false
      go (yes l) = by l (state_of (words_of k) h.slot.0 l)
      go (no l) = outside s cap h (omega arith)

  -- the entry of a handle's place is the queue's
  pub spot_in : (a : Tree) (x : Entry) (r : ℕ) (b : Tree) (p : Way) → plug (fork a x r b) p ≡ q.tree → In x (entries q)
  spot_in a x r b p e = rw (← e, node-around a x r b p) (in_middle x (before p ++ inorder a) (inorder b ++ after p))

  -- the test of the words is the queue's own
  pub live-is : (h : H.Handle) → is_live s cap h ≡ is_spot (spot_of (plain h) q)
  live-is h = go (spot_of (plain h) q) (spot_is (plain h) q (live-once (sound_of k)))
    where
      go : (w : Spot) → SpotIs (plain h) q w → is_live s cap h ≡ is_spot w
      go nowhere f = unnamed h f
      go (spot a x r b p) f = named_live h x (spot_in a x r b p f.1) f.0

  pub live_iff : (h : H.Handle) → (is_live s cap h ≡ true) ↔ Live (plain h) q
  live_iff h = (go (spot_of (plain h) q) (spot_is (plain h) q (live-once (sound_of k))) (live-is h), λ l. named_live h l.0 l.1 l.2)
    where
      go : (w : Spot) → SpotIs (plain h) q w → is_live s cap h ≡ is_spot w → is_live s cap h ≡ true → Live (plain h) q
      go nowhere f e t = absurd (let z : ◌≡◌ {A = ℕ} 0 1 = cc in omega arith)
      go (spot a x r b p) f e t = (x, spot_in a x r b p f.1, f.0)

  -- reading at a live handle gives its entry, the key signed
  pub entry_at_lem : (h : H.Handle) (x : Entry) → In x (entries q) → Names (plain h) x
      → entry_of s cap h.slot.0 ≡ record { key = record { 0 = signed x.key }; value = x.value }
  unfolding entry_of
  entry_at_lem h x i n = let w = live-entry x i in rw (← n.0, w.key-is, w.value-is)
