-- Removal and reading by handle on a store that holds a queue do what document 01 says.
-- A reader may rely on: remove-means and read-means, for every handle, live or not.
use Prim.Native.Nat.{ℕ, ◌≤◌, ◌<◌}
use mathlib.Core.Path.{◌≡◌, refl, ◌∙◌}
use mathlib.Core.Bool.{true}
use mathlib.Core.List.{List, ◌∷◌, ◌++◌}
use native.Mathlib.Decide.{dec_lt}
use lib.ListN.{length}
use Rattle.handle.specs.declared.Handle as H
use Rattle.arena.specs.Keys.{signed}
use Rattle.arena.specs.inner.Entries.{is_live, entry_of}
use Rattle.handle.specs.declared.Entry as A
use Rattle.arena.proofs.KeyLaws.{signed_undone}
use Rattle.wavl.specs.Entry.{Entry, slots}
use Rattle.wavl.specs.Tree.{Tree, fork, inorder}
use Rattle.wavl.specs.Way.{Way, plug}
use Rattle.wavl.specs.Taking.{remove_at}
use Rattle.wavl.proofs.Rule.{ranked→ranks}
use Rattle.wavl.proofs.Rising.{removed-around}
use Rattle.chain.specs.inner.Links.{joined}
use Rattle.remove.specs.inner.Take.{take_out}
use Rattle.remove.specs.inner.Remove.{let_go, noted, remove_live, remove_by, read_by}
use Rattle.remove.proofs.RemoveLeaves.{dead_refused}
use Rattle.rules.specs.Queue.{Queue, entries, Names}
use Rattle.rules.specs.Answers.{removed}
use Rattle.rules.specs.Place.{Spot, nowhere, spot, spot_of}
use Rattle.rules.specs.Look.{read_spot, read}
use Rattle.rules.specs.Remove.{note_of, remove_spot, remove}
use Rattle.rules.specs.Sound.{LiveGeneration, Sound}
use Rattle.rules.proofs.Lists.{all_at}
use Rattle.rules.proofs.Places.{smaller_of, greater_of, entries-around, SpotIs, spot_is}
use Rattle.rules.proofs.Removing.{live-once, remove-sound}
use Rattle.queue_of_store.specs.Ends.{first_slot, last_slot}
use Rattle.queue_of_store.specs.Handles.{plain}
use Rattle.queue_of_store.specs.inner.Meanings.{is_spot}
use Rattle.queue_of_store.specs.Holds.{Holds}
use Rattle.queue_of_store.proofs.Parts.{sound_of, words_of, holds_of, few-slots, room_of, separate_of, size_few, under_budget}
use Rattle.queue_of_store.proofs.Live.{live-is, spot_in, entry_at_lem}
use Rattle.remove_means.specs.Meaning.{removed_means, read_means}
use Rattle.remove_means.specs.inner.Removes.{Removes}
use Rattle.queue_of_store.proofs.AnyDepth.{Came}
use Rattle.remove_means.proofs.TakesOut.{Taking, takes_out_lem}
use Rattle.remove_means.proofs.Unchained.{Out, unlinks, unchained}
use Rattle.remove_means.proofs.Released.{released_to, released_as, Released, released}

-- the words of a queue are those of a tree to take from
pub taking_of : {s : List ℕ} {q : Queue} → Holds s q → Taking s q.capacity q.tree
taking_of {s} {q} k =
    let d = sound_of k in
    let w = words_of k in
    let ranks = ranked→ranks q.tree d.ranked in
    record { few = few-slots w; room = room_of w; distinct = live-once d; words = w.tree; ranks = ranks; low = under_budget q.tree ranks (size_few d); chain = w.chain }

-- key and value, with the note
answered : {g top : ℕ} (e : Dec (g < top)) (x : Entry) (y : A.Entry) → y ≡ record { key = record { 0 = signed x.key }; value = x.value }
    → removed_means (noted (released_as e) y) ≡ removed x.key x.value (note_of e)
unfolding note_of
answered (yes e) x y z = rw (z, signed_undone x.key)
answered (no e) x y z = rw (z, signed_undone x.key)

module _ {s : List ℕ} {q : Queue} (k : Holds s q) (h : H.Handle) (a : Tree) (x : Entry) (r : ℕ) (b : Tree) (p : Way)
    (named : Names (plain h) x) (tree_is : plug (fork a x r b) p ≡ q.tree) where
  abbrev cap : ℕ
  cap = q.capacity

  abbrev l : List Entry
  l = smaller_of a p

  abbrev m : List Entry
  m = greater_of b p

  abbrev t : Tree
  t = remove_at (fork a x r b) p

  T : Taking s cap (plug (fork a x r b) p)
  T = rw tree_is (taking_of k)

  C : Came s cap (slots (entries q)) t (take_out s cap x.slot)
  C = rw tree_is at (takes_out_lem s cap a x r b p T)

  old : entries q ≡ l ++ (x ∷ m)
  old = entries-around q a x r b p tree_is

  now : inorder t ≡ l ++ m
  now = removed-around a x r b p T.ranks

  abbrev s1 : List ℕ
  s1 = (take_out s cap x.slot).0

  abbrev s2 : List ℕ
  s2 = joined s1 cap (last_slot l) (first_slot m)

  O : Out s s2 q l x m t
  O = unchained s s1 q (separate_of (sound_of k)) (words_of k) l x m old t C.words C.only

  top_most : x.generation ≤ q.top
  top_most = (all_at (LiveGeneration q.top) l x m (rw old at (sound_of k).live-generations)).to-top

  abbrev e : Dec (x.generation < q.top)
  e = dec_lt x.generation q.top

  R : Released s s2 q (separate_of (sound_of k)) l x m old t now O e
  R = released s s2 q (separate_of (sound_of k)) l x m old t now O top_most e

  abbrev s3 : List ℕ
  s3 = released_to e s2 cap x.slot (length q.free)

  removes-to : remove_live s cap x.slot ≡ (s3, noted (released_as e) (entry_of s cap x.slot))
  unfolding remove_live let_go
  removes-to = rw (C.yes, unlinks s s1 q (separate_of (sound_of k)) (words_of k) l x m old t C.words C.only, R.is)

  live-removes : is_live s cap h ≡ true → Sound (remove_spot (spot a x r b p) q).1 → Removes s cap (remove_by s cap h) (remove_spot (spot a x r b p) q)
  unfolding remove_by remove_spot
  live-removes live sound =
      rw (live, ← named.0, removes-to)
      (record {
        answer = answered e x (entry_of s cap x.slot) (rw (← named.0) at (entry_at_lem k h x (spot_in k a x r b p tree_is) named));
        holds = holds_of sound R.words;
        long = R.only.long ∙ O.only.long;
        rest = λ j z. R.only.rest j z ∙ O.only.rest j z;
      })

module _ {s : List ℕ} {q : Queue} (k : Holds s q) (h : H.Handle) where
  -- the answer is the definition's, and the store then holds the definition's queue
  pub remove-means : Removes s q.capacity (remove_by s q.capacity h) (remove (plain h) q)
  unfolding remove remove_spot
  remove-means = go (spot_of (plain h) q) (spot_is (plain h) q (live-once (sound_of k))) (live-is k h) (remove-sound (plain h) q (sound_of k))
    where
      go : (w : Spot) → SpotIs (plain h) q w → is_live s q.capacity h ≡ is_spot w → Sound (remove_spot w q).1
          → Removes s q.capacity (remove_by s q.capacity h) (remove_spot w q)
      go nowhere f e d = rw (dead_refused s q.capacity h e) (record { answer = refl; holds = k; long = refl; rest = λ j z. refl })
      go (spot a x r b p) f e d = live-removes k h a x r b p f.0 f.1 e d

  -- reading answers the definition's key and value, or its refusal
  pub read-means : read_means (read_by s q.capacity h) ≡ read (plain h) q
  unfolding read read_by read_spot
  read-means = go (spot_of (plain h) q) (spot_is (plain h) q (live-once (sound_of k))) (live-is k h)
    where
      go : (w : Spot) → SpotIs (plain h) q w → is_live s q.capacity h ≡ is_spot w → read_means (read_by s q.capacity h) ≡ read_spot w
      go nowhere f e = rw e
      go (spot a x r b p) f e = rw (e, entry_at_lem k h x (spot_in k a x r b p f.1) f.0, signed_undone x.key)
