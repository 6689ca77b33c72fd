-- What removal does: its answer, the queue after it, and that it stays sound.
-- A reader may rely on remove-does and remove-sound, for every handle and every sound queue.
use mathlib.Core.Path.{◌≡◌, refl}
use mathlib.Core.List.{◌++◌}
use Rattle.wavl.specs.Lists.{Once}
use Rattle.wavl.specs.Entry.{Before, slots}
use Rattle.wavl.specs.Tree.{fork, inorder}
use Rattle.wavl.specs.Way.{plug}
use Rattle.wavl.specs.Ranks.{Ranks}
use Rattle.wavl.specs.Taking.{remove_at}
use Rattle.wavl.proofs.Lists.{drop_one, pairwise_left}
use Rattle.wavl.proofs.Rule.{ranks→ranked, ranked→ranks}
use Rattle.wavl.proofs.Taken.{remove_at-shows}
use Rattle.wavl.proofs.Rising.{removed-around}
use Rattle.rules.specs.Queue.{Handle, Queue, entries}
use Rattle.rules.specs.Answers.{Removed}
use Rattle.rules.specs.Place.{Spot, nowhere, spot, spot_of}
use Rattle.rules.specs.Remove.{remove_spot, remove}
use Rattle.rules.specs.Sound.{free_slots, Sound}
use Rattle.rules.specs.inner.Changes.{Takes, AfterRemoving}
use Rattle.rules.proofs.Kept.{sound-takes}
use Rattle.rules.proofs.Places.{smaller_of, greater_of, entries-around, SpotIs, spot_is}

-- the live slots of a sound queue are distinct
pub live-once : {q : Queue} → Sound q → Once (slots (entries q))
live-once {q} s = pairwise_left _ (slots (entries q)) (free_slots q.free) s.apart

-- where a handle's entry stands, on a sound queue
pub sound-spot : (h : Handle) {q : Queue} → Sound q → SpotIs h q (spot_of h q)
sound-spot h {q} s = spot_is h q (live-once s)

-- an answer and a queue that removal may leave
pub record Removes (h : Handle) (q : Queue) (r : Removed × Queue) : Type 0 where
  pub does : AfterRemoving h q r.0 r.1
  pub sound : Sound r.1

module _ (h : Handle) (q : Queue) (s : Sound q) where
  removes : (w : Spot) → SpotIs h q w → Removes h q (remove_spot w q)
  unfolding remove_spot
  removes nowhere n = record { does = refl; sound = s }
  removes (spot a x r b p) n =
      let l = smaller_of a p in
      let g = greater_of b p in
      let old = entries-around q a x r b p n.1 in
      let ranks : Ranks (plug (fork a x r b) p) = rw n.1 (ranked→ranks q.tree s.ranked) in
      let now : inorder (remove_at (fork a x r b) p) ≡ l ++ g = removed-around a x r b p ranks in
      let takes : Takes q (remove_spot (spot a x r b p) q).1 x =
      record { header = record { capacity = refl; top = refl }; gives_back = refl; smaller = l; greater = g; old = old; now = now } in
      record {
        does = (x, n.0, refl, refl, takes);
        sound = sound-takes s takes (ranks→ranked (remove_at (fork a x r b) p) (remove_at-shows a x r b p ranks).ranks) (rw now (drop_one Before l x g (rw old at s.rising)));
      }

  pub remove-both : Removes h q (remove h q)
  unfolding remove
  remove-both = removes (spot_of h q) (sound-spot h s)

  -- the answer says what was done to the queue
  pub remove-does : AfterRemoving h q (remove h q).0 (remove h q).1
  remove-does = remove-both.does

  pub remove-sound : Sound (remove h q).1
  remove-sound = remove-both.sound
