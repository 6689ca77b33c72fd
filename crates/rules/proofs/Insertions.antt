-- Normal, Empty and Manual insertion: the answer says what was done to the queue, and the queue stays sound.
-- A reader may rely on these for every key, value, handle and side, and every sound queue.
use mathlib.Core.Path.{◌≡◌, refl, sym, ◌∙◌}
use mathlib.Core.List.{[]}
use Prim.Native.Nat.{ℕ}
use Rattle.wavl.specs.Entry.{Entry}
use Rattle.wavl.specs.Tree.{Side, left, right, Tree, tip, fork}
use Rattle.wavl.specs.Way.{Way, Place, place, plug, before, after}
use Rattle.wavl.specs.Search.{search, beside_of}
use Rattle.wavl.proofs.Lists.{all_map}
use Rattle.wavl.proofs.Order.{choose_cases}
use Rattle.wavl.proofs.Rising.{less-before}
use Rattle.wavl.proofs.Manual.{beside-whole, beside-is}
use Rattle.wavl.proofs.Found.{Missed, Searched, search-right}
use Rattle.rules.specs.Queue.{Handle, Queue}
use Rattle.rules.specs.Answers.{Where, less, equal, greater, not_inserted, failed_ord_requirement}
use Rattle.rules.specs.Place.{Spot, nowhere, spot, spot_of}
use Rattle.rules.specs.Insert.{keyed, add_beside, place_normal, insert_normal, place_empty, insert_empty, place_manual, insert_manual, Kind, normal, on_empty, manual, insert}
use Rattle.rules.specs.Sound.{Sound}
use Rattle.rules.specs.inner.Changes.{AfterInserting}
use Rattle.rules.proofs.Places.{entries-around, SpotIs}
use Rattle.rules.proofs.Removing.{sound-spot}
use Rattle.rules.proofs.Inserting.{Inserts, FitsAt, add_at_lem, swap-at, between_sides}

module _ (key value : ℕ) (q : Queue) (s : Sound q) where
  refused : (n : ℕ) → Inserts key value q (not_inserted n, q)
  refused n = record { does = refl; sound = s }

  -- Normal
  missed_fits : (p : Way) → Missed key q.tree p → FitsAt key p
  missed_fits p f = record {
    above = all_map _ _ (λ y l. less-before y (keyed key) l) (before p) f.smaller;
    below = all_map _ _ (λ y l. less-before (keyed key) y l) (after p) f.greater;
  }

  place-normal : (w : Place) → Searched key q.tree w → Inserts key value q (place_normal w key value q)
  unfolding place_normal
  place-normal (place tip p) f = add_at_lem key value q s p f.back (missed_fits p f)
  place-normal (place (fork a x r b) p) f = swap-at key value q s a x r b p f.back f.key-is

  normal-both : Inserts key value q (insert_normal key value q)
  unfolding insert_normal
  normal-both = place-normal (search key q.tree) (search-right key q.tree s.rising)

  -- Empty
  place-empty : (t : Tree) → q.tree ≡ t → Inserts key value q (place_empty t key value q)
  unfolding place_empty plug before after
  place-empty tip e = add_at_lem key value q s [] (sym e) (record { above = tt; below = tt })
  place-empty (fork a x r b) e = refused failed_ord_requirement

  empty-both : Inserts key value q (insert_empty key value q)
  unfolding insert_empty
  empty-both = place-empty q.tree refl

  -- Manual
  add-beside : (d : Side) (a : Tree) (x : Entry) (r : ℕ) (b : Tree) (p : Way) → plug (fork a x r b) p ≡ q.tree
      → Inserts key value q (add_beside d x (place (fork a x r b) p) key value q)
  add-beside d a x r b p w =
      let old = entries-around q a x r b p w in
      let c = place (fork a x r b) p in
      choose_cases (Inserts key value q) _ _ _
      (λ f.
      let two = between_sides d key a x r b p (rw old at s.rising) f in
      let i = beside-is d a x r b p in
      add_at_lem key value q s (beside_of d c) (beside-whole d a x r b p ∙ w) (record { above = rw i.0 two.above; below = rw i.1 two.below }))
      (λ f. refused failed_ord_requirement)

  place-manual : (h : Handle) (c : Spot) → SpotIs h q c → (w : Where) → Inserts key value q (place_manual c w key value q)
  unfolding place_manual
  place-manual h nowhere n w = refused failed_ord_requirement
  place-manual h (spot a x r b p) n less = add-beside left a x r b p n.1
  place-manual h (spot a x r b p) n equal =
      choose_cases (Inserts key value q) _ _ _
      (λ e. swap-at key value q s a x r b p n.1 (sym e)) (λ e. refused failed_ord_requirement)
  place-manual h (spot a x r b p) n greater = add-beside right a x r b p n.1

  manual-both : (h : Handle) (w : Where) → Inserts key value q (insert_manual h w key value q)
  unfolding insert_manual
  manual-both h w = place-manual h (spot_of h q) (sound-spot h s) w

  -- every kind: what the answer says was done, and a sound queue
  insert-both : (k : Kind) → Inserts key value q (insert k key value q)
  insert-both normal = normal-both
  insert-both on_empty = empty-both
  insert-both (manual h w) = manual-both h w

  pub insert-does : (k : Kind) → AfterInserting key value q (insert k key value q).0 (insert k key value q).1
  insert-does k = (insert-both k).does

  pub insert-sound : (k : Kind) → Sound (insert k key value q).1
  insert-sound k = (insert-both k).sound
