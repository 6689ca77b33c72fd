-- "Each refusal returns its number alone and changes nothing", and the look-ahead tells what the insertion will answer.
-- A reader may rely on these for every queue, sound or not.
use mathlib.Core.Path.{◌≡◌, refl, sym, subst}
use mathlib.Core.List.{List, [], ◌∷◌}
use Prim.Native.Nat.{ℕ}
use native.Mathlib.Decide.{ℕ_discrete}
use Rattle.wavl.specs.Lists.{choose}
use Rattle.wavl.specs.Entry.{Entry}
use Rattle.wavl.specs.Tree.{Side, left, right, Tree, tip, fork}
use Rattle.wavl.specs.Way.{Way, Place, place, neighbour}
use Rattle.wavl.specs.Search.{search, beside_of}
use Rattle.wavl.proofs.Order.{choose_cases}
use Rattle.rules.specs.Queue.{Handle, Queue}
use Rattle.rules.specs.Answers.{Where, less, equal, greater, Inserted, new, replacing, not_inserted, failed_ord_requirement, Removed, removed, not_removed}
use Rattle.rules.specs.Place.{Spot, nowhere, spot, spot_of}
use Rattle.rules.specs.Insert.{keyed, dec_between, add_with, add_at, swap_at, add_beside, place_normal, insert_normal, place_empty, insert_empty, place_manual, insert_manual, Kind, normal, on_empty, manual, insert, ahead, foresee}
use Rattle.rules.specs.Remove.{remove_spot, remove}

-- a refusal leaves the queue
abbrev Refuses : Inserted → Type 0
Refuses (new h) = ⊥
Refuses (replacing h v) = ⊥
Refuses (not_inserted n) = Unit {0}

abbrev Stays : Queue → Inserted × Queue → Type 0
Stays q r = Refuses r.0 → r.1 ≡ q

-- the answer does not look at the value
abbrev Alike : Inserted × Queue → Inserted × Queue → Type 0
Alike r o = ahead r.0 ≡ ahead o.0

choose_alike : {P : Type 0} (d : Dec P) (a b c : Inserted × Queue) → Alike a b → Alike (choose d a c) (choose d b c)
unfolding choose
choose_alike (yes x) a b c e = e
choose_alike (no x) a b c e = refl

module _ (key : ℕ) (q : Queue) where
  add_stays : (value : ℕ) (f : List Handle) (p : Way) → Stays q (add_with f key value p q)
  unfolding add_with
  add_stays value [] p r = refl
  add_stays value (h ∷ f) p r = absurd r

  add_alike : (v w : ℕ) (f : List Handle) (p : Way) → Alike (add_with f key v p q) (add_with f key w p q)
  unfolding add_with
  add_alike v w [] p = refl
  add_alike v w (h ∷ f) p = refl

  normal_stays : (value : ℕ) (w : Place) → Stays q (place_normal w key value q)
  unfolding place_normal
  normal_stays value (place tip p) r = add_stays value q.free p r
  normal_stays value (place (fork a x s b) p) r = absurd r

  normal_alike : (v w : ℕ) (c : Place) → Alike (place_normal c key v q) (place_normal c key w q)
  unfolding place_normal ahead
  normal_alike v w (place tip p) = add_alike v w q.free p
  normal_alike v w (place (fork a x s b) p) = refl

  empty_stays : (value : ℕ) (t : Tree) → Stays q (place_empty t key value q)
  unfolding place_empty
  empty_stays value tip r = add_stays value q.free [] r
  empty_stays value (fork a x s b) r = refl

  empty_alike : (v w : ℕ) (t : Tree) → Alike (place_empty t key v q) (place_empty t key w q)
  unfolding place_empty
  empty_alike v w tip = add_alike v w q.free []
  empty_alike v w (fork a x s b) = refl

  beside_stays : (value : ℕ) (d : Side) (x : Entry) (c : Place) → Stays q (add_beside d x c key value q)
  beside_stays value d x c =
      choose_cases (Stays q) (dec_between d (keyed key) x (neighbour d c)) (add_at key value (beside_of d c) q) (not_inserted failed_ord_requirement, q)
      (λ f. add_stays value q.free (beside_of d c)) (λ f r. refl)

  beside_alike : (v w : ℕ) (d : Side) (x : Entry) (c : Place) → Alike (add_beside d x c key v q) (add_beside d x c key w q)
  beside_alike v w d x c =
      choose_alike (dec_between d (keyed key) x (neighbour d c)) (add_at key v (beside_of d c) q) (add_at key w (beside_of d c) q) (not_inserted failed_ord_requirement, q) (add_alike v w q.free (beside_of d c))

  manual_stays : (value : ℕ) (c : Spot) (w : Where) → Stays q (place_manual c w key value q)
  unfolding place_manual
  manual_stays value nowhere w r = refl
  manual_stays value (spot a x s b p) less r = beside_stays value left x (place (fork a x s b) p) r
  manual_stays value (spot a x s b p) greater r = beside_stays value right x (place (fork a x s b) p) r
  manual_stays value (spot a x s b p) equal r =
      choose_cases (Stays q) (ℕ_discrete key x.key) (swap_at value a x s b p q) (not_inserted failed_ord_requirement, q) (λ f k. absurd k) (λ f k. refl) r

  manual_alike : (u v : ℕ) (c : Spot) (w : Where) → Alike (place_manual c w key u q) (place_manual c w key v q)
  unfolding place_manual ahead
  manual_alike u v nowhere w = refl
  manual_alike u v (spot a x s b p) less = beside_alike u v left x (place (fork a x s b) p)
  manual_alike u v (spot a x s b p) greater = beside_alike u v right x (place (fork a x s b) p)
  manual_alike u v (spot a x s b p) equal =
      choose_alike (ℕ_discrete key x.key) (swap_at u a x s b p q) (swap_at v a x s b p q) (not_inserted failed_ord_requirement, q) refl

  insert_stays : (k : Kind) (value : ℕ) → Stays q (insert k key value q)
  unfolding insert_normal insert_empty insert_manual
  insert_stays normal value = normal_stays value (search key q.tree)
  insert_stays on_empty value = empty_stays value q.tree
  insert_stays (manual h w) value = manual_stays value (spot_of h q) w

  pub insert_unchanged : (k : Kind) (value n : ℕ) → (insert k key value q).0 ≡ not_inserted n → (insert k key value q).1 ≡ q
  insert_unchanged k value n e = insert_stays k value (subst (λ (a : Inserted). Refuses a) (sym e) tt)

  -- the look-ahead is the answer of the same insertion with any value, less the old value
  pub insert-ahead : (k : Kind) (value : ℕ) → ahead (insert k key value q).0 ≡ foresee k key q
  unfolding insert_normal insert_empty insert_manual foresee
  insert-ahead normal value = normal_alike value 0 (search key q.tree)
  insert-ahead on_empty value = empty_alike value 0 q.tree
  insert-ahead (manual h w) value = manual_alike value 0 (spot_of h q) w

abbrev Declines : Removed → Type 0
Declines (removed k v n) = ⊥
Declines (not_removed n) = Unit {0}

remove_stays : (q : Queue) (c : Spot) → Declines (remove_spot c q).0 → (remove_spot c q).1 ≡ q
unfolding remove_spot
remove_stays q nowhere r = refl
remove_stays q (spot a x s b p) r = absurd r

pub remove_unchanged : (h : Handle) (q : Queue) (n : ℕ) → (remove h q).0 ≡ not_removed n → (remove h q).1 ≡ q
unfolding remove
remove_unchanged h q n e = remove_stays q (spot_of h q) (subst (λ (a : Removed). Declines a) (sym e) tt)
