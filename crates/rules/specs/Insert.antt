-- Placing a strike (document 01, "Placing a strike"): the three kinds of insertion, and the look-ahead of each.
-- A reader may rely on this: a queue that refuses is handed back as it stood, and a replacement never asks for a slot.
use Rattle.std.specs.Prelude.{List, [], ◌∷◌, ℕ}
use Rattle.std.proofs.Math.Option.{Option, none, some}
use Rattle.std.proofs.Math.Decide.{dec_lt, ℕ_discrete}
use Rattle.wavl.specs.Lists.{choose}
use Rattle.wavl.specs.Entry.{Entry, Before}
use Rattle.wavl.specs.Tree.{Side, left, right, Tree, tip, fork}
use Rattle.wavl.specs.Way.{Way, Place, place, neighbour, replace_at}
use Rattle.wavl.specs.Placing.{insert_at}
use Rattle.wavl.specs.Search.{search, beside_of}
use Rattle.rules.specs.Queue.{Handle, handle_of, entry_with, Queue, changed, dec_both}
use Rattle.rules.specs.Answers.{Where, less, equal, greater, Inserted, new, replacing, not_inserted, Ahead, would_add, would_replace, would_refuse, not_within_capacity, failed_ord_requirement}
use Rattle.rules.specs.Place.{Spot, nowhere, spot, spot_of}

-- A new entry takes the first free handle. "a new entry is needed and no slot is free": 1.
unfoldable pub add_with : List Handle → ℕ → ℕ → Way → Queue → Inserted × Queue
add_with [] key value p q = (not_inserted not_within_capacity, q)
add_with (h ∷ rest) key value p q = (new h, changed (insert_at (entry_with h key value) p) rest q)

abbrev pub add_at : ℕ → ℕ → Way → Queue → Inserted × Queue
add_at key value p q = add_with q.free key value p q

-- "the value is replaced, the old one returned, the handle kept, no slot used"
abbrev pub swap_at : ℕ → Tree → Entry → ℕ → Tree → Way → Queue → Inserted × Queue
swap_at value a x r b p q = (replacing (handle_of x) x.value, changed (replace_at value (place (fork a x r b) p)) q.free q)

-- Normal: "search from the root .. to an equal key or a missing child"
unfoldable pub place_normal : Place → ℕ → ℕ → Queue → Inserted × Queue
place_normal (place tip p) key value q = add_at key value p q
place_normal (place (fork a x r b) p) key value q = swap_at value a x r b p q

unfoldable pub insert_normal : ℕ → ℕ → Queue → Inserted × Queue
insert_normal key value q = place_normal (search key q.tree) key value q

-- "Empty: only into an empty queue."
unfoldable pub place_empty : Tree → ℕ → ℕ → Queue → Inserted × Queue
place_empty tip key value q = add_at key value [] q
place_empty (fork a x r b) key value q = (not_inserted failed_ord_requirement, q)

unfoldable pub insert_empty : ℕ → ℕ → Queue → Inserted × Queue
insert_empty key value q = place_empty q.tree key value q

-- an entry of which only the key is meant
abbrev pub keyed : ℕ → Entry
keyed k = record { slot = 0; generation = 0; key = k; value = 0 }

-- x may stand on the given side of y. The order itself is Before, named once, in crate wavl; this and its decision follow it.
abbrev pub Beside : Side → Entry → Entry → Type 0
Beside left x y = Before x y
Beside right x y = Before y x

abbrev pub dec_before : (x y : Entry) → Dec (Before x y)
dec_before x y = dec_lt x.key y.key

abbrev pub dec_beside : (d : Side) (x y : Entry) → Dec (Beside d x y)
dec_beside left x y = dec_before x y
dec_beside right x y = dec_before y x

-- "the key must lie strictly between the target's and its chain neighbour's on that side (if there is one)"
abbrev pub Between : Side → Entry → Entry → Option Entry → Type 0
Between d e x none = Beside d e x
Between d e x (some y) = Beside d e x × Beside d y e

abbrev pub dec_between : (d : Side) (e x : Entry) (n : Option Entry) → Dec (Between d e x n)
dec_between d e x none = dec_beside d e x
dec_between d e x (some y) = dec_both (dec_beside d e x) (dec_beside d y e)

-- beside the target on the given side, if the key fits there: "Less: if the target has a left child, the new entry becomes the
-- right child of its prev, else the target's left child. Greater mirrors this."
abbrev pub add_beside : Side → Entry → Place → ℕ → ℕ → Queue → Inserted × Queue
add_beside d x w key value q =
    choose (dec_between d (keyed key) x (neighbour d w)) (add_at key value (beside_of d w) q) (not_inserted failed_ord_requirement, q)

-- Manual: "a live handle .. and a side"; "Equal replaces"
unfoldable pub place_manual : Spot → Where → ℕ → ℕ → Queue → Inserted × Queue
place_manual nowhere w key value q = (not_inserted failed_ord_requirement, q)
place_manual (spot a x r b p) less key value q = add_beside left x (place (fork a x r b) p) key value q
place_manual (spot a x r b p) equal key value q =
    choose (ℕ_discrete key x.key) (swap_at value a x r b p q) (not_inserted failed_ord_requirement, q)
place_manual (spot a x r b p) greater key value q = add_beside right x (place (fork a x r b) p) key value q

unfoldable pub insert_manual : Handle → Where → ℕ → ℕ → Queue → Inserted × Queue
insert_manual h w key value q = place_manual (spot_of h q) w key value q

-- the kinds of insertion; a further kind is one constructor more
pub data Kind : Type 0 where
  normal : Kind
  on_empty : Kind
  manual : Handle → Where → Kind

abbrev pub insert : Kind → ℕ → ℕ → Queue → Inserted × Queue
insert normal key value q = insert_normal key value q
insert on_empty key value q = insert_empty key value q
insert (manual h w) key value q = insert_manual h w key value q

-- "The look-ahead tells New or Replacing with the handle, or the refusal, that the same insertion would get next; it changes nothing."
-- The value put in has no part in it, so none is asked for: 0 stands for it here.
unfoldable pub ahead : Inserted → Ahead
ahead (new h) = would_add h
ahead (replacing h old) = would_replace h
ahead (not_inserted n) = would_refuse n

unfoldable pub foresee : Kind → ℕ → Queue → Ahead
foresee kind key q = ahead (insert kind key 0 q).0
