-- One short history written out by hand, to see that the definitions read as they are meant: a replacement, refusals, a removal,
-- a slot used again and one retired, and a laying out that begins anew. A reader may rely on this: proofs/Sample computes and compares.
use Rattle.std.specs.Prelude.{true, List, [], ◌∷◌, ℕ}
use Rattle.rules.specs.Queue.{handle, fresh}
use Rattle.rules.specs.Insert.{normal}
use Rattle.rules.specs.Calls.{Call, inserts, removal, laying_out, looks, foresees, reading, searching, run}
use Rattle.starred_runs.specs.Starred.{key, ent}
use Rattle.history.specs.Book.{Book, begun, kept}

abbrev pub add : ℕ → ℕ → Call
add k v = inserts normal (key k) v

-- capacity 2, top generation 2: 10, 20, 10 again (replaces), read it, 30 (refused 1), remove 20, once more (refused 3), look ahead
-- at 30 and put it in 20's slot, remove that (noted), 40 (refused 1), search 10, a laying out that is refused 4
unfoldable pub script : List Call
script = add 10 1 ∷ add 20 2 ∷ add 10 5 ∷ looks (reading (handle 0 1)) ∷ add 30 3 ∷ removal (handle 1 1) ∷ removal (handle 1 1)
    ∷ looks (foresees normal (key 30)) ∷ add 30 3 ∷ removal (handle 1 2) ∷ add 40 4 ∷ looks (searching (key 10)) ∷ laying_out 0 2 ∷ []

unfoldable pub shown : List Call → Book
shown l = kept (begun [] 2) (run (λ n. true) l (fresh 2 2)).0

-- 10 with its latest value is left; three additions, two removals, one of them noted; 0 free and 3 + 1 is 2 + 2
unfoldable pub expected : Book
expected = record {
  left = ent 10 5 0 ∷ [];
  given = handle 1 2 ∷ handle 1 1 ∷ handle 0 1 ∷ [];
  gone = handle 1 2 ∷ handle 1 1 ∷ [];
  start = 2;
  additions = 3;
  removals = 2;
  noted = 1;
}

-- after a good laying out of capacity 3 only what came since counts
unfoldable pub again : List Call
again = add 10 1 ∷ laying_out 3 1 ∷ add 7 8 ∷ []

unfoldable pub anew : Book
anew = record { left = ent 7 8 0 ∷ []; given = handle 0 1 ∷ []; gone = []; start = 3; additions = 1; removals = 0; noted = 0 }
