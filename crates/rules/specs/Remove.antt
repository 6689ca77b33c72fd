-- Taking a strike away (document 01, "Taking a strike away", and the handles of "What a queue holds").
-- A reader may rely on this: only the slot of the entry taken out changes hands; every other handle stays as it was.
use Rattle.std.specs.Prelude.{List, ◌∷◌, ℕ, suc, ◌<◌}
use Rattle.std.proofs.Math.Decide.{dec_lt}
use Rattle.wavl.specs.Entry.{Entry}
use Rattle.wavl.specs.Tree.{fork}
use Rattle.wavl.specs.Taking.{remove_at}
use Rattle.rules.specs.Queue.{Handle, handle, Queue, changed}
use Rattle.rules.specs.Answers.{Note, no_note, generation_overflow, Removed, removed, not_removed, invalid_ptr}
use Rattle.rules.specs.Place.{Spot, nowhere, spot, spot_of}

-- "Removal raises it by one and frees the slot." "the slot freed last is taken first"
-- "At the top generation .. the slot is retired for good." The test is whether the generation is below the top.
unfoldable pub freed : {g top : ℕ} → Dec (g < top) → ℕ → List Handle → List Handle
freed {g} (yes l) s free = handle s (suc g) ∷ free
freed (no l) s free = free

unfoldable pub note_of : {g top : ℕ} → Dec (g < top) → Note
note_of (yes l) = no_note
note_of (no l) = generation_overflow

-- the entry's slot given back
abbrev pub free_after : Entry → Queue → List Handle
free_after x q = freed (dec_lt x.generation q.top) x.slot q.free

-- "removal .. with a handle that names no live entry": 3
unfoldable pub remove_spot : Spot → Queue → Removed × Queue
remove_spot nowhere q = (not_removed invalid_ptr, q)
remove_spot (spot a x r b p) q = (
  removed x.key x.value (note_of (dec_lt x.generation q.top)),
  changed (remove_at (fork a x r b) p) (free_after x q) q,
)

unfoldable pub remove : Handle → Queue → Removed × Queue
remove h q = remove_spot (spot_of h q) q
