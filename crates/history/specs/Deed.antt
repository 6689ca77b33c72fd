-- What one call and its answer tell: an entry added, a value replaced, an entry taken out, a fresh queue, or nothing.
-- A reader may rely on this: nothing but the call and its answer is looked at; no queue is named in this file.
use Rattle.std.specs.Prelude.{ℕ}
use Rattle.rules.specs.Queue.{Handle}
use Rattle.rules.specs.Answers.{laid, not_laid, new, replacing, not_inserted, Note, removed, not_removed}
use Rattle.rules.specs.Calls.{Call, inserts, removal, laying_out, looks, Answer}

pub data Deed : Type 0 where
  -- an entry with this handle, key and value
  adds : Handle → ℕ → ℕ → Deed
  -- the entry with this handle has this value now
  replaces : Handle → ℕ → Deed
  -- the entry with this handle, and the note that came with it
  takes_out : Handle → Note → Deed
  -- an empty queue of this capacity, whatever was there
  begins : ℕ → Deed
  nothing : Deed

-- "Any insertion answers New or Replacing with the handle": key and value are the call's, the handle is the answer's. Of a removal the
-- handle is the call's, the note the answer's. Refusals and looks tell nothing.
unfoldable pub deed : (c : Call) → Answer c → Deed
deed (inserts kind key value) (new h) = adds h key value
deed (inserts kind key value) (replacing h old) = replaces h value
deed (inserts kind key value) (not_inserted n) = nothing
deed (removal h) (removed key value note) = takes_out h note
deed (removal h) (not_removed n) = nothing
deed (laying_out capacity top) laid = begins capacity
deed (laying_out capacity top) (not_laid n) = nothing
deed (looks l) a = nothing
