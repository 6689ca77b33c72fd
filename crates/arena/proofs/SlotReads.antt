-- The models of slots, entries and the header, with what the code has read handed in.
use Prim.Native.Nat.{ℕ, ◌<◌, ◌≤◌}
use mathlib.Core.Path.{◌≡◌, sym, ◌∙◌}
use mathlib.Core.Bool.{Bool, true, false}
use mathlib.Core.List.{List}
use lib.ListN.{length}
use borrow.Author.Tests.{le-ltb, leb-false, ltb-false}
use Rattle.handle.specs.declared.Handle.{Handle}
use Rattle.handle.specs.declared.Refusal.TheVariants.{BadLayout}
use Rattle.handle.specs.Numbers.{limit, top_limit}
use Rattle.handle.proofs.Limits.{limit-fits}
use Rattle.arena.specs.Words.{head_words, need, field, head, GENERATION, CAPACITY, TOP, HEIGHT}
use Rattle.arena.specs.Header.{header_of}
use Rattle.arena.specs.Laying.{GoodLayout}
use Rattle.arena.specs.inner.Laying.{good_layout, lay_out_words}
use Rattle.arena.specs.inner.Slots.{PeekedIn, handle_with, peek_from, peek_slot, free_with, free_slot}
use Rattle.arena.specs.inner.Entries.{is_live}
use Rattle.arena.proofs.Paths.{no_refusal, no_refusals}
use Rattle.arena.specs.declared.slots.Freed.{Freed}
use Rattle.std.specs.Prelude.{Result, Ok, Err, ⊤}
use Rattle.handle.specs.declared.Refusal.{Refusal}

-- the header's capacity, as read
module _ (s : List ℕ) (cap : ℕ) (e : cap ≡ head s CAPACITY) (long : head_words ≤ length s) (some : 1 ≤ cap) (few : cap ≤ limit) where
  pub header-passes : need cap ≤ length s → Ok cap ≡ header_of s
  unfolding header_of
  header-passes h = rw (← e, le-ltb (length s) head_words long, le-ltb cap 1 some, le-ltb limit cap few, le-ltb (length s) (need cap) h)

module _ (s : List ℕ) (cap : ℕ) where
  pub peek_reads : (x : Result Handle Refusal) (h : ℕ) → h ≡ head s HEIGHT → x ≡ peek_from s cap h → x ≡ peek_slot s cap
  unfolding peek_slot
  peek_reads x h e p = rw (← e) p

  pub free-reads : (i : ℕ) (x : List ℕ × Result Freed Refusal) (h top g : ℕ) → h ≡ head s HEIGHT → top ≡ head s TOP → g ≡ field s cap i GENERATION
      → x ≡ free_with s cap i h top g → x ≡ free_slot s cap i
  unfolding free_slot
  free-reads i x h top g e f k p = rw (← e, ← f, ← k) p

-- a handle that names a live entry has a slot in the store
pub live_low : (s : List ℕ) (cap : ℕ) (h : Handle) (t : Bool) → t ≡ is_live s cap h → t ≡ true → h.slot.0 < cap
unfolding is_live
live_low s cap h t e f = leb-false cap h.slot.0 (no_refusal _ _ (sym e ∙ f)).0

-- what the test of a layout says
pub good-yes : (len cap top : ℕ) → good_layout len cap top ≡ true → GoodLayout len cap top
unfolding good_layout
good-yes len cap top t =
    let n = no_refusals _ _ _ _ _ t in
    record {
      range = record {
        capacity-from = ltb-false cap 1 n.0;
        capacity-to = ltb-false limit cap n.1;
        top_from = ltb-false top 1 n.2;
        top_to = ltb-false top_limit top n.3;
      };
      room = ltb-false len (need cap) n.4;
    }

-- what laying out takes from its test, and from the limit
pub ruleset laying = (limit-fits, good-yes)

pub good-is : (len cap top : ℕ) → GoodLayout len cap top → good_layout len cap top ≡ true
unfolding good_layout
good-is len cap top g =
    let r = g.range in
    rw (le-ltb cap 1 r.capacity-from, le-ltb limit cap r.capacity-to, le-ltb top 1 r.top_from, le-ltb top_limit top r.top_to, le-ltb len (need cap) g.room)

module _ (s : List ℕ) (cap top : ℕ) where
  pub lay_refused : good_layout (length s) cap top ≡ false → ◌≡◌ {A = List ℕ × Result ⊤ Refusal} (s, Err BadLayout) (lay_out_words s cap top)
  unfolding lay_out_words
  lay_refused g = rw g

pub found_in_lem : (s : List ℕ) (cap h i g : ℕ) (r : Handle) → h ≡ head s HEIGHT → 1 ≤ h → h ≤ cap → r ≡ handle_with i g → i < cap → PeekedIn s cap (Ok r)
found_in_lem s cap h i g r e l m k n = (rw k n, rw (← e) l, rw (← e) m)
