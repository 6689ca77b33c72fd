-- The check says yes where it should: after any public call on a sound store, and after any sequence of calls from a laid out one.
use Prim.Native.Nat.{ℕ}
use mathlib.Core.Path.{◌≡◌}
use mathlib.Core.Bool.{Bool, true}
use mathlib.Core.List.{List}
use lib.ListN.{length}
use Rattle.arena.specs.Laying.{GoodLayout}
use Rattle.arena.specs.inner.Laying.{lay_out_words}
use Rattle.rules.specs.Queue.{Queue}
use Rattle.rules.specs.Calls.{Call, run_by}
use Rattle.queue_of_store.specs.Holds.{SoundStore}
use Rattle.sound.specs.Decides.{Decides}
use Rattle.queue.specs.Promises.{Writes}
use Rattle.queue.proofs.Follows.{stays_sound}
use Rattle.history_of_store.specs.Store.{on_store}
use Rattle.history_of_store.proofs.Linked.{demand_3_of_the_store}

-- a call that writes leaves a sound store sound, so that the check's answer b is yes; a call that looks leaves the store as it is
pub yes-after_a_call : {A B : Type 0} {five : A} {model : List ℕ × A} {reads : A → B} {rule : Queue → B × Queue} {s t : List ℕ} {r : A}
    → Writes five model reads rule s t r → SoundStore s → (b : Bool) → Decides t b → b ≡ true
yes-after_a_call w x b d = d.yes.1 (stays_sound w x)

pub yes-after_a_history : (s : List ℕ) (capacity top : ℕ) → GoodLayout (length s) capacity top → (l : List Call)
    → (b : Bool) → Decides (run_by on_store l (lay_out_words s capacity top).0).1 b → b ≡ true
yes-after_a_history s capacity top g l b d = let m = demand_3_of_the_store s capacity top g l in d.yes.1 (m.queue, m.keeps.holds)
