-- A replacement, and a refusal that changes nothing, on a store that holds a queue.
-- A reader may rely on: swaps: the old value and the kept handle are answered, and the store holds the queue with the new value.
use Prim.Native.Nat.{ℕ}
use mathlib.Core.Path.{◌≡◌, refl, ap}
use mathlib.Core.List.{List}
use Rattle.handle.specs.Numbers.{refusal_number}
use Rattle.handle.specs.declared.Refusal.{Refusal}
use Rattle.insert.specs.inner.Kept.{Within}
use Rattle.insert.specs.inner.Place.{value_replaced}
use Rattle.wavl.specs.Entry.{Entry}
use Rattle.wavl.specs.Tree.{Tree, fork}
use Rattle.wavl.specs.Way.{Way, plug, replace_at}
use Rattle.rules.specs.Queue.{handle_of, Queue}
use Rattle.rules.specs.Answers.{Inserted, replacing, not_inserted}
use Rattle.rules.specs.Insert.{swap_at}
use Rattle.rules.specs.Sound.{Sound}
use Rattle.queue_of_store.specs.Holds.{Holds}
use Rattle.queue_of_store.proofs.Parts.{sound_of, words_of, holds_of, separate_of}
use Rattle.queue_of_store.proofs.Live.{live-entry, spot_in}
use Rattle.queue_of_store.proofs.Valued.{new-value}
use Rattle.insert_means.specs.inner.Inserts.{Inserts}
use Rattle.insert_means.proofs.AnswerWords.{Answers}
use Rattle.handle.specs.declared.Inserted as I
use Rattle.std.specs.Prelude.{Result, Err}

-- a sound queue's words make a store that holds it
pub inserts : {s : List ℕ} {cap : ℕ} {r : List ℕ × Result I.Inserted Refusal} {m : Inserted × Queue} → Sound m.1 → Answers r m → Within s r.0 cap → Inserts s cap r m
inserts d a c = record { answer = a.answer; holds = holds_of d a.words; keeps = c }

module _ {s : List ℕ} {q : Queue} (k : Holds s q) where
  abbrev cap : ℕ
  cap = q.capacity

  pub refuses : (n : Refusal) → Answers (s, Err n) (not_inserted (refusal_number n), q)
  refuses n = record { answer = refl; words = words_of k }

  pub swaps : (value : ℕ) (a : Tree) (x : Entry) (r : ℕ) (b : Tree) (p : Way) → plug (fork a x r b) p ≡ q.tree
      → Answers (value_replaced s cap x.slot value) (swap_at value a x r b p q)
  unfolding value_replaced replace_at
  swaps value a x r b p e =
      let w = live-entry k x (spot_in k a x r b p e) in
      record { answer = rw w.generation-is (ap (replacing (handle_of x)) w.value-is); words = new-value (separate_of (sound_of k)) (words_of k) a x r b p e value }
