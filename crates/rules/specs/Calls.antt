-- Calls as data, one for each public call, what each answers, and a run of a list of them: what a history is made of.
-- A reader may rely on this: a call does nothing but what the definition that it names does, and a look has no queue in its answer.
use Rattle.std.specs.Prelude.{Bool, true, List, [], ◌∷◌, ℕ}
use Rattle.rules.specs.Queue.{Handle, Queue}
use Rattle.rules.specs.Answers.{Laid, Inserted, Ahead, Removed, Read, SearchAnswer, Stepped}
use Rattle.rules.specs.LayOut.{lay_out}
use Rattle.rules.specs.Insert.{Kind, insert, foresee}
use Rattle.rules.specs.Remove.{remove}
use Rattle.rules.specs.Look.{read, search_for, stand_first, stand_last, stand_at, next, prev}

-- "Search, reading, stepping, look-ahead and check change no store"
pub data Look : Type 0 where
  foresees : Kind → ℕ → Look
  reading : Handle → Look
  searching : ℕ → Look
  to_first to_last : Look
  standing to_next to_prev : Handle → Look
  checking : Look

pub data Call : Type 0 where
  inserts : Kind → ℕ → ℕ → Call
  removal : Handle → Call
  laying_out : ℕ → ℕ → Call
  looks : Look → Call

abbrev pub Seen : Look → Type 0
Seen (foresees kind key) = Ahead
Seen (reading h) = Read
Seen (searching key) = SearchAnswer
Seen to_first = Stepped
Seen to_last = Stepped
Seen (standing h) = Stepped
Seen (to_next h) = Stepped
Seen (to_prev h) = Stepped
Seen checking = Bool

abbrev pub Answer : Call → Type 0
Answer (inserts kind key value) = Inserted
Answer (removal h) = Removed
Answer (laying_out capacity top) = Laid
Answer (looks l) = Seen l

-- The check says yes of a queue: "A store is sound when" it holds one (crate `queue_of_store`).
unfoldable pub look : (l : Look) → Queue → Seen l
look (foresees kind key) q = foresee kind key q
look (reading h) q = read h q
look (searching key) q = search_for key q
look to_first q = stand_first q
look to_last q = stand_last q
look (standing h) q = stand_at h q
look (to_next h) q = next h q
look (to_prev h) q = prev h q
look checking q = true

-- `enough` says for which capacities the lent store is long enough
unfoldable pub answer : (ℕ → Bool) → (c : Call) → Queue → Answer c × Queue
answer enough (inserts kind key value) q = insert kind key value q
answer enough (removal h) q = remove h q
answer enough (laying_out capacity top) q = lay_out enough capacity top q
answer enough (looks l) q = (look l q, q)

-- a call and what it answered; a history has these in the order of the calls, the first call first
pub record Event : Type 0 where
  pub call : Call
  pub reply : Answer call

abbrev pub History : Type 0
History = List Event

-- a list of calls over any kind of state, by what one call does to it: the history, and the state at the end
unfoldable pub run_by : {S : Type 0} → ((c : Call) → S → Answer c × S) → List Call → S → History × S
run_by step [] s = ([], s)
run_by step (c ∷ l) s =
    let r = step c s in let o = run_by step l r.1 in (record { call = c; reply = r.0 } ∷ o.0, o.1)

abbrev pub run : (ℕ → Bool) → List Call → Queue → History × Queue
run enough l q = run_by (answer enough) l q
