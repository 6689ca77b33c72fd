-- The search of the words on a store that holds a queue is the search of its tree, for every key; its budget is never met.
-- A reader may rely on: seek_is, the answer in slots; seek-means, the answer that crate `rules` gives.
use Prim.Native.Nat.{ℕ, zero, suc, ◌+◌, ◌≤◌, ◌<◌}
use mathlib.Core.Path.{◌≡◌, refl, sym, ap, ◌∙◌}
use mathlib.Core.List.{List, [], ◌∷◌}
use native.Mathlib.Omega.{arith}
use lib.ListN.{length}
use Rattle.handle.specs.Numbers.{no_slot}
use Rattle.arena.specs.Words.{field, head, KEY, LEFT, ROOT}
use Rattle.arena.specs.inner.Budget.{budget}
use Rattle.find.specs.inner.Seeking.{side_of_key, seek_from, seek_model}
use Rattle.find.proofs.SeekLaws.{side-less, side-greater, seek-empty, seek-root, seek-equal, seek-beside, seek-down}
use Rattle.wavl.specs.Entry.{Entry}
use Rattle.wavl.specs.Tree.{Side, left, right, Tree, tip, fork, rank, inorder}
use Rattle.wavl.specs.Way.{step, Way, place}
use Rattle.wavl.specs.Ranks.{Ranks}
use Rattle.wavl.specs.Search.{key_round, find, search, Found, equal_to, nearest, empty_tree, answer_at}
use Rattle.wavl.proofs.Lists.{all_left, all_right}
use Rattle.wavl.proofs.Order.{IsFork}
use Rattle.wavl.proofs.Rule.{ranked→ranks}
use Rattle.wavl.proofs.Rounds.{key_cases}
use Rattle.wavl.proofs.Reply.{Answers, answer-right}
use Rattle.rules.specs.Queue.{Queue}
use Rattle.rules.specs.Look.{where_of, found_in, search_for}
use Rattle.queue_of_store.specs.Ends.{top_slot, number}
use Rattle.queue_of_store.specs.Links.{Links}
use Rattle.queue_of_store.specs.Entries.{EntryWords, AllEntries}
use Rattle.queue_of_store.specs.Holds.{Holds}
use Rattle.queue_of_store.specs.inner.Meanings.{in_slots, side_no, found_means}
use Rattle.queue_of_store.proofs.Parts.{sound_of, words_of, few-slots, size_few, under_budget}
use Rattle.queue_of_store.proofs.Live.{live-entry}
use Rattle.find.specs.declared.Found as F
use Rattle.std.specs.Prelude.{Result, Ok}
use Rattle.handle.specs.declared.Refusal.{Refusal}

module _ (s : List ℕ) (cap k : ℕ) (few : cap ≤ no_slot) where
  top-low : (t : Tree) (back : ℕ) → Links s cap back t → IsFork t → top_slot t < cap
  top-low tip back l f = absurd f
  top-low (fork a e r b) back l f = l.0.low

  -- at the node e, the key on its side d, where c hangs
  below : (fuel n : ℕ) (d : Side) (c : Tree) (e : Entry) (r : ℕ) (u : Tree) (w : Way) → e.slot < cap → field s cap e.slot KEY ≡ e.key
      → ¬ (e.key ≡ k) → side_of_key k e.key ≡ number d → field s cap e.slot (LEFT + number d) ≡ top_slot c → (IsFork c → top_slot c < cap) → n ≡ length w
      → (IsFork c → seek_from fuel s cap k (top_slot c) (n + 1) ≡ in_slots (answer_at (find k c (step d e r u ∷ w))))
      → seek_from (suc fuel) s cap k e.slot n ≡ in_slots (answer_at (find k c (step d e r u ∷ w)))
  unfolding find answer_at
  below fuel n d tip e r u w l x f g h low m rest = seek-beside fuel s cap k e.slot n l e.key x f (number d) no_slot g h refl
      ∙ let c : n + 1 ≡ suc (length w) = omega arith in ap (λ z. Ok (F.TheVariants.Beside e.slot (number d) z)) c
  below fuel n d (fork a y q b) e r u w l x f g h low m rest =
      let ly : y.slot < cap = low tt in
      seek-down fuel s cap k e.slot n l e.key x f (number d) y.slot g h (λ z. omega arith) ∙ rest tt

  seek-tree : (t : Tree) (back fuel n : ℕ) (w : Way) → IsFork t → Links s cap back t → AllEntries s cap (inorder t) → Ranks t → rank t ≤ fuel → n ≡ length w
      → seek_from fuel s cap k (top_slot t) n ≡ in_slots (answer_at (find k t w))
  unfolding inorder find answer_at
  seek-tree tip back fuel n w i l v x m h = absurd i
  seek-tree (fork a e r b) back zero n w i l v x m h = absurd (omega arith)
  seek-tree (fork a e r b) back (suc fuel) n w i l v x m h =
      let va = all_left (EntryWords s cap) (inorder a) (e ∷ inorder b) v in
      let vb = all_right (EntryWords s cap) (inorder a) (e ∷ inorder b) v in
      let low : e.slot < cap = l.0.low in
      let key = vb.0.key-is in
      key_cases (λ z. seek_from (suc fuel) s cap k e.slot n ≡ in_slots (answer_at z)) (key_round k e.key)
      (place (fork a e r b) w) (find k a (step left e r b ∷ w)) (find k b (step right e r a ∷ w))
      (λ z. seek-equal fuel s cap k e.slot n low e.key key (sym z) ∙ count)
      (λ z. below fuel n left a e r b w low key (λ y. omega arith) (side-less k e.key z) l.0.near-is (top-low a e.slot l.1) h
      (λ f. seek-tree a e.slot fuel (n + 1) (step left e r b ∷ w) f l.1 va x.0 (omega arith) (omega arith)))
      (λ z. below fuel n right b e r a w low key (λ y. omega arith) (side-greater k e.key (omega arith)) l.0.far-is (top-low b e.slot l.2) h
      (λ f. seek-tree b e.slot fuel (n + 1) (step right e r a ∷ w) f l.2 vb.1 x.1 (omega arith) (omega arith)))
    where
      count : ◌≡◌ {A = Result F.Found Refusal} (Ok (F.TheVariants.Equal e.slot (n + 1))) (Ok (F.TheVariants.Equal e.slot (suc (length w))))
      count = let c : n + 1 ≡ suc (length w) = omega arith in ap (λ z. Ok (F.TheVariants.Equal e.slot z)) c

  -- from the root, with the budget
  seek-root-tree : (t : Tree) → head s ROOT ≡ top_slot t → Links s cap no_slot t → AllEntries s cap (inorder t) → Ranks t → rank t ≤ budget
      → seek_model s cap k ≡ in_slots (answer_at (search k t))
  unfolding find answer_at
  seek-root-tree tip h l v x m = seek-empty s cap k no_slot h refl
  seek-root-tree (fork a e r b) h l v x m =
      let low : e.slot < cap = l.0.low in
      seek-root s cap k e.slot h few low ∙ seek-tree (fork a e r b) no_slot budget 0 [] tt l v x m refl

-- the answer in slots and numbers, for every key
pub seek_is : {s : List ℕ} {q : Queue} → Holds s q → (k : ℕ) → seek_model s q.capacity k ≡ in_slots (answer_at (search k q.tree))
seek_is {s} {q} h k =
    let x = ranked→ranks q.tree h.rule_2 in
    let r = under_budget q.tree x (size_few (sound_of h)) in
    seek-root-tree s q.capacity k (few-slots (words_of h)) q.tree h.rule_1.root h.rule_1.links h.live x (omega arith)

-- the answer that crate `rules` gives: the slot's generation is the entry's
pub seek-means : {s : List ℕ} {q : Queue} → Holds s q → (k : ℕ) → found_means s q.capacity (seek_model s q.capacity k) ≡ search_for k q
unfolding search_for found_in
seek-means {s} {q} h k = rw (seek_is h k) (go (answer_at (search k q.tree)) (answer-right k q.tree h.rule_4))
  where
    sided : (d : Side) → side_no (number d) ≡ where_of d
    sided left = refl
    sided right = refl

    go : (a : Found) → Answers k q.tree a → found_means s q.capacity (in_slots a) ≡ found_in a
    go (equal_to e n) f = rw (live-entry h e f.present).generation-is
    go (nearest e d n) f = rw ((live-entry h e f.present).generation-is, sided d)
    go empty_tree f = refl
