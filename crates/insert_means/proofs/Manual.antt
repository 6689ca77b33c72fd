-- Manual: what it prepares in the words, by the handle, the side and the keys, is what crate `rules` does to the queue.
-- A reader may rely on: manual_prepares, for every handle, side and key.
use Prim.Native.Nat.{ℕ, ◌+◌, ◌-◌, ◌≤◌, ◌<◌}
use mathlib.Core.Path.{◌≡◌, refl, sym, ap, ◌∙◌}
use mathlib.Core.Bool.{true, false}
use mathlib.Core.List.{List, ◌∷◌}
use mathlib.Core.Option.{Option, some, none}
use native.Mathlib.Decide.{ℕ_discrete}
use native.Mathlib.Omega.{arith}
use borrow.Author.Tests.{lt-ltb, le-ltb, lt-leb, eq-eqb, ne_eqb}
use Rattle.handle.specs.Numbers.{no_slot}
use Rattle.handle.specs.declared.Handle as H
use Rattle.handle.specs.declared.Side as S
use Rattle.arena.specs.Words.{field, KEY, LEFT, PREV}
use Rattle.arena.specs.inner.Entries.{is_live}
use Rattle.insert.specs.inner.Kinds.{lies_on, prepared_equal, place_beside, beside_next, prepared_beside, prepared_manual}
use Rattle.wavl.specs.Lists.{In}
use Rattle.wavl.specs.Entry.{Entry}
use Rattle.wavl.specs.Tree.{Side, left, right, other, Tree, tip, fork, pick}
use Rattle.wavl.specs.Way.{step, Way, place, plug, neighbour}
use Rattle.wavl.specs.Search.{gap, beside_of}
use Rattle.wavl.proofs.Manual.{beside-whole}
use Rattle.wavl.proofs.Rounds.{choose_yes, choose_no}
use Rattle.rules.specs.Queue.{Queue, entries}
use Rattle.rules.specs.Place.{Spot, nowhere, spot, spot_of}
use Rattle.rules.specs.Insert.{keyed, Beside, dec_beside, Between, dec_between, add_beside, place_manual, insert_manual}
use Rattle.rules.proofs.Places.{SpotIs, spot_is}
use Rattle.rules.proofs.Removing.{live-once}
use Rattle.queue_of_store.specs.Ends.{top_slot, number}
use Rattle.queue_of_store.specs.Handles.{plain}
use Rattle.queue_of_store.specs.inner.Meanings.{is_spot}
use Rattle.queue_of_store.specs.Links.{Links}
use Rattle.queue_of_store.specs.Entries.{EntryWords}
use Rattle.queue_of_store.specs.Holds.{Holds}
use Rattle.queue_of_store.proofs.Parts.{sound_of, words_of, few-slots}
use Rattle.queue_of_store.proofs.Live.{live-entry, spot_in, live-is}
use Rattle.queue_of_store.proofs.States.{live-node}
use Rattle.queue_of_store.proofs.Trees.{slot-low}
use Rattle.queue_of_store.proofs.Ways.{unplugged}
use Rattle.queue_of_store.proofs.Chains.{slot_of}
use Rattle.insert_means.specs.Meaning.{side_means}
use Rattle.insert_means.proofs.Plans.{add, swap, fail, planned, Prepares}
use Rattle.insert_means.proofs.Neighbours.{end_slot, end_has, gap-tip, gap-planned, neighbour_end, neighbour-link, neighbour_in}
use Rattle.std.specs.Prelude.{Err}
use Rattle.handle.specs.declared.Refusal.TheVariants.{FailedOrdRequirement}

-- the test of two keys, over the side
lies_yes : (d : Side) (k : ℕ) (y : Entry) → Beside d (keyed k) y → lies_on (number d) k y.key ≡ true
unfolding lies_on
lies_yes left k y h = lt-ltb k y.key h
lies_yes right k y h = lt-ltb y.key k h

lies_no : (d : Side) (k : ℕ) (y : Entry) → ¬ (Beside d (keyed k) y) → lies_on (number d) k y.key ≡ false
unfolding lies_on
lies_no left k y h = le-ltb k y.key (omega arith)
lies_no right k y h = le-ltb y.key k (omega arith)

-- the neighbour lies on the other side of the key
over_yes : (d : Side) (k : ℕ) (y : Entry) → Beside d y (keyed k) → lies_on (1 - number d) k y.key ≡ true
over_yes left k y h = lies_yes right k y h
over_yes right k y h = lies_yes left k y h

over_no : (d : Side) (k : ℕ) (y : Entry) → ¬ (Beside d y (keyed k)) → lies_on (1 - number d) k y.key ≡ false
over_no left k y h = lies_no right k y h
over_no right k y h = lies_no left k y h

module _ {s : List ℕ} {q : Queue} (hold : Holds s q) (k : ℕ) where
  abbrev cap : ℕ
  cap = q.capacity

  few : cap ≤ no_slot
  few = few-slots (words_of hold)

  live-low : (y : Entry) → In y (entries q) → y.slot < cap
  live-low y i = (live-node s cap no_slot q.tree hold.rule_1.links hold.rule_2 y i).low

  module _ (a : Tree) (x : Entry) (r : ℕ) (b : Tree) (p : Way) (e : plug (fork a x r b) p ≡ q.tree) where
    here : EntryWords s cap x
    here = live-entry hold x (spot_in hold a x r b p e)

    -- "or equal the target's for Equal"
    equal_prepares : Prepares q k (prepared_equal s cap x.slot k) (λ v. place_manual (spot a x r b p) (side_means S.TheVariants.Equal) k v q)
    unfolding prepared_equal place_manual
    equal_prepares = go (ℕ_discrete k x.key)
      where
        go : Dec (k ≡ x.key) → Prepares q k (prepared_equal s cap x.slot k) (λ v. place_manual (spot a x r b p) (side_means S.TheVariants.Equal) k v q)
        go (yes z) = record {
          plan = swap a x r b p;
          fits = e;
          words_so = rw (here.key-is, eq-eqb x.key k (sym z));
          queue_so = λ v. choose_yes (ℕ_discrete k x.key) _ _ z;
        }
        go (no z) = record {
          plan = fail;
          fits = tt;
          words_so = rw (here.key-is, ne_eqb x.key k (λ y. z (sym y)));
          queue_so = λ v. choose_no (ℕ_discrete k x.key) _ _ z;
        }

    module _ (d : Side) where
      abbrev n : Option Entry
      n = neighbour d (place (fork a x r b) p)

      link : field s cap x.slot (PREV + number d) ≡ slot_of n
      link = neighbour-link a x r b p s cap d (rw e hold.rule_3)

      child : field s cap x.slot (LEFT + number d) ≡ top_slot (pick d a b)
      child = go d
        where
          go : (d : Side) → field s cap x.slot (LEFT + number d) ≡ top_slot (pick d a b)
          go left = (unplugged s cap p (fork a x r b) (rw e hold.rule_1)).below.0.near-is
          go right = (unplugged s cap p (fork a x r b) (rw e hold.rule_1)).below.0.far-is

      below : Links s cap x.slot (pick d a b)
      below = go d
        where
          go : (d : Side) → Links s cap x.slot (pick d a b)
          go left = (unplugged s cap p (fork a x r b) (rw e hold.rule_1)).below.1
          go right = (unplugged s cap p (fork a x r b) (rw e hold.rule_1)).below.2

      flip : (d : Side) → 1 - number d ≡ number (other d)
      flip left = refl
      flip right = refl

      -- the place beside the node, in the words
      place-beside : place_beside s cap x.slot (number d) (slot_of n) ≡ planned (add (beside_of d (place (fork a x r b) p)))
      unfolding place_beside beside_of
      place-beside = by (pick d a b) refl
        where
          by : (c : Tree) → pick d a b ≡ c → place_beside s cap x.slot (number d) (slot_of n) ≡ planned (add (gap (other d) c (step d x r (pick d b a) ∷ p)))
          by tip z =
              let f : field s cap x.slot (LEFT + number d) ≡ no_slot = child ∙ ap top_slot z in
              rw (eq-eqb (field s cap x.slot (LEFT + number d)) no_slot f, gap-tip (other d) (step d x r (pick d b a) ∷ p))
          by (fork c₁ y k₁ c₂) z =
              let f : field s cap x.slot (LEFT + number d) ≡ y.slot = child ∙ ap top_slot z in
              let m = few in
              let L : Links s cap x.slot (fork c₁ y k₁ c₂) = rw z at below in
              let low : y.slot < cap = L.0.low in
              let g : slot_of n ≡ end_slot (other d) (fork c₁ y k₁ c₂) = rw z at (neighbour_end a x r b p d (rw z (tt {0}))) in
              let low₁ : slot_of n < cap = rw g (slot-low s cap (fork c₁ y k₁ c₂) x.slot L _ (end_has (other d) (fork c₁ y k₁ c₂) tt)) in
              rw (ne_eqb (field s cap x.slot (LEFT + number d)) no_slot (λ u. omega arith), lt-leb cap (slot_of n) low₁)
              (rw (g, flip d) (sym (gap-planned (other d) (fork c₁ y k₁ c₂) (step d x r (pick d b a) ∷ p) tt)))

      -- the key against the node's and its neighbour's
      passes : (m : Option Entry) → n ≡ m → Between d (keyed k) x m → prepared_beside s cap x.slot (number d) k ≡ planned (add (beside_of d (place (fork a x r b) p)))
      unfolding prepared_beside beside_next
      passes none u f = rw (here.key-is, lies_yes d k x f, link, eq-eqb (slot_of n) no_slot (ap slot_of u)) place-beside
      passes (some y) u f =
          let i : In y (entries q) = rw e at (neighbour_in a x r b p d y u) in
          let low = live-low y i in
          let g : slot_of n ≡ y.slot = ap slot_of u in
          let m = few in
          let key : field s cap (slot_of n) KEY ≡ y.key = rw g (live-entry hold y i).key-is in
          rw (here.key-is, lies_yes d k x f.0, link, ne_eqb (slot_of n) no_slot (λ z. omega arith), lt-leb cap (slot_of n) (rw g low), key, over_yes d k y f.1) place-beside

      fails : (m : Option Entry) → n ≡ m → ¬ (Between d (keyed k) x m) → Dec (Beside d (keyed k) x) → prepared_beside s cap x.slot (number d) k ≡ Err FailedOrdRequirement
      unfolding prepared_beside beside_next
      fails m u f (no z) = rw (here.key-is, lies_no d k x z)
      fails none u f (yes z) = absurd (f z)
      fails (some y) u f (yes z) =
          let i : In y (entries q) = rw e at (neighbour_in a x r b p d y u) in
          let low = live-low y i in
          let g : slot_of n ≡ y.slot = ap slot_of u in
          let m = few in
          let key : field s cap (slot_of n) KEY ≡ y.key = rw g (live-entry hold y i).key-is in
          rw (here.key-is, lies_yes d k x z, link, ne_eqb (slot_of n) no_slot (λ v. omega arith), lt-leb cap (slot_of n) (rw g low), key, over_no d k y (λ v. f (z, v)))

      beside_prepares : Prepares q k (prepared_beside s cap x.slot (number d) k) (λ v. add_beside d x (place (fork a x r b) p) k v q)
      beside_prepares = go (dec_between d (keyed k) x n)
        where
          go : Dec (Between d (keyed k) x n) → Prepares q k (prepared_beside s cap x.slot (number d) k) (λ v. add_beside d x (place (fork a x r b) p) k v q)
          go (yes f) = record {
            plan = add (beside_of d (place (fork a x r b) p));
            fits = beside-whole d a x r b p ∙ e;
            words_so = passes n refl f;
            queue_so = λ v. choose_yes (dec_between d (keyed k) x n) _ _ f;
          }
          go (no f) = record {
            plan = fail;
            fits = tt;
            words_so = fails n refl f (dec_beside d (keyed k) x);
            queue_so = λ v. choose_no (dec_between d (keyed k) x n) _ _ f;
          }

  -- by the place that the handle names
  by-spot : (h : H.Handle) (side : S.Side) (w : Spot) → SpotIs (plain h) q w → is_live s cap h ≡ is_spot w
      → Prepares q k (prepared_manual s cap h side k) (λ v. place_manual w (side_means side) k v q)
  unfolding prepared_manual place_manual
  by-spot h side nowhere f z = rw z (record { plan = fail; fits = tt; words_so = refl; queue_so = λ v. refl })
  by-spot h S.TheVariants.Less (spot a x r b p) f z = rw (z, ← f.0.0) (beside_prepares a x r b p f.1 left)
  by-spot h S.TheVariants.Equal (spot a x r b p) f z = rw (z, ← f.0.0) (equal_prepares a x r b p f.1)
  by-spot h S.TheVariants.Greater (spot a x r b p) f z = rw (z, ← f.0.0) (beside_prepares a x r b p f.1 right)

  pub manual_prepares : (h : H.Handle) (side : S.Side) → Prepares q k (prepared_manual s cap h side k) (λ v. insert_manual (plain h) (side_means side) k v q)
  unfolding insert_manual
  manual_prepares h side = by-spot h side (spot_of (plain h) q) (spot_is (plain h) q (live-once (sound_of hold))) (live-is hold h)
