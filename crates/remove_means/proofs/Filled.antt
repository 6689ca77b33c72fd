-- A node replaced by one from below it: lifted out, set in its place, and the ranks settled from where the replacement hung.
-- A reader may rely on: filled, for a replacement m anywhere below i that has no right child; d is the side of i on which it stands, w the
-- way up from m to i, and P e that way and i's own, with the entry e in i's place.
use Prim.Native.Nat.{ℕ, suc, ◌≤◌, ◌<◌}
use mathlib.Core.Path.{◌≡◌, refl, sym, subst}
use mathlib.Core.Logic.{◌⊎◌, inl, inr}
use mathlib.Core.List.{List, [], ◌∷◌, ◌++◌}
use native.Mathlib.Omega.{arith}
use borrow.Author.Tests.{eq-eqb, ne_eqb}
use Rattle.handle.specs.Numbers.{no_slot}
use lib.Dec.{eqb}
use Rattle.arena.specs.Branch.{ifte}
use Rattle.arena.specs.inner.Budget.{budget}
use Rattle.arena.specs.Words.{Long}
use Rattle.arena.proofs.Only.{only_trans, only_weaken}
use Rattle.wavl.specs.Lists.{In}
use Rattle.wavl.specs.Entry.{Entry, slots}
use Rattle.wavl.specs.Tree.{Side, left, Tree, tip, fork, node, pick, rank, inorder}
use Rattle.wavl.specs.Way.{step, Way, plug}
use Rattle.wavl.specs.Ranks.{Ranks}
use Rattle.wavl.proofs.Placed.{WayRanks, unplug_ranks}
use Rattle.remove.specs.inner.Take.{settle_at, filled_from, filled_by}
use Rattle.queue_of_store.specs.Links.{TreeWords}
use Rattle.queue_of_store.specs.inner.Ways.{parent, side_in}
use Rattle.queue_of_store.proofs.Has.{Has, Distinct, has_top}
use Rattle.queue_of_store.proofs.Ways.{unplugged, HasWay, has_plug, above_apart}
use Rattle.queue_of_store.proofs.AnyDepth.{Came}
use Rattle.remove_means.proofs.Climbing.{peak}
use Rattle.remove_means.proofs.Settled.{closing, settled}
use Rattle.remove_means.proofs.Lifted.{lifted, lift_is, lifted-only, lifted-room, lifted-words, lifted-distinct, lifted-gone, lifted-member}
use Rattle.remove_means.proofs.Standing.{stood, stands-is, stands-words, stands-only, stands-distinct, stands-member, stands-room}
use Rattle.std.specs.Prelude.{Result, ⊤}
use Rattle.handle.specs.declared.Refusal.{Refusal}

pub plug_append : (w q : Way) (t : Tree) → plug t (w ++ q) ≡ plug (plug t w) q
unfolding plug
plug_append [] q t = refl
plug_append (step d e r u ∷ w) q t = plug_append w q (node d t e r u)

-- the rank at the root
pub peak-rank : (p : Way) (t : Tree) → rank (plug t p) ≡ peak (rank t) p
unfolding plug
peak-rank [] t = refl
peak-rank (step d e r u ∷ p) t = peak-rank p (node d t e r u)

-- ranks and their rule do not see which entry stands at i
module _ (d : Side) (x e : Entry) (r : ℕ) (b : Tree) (p : Way) where
  ranks-swap : (w : Way) (h : ℕ) → WayRanks h (w ++ (step d x r b ∷ p)) → WayRanks h (w ++ (step d e r b ∷ p))
  ranks-swap [] h k = k
  ranks-swap (step c f q u ∷ w) h k = (k.0, k.1, ranks-swap w q k.2)

  peak-swap : (w : Way) (h : ℕ) → peak h (w ++ (step d e r b ∷ p)) ≡ peak h (w ++ (step d x r b ∷ p))
  peak-swap [] h = refl
  peak-swap (step c f q u ∷ w) h = peak-swap w q

  has_end : (w : Way) → HasWay x.slot (w ++ (step d x r b ∷ p))
  has_end [] = inl refl
  has_end (step c f q u ∷ w) = inr (inr (has_end w))

pub came_weaken : (s : List ℕ) (cap : ℕ) (l m : List ℕ) (t : Tree) (y : List ℕ × Result ⊤ Refusal) → ((j : ℕ) → In j l → In j m) → Came s cap l t y → Came s cap m t y
came_weaken s cap l m t y f k =
    record { yes = k.yes; words = k.words; only = only_weaken (λ j g hj z. record { slot_in = f j z.slot_in; field_is = z.field_is }) (λ h z. z) k.only }

module _ (s : List ℕ) (cap : ℕ) (few : cap ≤ no_slot) (room : Long s cap) (c : Tree) (e : Entry) (q : ℕ) (w : Way) (d : Side) (x : Entry) (r : ℕ) (b : Tree) (p : Way) where
  abbrev M : Tree
  M = fork c e q tip

  abbrev P : Entry → Way
  P z = w ++ (step d z r b ∷ p)

  abbrev at : Entry → Tree
  at z = node d (plug c w) z r b

  at-is : (z : Entry) → plug c (P z) ≡ plug (at z) p
  unfolding plug
  at-is z = plug_append w (step d z r b ∷ p) c

  module _ (D : Distinct (plug M (P x))) (W : TreeWords s cap (plug M (P x))) (R : Ranks (plug M (P x))) (low : rank (plug M (P x)) < budget) where
    abbrev i : ℕ
    i = x.slot

    abbrev m : ℕ
    m = e.slot

    abbrev l : List ℕ
    l = slots (inorder (plug M (P x)))

    abbrev s1 : List ℕ
    s1 = lifted s cap few room c e q (P x) D W

    room1 : Long s1 cap
    room1 = lifted-room s cap few room c e q (P x) D W

    W1 : TreeWords s1 cap (plug (at x) p)
    W1 = rw (at-is x) at (lifted-words s cap few room c e q (P x) D W)

    D1 : Distinct (plug (at x) p)
    D1 = rw (at-is x) at (lifted-distinct c e q (P x) D)

    gone : ¬ (Has m (plug (at x) p))
    gone = rw (at-is x) at (lifted-gone c e q (P x) D)

    lowm : m < cap
    lowm = (unplugged s cap (P x) M W).below.0.low

    abbrev s2 : List ℕ
    s2 = stood s1 cap few room1 (pick d (plug c w) b) x r (pick d b (plug c w)) p D1 W1 e lowm gone

    W2 : TreeWords s2 cap (plug c (P e))
    W2 = rw (at-is e) (stands-words s1 cap few room1 (pick d (plug c w) b) x r (pick d b (plug c w)) p D1 W1 e lowm gone)

    D2 : Distinct (plug c (P e))
    D2 = rw (at-is e) (stands-distinct s1 cap few room1 (pick d (plug c w) b) x r (pick d b (plug c w)) p D1 W1 e lowm gone)

    was : (j : ℕ) → Has j (plug (at x) p) → In j l
    was j h = lifted-member c e q (P x) D j (rw (at-is x) h)

    m_in : In m l
    m_in = has_plug m (P x) M (has_top c e q tip left m refl)

    member : (j : ℕ) → Has j (plug c (P e)) → In j l
    member j h = go (stands-member s1 cap few room1 (pick d (plug c w) b) x r (pick d b (plug c w)) p D1 W1 e lowm gone j (rw (at-is e) at h))
      where
        go : (j ≡ m) ⊎ Has j (plug (at x) p) → In j l
        go (inl k) = rw k m_in
        go (inr k) = was j k

    -- m had no right child, so its rank was one above its left one's
    parts : Ranks M × WayRanks q (P x)
    parts = unplug_ranks (P x) M R

    one_up : q ≡ suc (rank c)
    one_up = let f = parts.0.2 in omega arith

    settles : Came s2 cap (slots (inorder (plug c (P e)))) (closing c (P e)) (settle_at s2 cap (parent (P e)) (side_in (P e)))
    settles =
        settled cap few (slots (inorder (plug c (P e)))) s2 c (P e) (record {
          words = W2;
          slots-are = refl;
          once = D2;
          room = stands-room s1 cap few room1 (pick d (plug c w) b) x r (pick d b (plug c w)) p D1 W1 e lowm gone;
          ranks = parts.0.0;
          way = subst (λ (h : ℕ). WayRanks h (P e)) one_up (ranks-swap d x e r b p w q parts.1);
          low = subst (λ (h : ℕ). peak h (P e) < budget) one_up (rw (peak-swap d x e r b p w q, ← peak-rank (P x) M) low);
        })

    filled_is : filled_by s cap i m ≡ settle_at s2 cap (parent (P e)) (side_in (P e))
    unfolding filled_by filled_from
    filled_is =
        rw (lift_is s cap few room c e q (P x) D W, stands-is s1 cap few room1 (pick d (plug c w) b) x r (pick d b (plug c w)) p D1 W1 e lowm gone)
        (go w D s2)
      where
        go : (w : Way) → Distinct (plug M (w ++ (step d x r b ∷ p))) → (t : List ℕ)
            → ifte (eqb (parent (w ++ (step d x r b ∷ p))) i) (settle_at t cap m (side_in (w ++ (step d x r b ∷ p))))
            (settle_at t cap (parent (w ++ (step d x r b ∷ p))) (side_in (w ++ (step d x r b ∷ p))))
            ≡ settle_at t cap (parent (w ++ (step d e r b ∷ p))) (side_in (w ++ (step d e r b ∷ p)))
        go [] D t = rw (eq-eqb i i refl)
        go (step c f k u ∷ w) D t = rw (ne_eqb f.slot i (λ z. above_apart c f k u (w ++ (step d x r b ∷ p)) M D i (has_end d x e r b p w) (inl (sym z))))

    pub filled : Came s cap l (closing c (P e)) (filled_by s cap i m)
    filled =
        let k = came_weaken s2 cap (slots (inorder (plug c (P e)))) l (closing c (P e)) _ member settles in
        rw filled_is (record {
          yes = k.yes;
          words = k.words;
          only = only_trans (lifted-only s cap few room c e q (P x) D W l (λ j h. h))
              (only_trans (stands-only s1 cap few room1 (pick d (plug c w) b) x r (pick d b (plug c w)) p D1 W1 e lowm gone l was m_in) k.only);
        })
