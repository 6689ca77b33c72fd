-- A rank written in the words, at any depth; and what the climb reads there: a child's rank, the slot above, the side below it.
-- A reader may rely on: a rank's write changes that rank in the tree and nothing else.
use Prim.Native.Nat.{ℕ, ◌+◌, ◌-◌, ◌≤◌, ◌<◌}
use mathlib.Core.Path.{◌≡◌, refl, sym, ◌∙◌}
use mathlib.Core.List.{List, [], ◌∷◌}
use native.Mathlib.Omega.{arith}
use borrow.Author.Tests.{lt-ltb, le-ltb, eq-eqb, ne_eqb, lt-leb}
use Rattle.handle.specs.Numbers.{no_slot}
use Rattle.arena.specs.Words.{Long, field, put, LEFT, RIGHT, RANK}
use Rattle.arena.proofs.Only.{only-put}
use Rattle.wavl.specs.Lists.{In}
use Rattle.wavl.specs.Entry.{Entry}
use Rattle.wavl.specs.Tree.{Side, left, right, other, Tree, tip, fork, node, rank, entry, child}
use Rattle.wavl.specs.Way.{step, Way, plug}
use Rattle.wavl.proofs.Order.{node-same}
use Rattle.tree.specs.inner.Links.{rank_of, side_of_child}
use Rattle.lower.specs.inner.Climb.{go_up_to, go_up}
use Rattle.queue_of_store.specs.Ends.{top_slot, number}
use Rattle.queue_of_store.specs.Links.{Links, TreeWords}
use Rattle.queue_of_store.specs.inner.Ways.{parent}
use Rattle.queue_of_store.proofs.Has.{Has, Distinct, has_top}
use Rattle.queue_of_store.proofs.Trees.{opened, slot-low}
use Rattle.queue_of_store.proofs.Ways.{Parted, unplugged, distinct_in}
use Rattle.queue_of_store.proofs.WayWrites.{one-sided}
use Rattle.queue_of_store.proofs.NodeWrites.{new-rank}
use Rattle.queue_of_store.proofs.AnyDepth.{Regrown, raised_at}
use Rattle.tree.specs.declared.Climbed.{Climbed}
use Rattle.tree.specs.declared.Climbed.TheVariants.{Done, Up}
use Rattle.std.specs.Prelude.{Result, Ok}
use Rattle.handle.specs.declared.Refusal.{Refusal}

-- a tree that is none missing, over the side
pub as_node : (d : Side) (x : Tree) → 1 ≤ rank x → x ≡ node d (child d x) (entry x) (rank x) (child (other d) x)
as_node d tip h = absurd (omega arith)
as_node left (fork a e r b) h = refl
as_node right (fork a e r b) h = refl

pub top-entry : (x : Tree) → 1 ≤ rank x → top_slot x ≡ (entry x).slot
top-entry tip h = absurd (omega arith)
top-entry (fork a e r b) h = refl

-- the same node from its other side
pub node-other : (d : Side) (x : Tree) (e : Entry) (r : ℕ) (y : Tree) → node (other d) x e r y ≡ node d y e r x
node-other left x e r y = refl
node-other right x e r y = refl

-- the rank r at the node of e
module _ (s : List ℕ) (cap : ℕ) (few : cap ≤ no_slot) (room : Long s cap) (l : List ℕ) (d : Side) (a : Tree) (e : Entry) (q : ℕ) (b : Tree) (p : Way) (r : ℕ) where
  pub lowered : Distinct (plug (node d a e q b) p) → ((j : ℕ) → Has j (plug (node d a e q b) p) → In j l) → TreeWords s cap (plug (node d a e q b) p)
      → Regrown s (put s cap e.slot RANK r) cap l (plug (node d a e r b) p)
  lowered D within T =
      let x = node d a e q b in
      let w = (unplugged s cap p x T).below in
      let o = (opened s cap d (parent p) a e q b w).0 in
      raised_at s (put s cap e.slot RANK r) cap l p x (node d a e r b) few room D within T (node-same d e r q a a b b refl refl)
      (only-put s e.slot RANK r o.low (omega arith)
      (record { slot_in = has_top a e q b d e.slot refl; field_is = record { from = omega arith; to = omega arith } }))
      (new-rank s cap (parent p) d a e q b r room (distinct_in p x D) w) refl

-- the rank of a child, missing or not
pub rank_of_lem : (s : List ℕ) (cap : ℕ) (x : Tree) (b : ℕ) → cap ≤ no_slot → Links s cap b x → rank_of s cap (top_slot x) ≡ rank x
unfolding rank_of
rank_of_lem s cap tip b few l = refl
rank_of_lem s cap (fork x e r y) b few l =
    let low : e.slot < cap = l.0.low in
    rw (ne_eqb e.slot no_slot (λ z. omega arith), lt-leb cap e.slot low) l.0.rank_is

-- the side of a child that the other one is not
side-is : (s : List ℕ) (cap : ℕ) (d : Side) (i old far : ℕ) → field s cap i (LEFT + number d) ≡ old → field s cap i (RIGHT - number d) ≡ far
    → ¬ (old ≡ far) → side_of_child s cap i old ≡ number d
unfolding side_of_child
side-is s cap left i old far e f n = rw (ne_eqb (field s cap i RIGHT) old (λ z. n (sym z ∙ f)))
side-is s cap right i old far e f n = rw (eq-eqb (field s cap i RIGHT) old e)

-- the side of what hangs at a place
pub hung-side : (s : List ℕ) (cap : ℕ) → cap ≤ no_slot → (d : Side) (e : Entry) (r : ℕ) (u : Tree) (p : Way) (x : Tree) → Distinct (plug x (step d e r u ∷ p))
    → Parted s cap x (step d e r u ∷ p) → Has (top_slot x) x → side_of_child s cap e.slot (top_slot x) ≡ number d
hung-side s cap few d e r u p x D w some =
    side-is s cap d e.slot (top_slot x) (top_slot u) w.hook w.way.0.far-is
    (one-sided cap (step d e r u ∷ p) x (top_slot x) few D some (slot-low s cap x e.slot w.below (top_slot x) some))

-- where the climb goes on above a place
abbrev pub up_to : Way → Result Climbed Refusal
up_to [] = Ok Done
up_to (step d e r u ∷ p) = Ok (Up e.slot (number d))

pub goes_up : (s : List ℕ) (cap : ℕ) → cap ≤ no_slot → (d : Side) (a : Tree) (e : Entry) (r : ℕ) (b : Tree) (p : Way)
    → Distinct (plug (node d a e r b) p) → TreeWords s cap (plug (node d a e r b) p) → go_up s cap e.slot ≡ up_to p
unfolding go_up go_up_to
goes_up s cap few d a e r b p D w =
    let W = unplugged s cap p (node d a e r b) w in
    rw (opened s cap d (parent p) a e r b W.below).0.back_is (go p D W)
  where
    go : (p : Way) → Distinct (plug (node d a e r b) p) → Parted s cap (node d a e r b) p → go_up_to s cap e.slot (parent p) ≡ up_to p
    go [] D W = rw (le-ltb no_slot cap few)
    go (step c f q u ∷ p) D W =
        rw (lt-ltb f.slot cap W.way.0.low, hung-side s cap few c f q u p (node d a e r b) D W (has_top a e r b d e.slot refl))
