-- The restructures of document 01 in the words, as crates `raise` and `lower` write them, without the hook above.
-- A reader may rely on: each law starts from the links of the parts, whatever tree they hung in before; distinct slots are those of
-- the tree afterwards, which has the same list of slots. One law over the side.
use Prim.Native.Nat.{ℕ, ◌≤◌, ◌<◌}
use mathlib.Core.Path.{◌≡◌, refl, sym}
use mathlib.Core.List.{List}
use native.Mathlib.Omega.{arith}
use Rattle.handle.specs.Numbers.{no_slot}
use Rattle.arena.specs.Words.{Long, LEFT, BACK}
use Rattle.arena.specs.inner.Only.{Only}
use Rattle.arena.proofs.Only.{only_trans, only-room}
use Rattle.tree.specs.inner.Links.{with_back, with_node}
use Rattle.tree.specs.declared.Node.{Node as Written}
use Rattle.tree.proofs.Keeps.{only-back, only-node}
use Rattle.wavl.specs.Entry.{Entry}
use Rattle.wavl.specs.Tree.{Side, left, Tree, tip, fork, node}
use Rattle.queue_of_store.specs.Ends.{top_slot, number}
use Rattle.queue_of_store.specs.Links.{Links}
use Rattle.queue_of_store.proofs.Has.{Has, Distinct, Apart, apart, has_top, has_near, has_far}
use Rattle.queue_of_store.proofs.Trees.{number_small, closed, slot-low, Touch, carry, carry-node}
use Rattle.queue_of_store.proofs.Ways.{top-node}
use Rattle.queue_of_store.proofs.NodeWrites.{node-new, touch_node, touch_back, new-back}

-- the top of a tree is in no tree apart from it
pub top-off : (s : List ℕ) (cap b : ℕ) (c t : Tree) → cap ≤ no_slot → Links s cap b t → ((j : ℕ) → Has j c → ¬ (Has j t)) → ¬ (Has (top_slot c) t)
top-off s cap b tip t few l n h = let low = slot-low s cap t b l no_slot h in omega arith
top-off s cap b (fork a e r d) t few l n h = n e.slot (has_top a e r d left e.slot refl) h

-- a top that is a slot is one of its tree's
pub top_has : (cap : ℕ) (t : Tree) → cap ≤ no_slot → top_slot t < cap → Has (top_slot t) t
top_has cap tip few l = absurd (omega arith)
top_has cap (fork a e r b) few l = has_top a e r b left e.slot refl

-- "a rises to n1's old rank, n1 and s0 get a's old rank"; "n0 takes n2's place with n1's rank, and n1 and n2 get n0's old rank"
module _ (s : List ℕ) (cap back : ℕ) (d : Side) (u c e v : Tree) (y x z : Entry) (r k : ℕ) (few : cap ≤ no_slot) (room : Long s cap) where
  -- y, z and x as they are written
  abbrev wy : Written
  wy = record { back = x.slot; near = top_slot u; far = top_slot c; rank = r }

  abbrev wz : Written
  wz = record { back = x.slot; near = top_slot e; far = top_slot v; rank = r }

  abbrev wx : Written
  wx = record { back = back; near = y.slot; far = z.slot; rank = k }

  abbrev sa : List ℕ
  sa = with_back s cap (top_slot c) y.slot

  abbrev sb : List ℕ
  sb = with_back sa cap (top_slot e) z.slot

  abbrev sc : List ℕ
  sc = with_node sb cap (number d) y.slot wy

  abbrev sd : List ℕ
  sd = with_node sc cap (number d) z.slot wz

  abbrev pub spread : List ℕ
  spread = with_node sd cap (number d) x.slot wx

  abbrev pub spread_tree : Tree
  spread_tree = node d (node d u y r c) x k (node d e z r v)

  -- nothing is written but links of the tree's own slots
  pub spread-only : (W : ℕ → ℕ → Type 0) (H : ℕ → Type 0) → ((j g : ℕ) → Has j spread_tree → LEFT ≤ g → g ≤ BACK → W j g) → y.slot < cap → x.slot < cap → z.slot < cap
      → Only s spread cap W H
  spread-only W H w ly lx lz =
      let m = number_small d in
      let near = has_near (node d u y r c) x k (node d e z r v) d in
      let far = has_far (node d u y r c) x k (node d e z r v) d in
      only_trans (only-back s (top_slot c) y.slot (λ l. w _ BACK (near _ (has_far u y r c d _ (top_has cap c few l))) (omega arith) (omega arith)))
      (only_trans (only-back sa (top_slot e) z.slot (λ l. w _ BACK (far _ (has_near e z r v d _ (top_has cap e few l))) (omega arith) (omega arith)))
      (only_trans (only-node sb (number d) y.slot wy m ly (λ g. w _ g (near _ (has_top u y r c d _ refl))))
      (only_trans (only-node sc (number d) z.slot wz m lz (λ g. w _ g (far _ (has_top e z r v d _ refl))))
      (only-node sd (number d) x.slot wx m lx (λ g. w _ g (has_top (node d u y r c) x k (node d e z r v) d _ refl))))))

  module _ (ly : y.slot < cap) (lx : x.slot < cap) (lz : z.slot < cap) (D : Distinct spread_tree)
      (U : Links s cap y.slot u) (bc : ℕ) (C : Links s cap bc c) (be : ℕ) (E : Links s cap be e) (O : Links s cap z.slot v) where
    m : number d ≤ 1
    m = number_small d

    A : Apart (node d u y r c) x.slot (node d e z r v)
    A = apart (node d u y r c) x k (node d e z r v) d D

    B : Apart u y.slot c
    B = apart u y r c d A.in_near

    G : Apart e z.slot v
    G = apart e z r v d A.in_far

    room_a : Long sa cap
    room_a = only-room (touch_back s cap (top_slot c) y.slot) room

    room_b : Long sb cap
    room_b = only-room (touch_back sa cap (top_slot e) z.slot) room_a

    room_c : Long sc cap
    room_c = only-room (touch_node sb cap (number d) y.slot wy m ly) room_b

    room_d : Long sd cap
    room_d = only-room (touch_node sc cap (number d) z.slot wz m lz) room_c

    touch_d : Touch sc sd cap z.slot
    touch_d = touch_node sc cap (number d) z.slot wz m lz

    touch_e : Touch sd spread cap x.slot
    touch_e = touch_node sd cap (number d) x.slot wx m lx

    -- a tree whose top's back link was not written
    past_c : (t : Tree) (b : ℕ) → ((j : ℕ) → Has j c → ¬ (Has j t)) → Links s cap b t → Links sa cap b t
    past_c t b n l = carry s sa cap (top_slot c) (touch_back s cap (top_slot c) y.slot) t b (top-off s cap b c t few l n) l

    past_e : (t : Tree) (b : ℕ) → ((j : ℕ) → Has j e → ¬ (Has j t)) → Links sa cap b t → Links sb cap b t
    past_e t b n l = carry sa sb cap (top_slot e) (touch_back sa cap (top_slot e) z.slot) t b (top-off sa cap b e t few l n) l

    -- a tree without the three nodes
    late : (t : Tree) (b : ℕ) → ¬ (Has y.slot t) → ¬ (Has z.slot t) → ¬ (Has x.slot t) → Links sb cap b t → Links spread cap b t
    late t b ny nz nx l =
        carry sd spread cap x.slot touch_e t b nx
        (carry sc sd cap z.slot touch_d t b nz
        (carry sb sc cap y.slot (touch_node sb cap (number d) y.slot wy m ly) t b ny l))

    -- slots of the one side are not on the other
    near_in : (t : Tree) → ((j : ℕ) → Has j t → Has j (node d u y r c)) → Links sb cap y.slot t → ¬ (Has y.slot t) → Links spread cap y.slot t
    near_in t i l ny = late t y.slot ny (λ h. A.both z.slot (i z.slot h) (has_top e z r v d z.slot refl)) (λ h. A.near (i x.slot h)) l

    far_in : (t : Tree) → ((j : ℕ) → Has j t → Has j (node d e z r v)) → Links sb cap z.slot t → ¬ (Has z.slot t) → Links spread cap z.slot t
    far_in t i l nz = late t z.slot (λ h. A.both y.slot (has_top u y r c d y.slot refl) (i y.slot h)) nz (λ h. A.far (i x.slot h)) l

    pub spread-links : Links spread cap back spread_tree
    spread-links =
        let in-u = has_near u y r c d in
        let in_c = has_far u y r c d in
        let in_e = has_near e z r v d in
        let in-v = has_far e z r v d in
        let y-z : ¬ (y.slot ≡ z.slot) = λ q. A.both y.slot (has_top u y r c d y.slot refl) (has_top e z r v d y.slot q) in
        let y-x : ¬ (y.slot ≡ x.slot) = λ q. A.near (has_top u y r c d x.slot (sym q)) in
        let z-x : ¬ (z.slot ≡ x.slot) = λ q. A.far (has_top e z r v d x.slot (sym q)) in
        let lu = past_e u y.slot (λ j h g. A.both j (in-u j g) (in_e j h)) (past_c u y.slot (λ j h g. B.both j g h) U) in
        let lc = past_e c y.slot (λ j h g. A.both j (in_c j g) (in_e j h)) (new-back s cap bc y.slot c room B.in_far C) in
        let le = new-back sa cap be z.slot e room_a G.in_near (past_c e be (λ j h g. A.both j (in_c j h) (in_e j g)) E) in
        let lv = past_e v z.slot G.both (past_c v z.slot (λ j h g. A.both j (in_c j h) (in-v j g)) O) in
        let ny =
        carry-node sd spread cap x.slot touch_e (number d) x.slot (top_slot u) y.slot r (top_slot c) m y-x
        (carry-node sc sd cap z.slot touch_d (number d) x.slot (top_slot u) y.slot r (top_slot c) m y-z
        (node-new sb cap (number d) y.slot wy m ly room_b)) in
        let nz =
        carry-node sd spread cap x.slot touch_e (number d) x.slot (top_slot e) z.slot r (top_slot v) m z-x
        (node-new sc cap (number d) z.slot wz m lz room_c) in
        let nx = node-new sd cap (number d) x.slot wx m lx room_d in
        closed spread cap d back (node d u y r c) x k (node d e z r v) (rw (top-node d u y r c, top-node d e z r v) nx)
        (closed spread cap d x.slot u y r c ny (near_in u in-u lu B.near) (near_in c in_c lc B.far))
        (closed spread cap d x.slot e z r v nz (far_in e in_e le G.near) (far_in v in-v lv G.far))
