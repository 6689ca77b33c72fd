-- The single rotations of document 01 in the words: of a removal, which writes both nodes whole, and of an insertion, which leaves
-- the rising node's rank and near child. A reader may rely on: as in Turned, the parts may have hung in any tree before.
use Prim.Native.Nat.{ℕ, ◌-◌, ◌≤◌, ◌<◌}
use mathlib.Core.Path.{◌≡◌, refl, sym}
use mathlib.Core.List.{List}
use native.Mathlib.Omega.{arith}
use lib.Dec.{lit<}
use Rattle.handle.specs.Numbers.{no_slot}
use Rattle.arena.specs.Words.{Long, put, LEFT, RIGHT, BACK}
use Rattle.arena.specs.inner.Only.{Only}
use Rattle.arena.proofs.WordLaws.{room-put}
use Rattle.arena.proofs.Only.{only_trans, only-room, only-put}
use Rattle.tree.specs.inner.Links.{with_back, with_node}
use Rattle.tree.specs.declared.Node.{Node as Written}
use Rattle.tree.proofs.Keeps.{only-back, only-node}
use Rattle.wavl.specs.Entry.{Entry}
use Rattle.wavl.specs.Tree.{Side, Tree, node}
use Rattle.queue_of_store.specs.Ends.{top_slot, number}
use Rattle.queue_of_store.specs.Links.{Node, Links}
use Rattle.queue_of_store.proofs.Has.{Has, Distinct, Apart, apart, has_top, has_near, has_far, not_top}
use Rattle.queue_of_store.proofs.Trees.{number_small, closed, Touch, carry, carry-node}
use Rattle.queue_of_store.proofs.Ways.{top-node}
use Rattle.queue_of_store.proofs.NodeWrites.{node-put-back, node-put-far, node-new, touch_node, touch_back, new-back}
use Rattle.queue_of_store.proofs.Turned.{top-off, top_has}

-- "rotate s0 up to n1's old rank, and n1 to a's rank plus 1": y below x, with u and c; v on x's other side
module _ (s : List ℕ) (cap back : ℕ) (d : Side) (u c v : Tree) (y x : Entry) (r k : ℕ) (few : cap ≤ no_slot) (room : Long s cap) where
  -- y and x as they are written
  abbrev wy : Written
  wy = record { back = x.slot; near = top_slot u; far = top_slot c; rank = r }

  abbrev wx : Written
  wx = record { back = back; near = y.slot; far = top_slot v; rank = k }

  abbrev ra : List ℕ
  ra = with_back s cap (top_slot c) y.slot

  abbrev rb : List ℕ
  rb = with_node ra cap (number d) y.slot wy

  abbrev pub rolled : List ℕ
  rolled = with_node rb cap (number d) x.slot wx

  abbrev pub rolled_tree : Tree
  rolled_tree = node d (node d u y r c) x k v

  pub rolled-only : (W : ℕ → ℕ → Type 0) (H : ℕ → Type 0) → ((j g : ℕ) → Has j rolled_tree → LEFT ≤ g → g ≤ BACK → W j g) → y.slot < cap → x.slot < cap
      → Only s rolled cap W H
  rolled-only W H w ly lx =
      let m = number_small d in
      let near = has_near (node d u y r c) x k v d in
      only_trans (only-back s (top_slot c) y.slot (λ l. w _ BACK (near _ (has_far u y r c d _ (top_has cap c few l))) (omega arith) (omega arith)))
      (only_trans (only-node ra (number d) y.slot wy m ly (λ g. w _ g (near _ (has_top u y r c d _ refl))))
      (only-node rb (number d) x.slot wx m lx (λ g. w _ g (has_top (node d u y r c) x k v d _ refl))))

  module _ (ly : y.slot < cap) (lx : x.slot < cap) (D : Distinct rolled_tree)
      (U : Links s cap y.slot u) (bc : ℕ) (C : Links s cap bc c) (O : Links s cap x.slot v) where
    m : number d ≤ 1
    m = number_small d

    A : Apart (node d u y r c) x.slot v
    A = apart (node d u y r c) x k v d D

    B : Apart u y.slot c
    B = apart u y r c d A.in_near

    room_a : Long ra cap
    room_a = only-room (touch_back s cap (top_slot c) y.slot) room

    room_b : Long rb cap
    room_b = only-room (touch_node ra cap (number d) y.slot wy m ly) room_a

    touch_b : Touch ra rb cap y.slot
    touch_b = touch_node ra cap (number d) y.slot wy m ly

    touch_c : Touch rb rolled cap x.slot
    touch_c = touch_node rb cap (number d) x.slot wx m lx

    past_c : (t : Tree) (b : ℕ) → ((j : ℕ) → Has j c → ¬ (Has j t)) → Links s cap b t → Links ra cap b t
    past_c t b n l = carry s ra cap (top_slot c) (touch_back s cap (top_slot c) y.slot) t b (top-off s cap b c t few l n) l

    late : (t : Tree) (b : ℕ) → ¬ (Has y.slot t) → ¬ (Has x.slot t) → Links ra cap b t → Links rolled cap b t
    late t b ny nx l = carry rb rolled cap x.slot touch_c t b nx (carry ra rb cap y.slot touch_b t b ny l)

    pub rolled-links : Links rolled cap back rolled_tree
    rolled-links =
        let in-u = has_near u y r c d in
        let in_c = has_far u y r c d in
        let y-x : ¬ (y.slot ≡ x.slot) = λ q. A.near (has_top u y r c d x.slot (sym q)) in
        let lu = late u y.slot B.near (λ h. A.near (in-u _ h)) (past_c u y.slot (λ j h g. B.both j g h) U) in
        let lc = late c y.slot B.far (λ h. A.near (in_c _ h)) (new-back s cap bc y.slot c room B.in_far C) in
        let lv = late v x.slot (λ h. A.both _ (has_top u y r c d _ refl) h) A.far (past_c v x.slot (λ j h g. A.both j (in_c j h) g) O) in
        let ny =
        carry-node rb rolled cap x.slot touch_c (number d) x.slot (top_slot u) y.slot r (top_slot c) m y-x
        (node-new ra cap (number d) y.slot wy m ly room_a) in
        let nx = node-new rb cap (number d) x.slot wx m lx room_b in
        closed rolled cap d back (node d u y r c) x k v (rw (top-node d u y r c) nx) (closed rolled cap d x.slot u y r c ny lu lc) lv

-- "n1 takes n2's place and n2 gets n0's rank": x keeps u and its rank k, and gets y on the other side, with c and v
module _ (s : List ℕ) (cap back : ℕ) (d : Side) (u c v : Tree) (x y : Entry) (k r : ℕ) (few : cap ≤ no_slot) (room : Long s cap) where
  -- y as it is written
  abbrev low : Written
  low = record { back = x.slot; near = top_slot c; far = top_slot v; rank = r }

  abbrev la : List ℕ
  la = with_back s cap (top_slot c) y.slot

  abbrev lb : List ℕ
  lb = put la cap x.slot (RIGHT - number d) y.slot

  abbrev lc : List ℕ
  lc = put lb cap x.slot BACK back

  abbrev pub lifted : List ℕ
  lifted = with_node lc cap (number d) y.slot low

  abbrev pub lifted_tree : Tree
  lifted_tree = node d u x k (node d c y r v)

  pub lifted-only : (W : ℕ → ℕ → Type 0) (H : ℕ → Type 0) → ((j g : ℕ) → Has j lifted_tree → LEFT ≤ g → g ≤ BACK → W j g) → y.slot < cap → x.slot < cap
      → Only s lifted cap W H
  lifted-only W H w ly lx =
      let m = number_small d in
      let far = has_far u x k (node d c y r v) d in
      let top = has_top u x k (node d c y r v) d _ refl in
      only_trans (only-back s (top_slot c) y.slot (λ l. w _ BACK (far _ (has_near c y r v d _ (top_has cap c few l))) (omega arith) (omega arith)))
      (only_trans (only-put la x.slot (RIGHT - number d) y.slot lx (omega arith) (w _ _ top (omega arith) (omega arith)))
      (only_trans (only-put lb x.slot BACK back lx (omega arith) (w _ _ top (omega arith) (omega arith)))
      (only-node lc (number d) y.slot low m ly (λ g. w _ g (far _ (has_top c y r v d _ refl))))))

  module _ (ly : y.slot < cap) (D : Distinct lifted_tree) (b₀ f₀ : ℕ) (N : Node s cap (number d) b₀ (top_slot u) x.slot k f₀)
      (U : Links s cap x.slot u) (bc : ℕ) (C : Links s cap bc c) (O : Links s cap y.slot v) where
    n≤ : number d ≤ 1
    n≤ = number_small d

    lx : x.slot < cap
    lx = N.low

    AA : Apart u x.slot (node d c y r v)
    AA = apart u x k (node d c y r v) d D

    BB : Apart c y.slot v
    BB = apart c y r v d AA.in_far

    room-la : Long la cap
    room-la = only-room (touch_back s cap (top_slot c) y.slot) room

    room-lb : Long lb cap
    room-lb = room-put la cap x.slot (RIGHT - number d) y.slot room-la

    room-lc : Long lc cap
    room-lc = room-put lb cap x.slot BACK back room-lb

    touch_la : Touch s la cap (top_slot c)
    touch_la = touch_back s cap (top_slot c) y.slot

    touch_lb : Touch la lb cap x.slot
    touch_lb = let h = n≤ in only-put la x.slot (RIGHT - number d) y.slot lx (omega arith) refl

    touch_lc : Touch lb lc cap x.slot
    touch_lc = only-put lb x.slot BACK back lx (lit< tt) refl

    touch_ld : Touch lc lifted cap y.slot
    touch_ld = touch_node lc cap (number d) y.slot low n≤ ly

    past-lc : (t : Tree) (b : ℕ) → ((j : ℕ) → Has j c → ¬ (Has j t)) → Links s cap b t → Links la cap b t
    past-lc t b n l = carry s la cap (top_slot c) touch_la t b (top-off s cap b c t few l n) l

    late_l : (t : Tree) (b : ℕ) → ¬ (Has x.slot t) → ¬ (Has y.slot t) → Links la cap b t → Links lifted cap b t
    late_l t b nx ny l =
        carry lc lifted cap y.slot touch_ld t b ny (carry lb lc cap x.slot touch_lc t b nx (carry la lb cap x.slot touch_lb t b nx l))

    pub lifted-links : Links lifted cap back lifted_tree
    lifted-links =
        let in_c = has_near c y r v d in
        let in-v = has_far c y r v d in
        let x-y : ¬ (x.slot ≡ y.slot) = λ q. AA.far (has_top c y r v d x.slot q) in
        let x-c : ¬ (x.slot ≡ top_slot c) = not_top cap x.slot c few lx (λ h. AA.far (in_c _ h)) in
        let lu = late_l u x.slot AA.near (λ h. AA.both _ h (has_top c y r v d _ refl)) (past-lc u x.slot (λ j h g. AA.both j g (in_c j h)) U) in
        let lc' = late_l c y.slot (λ h. AA.far (in_c _ h)) BB.near (new-back s cap bc y.slot c room BB.in_near C) in
        let lv = late_l v y.slot (λ h. AA.far (in-v _ h)) BB.far (past-lc v y.slot BB.both O) in
        let n₀ = carry-node s la cap (top_slot c) touch_la (number d) b₀ (top_slot u) x.slot k f₀ n≤ x-c N in
        let n₁ = node-put-far la cap (number d) b₀ (top_slot u) x.slot k f₀ n≤ room-la n₀ y.slot in
        let n₂ = node-put-back lb cap (number d) b₀ (top_slot u) x.slot k y.slot n≤ room-lb n₁ back in
        let nx = carry-node lc lifted cap y.slot touch_ld (number d) back (top_slot u) x.slot k y.slot n≤ x-y n₂ in
        let ny = node-new lc cap (number d) y.slot low n≤ ly room-lc in
        closed lifted cap d back u x k (node d c y r v) (rw (top-node d c y r v) nx) lu (closed lifted cap d x.slot c y r v ny lc' lv)
