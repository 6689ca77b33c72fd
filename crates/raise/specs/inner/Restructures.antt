-- The two restructures after a new entry, as functions of the store, for any words.
-- Document 01: "both edges on one side, n1 takes n2's place and n2 gets n0's rank; edges alternating, n0 takes n2's place with n1's
-- rank, and n1 and n2 get n0's old rank."
use Rattle.std.specs.Prelude.{ℕ, ◌+◌, ◌-◌, List}
use Rattle.arena.specs.Words.{field, put, LEFT, RIGHT, RANK, BACK}
use Rattle.tree.specs.inner.Links.{with_back, with_node, relinked, spread_with}
use Rattle.raise.specs.declared.turns.Turn.{Turn}

-- n1 in the place of n2 below n3, n2 on its other side with s0 on the side d and s1 on the other one
unfoldable pub lifted_one : List ℕ → ℕ → ℕ → Turn → ℕ → ℕ → List ℕ
lifted_one s cap d t s0 rank0 =
    relinked (with_node (put (put (with_back s cap s0 t.n2) cap t.n1 (RIGHT - d) t.n2) cap t.n1 BACK t.n3)
    cap d t.n2 (record { back = t.n1; near = s0; far = t.s1; rank = rank0 }))
    cap t.n3 t.n2 t.n1

unfoldable pub turned_same : List ℕ → ℕ → ℕ → Turn → List ℕ
turned_same s cap d t = lifted_one s cap d t (field s cap t.n1 (RIGHT - d)) (field s cap t.n0 RANK)

-- n1 and n2 as the children of n0, which hands its own children and its rank to them
unfoldable pub spread_below : List ℕ → ℕ → ℕ → Turn → List ℕ
spread_below s cap d t =
    spread_with s cap d t.n1
    (record { back = t.n0; near = field s cap t.n1 (LEFT + d); far = field s cap t.n0 (LEFT + d); rank = field s cap t.n0 RANK })
    t.n2
    (record { back = t.n0; near = field s cap t.n0 (RIGHT - d); far = t.s1; rank = field s cap t.n0 RANK })

-- n0 in the place of n2 below n3, with n1 on the side d and n2 on the other one
unfoldable pub turned_across : List ℕ → ℕ → ℕ → Turn → List ℕ
turned_across s cap d t =
    relinked (with_node (spread_below s cap d t) cap d t.n0 (record { back = t.n3; near = t.n1; far = t.n2; rank = field s cap t.n1 RANK }))
    cap t.n3 t.n2 t.n0
