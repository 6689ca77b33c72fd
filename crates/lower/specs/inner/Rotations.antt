-- The two rotations of a removal as functions of the store, for any words: n0 on the side d of n1, the sibling s0 on the other side,
-- a and b the inner and outer children of s0, n2 above n1.
use Rattle.std.specs.Prelude.{ℕ, ◌+◌, ◌-◌, List}
use Rattle.arena.specs.Words.{field, LEFT, RIGHT}
use Rattle.tree.specs.inner.Links.{with_back, with_node, relinked, spread_with}
use Rattle.lower.specs.declared.turns.Turn.{Turn}

-- "rotate s0 up to n1's old rank, and n1 to a's rank plus 1"
unfoldable pub turn_once : List ℕ → ℕ → ℕ → Turn → List ℕ
turn_once s cap d t =
    relinked (with_node (with_node (with_back s cap t.a t.n1)
    cap d t.n1 (record { back = t.s0; near = t.n0; far = t.a; rank = t.ra + 1 }))
    cap d t.s0 (record { back = t.n2; near = t.n1; far = t.b; rank = t.rank1 }))
    cap t.n2 t.n1 t.s0

-- by the children c and e of a
unfoldable pub turn_twice_with : List ℕ → ℕ → ℕ → Turn → ℕ → ℕ → List ℕ
turn_twice_with s cap d t c e =
    relinked (with_node (spread_with s cap d
    t.n1 (record { back = t.a; near = t.n0; far = c; rank = t.ra })
    t.s0 (record { back = t.a; near = e; far = t.b; rank = t.ra }))
    cap d t.a (record { back = t.n2; near = t.n1; far = t.s0; rank = t.rank1 }))
    cap t.n2 t.n1 t.a

-- "a rises to n1's old rank, n1 and s0 get a's old rank"
unfoldable pub turn_twice : List ℕ → ℕ → ℕ → Turn → List ℕ
turn_twice s cap d t = turn_twice_with s cap d t (field s cap t.a (LEFT + d)) (field s cap t.a (RIGHT - d))
