-- What holds only as long as no two entries have one key: the entry that search answers is the only one with that key.
-- A reader may rely on: nothing else in this crate needs keys to differ, so equal keys (request 8) touch this page alone.
use mathlib.Core.Logic.{inl, inr}
use mathlib.Core.Path.{◌≡◌, ap}
use mathlib.Core.List.{List, [], ◌∷◌}
use native.Mathlib.Omega.{arith}
use Rattle.wavl.specs.Lists.{In}
use Rattle.wavl.specs.Entry.{Entry, Before, Rising}
use Rattle.wavl.proofs.Lists.{all_in}

pub rising_unique : (l : List Entry) → Rising l → (e f : Entry) → In e l → In f l → e.key ≡ f.key → e ≡ f
rising_unique [] h e f i j q = absurd i
rising_unique (x ∷ l) h e f (inl i) (inl j) q = cc
rising_unique (x ∷ l) h e f (inl i) (inr j) q =
    let b : Before x f = all_in _ l h.0 f j in
    let s : e.key ≡ x.key = ap (λ (y : Entry). y.key) i in
    absurd (omega arith)
rising_unique (x ∷ l) h e f (inr i) (inl j) q =
    let b : Before x e = all_in _ l h.0 e i in
    let s : f.key ≡ x.key = ap (λ (y : Entry). y.key) j in
    absurd (omega arith)
rising_unique (x ∷ l) h e f (inr i) (inr j) q = rising_unique l h.1 e f i j q
