-- Which handles name an entry: those given and not taken out, through one call.
-- A reader may rely on these for every sound queue.
use mathlib.Core.Path.{◌≡◌, refl, sym, ◌∙◌}
use mathlib.Core.Logic.{◌⊎◌, inl, inr}
use mathlib.Core.List.{List, ◌∷◌, ◌++◌}
use Prim.Native.Nat.{ℕ}
use Rattle.wavl.specs.Lists.{All, In}
use Rattle.wavl.specs.Entry.{Entry, revalued}
use Rattle.wavl.proofs.Lists.{all_map, in_middle}
use Rattle.rules.specs.Queue.{Handle, handle_of, entry_with, Queue, entries, Names, Live}
use Rattle.rules.specs.Sound.{Sound}
use Rattle.rules.specs.inner.Changes.{Adds, Swaps, Takes}
use Rattle.rules.proofs.Lists.{in_put, in_drop, all_put, all_drop, all_at}
use Rattle.rules.proofs.Handles.{adds-handle, takes-handle}
use Rattle.history.specs.Book.{dec_names}

-- the entry carries a handle of the list
abbrev pub Listed : List Handle → Entry → Type 0
Listed l x = In (handle_of x) l

pub adds-listed : {q q' : Queue} (h : Handle) (key value : ℕ) (l : List Handle) → Adds q q' h key value → All (Listed l) (entries q) → All (Listed (h ∷ l)) (entries q')
adds-listed {q} h key value l c a =
    let m = all_map (Listed l) (Listed (h ∷ l)) (λ x i. inr i) (entries q) a in
    rw c.now (all_put (Listed (h ∷ l)) c.smaller (entry_with h key value) c.greater (inl refl) (rw c.old at m))

pub swaps-listed : {q q' : Queue} (y : Entry) (value : ℕ) (l : List Handle) → Swaps q q' y value → All (Listed l) (entries q) → All (Listed l) (entries q')
swaps-listed y value l k a =
    let m : All (Listed l) (k.smaller ++ (y ∷ k.greater)) = rw k.old at a in
    let there = all_at (Listed l) k.smaller y k.greater m in
    rw k.now (all_put (Listed l) k.smaller (revalued value y) k.greater there (all_drop (Listed l) k.smaller y k.greater m))

pub takes-listed : {q q' : Queue} (y : Entry) (l : List Handle) → Takes q q' y → All (Listed l) (entries q) → All (Listed l) (entries q')
takes-listed y l k a = rw k.now (all_drop (Listed l) k.smaller y k.greater (rw k.old at a))

-- a live handle stays live, or it is the one taken out
pub swaps-live : {q q' : Queue} (y : Entry) (value : ℕ) → Swaps q q' y value → (g : Handle) → Live g q → Live g q'
swaps-live {q} {q'} y value c g l = go (in_drop l.0 c.smaller y c.greater (rw c.old at l.1))
  where
    go : (l.0 ≡ y) ⊎ In l.0 (c.smaller ++ c.greater) → Live g q'
    go (inl e) = (revalued value y, rw c.now (in_middle (revalued value y) c.smaller c.greater), rw e at l.2)
    go (inr i) = (l.0, rw c.now (in_put l.0 c.smaller (revalued value y) c.greater i), l.2)

pub same_names : (g h : Handle) (x : Entry) → Names g x → Names h x → g ≡ h
same_names g h x m n = let e = sym m.0 ∙ n.0 in let f = sym m.1 ∙ n.1 in λ i. record { slot = e i; generation = f i }

pub adds-live : {q q' : Queue} (h : Handle) (key value : ℕ) → Sound q → Adds q q' h key value → (g : Handle) → Live g q → Live g q'
adds-live h key value s c g l = (l.0, ((adds-handle s c).others l.0).1 (inr l.1), l.2)

pub takes-live : {q q' : Queue} (h : Handle) (y : Entry) → Sound q → Names h y → Takes q q' y → (g : Handle) → Live g q → Live g q' ⊎ (g ≡ h)
takes-live {q} {q'} h y s n c g l = go (dec_names h l.0)
  where
    go : Dec (Names h l.0) → Live g q' ⊎ (g ≡ h)
    go (yes m) = inr (same_names g h l.0 l.2 m)
    go (no m) = inl (l.0, ((takes-handle h s n c).others l.0).1 (l.1, m), l.2)
