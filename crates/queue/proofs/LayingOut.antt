-- Laying out, from the equality with the model: a good layout is done and leaves the fresh queue, any other is refused and changes nothing.
-- A reader may rely on: `lays` (Promising) is made of these.
use Prim.Native.Nat.{ℕ}
use mathlib.Core.Path.{◌≡◌, ◌∙◌, ap, subst⁻¹}
use mathlib.Core.Logic.{◌↔◌}
use mathlib.Core.Bool.{Bool, true, false}
use mathlib.Core.List.{List}
use lib.ListN.{length}
use Rattle.handle.specs.declared.Refusal.TheVariants.{BadLayout}
use Rattle.arena.specs.Laying.{GoodLayout, Fresh}
use Rattle.arena.specs.inner.Laying.{laid_words, lay_out_words}
use Rattle.arena.proofs.Theorems.{laid-is, lays-out, refuses}
use Rattle.rules.specs.Queue.{Queue, fresh}
use Rattle.rules.specs.LayOut as Rules
use Rattle.rules.proofs.History.{good_fact, not_good, lay_done, lay_refused}
use Rattle.queue_of_store.specs.Holds.{Holds}
use Rattle.queue_of_store.proofs.FreshQueue.{fresh_holds}
use Rattle.queue.specs.Promises.{enough_in}
use Rattle.queue.specs.Readings.{laid_means}
use Rattle.std.specs.Prelude.{Result, Ok, Err, ⊤}
use Rattle.handle.specs.declared.Refusal.{Refusal}

module _ (s t : List ℕ) (r : Result ⊤ Refusal) (cap top : ℕ) (e : (t, r) ≡ lay_out_words s cap top) where
  pub laid_out : GoodLayout (length s) cap top → (r ≡ Ok tt) × Fresh s t cap top × Holds t (fresh cap top)
  laid_out g =
      let u : ◌≡◌ {A = List ℕ × Result ⊤ Refusal} (t, r) (laid_words s cap top, Ok tt) = e ∙ lays-out s cap top g in
      let f : Fresh s t cap top = subst⁻¹ (λ (x : List ℕ). Fresh s x cap top) (ap (λ x. x.0) u) (laid-is s cap top g.room) in
      (ap (λ x. x.1) u, f, fresh_holds s t cap top f g)

  pub not_laid_lem : ¬ GoodLayout (length s) cap top → (t ≡ s) × (r ≡ Err BadLayout)
  not_laid_lem n = let u = e ∙ refuses s cap top n in (ap (λ x. x.0) u, ap (λ x. x.1) u)

  -- `one`: the store's good layouts are document 01's
  module _ (one : GoodLayout (length s) cap top ↔ Rules.Good (enough_in s) cap top) where
    pub laid-means : (b : Bool) → Rules.good (enough_in s) cap top ≡ b → (q : Queue) → Holds s q
        → (laid_means r ≡ (Rules.lay_out (enough_in s) cap top q).0) × Holds t (Rules.lay_out (enough_in s) cap top q).1
    laid-means true f q k =
        let g = good_fact (enough_in s) cap top f in
        let m = laid_out (one.1 g) in
        rw (lay_done (enough_in s) cap top g q) (ap laid_means m.0, m.2)
    laid-means false f q k =
        let n = not_good (enough_in s) cap top f in
        let m = not_laid_lem (λ g. n (one.0 g)) in
        rw (lay_refused (enough_in s) cap top n q) (ap laid_means m.1, subst⁻¹ (λ (x : List ℕ). Holds x q) m.0 k)
