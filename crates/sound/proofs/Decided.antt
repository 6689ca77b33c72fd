-- The check decides soundness, and one answer alone does.
-- A reader may rely on: decides, for any numbers; one_answer, that no second answer meets the promise.
use Prim.Native.Nat.{ℕ}
use mathlib.Core.Path.{◌≡◌, refl, sym, ◌∙◌}
use mathlib.Core.Bool.{Bool, true, false}
use mathlib.Core.List.{List}
use Rattle.sound.specs.inner.Check.{sound_model}
use Rattle.sound.specs.Decides.{Decides}
use Rattle.sound.proofs.Choices.{not_yes}
use Rattle.sound.proofs.Yes.{yes-is-right}
use Rattle.sound.proofs.No.{no-is-right}

model_decides : (s : List ℕ) (t : Bool) → sound_model s ≡ t → Decides s t
model_decides s true e = record {
  yes = (λ f. yes-is-right s e, λ x. refl);
  no = (λ f x. not_yes (sym f), λ n. absurd (n (yes-is-right s e)));
}
model_decides s false e = record {
  yes = (λ f. not_yes f, λ x. sym e ∙ no-is-right x.1);
  no = (λ f x. not_yes (sym e ∙ no-is-right x.1), λ n. refl);
}

pub decides : (s : List ℕ) (t : Bool) → t ≡ sound_model s → Decides s t
decides s t e = model_decides s t (sym e)

-- no second answer meets the promise
pub one_answer : (s : List ℕ) (t u : Bool) → Decides s t → Decides s u → t ≡ u
one_answer s true u d e = sym (e.yes.1 (d.yes.0 refl))
one_answer s false u d e = sym (e.no.1 (d.no.0 refl))
