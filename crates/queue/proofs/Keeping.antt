-- From the inner models to the public promises: a call that tests the header first, keeps what lies past the needed words, and does
-- what document 01 says on a store that holds a queue.
use Prim.Native.Nat.{ℕ}
use mathlib.Core.Path.{◌≡◌, refl, ◌∙◌, ap, subst⁻¹}
use mathlib.Core.List.{List}
use lib.ListN.{length, get_or}
use Rattle.arena.specs.inner.Only.{Only, AnyField, AnyHead}
use Rattle.arena.specs.Header.{header_of, Passing}
use Rattle.arena.proofs.Theorems.{passes, passing}
use Rattle.rules.specs.Queue.{Queue}
use Rattle.queue_of_store.specs.Holds.{Holds}
use Rattle.queue.specs.inner.Header.{on_header}
use Rattle.queue.specs.Promises.{Writes, Looks}
use Rattle.queue.proofs.Looked.{on_held}
use Rattle.std.specs.Prelude.{Result, Ok, Err}
use Rattle.handle.specs.declared.Refusal.{Refusal}

-- what a model keeps of the store: the length, and what lies past the needed words
abbrev pub Keeps : List ℕ → List ℕ → ℕ → Type 0
Keeps s t cap = Only s t cap AnyField AnyHead

module _ {A B : Type 0} (five : A) (s : List ℕ) (f : ℕ → List ℕ × A) (reads : A → B) (rule : Queue → B × Queue) (keeps : (cap : ℕ) → Passing s cap → Keeps s (f cap).0 cap) (means : (q : Queue) → Holds s q → (reads (f q.capacity).1 ≡ (rule q).0) × Holds (f q.capacity).0 (rule q).1) where
  call_long : (h : Result ℕ Refusal) → header_of s ≡ h → length (on_header h f (s, five)).0 ≡ length s
  call_long (Ok cap) e = (keeps cap (passing s cap e)).long
  call_long (Err n) e = refl

  pub writes : (t : List ℕ) (r : A) → (t, r) ≡ on_header (header_of s) f (s, five) → Writes five (on_header (header_of s) f (s, five)) reads rule s t r
  writes t r e = record {
    does = e;
    fails = λ g. let p : ◌≡◌ {A = List ℕ × A} (t, r) (s, five) = rw g at e in (ap (λ x. x.0) p, ap (λ x. x.1) p);
    long = ap (λ x. length x.0) e ∙ call_long (header_of s) refl;
    rest = λ cap p k hk. let u : ◌≡◌ {A = List ℕ × A} (t, r) (f cap) = rw (passes s cap p) at e in ap (λ x. get_or x.0 k 0) u ∙ (keeps cap p).rest k hk;
    means = λ q k. let u : ◌≡◌ {A = List ℕ × A} (t, r) (f q.capacity) = e ∙ on_held k f (s, five) in
        (ap (λ x. reads x.1) u ∙ (means q k).0, subst⁻¹ (λ (x : List ℕ). Holds x (rule q).1) (ap (λ x. x.0) u) (means q k).1);
  }

pub looks : {A B : Type 0} (five : A) (s : List ℕ) (f : ℕ → A) (reads : A → B) (rule : Queue → B) (r : A)
    → r ≡ on_header (header_of s) f five → ((q : Queue) → Holds s q → reads (on_header (header_of s) f five) ≡ rule q)
    → Looks five (on_header (header_of s) f five) reads rule s r
looks five s f reads rule r e means = record { does = e; fails = λ g. rw g at e; means = λ q k. ap reads e ∙ means q k }
