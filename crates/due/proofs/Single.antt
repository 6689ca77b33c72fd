-- The promises of `key_of` and `time_of` leave one answer: no second one meets them, whatever the input. Two answers that
-- are read alike are the same answer (`key_found-one`, `time_found-one`). Assumes nothing.
use mathlib.Core.Path.{◌≡◌, refl, sym, ap, ap₂, ◌∙◌}
use Prim.Native.Nat.{ℕ}
use native.Mathlib.Omega.{arith}
use lib.IntN.{ℤ}
use Rattle.due.specs.Due.{no_key, no_time, to_key, from_key}
use Rattle.std.specs.declared.result.Result.{Result}
use Rattle.std.specs.declared.result.Result.TheVariants.{Ok, Err}
use Rattle.std.specs.Result.{IsErr}
use Rattle.due.specs.declared.BadTime.{BadTime}
use Rattle.handle.specs.declared.Key.{Key}
use Rattle.due.specs.declared.Drum.{Drum}
use Rattle.due.specs.declared.Time.{Time}
use Rattle.due.proofs.Signs.{true→yes}
use Rattle.due.specs.TimeAnswers.{key_found, time_found}

-- an error reads as number 6
pub no_key_so : (r : Result Key BadTime) → IsErr r → key_found r ≡ no_key 6
no_key_so (Ok k) h = absurd (true→yes h)
no_key_so (Err e) h = refl

pub no_time_so : (r : Result (Time × Drum) BadTime) → IsErr r → time_found r ≡ no_time 6
no_time_so (Ok p) h = absurd (true→yes h)
no_time_so (Err e) h = refl

same_key : (k m : Key) → k.0 ≡ m.0 → k ≡ m
same_key k m p = λ i. record { 0 = p i }

-- there is one `BadTime`
same_error : (a b : BadTime) → a ≡ b
same_error a b = λ i. record {}

pub key_found-one : (a b : Result Key BadTime) → key_found a ≡ key_found b → a ≡ b
key_found-one (Ok k) (Ok m) e = ap Ok (same_key k m cc)
key_found-one (Ok k) (Err m) e = let z : ◌≡◌ {A = ℕ} 0 1 = cc in absurd (omega arith)
key_found-one (Err k) (Ok m) e = let z : ◌≡◌ {A = ℕ} 0 1 = cc in absurd (omega arith)
key_found-one (Err k) (Err m) e = ap Err (same_error k m)

same_time : (t u : Time) → t.day.0 ≡ u.day.0 → t.second.0 ≡ u.second.0 → t ≡ u
same_time t u p q = λ i. record { day = record { 0 = p i }; second = record { 0 = q i } }

same-drum : (a b : Drum) → a.0 ≡ b.0 → a ≡ b
same-drum a b p = λ i. record { 0 = p i }

pub time_found-one : (a b : Result (Time × Drum) BadTime) → time_found a ≡ time_found b → a ≡ b
time_found-one (Ok p) (Ok q) e =
    let time : p.0 ≡ q.0 = same_time p.0 q.0 (cc) (cc) in
    let drum : p.1 ≡ q.1 = same-drum p.1 q.1 cc in ap₂ (λ t n. Ok (t, n)) time drum
time_found-one (Ok p) (Err q) e = let z : ◌≡◌ {A = ℕ} 0 1 = cc in absurd (omega arith)
time_found-one (Err p) (Ok q) e = let z : ◌≡◌ {A = ℕ} 0 1 = cc in absurd (omega arith)
time_found-one (Err p) (Err q) e = ap Err (same_error p q)

-- no second answer meets the promise of `key_of`
pub key_of_one : (d s o n : ℤ) (a b : Result Key BadTime) → key_found a ≡ to_key d s o n → key_found b ≡ to_key d s o n → a ≡ b
key_of_one d s o n a b p q = key_found-one a b (p ∙ sym q)

-- no second answer meets the promise of `time_of`
pub time_of_one : (k o : ℤ) (a b : Result (Time × Drum) BadTime) → time_found a ≡ from_key k o → time_found b ≡ from_key k o → a ≡ b
time_of_one k o a b p q = time_found-one a b (p ∙ sym q)
