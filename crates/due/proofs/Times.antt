-- The laws of due times (document 01, "Due times", with request 1's drums), for every signed number: which key a time
-- and a drum have and when they are refused, which time and drum a key has and when it is refused, that the two undo
-- each other, and that keys are ordered by time and then by drum. A reader may rely on each `pub` statement below.
-- Assumes nothing.
use mathlib.Core.Path.{◌≡◌, refl, sym, ap, ◌∙◌}
use mathlib.Core.Bool.{Bool, true, false, ◌&&◌}
use mathlib.Core.Logic.{◌↔◌}
use Prim.Native.Nat.{ℕ}
use native.Mathlib.Omega.{arith}
use lib.IntN.{ℤ}
use lib.Signed.{lt_z, ◌<ℤ◌}
use Rattle.handle.specs.Numbers.{refusal_number}
use Rattle.handle.specs.declared.Refusal.TheVariants.{BadTime}
use Rattle.due.specs.Due.{InBounds, GoodTime, GoodDrum, GoodKey, Earlier, Sooner, earlier_time, lower_drum, good_day, good_second, good_offset, good_drum, day_low, day_high, second_low, second_high, key_is, no_key, time_is, no_time, key_or_6, time_or_6, moment_of, key_of, drum_of, moment_in, day_of, second_of, to_key, from_key}
use Rattle.due.proofs.Signs.{true→yes}
use Rattle.due.proofs.Ranges.{both, both_out, within-yes, within_fact, good-yes, good_fact}
use Rattle.due.proofs.Moments.{back, there, second_of_in, moment_later, moment_earlier}
use Rattle.due.proofs.Drums.{key-there, key_back, drum_of_in, key-same, key-later, key-lower, key-rises}

-- ---- the key of a time

key_true : (t : Bool) (k m : ℤ) → key_or_6 t k ≡ key_is m → (t ≡ true) × (m ≡ k)
key_true true k m e = (refl, cc)
key_true false k m e = let z : ◌≡◌ {A = ℕ} 0 1 = cc in absurd (omega arith)

key_false : (t : Bool) (k : ℤ) (r : ℕ) → key_or_6 t k ≡ no_key r → (t ≡ false) × (r ≡ refusal_number BadTime)
key_false true k r e = let z : ◌≡◌ {A = ℕ} 0 1 = cc in absurd (omega arith)
key_false false k r e = (refl, cc)

-- all four tests passed
strike_fact : (d s o n : ℤ) → (good_day d && good_second s && good_offset o && good_drum n) ≡ true → (GoodTime d s o) × (GoodDrum n)
strike_fact d s o n e =
    let p = both_out (good_day d && good_second s && good_offset o) (good_drum n) e in
    (good_fact d s o p.0, within_fact _ _ n p.1)

-- a test that fails where the fact that it decides is not there
failed : (t : Bool) → (t ≡ true → ⊥) → t ≡ false
failed true h = absurd (h refl)
failed false h = refl

clash : {t : Bool} → t ≡ true → t ≡ false → ⊥
clash p q = let z : ◌≡◌ {A = Bool} true false = sym p ∙ q in true→yes (sym z)

-- a time and a drum in their ranges have the key of request 1's formula, and no other key
pub to_key-key : (d s o n k : ℤ) → (to_key d s o n ≡ key_is k) ↔ ((GoodTime d s o) × (GoodDrum n) × (k ≡ key_of d s o n))
unfolding to_key
to_key-key d s o n k = (to, from)
  where
    to : to_key d s o n ≡ key_is k → (GoodTime d s o) × (GoodDrum n) × (k ≡ key_of d s o n)
    to e =
        let p = key_true _ (key_of d s o n) k e in
        let g = strike_fact d s o n p.0 in (g.0, g.1, p.1)

    from : (GoodTime d s o) × (GoodDrum n) × (k ≡ key_of d s o n) → to_key d s o n ≡ key_is k
    from h = rw (good-yes h.0, within-yes h.1) (ap key_is (sym h.2))

-- they are refused exactly when a field is out of its range, and then with number 6
pub to_key-refused : (d s o n : ℤ) (r : ℕ) → (to_key d s o n ≡ no_key r) ↔ ((¬ ((GoodTime d s o) × (GoodDrum n))) × (r ≡ 6))
unfolding to_key
to_key-refused d s o n r = (to, from)
  where
    to : to_key d s o n ≡ no_key r → (¬ ((GoodTime d s o) × (GoodDrum n))) × (r ≡ 6)
    to e =
        let p = key_false _ (key_of d s o n) r e in
        (λ g. clash (both (good-yes g.0) (within-yes g.1)) p.0, p.1)

    from : (¬ ((GoodTime d s o) × (GoodDrum n))) × (r ≡ 6) → to_key d s o n ≡ no_key r
    from h =
        rw (failed (good_day d && good_second s && good_offset o && good_drum n) (λ t. h.0 (strike_fact d s o n t)))
        (ap no_key (sym h.1))

-- ---- the time of a key

time_true : (t : Bool) (d s n d' s' n' : ℤ) → time_or_6 t d s n ≡ time_is d' s' n' → (t ≡ true) × (d' ≡ d) × (s' ≡ s) × (n' ≡ n)
time_true true d s n d' s' n' e = (refl, cc, cc, cc)
time_true false d s n d' s' n' e = let z : ◌≡◌ {A = ℕ} 0 1 = cc in absurd (omega arith)

time_false : (t : Bool) (d s n : ℤ) (r : ℕ) → time_or_6 t d s n ≡ no_time r → (t ≡ false) × (r ≡ refusal_number BadTime)
time_false true d s n r e = let z : ◌≡◌ {A = ℕ} 0 1 = cc in absurd (omega arith)
time_false false d s n r e = (refl, cc)

good_key_yes : {k o : ℤ} → GoodKey k o → (good_offset o && good_day (day_of (moment_in k) o)) ≡ true
good_key_yes g = both (within-yes g.offset_in) (within-yes g.day_in)

good_key_fact : (k o : ℤ) → (good_offset o && good_day (day_of (moment_in k) o)) ≡ true → GoodKey k o
good_key_fact k o e =
    let p = both_out (good_offset o) (good_day (day_of (moment_in k) o)) e in
    record { offset_in = within_fact _ _ o p.0; day_in = within_fact _ _ (day_of (moment_in k) o) p.1 }

-- a key whose day and offset lie in their ranges has the remainder by 8 for its drum; day and second are the floor and
-- the remainder of the moment in it
pub from_key_time : (k o d s n : ℤ) → (from_key k o ≡ time_is d s n) ↔ ((GoodKey k o) × (d ≡ day_of (moment_in k) o) × (s ≡ second_of (moment_in k) o) × (n ≡ drum_of k))
unfolding from_key
from_key_time k o d s n = (to, from)
  where
    to : from_key k o ≡ time_is d s n → (GoodKey k o) × (d ≡ day_of (moment_in k) o) × (s ≡ second_of (moment_in k) o) × (n ≡ drum_of k)
    to e = let p = time_true _ _ _ _ d s n e in (good_key_fact k o p.0, p.1, p.2, p.3)

    from : (GoodKey k o) × (d ≡ day_of (moment_in k) o) × (s ≡ second_of (moment_in k) o) × (n ≡ drum_of k) → from_key k o ≡ time_is d s n
    from h = rw (good_key_yes h.0, h.1, h.2, h.3)

-- a key is refused exactly when the offset or its day is out of range, and then with number 6
pub from_key-refused : (k o : ℤ) (r : ℕ) → (from_key k o ≡ no_time r) ↔ ((¬ GoodKey k o) × (r ≡ 6))
unfolding from_key
from_key-refused k o r = (to, from)
  where
    to : from_key k o ≡ no_time r → (¬ GoodKey k o) × (r ≡ 6)
    to e = let p = time_false _ _ _ _ r e in (λ g. clash (good_key_yes g) p.0, p.1)

    from : (¬ GoodKey k o) × (r ≡ 6) → from_key k o ≡ no_time r
    from h =
        rw (failed (good_offset o && good_day (day_of (moment_in k) o)) (λ t. h.0 (good_key_fact k o t)))
        (ap no_time (sym h.1))

-- ---- there and back

-- the key of a time and a drum in their ranges gives both back
pub there_and_back : (d s o n : ℤ) → GoodTime d s o → GoodDrum n → from_key (key_of d s o n) o ≡ time_is d s n
there_and_back d s o n g h =
    let k = key_of d s o n in
    let q = key-there d s o n h in
    let p = there d s o g.second_in in
    let day : day_of (moment_in k) o ≡ d = rw q.0 p.0 in
    let second : second_of (moment_in k) o ≡ s = rw q.0 p.1 in
    let inside : InBounds day_low day_high (day_of (moment_in k) o) = rw day g.day_in in
    (from_key_time k o d s n).1 (record { offset_in = g.offset_in; day_in = inside }, sym day, sym second, sym q.1)

-- the time and the drum of a key give the key back
pub back_and_there : (k o d s n : ℤ) → from_key k o ≡ time_is d s n → to_key d s o n ≡ key_is k
back_and_there k o d s n e =
    let p = (from_key_time k o d s n).0 e in
    let inDay : InBounds day_low day_high d = rw p.1 p.0.day_in in
    let inSecond : InBounds second_low second_high s = rw p.2 (second_of_in (moment_in k) o) in
    let inDrum : GoodDrum n = rw p.3 (drum_of_in k) in
    let same : k ≡ key_of d s o n = rw (p.1, p.2, p.3) (sym (key_back _ _ o k (back (moment_in k) o))) in
    (to_key-key d s o n k).1 (record { day_in = inDay; second_in = inSecond; offset_in = p.0.offset_in }, inDrum, same)

-- both at once: to_key answers k for a time and a drum exactly when from_key answers them for k
pub inverse : (d s o n k : ℤ) → (to_key d s o n ≡ key_is k) ↔ (from_key k o ≡ time_is d s n)
inverse d s o n k = (to, back_and_there k o d s n)
  where
    to : to_key d s o n ≡ key_is k → from_key k o ≡ time_is d s n
    to e = let p = (to_key-key d s o n k).0 e in rw p.2 (there_and_back d s o n p.0 p.1)

-- so at one offset two different times, or two drums at one time, never share a key
pub one_strike : (d s n d' s' n' o k : ℤ) → to_key d s o n ≡ key_is k → to_key d' s' o n' ≡ key_is k → (d ≡ d') × (s ≡ s') × (n ≡ n')
one_strike d s n d' s' n' o k e e' =
    let p = (inverse d s o n k).0 e in
    let q = (inverse d' s' o n' k).0 e' in (cc, cc, cc)

-- at any two offsets, strikes share a key exactly when they have one drum and fall on one moment
pub one_moment : (d s o n d' s' o' n' k k' : ℤ) → to_key d s o n ≡ key_is k → to_key d' s' o' n' ≡ key_is k' → (k ≡ k') ↔ ((moment_of d s o ≡ moment_of d' s' o') × (n ≡ n'))
one_moment d s o n d' s' o' n' k k' e e' =
    let p = (to_key-key d s o n k).0 e in
    let q = (to_key-key d' s' o' n' k').0 e' in
    rw (p.2, q.2) (key-same d s o n d' s' o' n' p.1 q.1)

-- ---- the order

-- at one offset the order of keys is that of the times, and at one time that of the drums
pub order : (d s n d' s' n' o : ℤ) → GoodTime d s o → GoodTime d' s' o → GoodDrum n → GoodDrum n' → (Sooner d s n d' s' n') ↔ (key_of d s o n <ℤ key_of d' s' o n')
order d s n d' s' n' o g g' h h' = (to, λ l. from l (lt_z (moment_of d s o) (moment_of d' s' o)) refl)
  where
    to : Sooner d s n d' s' n' → key_of d s o n <ℤ key_of d' s' o n'
    to (earlier_time e) =
        key-later d s o n d' s' o n' h h' (moment_later d s d' s' o g.second_in g'.second_in e)
    to (lower_drum p q l) = rw (p, q) ((key-rises d' s' o n n').0 l)

    from : key_of d s o n <ℤ key_of d' s' o n' → (t : Bool) → lt_z (moment_of d s o) (moment_of d' s' o) ≡ t → Sooner d s n d' s' n'
    from l true e =
        earlier_time (moment_earlier d s d' s' o g.second_in g'.second_in (record { lt = true→yes e }))
    from l false e =
        let p = key-lower d s o n d' s' o n' h h' l e in
        let a = there d s o g.second_in in
        let b = there d' s' o g'.second_in in
        lower_drum (sym a.0 ∙ ap (λ (m : ℤ). day_of m o) p.0 ∙ b.0) (sym a.1 ∙ ap (λ (m : ℤ). second_of m o) p.0 ∙ b.1) p.1

-- told of the answers: a later time has the greater key, whatever the drums
pub later : (d s n d' s' n' o k k' : ℤ) → to_key d s o n ≡ key_is k → to_key d' s' o n' ≡ key_is k' → Earlier d s d' s' → k <ℤ k'
later d s n d' s' n' o k k' e e' h =
    let p = (to_key-key d s o n k).0 e in
    let q = (to_key-key d' s' o n' k').0 e' in
    rw (p.2, q.2) ((order d s n d' s' n' o p.0 q.0 p.1 q.1).0 (earlier_time h))

-- and at one time keys rise with the drum, and only so
pub rises : (d s o n n' k k' : ℤ) → to_key d s o n ≡ key_is k → to_key d s o n' ≡ key_is k' → (n <ℤ n') ↔ (k <ℤ k')
rises d s o n n' k k' e e' =
    let p = (to_key-key d s o n k).0 e in
    let q = (to_key-key d s o n' k').0 e' in
    rw (p.2, q.2) (key-rises d s o n n')
