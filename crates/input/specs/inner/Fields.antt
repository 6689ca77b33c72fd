-- How a line is cut into fields. The script language: "cut into fields at spaces (byte 32). One or more spaces separate; leading
-- and trailing spaces do not count. No other byte separates".
use Rattle.std.specs.Prelude.{ℕ, suc, ◌+◌, ◌-◌, ◌<◌, ◌≤◌, List, [], ◌∷◌, Option, Some, None, Bool, ltb, leb, eqb, length, take, drop}
use Rattle.arena.specs.Branch.{ifte}
use Rattle.handle.specs.declared.Key.{Key}
use Rattle.input.specs.inner.Numbers.{unsigned_of, signed_of}
use Rattle.input.specs.declared.fields.Span.{Span}

-- how many spaces these bytes begin with
unfoldable pub spaces : List ℕ → ℕ
spaces [] = 0
spaces (b ∷ bs) = ifte (eqb b 32) (suc (spaces bs)) 0

-- how many bytes other than space they begin with
unfoldable pub others : List ℕ → ℕ
others [] = 0
others (b ∷ bs) = ifte (eqb b 32) 0 (suc (others bs))

-- the place behind the spaces that stand from i on
unfoldable pub skipped : List ℕ → ℕ → ℕ
skipped s i = i + spaces (drop i s)

-- the place behind the other bytes that stand from i on
unfoldable pub passed : List ℕ → ℕ → ℕ
passed s i = i + others (drop i s)

-- the field that begins at a, if a lies in the line
unfoldable pub field_from : List ℕ → ℕ → Option Span
field_from s a = ifte (ltb a (length s)) (Some (record { start = a; end = passed s a })) None

unfoldable pub next_field : List ℕ → ℕ → Option Span
next_field s from = field_from s (skipped s from)

-- a field has a byte at least and lies in its line
abbrev pub InLine : List ℕ → Option Span → Type 0
InLine s (Some p) = (p.start < p.end) × (p.end ≤ length s)
InLine s None = Unit {0}

-- no field from i on
unfoldable pub ends_at : List ℕ → ℕ → Bool
ends_at s i = leb (length s) (skipped s i)

-- the bytes from a up to e
abbrev pub part : List ℕ → ℕ → ℕ → List ℕ
part s a e = take (e - a) (drop a s)

-- what was read of a field that ends at e, if it reads well
abbrev pub ending : {A : Type 0} → ℕ → Option A → Option (A × ℕ)
ending e (Some v) = Some (v, e)
ending e None = None

-- what a reader makes of the field's bytes, and where the field ends
abbrev pub read_in : {A : Type 0} → (List ℕ → Option A) → List ℕ → Option Span → Option (A × ℕ)
read_in g s (Some p) = ending p.end (g (part s p.start p.end))
read_in g s None = None

-- the next field as a reader takes it
abbrev pub field_by : {A : Type 0} → (List ℕ → Option A) → List ℕ → ℕ → Option (A × ℕ)
field_by g s from = read_in g s (next_field s from)

abbrev pub number_to : ℕ → Option ℕ → Option (ℕ × ℕ)
number_to e n = ending e n

abbrev pub number_in : List ℕ → Option Span → Option (ℕ × ℕ)
number_in s f = read_in unsigned_of s f

-- the next field as a number
unfoldable pub number_field : List ℕ → ℕ → Option (ℕ × ℕ)
number_field s from = number_in s (next_field s from)

abbrev pub key_to : ℕ → Option Key → Option (Key × ℕ)
key_to e n = ending e n

abbrev pub key_in : List ℕ → Option Span → Option (Key × ℕ)
key_in s f = read_in signed_of s f

-- the next field as a key
unfoldable pub key_field : List ℕ → ℕ → Option (Key × ℕ)
key_field s from = key_in s (next_field s from)
