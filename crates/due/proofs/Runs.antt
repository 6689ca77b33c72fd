-- The examples of due times, computed from the definitions: document 01's lines under "Due times" as request 1 changes
-- them, of which run K is a part, and the ends of each range with the number one past it. Assumes nothing.
use mathlib.Core.Path.{◌≡◌, refl}
use mathlib.Core.List.{List, [], ◌∷◌, map}
use lib.IntN.{ℤ, pos}
use Rattle.due.specs.Due.{minus, within, moment_of, key_of, drum_of, moment_in, day_of, second_of, KeyFound, key_is, no_key, TimeFound, time_is, no_time, to_key, from_key}
use Rattle.due.specs.Floor.{floor_div, floor_mod}

-- "day -1, second 86,399, offset 0, drum 0 gives -8", and back the same; "Key -1 reads day -1, second 86,399, drum 7 at offset 0"
pub day-before : (to_key (minus 1) (pos 86_399) (pos 0) (pos 0) ≡ key_is (minus 8)) × (from_key (minus 8) (pos 0) ≡ time_is (minus 1) (pos 86_399) (pos 0)) × (from_key (minus 1) (pos 0) ≡ time_is (minus 1) (pos 86_399) (pos 7))
unfolding to_key from_key within moment_of key_of drum_of moment_in day_of second_of floor_div floor_mod
day-before = (refl, refl, refl)

-- "day 100, second 7,200, drum 0 gives 69,148,800 at offset 3,600 and 69,120,000 at 7,200"
pub day_100 : (to_key (pos 100) (pos 7_200) (pos 3_600) (pos 0) ≡ key_is (pos 69_148_800)) × (to_key (pos 100) (pos 7_200) (pos 7_200) (pos 0) ≡ key_is (pos 69_120_000))
unfolding to_key within moment_of key_of
day_100 = (refl, refl)

-- ---- the ends of the ranges, and one past each

-- a time and a drum, and the key that they get
pub record ToCase : Type 0 where
  pub day : ℤ
  pub second : ℤ
  pub offset : ℤ
  pub drum : ℤ
  pub gets : KeyFound

-- a key, and the time and drum that it gets
pub record FromCase : Type 0 where
  pub key : ℤ
  pub offset : ℤ
  pub gets : TimeFound

abbrev pub to_cases : List ToCase
to_cases =
    record { day = minus 1_000_000; second = pos 0; offset = pos 50_400; drum = pos 0; gets = key_is (minus 691_200_403_200) }
    ∷ record { day = pos 1_000_000; second = pos 86_399; offset = minus 50_400; drum = pos 7; gets = key_is (pos 691_201_094_399) }
    ∷ record { day = minus 1_000_001; second = pos 0; offset = pos 0; drum = pos 0; gets = no_key 6 }
    ∷ record { day = pos 1_000_001; second = pos 0; offset = pos 0; drum = pos 0; gets = no_key 6 }
    ∷ record { day = pos 0; second = minus 1; offset = pos 0; drum = pos 0; gets = no_key 6 }
    ∷ record { day = pos 0; second = pos 86_400; offset = pos 0; drum = pos 0; gets = no_key 6 }
    ∷ record { day = pos 0; second = pos 0; offset = minus 50_401; drum = pos 0; gets = no_key 6 }
    ∷ record { day = pos 0; second = pos 0; offset = pos 50_401; drum = pos 0; gets = no_key 6 }
    ∷ record { day = pos 0; second = pos 0; offset = pos 0; drum = pos 7; gets = key_is (pos 7) }
    ∷ record { day = pos 0; second = pos 0; offset = pos 0; drum = pos 8; gets = no_key 6 }
    ∷ record { day = pos 0; second = pos 0; offset = pos 0; drum = minus 1; gets = no_key 6 }
    ∷ []

abbrev pub from_cases : List FromCase
from_cases =
    record { key = minus 691_200_403_200; offset = pos 50_400; gets = time_is (minus 1_000_000) (pos 0) (pos 0) }
    ∷ record { key = minus 691_200_403_201; offset = pos 50_400; gets = no_time 6 }
    ∷ record { key = pos 691_201_094_399; offset = minus 50_400; gets = time_is (pos 1_000_000) (pos 86_399) (pos 7) }
    ∷ record { key = pos 691_201_094_400; offset = minus 50_400; gets = no_time 6 }
    ∷ record { key = pos 0; offset = minus 50_401; gets = no_time 6 }
    ∷ record { key = pos 0; offset = pos 50_401; gets = no_time 6 }
    ∷ record { key = minus 9_223_372_036_854_775_808; offset = minus 50_400; gets = no_time 6 }
    ∷ record { key = pos 9_223_372_036_854_775_807; offset = pos 50_400; gets = no_time 6 }
    ∷ []

pub to-ends : map (λ (c : ToCase). to_key c.day c.second c.offset c.drum) to_cases ≡ map (λ (c : ToCase). c.gets) to_cases
unfolding to_key within moment_of key_of
to-ends = refl

pub from-ends : map (λ (c : FromCase). from_key c.key c.offset) from_cases ≡ map (λ (c : FromCase). c.gets) from_cases
unfolding from_key within drum_of moment_in day_of second_of floor_div floor_mod
from-ends = refl
