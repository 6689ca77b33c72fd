-- Due times (document 01, "Due times", as request 1 of document 02 changes it): a local time and a drum become a key,
-- and a key becomes a time and a drum again. A reader may rely on `to_key` and `from_key`, which say the answer for all
-- numbers, refusals too; their laws are in proofs/Times, and the documents' examples in proofs/Runs. The key's formula
-- stands here alone. Assumes nothing.
use Rattle.std.specs.Prelude.{◌≡◌, ℕ, Bool, true, false, ◌&&◌, ℤ, pos, neg_ℤ, ◌+ℤ◌, ◌-ℤ◌, ◌*ℤ◌, ◌≤ℤ◌, ◌<ℤ◌}
use Rattle.std.specs.Int.Signed.{le_z}
use Rattle.handle.specs.Numbers.{refusal_number}
use Rattle.handle.specs.declared.Refusal.TheVariants.{BadTime}
use Rattle.due.specs.Floor.{floor_div, floor_mod}

abbrev pub minus : ℕ → ℤ
minus n = neg_ℤ (pos n)

-- ---- the ranges

-- "Day -1,000,000 to 1,000,000 from 1970-01-01"
abbrev pub day_low : ℤ
day_low = minus 1_000_000

abbrev pub day_high : ℤ
day_high = pos 1_000_000

-- "second 0 to 86,399"
abbrev pub second_low : ℤ
second_low = pos 0

abbrev pub second_high : ℤ
second_high = pos 86_399

-- "offset -50,400 to 50,400 seconds east"
abbrev pub offset_low : ℤ
offset_low = minus 50_400

abbrev pub offset_high : ℤ
offset_high = pos 50_400

-- "drum 0 to 7"
abbrev pub drum_low : ℤ
drum_low = pos 0

abbrev pub drum_high : ℤ
drum_high = pos 7

-- low ≤ z ≤ high, as a test and as a fact
unfoldable pub within : ℤ → ℤ → ℤ → Bool
within low high z = le_z low z && le_z z high

pub record InBounds (low high z : ℤ) : Type 0 where
  pub above : low ≤ℤ z
  pub below : z ≤ℤ high

abbrev pub good_day : ℤ → Bool
good_day day = within day_low day_high day

abbrev pub good_second : ℤ → Bool
good_second second = within second_low second_high second

abbrev pub good_offset : ℤ → Bool
good_offset offset = within offset_low offset_high offset

abbrev pub good_drum : ℤ → Bool
good_drum drum = within drum_low drum_high drum

-- every field of a local time lies in its range; the drum's fact stands apart, for a moment has no drum
pub record GoodTime (day second offset : ℤ) : Type 0 where
  pub day_in : InBounds day_low day_high day
  pub second_in : InBounds second_low second_high second
  pub offset_in : InBounds offset_low offset_high offset

abbrev pub GoodDrum : ℤ → Type 0
GoodDrum drum = InBounds drum_low drum_high drum

-- ---- the answers

-- the key, or the refusal's number
pub data KeyFound : Type 0 where
  key_is : ℤ → KeyFound
  no_key : ℕ → KeyFound

-- day, second and drum, or the refusal's number
pub data TimeFound : Type 0 where
  time_is : ℤ → ℤ → ℤ → TimeFound
  no_time : ℕ → TimeFound

abbrev pub key_or_6 : Bool → ℤ → KeyFound
key_or_6 true k = key_is k
key_or_6 false k = no_key (refusal_number BadTime)

abbrev pub time_or_6 : Bool → ℤ → ℤ → ℤ → TimeFound
time_or_6 true day second drum = time_is day second drum
time_or_6 false day second drum = no_time (refusal_number BadTime)

-- ---- there and back

abbrev pub seconds_a_day : ℕ
seconds_a_day = 86_400

-- the moment of a local time: seconds from 1970-01-01 at offset 0
unfoldable pub moment_of : ℤ → ℤ → ℤ → ℤ
moment_of day second offset = day *ℤ pos seconds_a_day +ℤ second -ℤ offset

-- how many drums there are at each moment
abbrev pub drums : ℕ
drums = 8

-- "key = (day x 86,400 + second - offset) x 8 + drum"
unfoldable pub key_of : ℤ → ℤ → ℤ → ℤ → ℤ
key_of day second offset drum = moment_of day second offset *ℤ pos drums +ℤ drum

-- "Going back, the drum is the remainder by 8, never negative, and the rest is the floor": the rest is the moment
unfoldable pub drum_of : ℤ → ℤ
drum_of key = pos (floor_mod key drums)

unfoldable pub moment_in : ℤ → ℤ
moment_in key = floor_div key drums

-- "Back: the day is the floor of (key + offset) / 86,400, the second is the remainder", with the moment in the key's place
unfoldable pub day_of : ℤ → ℤ → ℤ
day_of moment offset = floor_div (moment +ℤ offset) seconds_a_day

unfoldable pub second_of : ℤ → ℤ → ℤ
second_of moment offset = pos (floor_mod (moment +ℤ offset) seconds_a_day)

-- the key of a drum at a local time and offset; 6 where a field is out of its range, "a drum over 7" too
unfoldable pub to_key : ℤ → ℤ → ℤ → ℤ → KeyFound
to_key day second offset drum =
    key_or_6 (good_day day && good_second second && good_offset offset && good_drum drum) (key_of day second offset drum)

-- the local time and the drum of a key at an offset; "a day out of range is 6", and so is an offset out of range
unfoldable pub from_key : ℤ → ℤ → TimeFound
from_key key offset =
    time_or_6 (good_offset offset && good_day (day_of (moment_in key) offset)) (day_of (moment_in key) offset) (second_of (moment_in key) offset) (drum_of key)

-- a key that `from_key` answers: the offset and the day that is read from it lie in their ranges
pub record GoodKey (key offset : ℤ) : Type 0 where
  pub offset_in : InBounds offset_low offset_high offset
  pub day_in : InBounds day_low day_high (day_of (moment_in key) offset)

-- ---- the order

-- one local time lies before another
pub data Earlier (day second day' second' : ℤ) : Type 0 where
  earlier_day : day <ℤ day' → Earlier day second day' second'
  same_day : day ≡ day' → second <ℤ second' → Earlier day second day' second'

-- one strike comes before another: its time lies before, or at one time its drum is the lower
pub data Sooner (day second drum day' second' drum' : ℤ) : Type 0 where
  earlier_time : Earlier day second day' second' → Sooner day second drum day' second' drum'
  lower_drum : day ≡ day' → second ≡ second' → drum <ℤ drum' → Sooner day second drum day' second' drum'
