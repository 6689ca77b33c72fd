-- Document 01's number and values for each case of the answers of this crate. The promises of `key_of` and `time_of`
-- speak through these two definitions. Assumes nothing.

use Rattle.std.specs.Prelude.{Result, Ok, Err}
use Rattle.handle.specs.Numbers.{refusal_number}
use Rattle.handle.specs.declared.Refusal.TheVariants as R
use Rattle.handle.specs.declared.Key.{Key}
use Rattle.due.specs.Due.{KeyFound, key_is, no_key, TimeFound, time_is, no_time}
use Rattle.due.specs.declared.BadTime.{BadTime}
use Rattle.due.specs.declared.Drum.{Drum}
use Rattle.due.specs.declared.Time.{Time}

-- `Ok` holds the key
abbrev pub key_found : Result Key BadTime → KeyFound
key_found (Ok k) = key_is k.0
key_found (Err e) = no_key (refusal_number R.BadTime)

-- `Ok` holds the time, day and second, and the drum
abbrev pub time_found : Result (Time × Drum) BadTime → TimeFound
time_found (Ok p) = time_is p.0.day.0 p.0.second.0 p.1.0
time_found (Err e) = no_time (refusal_number R.BadTime)
