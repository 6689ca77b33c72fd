-- The short history of specs/inner/Sample, computed.
-- A reader may rely on sample: what the definitions give is what was written out by hand.
use mathlib.Core.Path.{◌≡◌, refl}
use native.Mathlib.Decide.{dec_le, dec_lt, ℕ_discrete}
use Rattle.wavl.specs.Lists.{choose, first, last}
use Rattle.wavl.specs.Tree.{inorder}
use Rattle.wavl.specs.Way.{plug, before, after, neighbour, replace_at}
use Rattle.wavl.specs.Placing.{place_round, by_place, insert_climb, insert_at}
use Rattle.wavl.specs.Taking.{take_round, by_take, remove_climb, settle, endmost, vacate_end, vacate, remove_at}
use Rattle.wavl.specs.Search.{key_round, by_key, find, find_slot}
use Rattle.rules.specs.Queue.{fresh_from, fresh}
use Rattle.rules.specs.Place.{of_generation, spot_of}
use Rattle.handle.specs.Numbers.{limit, top_limit}
use Rattle.rules.specs.LayOut.{lay_out}
use Rattle.rules.specs.Insert.{add_with, place_normal, insert_normal, ahead, foresee}
use Rattle.rules.specs.Look.{read_spot, read, found_in, search_for}
use Rattle.rules.specs.Remove.{freed, note_of, remove_spot, remove}
use Rattle.rules.specs.Calls.{look, answer, run_by}
use Rattle.history.specs.Deed.{deed}
use Rattle.history.specs.Book.{handles, begun, revalue, without, note_count, tell, kept}
use Rattle.starred_runs.specs.inner.Sample.{script, shown, expected, again, anew}

pub sample : (shown script ≡ expected) × (shown again ≡ anew)
unfolding dec_le dec_lt ℕ_discrete choose first last inorder plug before after neighbour replace_at place_round by_place insert_climb insert_at take_round by_take remove_climb settle endmost vacate_end vacate remove_at key_round by_key find find_slot fresh_from fresh of_generation spot_of limit top_limit lay_out add_with place_normal insert_normal ahead foresee read_spot read found_in search_for freed note_of remove_spot remove look answer run_by deed handles begun revalue without note_count tell kept script shown expected again anew
sample = (refl, refl)
