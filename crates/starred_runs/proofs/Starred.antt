-- Document 01's starred runs, computed: one theorem over the one table of specs/Starred.
-- A reader may rely on this: every row comes out as it is written there.
use mathlib.Core.Path.{refl}
use native.Mathlib.Decide.{dec_le, dec_lt, ℕ_discrete}
use Rattle.wavl.specs.Lists.{choose, first, last}
use Rattle.wavl.specs.Tree.{inorder, size}
use Rattle.wavl.specs.Way.{plug, before, after, neighbour, replace_at}
use Rattle.wavl.specs.Placing.{place_round, by_place, insert_climb, insert_at}
use Rattle.wavl.specs.Taking.{take_round, by_take, remove_climb, settle, endmost, vacate_end, vacate, remove_at}
use Rattle.wavl.specs.Search.{key_round, by_key, find, find_slot, beside_of}
use Rattle.rules.specs.Queue.{fresh_from, fresh}
use Rattle.rules.specs.Place.{of_generation, spot_of}
use Rattle.rules.specs.Insert.{add_with, place_normal, insert_normal, place_empty, insert_empty, place_manual, insert_manual}
use Rattle.rules.specs.Remove.{freed, note_of, remove_spot, remove}
use Rattle.rules.specs.Calls.{answer, run_by}
use Rattle.due.proofs.Runs.{day-before}
use Rattle.starred_runs.specs.Starred.{listing, Starred}

pub starred : Starred
unfolding dec_le dec_lt ℕ_discrete choose first last inorder size plug before after neighbour replace_at place_round by_place insert_climb insert_at take_round by_take remove_climb settle endmost vacate_end vacate remove_at key_round by_key find find_slot beside_of fresh_from fresh of_generation spot_of add_with place_normal insert_normal place_empty insert_empty place_manual insert_manual freed note_of remove_spot remove answer run_by listing
starred = record {
  queue = ((λ e. refl, refl), ((λ e. refl, refl), ((λ e. refl, refl), ((λ e. refl, refl), ((λ e. refl, refl), ((λ e. refl, refl), ((λ e. refl, refl), ((λ e. refl, refl), ((λ e. refl, refl), ((λ e. refl, refl), tt))))))))));
  listed = refl;
  times = day-before.2;
}
