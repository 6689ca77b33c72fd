-- Each test is the definition's test of that field, in the definition's order. Where all are passed, the moment and the key
-- fit (proofs/NoOverflow).
use Rattle.std.proofs.Common.{◌≡◌, true, false, ap, ◌∙◌, rules, SFits}
use Rattle.std.specs.Int.{w64}
use Rattle.std.proofs.lemmas.Int.{to_z-of_z}
use Rattle.due.specs.Due.{good_day, good_second, good_offset, good_drum, key_is, key_of, to_key}
use Rattle.due.proofs.Ranges.{tested, within_fact, good_fact, both}
use Rattle.due.proofs.NoOverflow.{eighths_fit, key_fits}
use Rattle.due.proofs.Single.{no_key_so}
use Rattle.due.proofs.key_of.Goals as goal

pub returns-in_err-within : goal.returns-in_err-within
unfolding to_key
returns-in_err-within c =
    let day : good_day c.args.time.day.0 ≡ false = tested _ _ (search rules) c.in_err-within.ensures in
    rw day (no_key_so _ c.from_residual.ensures.0)

pub returns-in_err-within-2 : goal.returns-in_err-within-2
unfolding to_key
returns-in_err-within-2 c =
    let day : good_day c.args.time.day.0 ≡ true = tested _ _ (search rules) c.in_ok-within.ensures in
    let second : good_second c.args.time.second.0 ≡ false = tested _ _ (search rules) c.in_err-within-2.ensures in
    rw (day, second) (no_key_so _ c.from_residual-in_err-within-2.ensures.0)

pub returns-in_err-within-3 : goal.returns-in_err-within-3
unfolding to_key
returns-in_err-within-3 c =
    let day : good_day c.args.time.day.0 ≡ true = tested _ _ (search rules) c.in_ok-within.ensures in
    let second : good_second c.args.time.second.0 ≡ true = tested _ _ (search rules) c.in_ok-within-2.ensures in
    let offset : good_offset c.args.offset.0 ≡ false = tested _ _ (search rules) c.in_err-within-3.ensures in
    rw (day, second, offset) (no_key_so _ c.from_residual-in_err-within-3.ensures.0)

pub returns-in_err-within-4 : goal.returns-in_err-within-4
unfolding to_key
returns-in_err-within-4 c =
    let day : good_day c.args.time.day.0 ≡ true = tested _ _ (search rules) c.in_ok-within.ensures in
    let second : good_second c.args.time.second.0 ≡ true = tested _ _ (search rules) c.in_ok-within-2.ensures in
    let offset : good_offset c.args.offset.0 ≡ true = tested _ _ (search rules) c.in_ok-within-3.ensures in
    let drum : good_drum c.args.drum.0 ≡ false = tested _ _ (search rules) c.in_err-within-4.ensures in
    rw (day, second, offset, drum) (no_key_so _ c.from_residual-in_err-within-4.ensures.0)

pub moment-at-requires : goal.moment-at-requires
moment-at-requires c =
    let day : SFits w64 c.args.time.day.0 = search rules in
    let second : SFits w64 c.args.time.second.0 = search rules in
    let offset : SFits w64 c.args.offset.0 = search rules in
    good_fact _ _ _ (both (both (tested _ _ day c.in_ok-within.ensures) (tested _ _ second c.in_ok-within-2.ensures)) (tested _ _ offset c.in_ok-within-3.ensures))

pub with_drum-requires : goal.with_drum-requires
with_drum-requires c =
    let day : SFits w64 c.args.time.day.0 = search rules in
    let second : SFits w64 c.args.time.second.0 = search rules in
    let offset : SFits w64 c.args.offset.0 = search rules in
    let drum : SFits w64 c.args.drum.0 = search rules in
    let at : SFits w64 c.moment-at.result = search rules in
    let g = good_fact _ _ _ (both (both (tested _ _ day c.in_ok-within.ensures) (tested _ _ second c.in_ok-within-2.ensures)) (tested _ _ offset c.in_ok-within-3.ensures)) in
    rw (to_z-of_z _ _ at, c.moment-at.ensures, to_z-of_z _ _ drum)
    (eighths_fit _ _ _ g, key_fits _ _ _ g _ (within_fact _ _ _ (tested _ _ drum c.in_ok-within-4.ensures)))

pub returns : goal.returns
unfolding to_key key_of
returns c =
    let day : SFits w64 c.args.time.day.0 = search rules in
    let second : SFits w64 c.args.time.second.0 = search rules in
    let offset : SFits w64 c.args.offset.0 = search rules in
    let drum : SFits w64 c.args.drum.0 = search rules in
    let at : SFits w64 c.moment-at.result = search rules in
    let key : SFits w64 c.with_drum.result = search rules in
    let e = rw (to_z-of_z _ _ at, c.moment-at.ensures, to_z-of_z _ _ drum) at c.with_drum.ensures in
    let in_day : good_day c.args.time.day.0 ≡ true = tested _ _ day c.in_ok-within.ensures in
    let in_second : good_second c.args.time.second.0 ≡ true = tested _ _ second c.in_ok-within-2.ensures in
    let in_offset : good_offset c.args.offset.0 ≡ true = tested _ _ offset c.in_ok-within-3.ensures in
    let in_drum : good_drum c.args.drum.0 ≡ true = tested _ _ drum c.in_ok-within-4.ensures in
    rw (in_day, in_second, in_offset, in_drum) (ap key_is (to_z-of_z _ _ key ∙ e))
