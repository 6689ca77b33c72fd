-- The key's moment is tested against the first and the last one of the days in range, which is the definition's test of the
-- day (`day-range` of proofs/Moments). `range_is` says so of the call, of the numbers as they are read from their bits.
use Rattle.std.proofs.Common.{◌≡◌, Bool, true, false, sym, ◌∙◌, rules, SFits, ℤ, to_z, of_z}
use Rattle.std.specs.Int.{w64}
use Rattle.std.proofs.lemmas.Int.{to_z-of_z}
use Rattle.due.specs.Due.{good_day, good_offset, within, moment_of, day_low, day_high, second_low, second_high, drums, moment_in, drum_of, day_of, second_of, from_key}
use Rattle.due.specs.Floor.{floor_div}
use Rattle.due.proofs.Ranges.{tested, within_fact}
use Rattle.due.proofs.Moments.{day-range}
use Rattle.due.proofs.NoOverflow.{ends-good, local_fits}
use Rattle.due.proofs.Single.{no_time_so}
use Rattle.due.proofs.time_of.Goals as goal

module _ (key offset : ℤ) {first last at : ℤ} {t : Bool} (k : SFits w64 key) (f : SFits w64 first) (l : SFits w64 last) (w : SFits w64 at)
    (a : first ≡ moment_of day_low second_low offset) (b : last ≡ moment_of day_high second_high offset) (d : at ≡ floor_div (to_z w64 (of_z w64 key)) drums)
    (e : t ≡ within (to_z w64 (of_z w64 first)) (to_z w64 (of_z w64 last)) (to_z w64 (of_z w64 at))) where
  range_is : within (moment_of day_low second_low offset) (moment_of day_high second_high offset) (moment_in key) ≡ t
  unfolding moment_in
  range_is =
      let d' = rw (to_z-of_z _ _ k) at d in
      sym (rw (to_z-of_z _ _ f, to_z-of_z _ _ l, to_z-of_z _ _ w, a, b, d') at e)

pub returns-in_err-within : goal.returns-in_err-within
unfolding from_key
returns-in_err-within c =
    let offset : good_offset c.args.offset.0 ≡ false = tested _ _ (search rules) c.in_err-within.ensures in
    rw offset (no_time_so _ c.from_residual.ensures.0)

pub moment-first-requires : goal.moment-first-requires
moment-first-requires c =
    let offset : SFits w64 c.args.offset.0 = search rules in
    (ends-good _ (within_fact _ _ _ (tested _ _ offset c.in_ok-within.ensures))).0

pub moment-last-requires : goal.moment-last-requires
moment-last-requires c =
    let offset : SFits w64 c.args.offset.0 = search rules in
    (ends-good _ (within_fact _ _ _ (tested _ _ offset c.in_ok-within.ensures))).1

pub returns-in_err-within-2 : goal.returns-in_err-within-2
unfolding from_key
returns-in_err-within-2 c =
    let key : SFits w64 c.args.key.0 = search rules in
    let offset : SFits w64 c.args.offset.0 = search rules in
    let first : SFits w64 c.moment-first.result = search rules in
    let last : SFits w64 c.moment-last.result = search rules in
    let at : SFits w64 c.floor-at.result = search rules in
    let in_offset : good_offset c.args.offset.0 ≡ true = tested _ _ offset c.in_ok-within.ensures in
    let r = range_is _ _ key first last at c.moment-first.ensures c.moment-last.ensures c.floor-at.ensures c.in_err-within-2.ensures in
    let in_day : good_day (day_of (moment_in c.args.key.0) c.args.offset.0) ≡ false = day-range _ _ ∙ r in
    rw (in_offset, in_day) (no_time_so _ c.from_residual-in_err-within-2.ensures.0)

pub ahead-local-requires : goal.ahead-local-requires
unfolding moment_in
ahead-local-requires c =
    let key : SFits w64 c.args.key.0 = search rules in
    let offset : SFits w64 c.args.offset.0 = search rules in
    let first : SFits w64 c.moment-first.result = search rules in
    let last : SFits w64 c.moment-last.result = search rules in
    let at : SFits w64 c.floor-at.result = search rules in
    let r = range_is _ _ key first last at c.moment-first.ensures c.moment-last.ensures c.floor-at.ensures c.in_ok-within-2.ensures in
    let d = rw (to_z-of_z _ _ key) at c.floor-at.ensures in
    rw (to_z-of_z _ _ at, to_z-of_z _ _ offset, d)
    (local_fits _ _ (within_fact _ _ _ (tested _ _ offset c.in_ok-within.ensures)) (within_fact _ _ _ r))

pub returns : goal.returns
unfolding from_key day_of second_of moment_in drum_of
returns c =
    let key : SFits w64 c.args.key.0 = search rules in
    let offset : SFits w64 c.args.offset.0 = search rules in
    let first : SFits w64 c.moment-first.result = search rules in
    let last : SFits w64 c.moment-last.result = search rules in
    let at : SFits w64 c.floor-at.result = search rules in
    let local : SFits w64 c.ahead-local.result = search rules in
    let day : SFits w64 c.floor-day.result = search rules in
    let second : SFits w64 c.rest-second.result = search rules in
    let drum : SFits w64 c.rest-drum.result = search rules in
    let in_offset : good_offset c.args.offset.0 ≡ true = tested _ _ offset c.in_ok-within.ensures in
    let r = day-range _ _ ∙ range_is _ _ key first last at c.moment-first.ensures c.moment-last.ensures c.floor-at.ensures c.in_ok-within-2.ensures in
    let d = rw (to_z-of_z _ _ key) at c.floor-at.ensures in
    let n = rw (to_z-of_z _ _ key) at c.rest-drum.ensures in
    let l = rw (to_z-of_z _ _ at, to_z-of_z _ _ offset, d) at c.ahead-local.ensures in
    let e = rw (to_z-of_z _ _ local, l) at c.floor-day.ensures in
    let s = rw (to_z-of_z _ _ local, l) at c.rest-second.ensures in
    rw (in_offset, r, to_z-of_z _ _ day, to_z-of_z _ _ second, to_z-of_z _ _ drum, e, s, n)
