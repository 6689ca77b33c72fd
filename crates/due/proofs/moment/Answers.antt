-- No step overflows (proofs/NoOverflow), so each is read back from its bits as it is.
use Rattle.std.proofs.Common.{rules, SFits, ◌∙◌}
use Rattle.std.specs.Int.{w64}
use Rattle.std.proofs.lemmas.Int.{to_z-of_z}
use Rattle.due.specs.Due.{moment_of}
use Rattle.due.proofs.moment.Goals as goal
use Rattle.due.proofs.NoOverflow.{days_fit, seconds_fit}

pub returns : goal.returns
unfolding moment_of
returns c =
    let d : SFits w64 c.args.time.day.0 = search rules in
    let s : SFits w64 c.args.time.second.0 = search rules in
    let o : SFits w64 c.args.offset.0 = search rules in
    let day = days_fit _ _ _ c.requires in
    let sum = seconds_fit _ _ _ c.requires in
    let given : SFits w64 c.behind.result = search rules in
    to_z-of_z _ _ given
    ∙ (rw (to_z-of_z _ _ d, to_z-of_z _ _ s, to_z-of_z _ _ o, to_z-of_z _ _ day, to_z-of_z _ _ sum) at c.behind.ensures)
