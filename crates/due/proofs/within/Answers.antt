-- The range that is made holds low and high, and is not used up; its test is the definition's, read back from the bits.
use Rattle.std.proofs.Common.{◌∙◌, sym}
use Rattle.std.proofs.lemmas.Int.{to_z-of_z}
use Rattle.due.proofs.Ranges.{contained}
use Rattle.due.proofs.within.Goals as goal

pub returns-then-contains : goal.returns-then-contains
returns-then-contains c =
    let f = c.ranges in
    let h = rw (c.new.ensures.start, c.new.ensures.end, c.new.ensures.exhausted, to_z-of_z _ _ f.low, to_z-of_z _ _ f.high, to_z-of_z _ _ f.z) at c.contains.ensures.value in
    sym c.if-contains.true ∙ h ∙ contained _ _ _

pub returns-else-contains : goal.returns-else-contains
returns-else-contains c =
    let f = c.ranges in
    let h = rw (c.new.ensures.start, c.new.ensures.end, c.new.ensures.exhausted, to_z-of_z _ _ f.low, to_z-of_z _ _ f.high, to_z-of_z _ _ f.z) at c.contains.ensures.value in
    sym c.if-contains.false ∙ h ∙ contained _ _ _
