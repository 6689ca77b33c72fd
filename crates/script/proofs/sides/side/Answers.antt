use Rattle.std.proofs.Common.{rules}
use Rattle.script.proofs.Parts.{no_side_so, is_less, is_equal, is_greater, is_none}
use Rattle.script.proofs.sides.side.Goals as goal

pub returns-in_err-k : goal.returns-in_err-k
returns-in_err-k c = search (rules, no_side_so)

pub returns-in-minus1 : goal.returns-in-minus1
returns-in-minus1 c = is_less _ _ c.in_ok-k.ensures (search rules) (search rules)

pub returns-in-0 : goal.returns-in-0
returns-in-0 c = is_equal _ _ c.in_ok-k.ensures (search rules) (search rules)

pub returns-in-1 : goal.returns-in-1
returns-in-1 c = is_greater _ _ c.in_ok-k.ensures (search rules) (search rules)

pub returns-in_default : goal.returns-in_default
returns-in_default c = is_none _ _ c.in_ok-k.ensures (search rules) (search rules) (search rules) (search rules)
