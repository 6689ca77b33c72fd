use Rattle.std.proofs.Common.{◌∙◌, ap, eqb, not, ◌+◌, drop, rules, tests}
use Rattle.std.proofs.lemmas.Iterator.{YieldsList-from_slice}
use Rattle.std.proofs.lemmas.Iterator.Consumers.{count_from_yields_List}
use Rattle.std.proofs.lemmas.Iterator.Search.{YieldsList-from_take_while}
use Rattle.input.specs.inner.Fields.{passed}
use Rattle.input.proofs.Cutting.{others_are}
use Rattle.input.proofs.fields.find_space.Goals as goal

pub returns : goal.returns
unfolding passed
returns c =
    let s = c.args.s.now in
    let n = c.args.from in
    ap (λ m. n + m) (count_from_yields_List c.take_while.result _ c.count.ensures.ran (YieldsList-from_take_while _ (λ b. not (eqb b 32)) (rw (← c.take_while.ensures.source) at (YieldsList-from_slice {s = c.iter.result} (drop n s) (c.iter.ensures.rest ∙ c.rest.ensures))) c.take_while.ensures.closure c.take_while.ensures.done (λ x b q k. search (rules, tests))) ∙ others_are (drop n s))
