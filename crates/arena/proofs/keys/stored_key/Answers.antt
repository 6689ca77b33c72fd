use borrow.Author.Rules.{rules}
use Rattle.arena.proofs.KeyWords.{below, above, flip_cast, flip-fits, flip_is, plain_cast, plain_fits, plain-is}
use Rattle.arena.proofs.keys.stored_key.Goals as goal

pub overflow_cast-result : goal.overflow_cast-result
overflow_cast-result c = flip_cast _ (below c.args.k.0 (search rules) c.if-z-lt0.true)

pub overflow_sub-result : goal.overflow_sub-result
overflow_sub-result c = flip-fits _ (below c.args.k.0 (search rules) c.if-z-lt0.true)

pub returns-then-z-lt0 : goal.returns-then-z-lt0
returns-then-z-lt0 c = flip_is _ (below c.args.k.0 (search rules) c.if-z-lt0.true)

pub overflow_cast-result-2 : goal.overflow_cast-result-2
overflow_cast-result-2 c = plain_cast _ (above c.args.k.0 (search rules) c.if-z-lt0.false)

pub overflow_add-result : goal.overflow_add-result
overflow_add-result c = plain_fits _ (above c.args.k.0 (search rules) c.if-z-lt0.false)

pub returns : goal.returns
returns c = plain-is _ (above c.args.k.0 (search rules) c.if-z-lt0.false)
