use borrow.Author.Rules.{rules}
use Rattle.arena.proofs.KeyWords.{low, high}
use Rattle.arena.proofs.keys.signed_key.Goals as goal

pub returns-then-w-lt9223372036854775808 : goal.returns-then-w-lt9223372036854775808
returns-then-w-lt9223372036854775808 c = low _ c.if-w-lt9223372036854775808.true

pub returns : goal.returns
returns c = high _ c.if-w-lt9223372036854775808.false (search rules)
