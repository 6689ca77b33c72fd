use Rattle.std.proofs.Common.{◌≡◌, drop}
use Rattle.input.specs.inner.Numbers.{read_on, unsigned_of}
use Rattle.input.proofs.numbers.unsigned.Given as goal

abbrev pub invariant-loop-b : goal.invariant-loop-b
invariant-loop-b l = read_on (drop l.b-index l.s) l.v ≡ unsigned_of l.s
