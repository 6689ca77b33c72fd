-- The answer is the model's, and the model decides (Decided).
use Rattle.sound.specs.inner.Check.{sound_model}
use Rattle.sound.proofs.Decided.{decides}
use Rattle.std.proofs.Common.{rules}
use Rattle.sound.proofs.sound.Goals as goal

pub returns-in_default : goal.returns-in_default
unfolding sound_model
returns-in_default c = decides _ _ (search rules)

pub returns : goal.returns
unfolding sound_model
returns c = decides _ _ (search rules)
