use Rattle.std.proofs.Common.{refl}
use Rattle.facts.specs.Digest.{stirred}
use Rattle.facts.proofs.words.stir.Goals as goal

pub returns : goal.returns
unfolding stirred
returns c = refl
