use Rattle.weights.specs.Greatest.{weights_greatest}
use Rattle.weights.specs.Lawful.{zero_is_true}
use Rattle.weights.proofs.laws.weights_are_lawful.Goals as goal
use Rattle.weights.proofs.Lawful.{greatest_alone, never_unreached, unreached_never}

pub returns : goal.returns
returns c = record { greatest = weights_greatest; alone = greatest_alone; zero_is_true = zero_is_true; never_unreached = never_unreached; unreached_never = unreached_never }
