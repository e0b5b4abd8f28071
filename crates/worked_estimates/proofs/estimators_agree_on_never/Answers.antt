use Rattle.relaxed.proofs.Reaching.{never_is_none, none_is_never}
use Rattle.weights.proofs.Lawful.{never_unreached, unreached_never}
use Rattle.worked_estimates.proofs.estimators_agree_on_never.Goals as goal

pub returns : goal.returns
returns c =
    record {
      relaxed = λ facts acts goal s q e. unreached_never facts acts goal s q (never_is_none facts acts goal s q e);
      weighed = λ facts acts goal s q e. none_is_never facts acts goal s q (never_unreached facts acts goal s q e);
    }
