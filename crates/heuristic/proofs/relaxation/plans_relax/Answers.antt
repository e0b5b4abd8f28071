use Rattle.heuristic.proofs.Relaxing.{plans_relax}
use Rattle.heuristic.proofs.relaxation.plans_relax.Goals as goal

pub returns : goal.returns
returns c = plans_relax
