use Rattle.std.proofs.Common.{rules}
use Rattle.heuristic.specs.Useful.{applicable_here}
use Rattle.heuristic.proofs.Preferring.{picks_all}
use Rattle.heuristic.proofs.preference.prefer_applicable.Goals as goal

pub returns : goal.returns
unfolding applicable_here
returns c = picks_all _ _ _ _ (λ k b answer. search rules) c.prefer.ensures
