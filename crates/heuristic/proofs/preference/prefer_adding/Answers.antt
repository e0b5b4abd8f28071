use Rattle.std.proofs.Common.{rules}
use Rattle.heuristic.specs.Useful.{useful}
use Rattle.heuristic.proofs.Preferring.{picks_all}
use Rattle.heuristic.proofs.preference.prefer_adding.Goals as goal

pub returns : goal.returns
unfolding useful
returns c = picks_all _ _ _ _ (λ k b answer. search rules) c.prefer.ensures
