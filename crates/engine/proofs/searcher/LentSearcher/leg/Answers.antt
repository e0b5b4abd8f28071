use Rattle.std.proofs.Common.{refl}
use Rattle.engine.specs.HillClimbing.{once, again}
use Rattle.engine.proofs.Gens.{handed_on}
use Rattle.engine.proofs.Hills.{ended_at}
use Rattle.engine.proofs.searcher.LentSearcher.leg.Goals as goal

pub returns-in_err-better-clause-leg : goal.returns-in_err-better-clause-leg
returns-in_err-better-clause-leg g c = rw (handed_on c.from_residual.result _ c.from_residual.ensures.1) (once c.in_err-better.ensures.ended tt)

pub returns-in-Some-clause-leg : goal.returns-in-Some-clause-leg
returns-in-Some-clause-leg g c = once (rw c.in-Some.is at c.in_ok-better.ensures.ended) tt

pub returns-clause-leg : goal.returns-clause-leg
returns-clause-leg g c =
    let e = c.in_ok-better.ensures in
    again (rw c.in_default.is at e.ended) (ended_at _ _ _ _ _ e.same _ _ refl _ _ e.budget c.stretch-2.ensures.ended)
