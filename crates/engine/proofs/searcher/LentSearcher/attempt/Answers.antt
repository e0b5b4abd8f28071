use Rattle.engine.specs.HillClimbing.{passed, full, never, worse, better}
use Rattle.engine.proofs.Gens.{handed_on}
use Rattle.engine.proofs.searcher.LentSearcher.attempt.Goals as goal

pub returns-in_err-entered-clause-change : goal.returns-in_err-entered-clause-change
returns-in_err-entered-clause-change g c t tried = rw (handed_on c.from_residual.result _ c.from_residual.ensures.1) (full tried c.in_err-entered.ensures.change)

pub returns-in_default-clause-change : goal.returns-in_default-clause-change
returns-in_default-clause-change g c t tried = passed tried (rw c.in_default.is at c.in_ok-entered.ensures.change)

pub returns-in-Steps-clause-change : goal.returns-in-Steps-clause-change
returns-in-Steps-clause-change g c t tried = better tried (rw c.in-Some.is at c.in_ok-entered.ensures.change) c.in-Steps.is c.if-steps-bound.true

pub returns-in_default-estimate-clause-change : goal.returns-in_default-estimate-clause-change
returns-in_default-estimate-clause-change g c t tried = worse tried (rw c.in-Some.is at c.in_ok-entered.ensures.change) c.in-Steps.is c.if-steps-bound.false

pub returns-in_default-estimate-2-clause-change : goal.returns-in_default-estimate-2-clause-change
returns-in_default-estimate-2-clause-change g c t tried = never tried (rw c.in-Some.is at c.in_ok-entered.ensures.change) c.in_default-estimate.is
