use Rattle.std.proofs.Common.{sym, refl, ap, ◌∙◌, arith}
use Rattle.heuristic.specs.declared.estimate.Estimate.TheVariants.{Steps}
use Rattle.engine.specs.Answers.{at_goal, hopeless, climbed, fell_back}
use Rattle.engine.proofs.Bests.{searched_from}
use Rattle.engine.proofs.planner.LentPlanner.answer.Goals as goal

pub returns-in_default-clause-may : goal.returns-in_default-clause-may
returns-in_default-clause-may g c = hopeless (sym c.in_default.ensures.steps)

pub returns-then-steps-eq0-clause-may : goal.returns-then-steps-eq0-clause-may
returns-then-steps-eq0-clause-may g c = at_goal (sym c.in-Steps.ensures.steps ∙ ap Steps c.if-steps-eq0.true)

pub returns-in-Some-clause-may : goal.returns-in-Some-clause-may
returns-in-Some-clause-may g c = climbed (sym c.in-Steps.ensures.steps) (omega arith) (rw c.within-climbed.ensures.budget at c.in-Some.ensures.climbs)

pub returns-clause-may : goal.returns-clause-may
returns-clause-may g c =
    let e = c.in_default-hill.ensures in
    let found = searched_from _ _ _ _ _ e.same _ _ _ _ _ refl c.fallback-found.ensures.answer in
    fell_back (sym c.in-Steps.ensures.steps) (omega arith) (rw c.within-climbed.ensures.budget at e.climbs) (rw (c.within-tried.ensures.budget, ← c.from.ensures) at found)
