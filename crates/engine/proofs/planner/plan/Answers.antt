use Rattle.engine.proofs.Right.{answers_none, answers_plans, asks}
use Rattle.engine.proofs.Decided.{answers_counted, answers_decided}
use Rattle.engine.proofs.planner.plan.Goals as goal

pub returns-clause-plans : goal.returns-clause-plans
returns-clause-plans g c =
    let ok = c.in_ok-check.ensures.within in
    rw c.deliver.ensures.answer (answers_plans _ _ g.met.E.Estimator.kept _ _ _ _ _ _ _ _ _ _ (asks c.args.task.now _ _ ok.0 ok.1) c.answer-verdict.ensures.may)

pub returns-clause-excludes : goal.returns-clause-excludes
returns-clause-excludes g c =
    let ok = c.in_ok-check.ensures.within in
    rw c.deliver.ensures.answer (answers_none _ _ g.met.E.Estimator.kept _ _ _ _ _ _ _ _ _ _ (asks c.args.task.now _ _ ok.0 ok.1) c.answer-verdict.ensures.may)

pub returns-clause-decided : goal.returns-clause-decided
returns-clause-decided g c n most fits within = rw c.deliver.ensures.answer (answers_decided _ _ _ _ _ _ _ n c.answer-verdict.ensures.may most fits within)

pub returns-clause-counts : goal.returns-clause-counts
returns-clause-counts g c = answers_counted _ _ _ _ _ _ _ c.answer-verdict.ensures.may
