use Rattle.std.proofs.Common.{vec_items, ◌∙◌, arith}
use Rattle.relaxed.specs.Amounts.{few_actions}
use Rattle.relaxed.proofs.Answering.{Sized, plan_never, helpful_never, helpful_all}
use Rattle.relaxed.specs.Lawful.{plan_steps}
use Rattle.relaxed.proofs.answer.RelaxedGraphEstimator.estimate.Goals as goal

pub overflow_cast-result : goal.overflow_cast-result
overflow_cast-result c =
    let found = c.in-Some.ensures in
    let count = c.extract-count.ensures.count c.args.state.now.words c.args.goal.now.words found.2 found.3 in
    let few = few_actions (vec_items c.args.task.now.actions) c.args.state.now.words c.args.goal.now.words c.in-Some.top in
    omega arith

pub returns-in-Some : goal.returns-in-Some
returns-in-Some c =
    let found = c.in-Some.ensures in
    let task = c.args.task.now in
    let sized : Sized task.facts.words (vec_items task.actions) = record { few = omega (arith, task.wide); small = task.small; within = task.actions_within } in
    record {
      steps = plan_steps _ _ _ c.in-Some.top _ found.0 found.1 (c.extract-count.ensures.count c.args.state.now.words c.args.goal.now.words found.2 found.3);
      actions =
          λ k. helpful_all _ _ _ _ c.in-Some.top k _ _ _ _ _ sized found.0 found.1 found.2 found.3 c.extract-count.ensures c.first_wanted.ensures (c.prefer_adding.ensures k);
    }

pub returns-in-None : goal.returns-in-None
returns-in-None c =
    let none = c.in-None.ensures in
    let never = plan_never _ _ _ none in
    record { steps = cc; actions = λ k. c.empty.ensures.members k ∙ helpful_never _ _ _ k none }
