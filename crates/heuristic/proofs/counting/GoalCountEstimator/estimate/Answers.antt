use Rattle.std.proofs.Common.{ℕ, List, vec_items, ap, ◌∙◌}
use Rattle.heuristic.specs.declared.estimate.Estimate.TheVariants.{Steps}
use Rattle.heuristic.specs.GoalCount.{goals_missing, adds_missing}
use Rattle.heuristic.specs.Useful.{useful}
use Rattle.heuristic.proofs.counting.GoalCountEstimator.estimate.Goals as goal

pub returns : goal.returns
unfolding goals_missing adds_missing
returns c =
    record {
      steps = ap Steps c.missing.ensures;
      actions =
          λ k.
          c.prefer_adding.ensures k
          ∙ ap (λ (w : List ℕ). useful (vec_items c.args.task.now.actions) c.args.state.now.words w k) c.difference.ensures.words;
    }
