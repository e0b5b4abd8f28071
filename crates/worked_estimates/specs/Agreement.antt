-- The two estimators that ignore deletes agree on where no plan exists.
use Rattle.std.specs.Prelude.{◌≡◌, List}
use Rattle.strips.specs.declared.action.Action.{Action}
use Rattle.strips.specs.Semantics.{State}
use Rattle.heuristic.specs.declared.estimate.Estimate.TheVariants.{Never}
use Rattle.heuristic.specs.Laws.{Asked}
use Rattle.relaxed.specs.Plan.{relaxed_plan}
use Rattle.weights.specs.Weights.{goal_weight}

abbrev pub RelaxedIsWeighed : Type 0
RelaxedIsWeighed = (facts : State) (acts : List Action) (goal s : State) → Asked facts acts goal s → relaxed_plan acts goal s ≡ Never → goal_weight acts goal s ≡ Never

abbrev pub WeighedIsRelaxed : Type 0
WeighedIsRelaxed = (facts : State) (acts : List Action) (goal s : State) → Asked facts acts goal s → goal_weight acts goal s ≡ Never → relaxed_plan acts goal s ≡ Never
