-- What the weights are, and what an estimate of never says.
use Rattle.std.specs.Prelude.{◌≡◌, ℕ, ◌<◌, true, List}
use Rattle.facts.specs.Words.{has}
use Rattle.heuristic.specs.Laws.{Asked}
use Rattle.heuristic.specs.Relaxation.{IsRelaxedPlan}
use Rattle.heuristic.specs.declared.estimate.Estimate.{Estimate}
use Rattle.heuristic.specs.declared.estimate.Estimate.TheVariants.{Steps, Never}
use Rattle.strips.specs.Semantics.{State}
use Rattle.strips.specs.declared.action.Action.{Action}
use Rattle.weights.specs.Tables.{Greatest, fact_count, weight}
use Rattle.weights.specs.Weights.{goal_weight, weights}

-- the weights are the greatest table that no action can lower
abbrev pub WeightsGreatest : Type 0
WeightsGreatest = (acts : List Action) (s : State) → Greatest acts s (weights acts s)

-- and the only one, so that it does not matter in which order weights are lowered
abbrev pub GreatestAlone : Type 0
GreatestAlone = (acts : List Action) (s : State) (w : List Estimate) → Greatest acts s w → (f : ℕ) → f < fact_count → weight w f ≡ weight (weights acts s) f

-- only the facts of the state weigh 0
abbrev pub ZeroIsTrue : Type 0
ZeroIsTrue = (acts : List Action) (s : State) (f : ℕ) → f < fact_count → weight (weights acts s) f ≡ Steps 0 → has s f ≡ true

-- the estimate is never exactly when no list of actions reaches the goals with deletes ignored
abbrev pub NeverUnreached : Type 0
NeverUnreached = (facts : State) (acts : List Action) (goal s : State) → Asked facts acts goal s → goal_weight acts goal s ≡ Never → (ks : List ℕ) → IsRelaxedPlan acts s goal ks → ⊥

abbrev pub UnreachedNever : Type 0
UnreachedNever = (facts : State) (acts : List Action) (goal s : State) → Asked facts acts goal s → ((ks : List ℕ) → IsRelaxedPlan acts s goal ks → ⊥) → goal_weight acts goal s ≡ Never
