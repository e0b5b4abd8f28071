-- What the estimate says of the task with deletes ignored.
use Rattle.std.specs.Prelude.{◌≡◌, ℕ, ◌≤◌, List}
use Rattle.strips.specs.declared.action.Action.{Action}
use Rattle.strips.specs.Semantics.{State}
use Rattle.heuristic.specs.declared.estimate.Estimate.TheVariants.{Steps, Never}
use Rattle.heuristic.specs.Laws.{Asked}
use Rattle.heuristic.specs.Relaxation.{IsRelaxedPlan}
use Rattle.relaxed.specs.Plan.{relaxed_plan}

-- never is said where no list of actions reaches the goals with deletes ignored, and only there
abbrev pub NeverIsNone : Type 0
NeverIsNone = (facts : State) (acts : List Action) (goal s : State) → Asked facts acts goal s → relaxed_plan acts goal s ≡ Never → (ks : List ℕ) → IsRelaxedPlan acts s goal ks → ⊥

abbrev pub NoneIsNever : Type 0
NoneIsNever = (facts : State) (acts : List Action) (goal s : State) → Asked facts acts goal s → ((ks : List ℕ) → IsRelaxedPlan acts s goal ks → ⊥) → relaxed_plan acts goal s ≡ Never

-- the estimate is at most the number of facts
abbrev pub AtMostFacts : Type 0
AtMostFacts = (acts : List Action) (goal s : State) (n : ℕ) → relaxed_plan acts goal s ≡ Steps n → n ≤ 256
