-- What the estimators say of the worked yards.
use Rattle.std.specs.Prelude.{◌≡◌, ℕ, zero, suc, ◌*◌, ◌^◌, true, false, List, [], ◌∷◌, ◌++◌, map}
use Rattle.std.specs.List.{All}
use Rattle.strips.specs.declared.action.Action.{Action}
use Rattle.strips.specs.Semantics.{State}
use Rattle.heuristic.specs.declared.estimate.Estimate.{Estimate}
use Rattle.heuristic.specs.declared.estimate.Estimate.TheVariants.{Steps, Never}
use Rattle.heuristic.specs.GoalCount.{goals_missing}
use Rattle.relaxed.specs.Plan.{helpful, relaxed_plan}
use Rattle.weights.specs.Weights.{goal_weight}

-- a set of facts below 64, as the bits of a number
abbrev pub set : ℕ → State
set w = w ∷ 0 ∷ 0 ∷ 0 ∷ []

abbrev pub action : ℕ → ℕ → ℕ → Action
action needs adds deletes = record { pre = record { words = set needs }; add = record { words = set adds }; del = record { words = set deletes } }

-- both goals need fact 0, which action 2 adds
abbrev pub three_lifts : List Action
three_lifts = action 1 2 0 ∷ action 1 4 0 ∷ action 0 1 0 ∷ []

-- facts 2 i and 2 i + 1 stand on rung i; each needs both of the rung below
abbrev pub ladder : ℕ → List Action
ladder zero = []
ladder (suc n) = ladder n ++ action (3 * 4 ^ n) (4 ^ suc n) 0 ∷ action (3 * 4 ^ n) (2 * 4 ^ suc n) 0 ∷ []

-- action 0 uses up the key that both need
abbrev pub key : List Action
key = action 1 2 1 ∷ action 1 4 0 ∷ []

-- a row: an estimator's meaning, a task, a goal, a state and the estimate
pub record Row : Type 0 where
  pub means : List Action → State → State → Estimate
  pub acts : List Action
  pub goal : State
  pub state : State
  pub expected : Estimate

abbrev pub row : (List Action → State → State → Estimate) → List Action → ℕ → ℕ → Estimate → Row
row means acts goal state expected = record { means = means; acts = acts; goal = set goal; state = set state; expected = expected }

abbrev pub rows : List Row
rows =
    row relaxed_plan three_lifts 6 0 (Steps 3)
    ∷ row goal_weight three_lifts 6 0 (Steps 4)
    ∷ row relaxed_plan (ladder 8) (4 ^ 8) 3 (Steps 15)
    ∷ row goal_weight (ladder 8) (4 ^ 8) 3 (Steps 255)
    ∷ row relaxed_plan (ladder 16) (4 ^ 16) 3 (Steps 31)
    ∷ row goal_weight (ladder 16) (4 ^ 16) 3 (Steps 65534)
    ∷ row relaxed_plan key 6 1 (Steps 2)
    ∷ row goal_weight key 6 1 (Steps 2)
    ∷ row relaxed_plan key 6 2 Never
    ∷ row goal_weight key 6 2 Never
    ∷ row relaxed_plan [] 1 0 Never
    ∷ row goal_weight [] 1 0 Never
    ∷ row goals_missing [] 1 0 (Steps 1)
    ∷ row relaxed_plan [] 0 0 (Steps 0)
    ∷ row goal_weight [] 0 0 (Steps 0)
    ∷ row goals_missing [] 0 0 (Steps 0)
    ∷ []

abbrev pub EveryRow : Type 0
EveryRow = All (λ r. r.means r.acts r.goal r.state ≡ r.expected) rows

-- of three lifts, only action 2 is helpful at the start
abbrev pub HelpfulLifts : Type 0
HelpfulLifts = map (helpful three_lifts (set 6) (set 0)) (0 ∷ 1 ∷ 2 ∷ []) ≡ false ∷ false ∷ true ∷ []
