-- The weights of a state's facts, found by lowering from never until nothing falls, and the estimate that sums those of the goals.
use Rattle.std.specs.Prelude.{ℕ, zero, suc, ◌+◌, min, Bool, true, false, if◌then◌else◌, List, [], ◌∷◌, map, length, sum_by, nat_lt}
use Rattle.std.specs.List.{range_with_len}
use Rattle.facts.specs.Words.{has}
use Rattle.heuristic.specs.Laws.{most_steps}
use Rattle.heuristic.specs.declared.estimate.Estimate.{Estimate}
use Rattle.heuristic.specs.declared.estimate.Estimate.TheVariants.{Steps, Never}
use Rattle.strips.specs.Semantics.{State}
use Rattle.strips.specs.Sound.{act}
use Rattle.strips.specs.declared.action.Action.{Action}
use Rattle.heuristic.specs.Useful.{applicable_here}
use Rattle.weights.specs.Tables.{cost, fact_count, total}

abbrev pub least : Estimate → Estimate → Estimate
least (Steps m) (Steps n) = Steps (min m n)
least (Steps m) Never = Steps m
least Never (Steps n) = Steps n
least Never Never = Never

abbrev pub least_if : Bool → Estimate → Estimate → Estimate
least_if true c e = least c e
least_if false c e = e

-- the weights from fact n on, those of the set's facts lowered to c
abbrev pub lowered_from : Estimate → State → ℕ → List Estimate → List Estimate
lowered_from c ws n [] = []
lowered_from c ws n (e ∷ w) = least_if (has ws n) c e ∷ lowered_from c ws (n + 1) w

-- the table with the weights of the set's facts lowered to c
unfoldable pub lowered : Estimate → State → List Estimate → List Estimate
lowered c ws w = lowered_from c ws 0 w

-- the first n actions lower what they add, one after the other, each to the cost that it has by then
unfoldable pub pass : (List Estimate → Action → Estimate) → List Action → ℕ → List Estimate → List Estimate
pass costs acts zero w = w
pass costs acts (suc n) w = lowered (costs (pass costs acts n w) (act acts n)) (act acts n).add.words (pass costs acts n w)

-- all actions at once: each to its cost under the table before
abbrev pub round : List Action → List Estimate → List Estimate
round acts w = pass (λ _. cost w) acts (length acts) w

-- how far a table can fall
abbrev pub rank : Estimate → ℕ
rank (Steps n) = n
rank Never = most_steps + 1

unfoldable pub height : List Estimate → ℕ
height w = sum_by rank w

-- at most n rounds, until nothing falls
unfoldable pub settled : List Action → ℕ → List Estimate → List Estimate
settled acts zero w = w
settled acts (suc n) w =
    let v : List Estimate = round acts w in
    elim (nat_lt (height v) (height w)) [ true ↦ settled acts n v | false ↦ w ]

-- before any lowering: true facts weigh 0, the others never
unfoldable pub opening : State → List Estimate
opening s = map (λ f. if has s f then Steps 0 else Never) (range_with_len 0 fact_count)

unfoldable pub weights : List Action → State → List Estimate
weights acts s = settled acts (height (opening s)) (opening s)

-- the sum of the goals' weights
abbrev pub goal_weight : List Action → State → State → Estimate
goal_weight acts goal s = total (weights acts s) goal fact_count

-- every applicable action is preferred, whatever the goals are
abbrev pub all_applicable : List Action → State → State → ℕ → Bool
all_applicable acts goal s = applicable_here acts s
