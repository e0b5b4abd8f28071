-- Goal count: the goals that are missing.
use Rattle.std.specs.Prelude.{ℕ, Bool, List}
use Rattle.facts.specs.Words.{size, without}
use Rattle.strips.specs.declared.action.Action.{Action}
use Rattle.strips.specs.Semantics.{State}
use Rattle.heuristic.specs.declared.estimate.Estimate.{Estimate}
use Rattle.heuristic.specs.declared.estimate.Estimate.TheVariants.{Steps}
use Rattle.heuristic.specs.Useful.{useful}

unfoldable pub goals_missing : List Action → State → State → Estimate
goals_missing acts goal s = Steps (size (without goal s))

-- the applicable actions that add a missing goal
unfoldable pub adds_missing : List Action → State → State → ℕ → Bool
adds_missing acts goal s = useful acts s (without goal s)
