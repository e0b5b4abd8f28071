-- How a phase comes to its verdict, and what a count of expansions does.
use Rattle.std.specs.Prelude.{◌≡◌, ℕ, ◌+◌, ◌<◌, Some, None, Ok, Err, Option, Result}
use Rattle.engine.specs.declared.model.Halt.{Halt}
use Rattle.engine.specs.declared.model.Halt.TheVariants as halts
use Rattle.engine.specs.declared.model.Verdict.{Verdict}
use Rattle.engine.specs.declared.model.Verdict.TheVariants as verdicts

-- the length of a plan, no plan, or why the phase stopped
abbrev pub verdict_of : Result (Option ℕ) Halt → Verdict
verdict_of (Ok (Some n)) = verdicts.Plan n
verdict_of (Ok None) = verdicts.None
verdict_of (Err halts.Spent) = verdicts.Spent
verdict_of (Err halts.Full) = verdicts.Full

-- one more is counted, and then the budget had it; or the budget is used, and the count stays
abbrev pub Counts : ℕ → ℕ → Result (Unit {0}) Halt → ℕ → Type 0
Counts budget before (Ok _) after = (before < budget) × (after ≡ before + 1)
Counts budget before (Err halts.Spent) after = (before ≡ budget) × (after ≡ before)
Counts budget before (Err halts.Full) after = ⊥
