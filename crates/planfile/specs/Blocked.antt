-- Why an action cannot be carried out.
use Rattle.std.specs.Prelude.{◌≡◌, ℕ, ◌<◌, ◌≤◌, false, List, length}
use Rattle.strips.specs.declared.action.Action.{Action}
use Rattle.strips.specs.Semantics.{State, applicable}
use Rattle.strips.specs.Sound.{act}
use Rattle.planfile.specs.declared.answer.Flaw.{Flaw}
use Rattle.planfile.specs.declared.answer.Flaw.TheVariants.{NoSuchAction, PreconditionFalse, StateDiffers, GoalsFalse}

-- action k cannot be carried out in t: there is none, or its preconditions are not all true
abbrev pub Blocked : List Action → State → ℕ → Flaw → Type 0
Blocked acts t k NoSuchAction = length acts ≤ k
Blocked acts t k PreconditionFalse = (k < length acts) × (applicable (act acts k) t ≡ false)
Blocked acts t k StateDiffers = ⊥
Blocked acts t k GoalsFalse = ⊥
