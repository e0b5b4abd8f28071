-- How commands are written.
use Rattle.std.specs.Prelude.{◌≡◌, ℕ, List, ◌++◌, Some, codes}
use Rattle.input_lines.specs.Numbers.{numeral}
use Rattle.console_lines.specs.declared.command.Command.{Command}
use Rattle.console_lines.specs.declared.command.Command.TheVariants.{Plan, Step, Skip}

pub data Written : List ℕ → Command → Type 0 where
  plan : (hs fs : List ℕ) {h f : ℕ} → numeral hs ≡ Some h → numeral fs ≡ Some f → Written (codes "P " ++ (hs ++ (codes " " ++ fs))) (Plan h f)
  step : Written (codes "S") Step
  skip : Written (codes "X") Skip
