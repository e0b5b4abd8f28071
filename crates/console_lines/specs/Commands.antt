-- Which command a line is.
use Rattle.std.specs.Prelude.{ℕ, if◌then◌else◌, List, [], ◌∷◌, Some, None, Option, ◌==◌}
use Rattle.input_lines.specs.Cuts.{before, behind}
use Rattle.input_lines.specs.Numbers.{numeral}
use Rattle.console_lines.specs.declared.command.Command.{Command}
use Rattle.console_lines.specs.declared.command.Command.TheVariants.{Plan, Step, Skip}

abbrev pub both : Option ℕ → Option ℕ → Option Command
both None f = None
both (Some h) None = None
both (Some h) (Some f) = Some (Plan h f)

-- behind `P`: a space, a number, a space, a number
abbrev pub budgets : List ℕ → Option Command
budgets [] = None
budgets (b ∷ bs) = if b == 32 then both (numeral (before 32 bs)) (numeral (behind 32 bs)) else None

-- behind `S` and `X`: nothing
abbrev pub alone : Command → List ℕ → Option Command
alone c [] = Some c
alone c (b ∷ bs) = None

-- `P`, `S` or `X` begins a command
abbrev pub command : List ℕ → Option Command
command [] = None
command (b ∷ bs) = if b == 80 then budgets bs else (if b == 83 then alone Step bs else (if b == 88 then alone Skip bs else None))
