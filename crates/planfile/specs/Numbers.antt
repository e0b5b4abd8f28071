-- The numbers under which refusals and flaws are reported.
use Rattle.std.specs.Prelude.{ℕ}
use Rattle.planfile.specs.declared.answer.Flaw.{Flaw}
use Rattle.planfile.specs.declared.answer.Flaw.TheVariants.{NoSuchAction, PreconditionFalse, StateDiffers, GoalsFalse}
use Rattle.planfile.specs.declared.answer.Refusal.{Refusal}
use Rattle.planfile.specs.declared.answer.Refusal.TheVariants.{OutsideFacts, FileSize, BufferTooShort}

abbrev pub refusal_number : Refusal → ℕ
refusal_number OutsideFacts = 6
refusal_number FileSize = 10
refusal_number BufferTooShort = 11

abbrev pub flaw_number : Flaw → ℕ
flaw_number NoSuchAction = 1
flaw_number PreconditionFalse = 2
flaw_number StateDiffers = 3
flaw_number GoalsFalse = 4
