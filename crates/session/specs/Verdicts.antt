-- Where a session stands after a verdict, and how many actions remain.
use Rattle.std.specs.Prelude.{ℕ}
use Rattle.engine.specs.declared.model.Verdict.{Verdict}
use Rattle.engine.specs.declared.model.Verdict.TheVariants as verdicts
use Rattle.session.specs.declared.model.Phase.{Phase}
use Rattle.session.specs.declared.model.Phase.TheVariants as phase

abbrev pub phase_for : Verdict → Phase
phase_for (verdicts.Plan n) = phase.Ready
phase_for verdicts.None = phase.Unsolvable
phase_for verdicts.Spent = phase.Spent
phase_for verdicts.Full = phase.Full

abbrev pub length_for : Verdict → ℕ
length_for (verdicts.Plan n) = n
length_for verdicts.None = 0
length_for verdicts.Spent = 0
length_for verdicts.Full = 0
