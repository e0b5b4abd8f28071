-- The text of a line, without its line end.
use Rattle.std.specs.Prelude.{ℕ, List, ◌++◌, codes, decimal}
use Rattle.strips.specs.Numbers.{cause_number}
use Rattle.planfile.specs.Numbers.{flaw_number, refusal_number}
use Rattle.transcript.specs.declared.line.Line.{Line}
use Rattle.transcript.specs.declared.line.Line.TheVariants.{Task, Refused, Did, Plan, Bad}

abbrev pub text : Line → List ℕ
text (Task cause record') = codes "task " ++ (decimal (cause_number cause) ++ (codes " " ++ decimal record'))
text (Refused refusal) = codes "refused " ++ decimal (refusal_number refusal)
text (Did action) = codes "did " ++ decimal action
text (Plan records) = codes "plan " ++ decimal records
text (Bad record' flaw) = codes "bad " ++ (decimal record' ++ (codes " " ++ decimal (flaw_number flaw)))
