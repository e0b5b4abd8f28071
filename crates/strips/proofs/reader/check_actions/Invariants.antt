use Rattle.std.proofs.Common.{◌≡◌, None}
use Rattle.strips.specs.Records.{records_fault}
use Rattle.strips.proofs.reader.check_actions.Given as goal

abbrev pub invariant-loop-k : goal.invariant-loop-k
invariant-loop-k l = records_fault l.records l.facts.words l.k ≡ None
