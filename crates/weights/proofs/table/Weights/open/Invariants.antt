use Rattle.weights.proofs.Sweeps.{Opened}
use Rattle.weights.proofs.table.Weights.open.Given as goal

abbrev pub invariant-loop-f : goal.invariant-loop-f
invariant-loop-f l = Opened l.state.words l.f l.weight-items
