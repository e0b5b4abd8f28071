use Rattle.std.proofs.Common.{arith}
use Rattle.weights.proofs.Sweeps.{opened_all}
use Rattle.weights.proofs.table.Weights.open.Goals as goal

pub returns : goal.returns
returns c = opened_all c.args.state.now.words c.loop-f.f c.loop-f.weight-items (omega arith) c.loop-f.invariant
