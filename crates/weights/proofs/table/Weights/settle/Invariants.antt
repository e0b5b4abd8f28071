use Rattle.std.proofs.Common.{vec_items}
use Rattle.weights.specs.Weights.{height}
use Rattle.weights.specs.Greatest.{Between}
use Rattle.weights.proofs.table.Weights.settle.Given as goal

abbrev pub invariant-settle : goal.invariant-settle
invariant-settle l = Between (vec_items l.task.actions) l.state.words l.self.table

abbrev pub decreases-settle : goal.decreases-settle
decreases-settle l = height l.self.table
