use Rattle.std.proofs.Common.{vec_items}
use Rattle.weights.proofs.Sweeps.{sweep_more, sweep_none}
use Rattle.weights.proofs.table.Weights.sweep.Goals as goal

pub loop-action-init : goal.loop-action-init
loop-action-init c = sweep_none (vec_items c.args.task.now.actions) c.args.self.now.table

pub loop-action-preserved : goal.loop-action-preserved
loop-action-preserved c =
    let table = rw c.actions-action-items.ensures.list at c.lower_by-fell.ensures.table in
    sweep_more (vec_items c.args.task.now.actions) c.loop-action.action-index c.args.self.now.table c.loop-action.self.table _ c.loop-action.fell _ c.loop-action.invariant table c.lower_by-fell.ensures.fell
