use Rattle.std.proofs.Common.{vec_items}
use Rattle.weights.proofs.Sweeps.{settle_end, settle_more, settle_start}
use Rattle.weights.proofs.table.Weights.settle.Goals as goal

pub settle-init : goal.settle-init
settle-init c = settle_start (vec_items c.args.task.now.actions) c.args.state.now.words _ c.open.ensures

pub settle-preserved : goal.settle-preserved
settle-preserved c = settle_more (vec_items c.args.task.now.actions) c.args.state.now.words _ _ c.sweep.ensures.table c.settle.invariant

pub returns : goal.returns
returns c = settle_end (vec_items c.args.task.now.actions) c.args.state.now.words c.settle.self.table _ c.settle-test.ensures.table c.settle-test.ensures.fell c.settle.invariant
