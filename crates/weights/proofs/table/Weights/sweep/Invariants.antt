use Rattle.std.proofs.Common.{◌≡◌, ltb, vec_items}
use Rattle.weights.specs.Tables.{cost}
use Rattle.weights.specs.Weights.{height, pass}
use Rattle.weights.proofs.table.Weights.sweep.Given as goal

abbrev pub invariant-loop-action : goal.invariant-loop-action
invariant-loop-action l =
    (l.self.table ≡ pass cost (vec_items l.task.actions) l.action-index l.initial.self.table)
    × (l.fell ≡ ltb (height l.self.table) (height l.initial.self.table))
