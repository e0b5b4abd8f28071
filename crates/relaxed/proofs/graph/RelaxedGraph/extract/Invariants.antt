use Rattle.std.proofs.Common.{◌+◌, ◌*◌, ◌-◌, ◌≤◌, vec_items}
use Rattle.relaxed.specs.Graph.{Descends}
use Rattle.relaxed.proofs.graph.RelaxedGraph.extract.Given as goal

abbrev pub invariant-loop-below : goal.invariant-loop-below
invariant-loop-below l =
    (l.total + 256 * l.below ≤ 256 * l.top)
    × Descends (vec_items l.task.actions) l.top (l.top - l.below) l.initial.self.facts l.self.facts l.total
