use Rattle.std.proofs.Common.{◌≤◌, vec_items}
use Rattle.relaxed.specs.Extract.{pass}
use Rattle.relaxed.specs.Graph.{Treats}
use Rattle.relaxed.proofs.graph.RelaxedGraph.sweep.Given as goal

abbrev pub invariant-loop-fact : goal.invariant-loop-fact
invariant-loop-fact l =
    (l.count ≤ l.fact)
    × Treats (vec_items l.task.actions) l.below (λ s m. pass (vec_items l.task.actions) s l.below l.fact m) l.initial.self.facts l.self.facts l.count
