use Rattle.std.proofs.Common.{◌≡◌, vec_items}
use Rattle.relaxed.specs.Layers.{grown}
use Rattle.relaxed.specs.Nodes.{Each, joined}
use Rattle.relaxed.proofs.graph.RelaxedGraph.grow.Given as goal

abbrev pub invariant-loop-k : goal.invariant-loop-k
invariant-loop-k l =
    (l.layer.task.now ≡ l.initial.layer.task.now)
    × (l.layer.facts.words ≡ grown (vec_items l.initial.layer.task.now.actions) l.base.words l.k)
    × Each (joined (vec_items l.initial.layer.task.now.actions) l.base.words l.level l.k) l.initial.self.facts l.self.facts
