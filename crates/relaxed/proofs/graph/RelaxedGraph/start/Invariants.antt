use Rattle.relaxed.specs.Nodes.{opened}
use Rattle.relaxed.specs.Parts.{Part}
use Rattle.relaxed.proofs.graph.RelaxedGraph.start.Given as goal

abbrev pub invariant-loop-f : goal.invariant-loop-f
invariant-loop-f l = Part (opened l.goal.words l.state.words) l.f l.initial.node-items l.node-items
