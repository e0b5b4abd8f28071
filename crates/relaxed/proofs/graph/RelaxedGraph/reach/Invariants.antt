use Rattle.std.proofs.Common.{◌≡◌, ◌≤◌}
use Rattle.relaxed.specs.Nodes.{brought}
use Rattle.relaxed.specs.Parts.{Part}
use Rattle.relaxed.proofs.graph.RelaxedGraph.reach.Given as goal

abbrev pub invariant-loop-fact : goal.invariant-loop-fact
invariant-loop-fact l =
    Part (brought l.adds.words l.level l.by) l.fact-iterator.from l.initial.self.facts l.self.facts
    × (l.fact-iterator.from ≤ 256)
    × (l.fact-iterator.set.now ≡ l.adds)
