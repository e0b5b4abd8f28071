use Rattle.std.proofs.Common.{◌≡◌}
use Rattle.heuristic.specs.Useful.{Picks}
use Rattle.relaxed.specs.Nodes.{node, wanted_first}
use Rattle.relaxed.proofs.graph.RelaxedGraph.first_wanted.Given as goal

abbrev pub invariant-loop-f : goal.invariant-loop-f
invariant-loop-f l = Picks (λ f wanted. wanted ≡ wanted_first (node l.self.facts f)) l.f l.set.words
