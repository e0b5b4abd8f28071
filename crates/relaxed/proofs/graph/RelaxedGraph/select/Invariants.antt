use Rattle.std.proofs.Common.{◌≡◌, ℕ, ◌≤◌, ◌||◌}
use Rattle.facts.specs.Words.{has}
use Rattle.relaxed.specs.Nodes.{selected}
use Rattle.relaxed.specs.Parts.{Part}
use Rattle.relaxed.proofs.graph.RelaxedGraph.select.Given as goal

abbrev pub invariant-loop-fact : goal.invariant-loop-fact
invariant-loop-fact l =
    Part (selected l.action l.below) l.fact-iterator.from l.initial.self.facts l.self.facts
    × (l.fact-iterator.from ≤ 256)
    × ((f : ℕ) → has l.fact-iterator.set.now.words f ≡ (has l.action.pre.words f || has l.action.add.words f))
