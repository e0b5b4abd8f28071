use Rattle.std.proofs.Common.{◌≡◌, ℕ, ◌<◌, false, vec_items}
use Rattle.facts.specs.Words.{subset}
use Rattle.relaxed.specs.Layers.{layer}
use Rattle.relaxed.specs.Graph.{Graph, Fresh}
use Rattle.relaxed.proofs.graph.RelaxedGraph.build.Given as goal

abbrev pub invariant-loop-i : goal.invariant-loop-i
invariant-loop-i l =
    (l.layer.task.now ≡ l.task)
    × (l.layer.facts.words ≡ layer (vec_items l.task.actions) l.state.words l.i)
    × ((j : ℕ) → j < l.i → subset l.goal.words (layer (vec_items l.task.actions) l.state.words j) ≡ false)
    × Graph (vec_items l.task.actions) l.state.words l.i l.self.facts
    × Fresh l.goal.words l.self.facts
