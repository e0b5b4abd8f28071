use Rattle.std.proofs.Common.{◌≡◌, ◌≤◌, ltb}
use Rattle.weights.specs.Tables.{fact_count}
use Rattle.weights.specs.Weights.{height}
use Rattle.weights.proofs.Walks.{Partly}
use Rattle.weights.proofs.table.Weights.lower_all.Given as goal

abbrev pub invariant-loop-fact : goal.invariant-loop-fact
invariant-loop-fact l =
    Partly l.cost l.set.words l.fact-iterator.from l.initial.self.table l.self.table
    × ((l.fell ≡ ltb (height l.self.table) (height l.initial.self.table)) × (height l.self.table ≤ height l.initial.self.table))
    × (l.fact-iterator.from ≤ fact_count)
    × (l.fact-iterator.set.now ≡ l.set)
